use Rattle.std.proofs.Common.{rules, ◌∙◌, append_assoc}
use Rattle.std.proofs.lemmas.Iterator.{YieldsList-from_slice, YieldsList-from_take, YieldsList-from_map}
use Rattle.std.proofs.lemmas.Iterator.Adapters.{items_from_extend}
use Rattle.std.proofs.lemmas.Result.{IfOk-at_ok}
use Rattle.days.specs.declared.call.Call.TheVariants.{Send}
use Rattle.twin_calls.proofs.end.Goals as goal

pub returns : goal.returns
returns c =
    let more = items_from_extend c.extend.result c.extend.ensures.ran (YieldsList-from_map _ Send (YieldsList-from_take c.args.receipts (YieldsList-from_slice c.args.held.now cc) cc) c.map.ensures.closure (λ x r q k. search rules)) in
    let items = IfOk-at_ok _ c.in_ok-extend.was more in
    items.0 ∙ (rw (c.in_ok-push.ensures.items, append_assoc))
