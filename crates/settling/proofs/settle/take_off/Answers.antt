use Rattle.std.proofs.Common.{refl, ◌∙◌}
use Rattle.settling.proofs.Filling.{off_none, off_all, off_some}
use Rattle.settling.proofs.settle.take_off.Goals as goal

pub returns-in_default : goal.returns-in_default
returns-in_default g c = record { after = off_none _ _ _ (g.met.S.Store.sound c.args.store.now) c.in_default.ensures; same = refl }

pub returns-then-rest-eq0 : goal.returns-then-rest-eq0
returns-then-rest-eq0 g c =
    let off = off_all _ _ _ (g.met.S.Store.sound c.args.store.now) _ _ c.in-Some.ensures c.rest_of-rest.ensures c.if-rest-eq0.true in
    record { after = c.take_out.ensures.after ∙ off; same = c.take_out.ensures.kept.same }

pub returns-else-rest-eq0 : goal.returns-else-rest-eq0
returns-else-rest-eq0 g c =
    let off = off_some _ _ _ (g.met.S.Store.sound c.args.store.now) _ _ c.in-Some.ensures c.rest_of-rest.ensures c.if-rest-eq0.false in
    record { after = c.lower.ensures.after ∙ off; same = c.lower.ensures.kept.same }
