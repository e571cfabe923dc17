use Rattle.std.proofs.Common.{[], ◌∷◌, ◌++◌, ap, ◌∙◌, arith}
use Rattle.days.specs.Journals.{told_by}
use Rattle.days.specs.Steps.{stops_for}
use Rattle.days.specs.declared.note.Note.{Note}
use Rattle.days.proofs.Carrying.{bare_entry, passed}
use Rattle.days.proofs.turn.turn_in_pre_call.Goals as goal

pub note-requires-clause-enough : goal.note-requires-clause-enough
note-requires-clause-enough g c =
    let b = c.carry_out_in_pre_call-phase.ensures.bare in
    record { stops = omega (arith, b.stops); fills = omega (arith, b.fills); receipts = omega (arith, b.receipts); few_stops = omega arith; few_fills = omega arith; few_receipts = omega arith }

pub returns : goal.returns
returns g c =
    let p = c.carry_out_in_pre_call-phase in
    let note : Note = record { call = c.args.call; answer = p.result.1 } in
    let ts = stops_for c.args.call (g.S.Book.orders c.args.store.now) in
    λ l. passed (p.ensures.carried l [] []) (c.note.ensures ∙ ap (λ e. told_by c.args.journal.now ++ e ∷ []) (bare_entry note ts p.ensures.bare))
