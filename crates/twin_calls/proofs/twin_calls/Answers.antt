use Rattle.std.proofs.Common.{vec_items, sym, ap, ◌∙◌}
use Rattle.days.specs.Delayed.{outside}
use Rattle.twin_calls.specs.Steps.{twin_from}
use Rattle.twin_calls.proofs.Retelling.{retold_more, retold_all, notes_retold}
use Rattle.twin_calls.proofs.twin_calls.Goals as goal

pub loop-note-preserved : goal.loop-note-preserved
loop-note-preserved c = retold_more c.notes-note-items.result.now c.loop-note.note-index _ _ _ _ _ _ c.loop-note-test.true c.loop-note.invariant c.in_ok-place.ensures

pub returns : goal.returns
returns c =
    let j = c.args.journal.now in
    retold_all c.notes-note-items.result.now c.loop-note.note-index _ _ _ c.loop-note-test.false c.loop-note.invariant
    ∙ ap (twin_from outside) c.notes-note-items.ensures
    ∙ sym (notes_retold outside (vec_items j.notes) (vec_items j.triggered) (vec_items j.fills) (vec_items j.receipts) (j.receipts_told ∙ j.receipts.ok.0))
