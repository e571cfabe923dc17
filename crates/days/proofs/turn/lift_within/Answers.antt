use Rattle.std.proofs.Common.{◌≡◌, ◌-◌, min, [], length, take, ◌∙◌, ap, arith, length-take}
use Rattle.waiting_line.specs.Lines.{room_of}
use Rattle.locked_stock.specs.Receipts.{entries_fault}
use Rattle.days.proofs.Carrying.{more_receipts}
use Rattle.days.proofs.Meeting.{capped_entries}
use Rattle.days.proofs.turn.lift_within.Goals as goal

pub returns : goal.returns
returns g c =
    let a = c.args in
    let stock = room_of a.stock.now.slots.now in
    let entries : length (take (c.min.result - 0) a.told.now) ≡ min a.receipts 256 = omega (arith, length-take (c.min.result - 0) a.told.now, c.min.ensures) in
    let fault = ap (λ n. entries_fault n stock) entries ∙ capped_entries a.receipts stock (omega arith) in
    more_receipts _ (c.lift_over.ensures a.receipts [] fault)
