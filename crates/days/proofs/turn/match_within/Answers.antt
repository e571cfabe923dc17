use Rattle.std.proofs.Common.{◌≡◌, ◌-◌, min, length, take, ◌∙◌, arith, length-take}
use Rattle.waiting_line.specs.Lines.{room_of}
use Rattle.engine.specs.Freezes.{match_fault}
use Rattle.engine.specs.Matches.{grid_frozen}
use Rattle.days.proofs.Carrying.{more_fills, more_receipts}
use Rattle.days.proofs.Meeting.{capped_fault}
use Rattle.days.proofs.turn.match_within.Goals as goal

pub returns : goal.returns
returns g c =
    let a = c.args in
    let ts = g.S.Book.orders a.store.now in
    let stock = room_of a.stock.now.slots.now in
    let fills : length (take (c.min.result - 0) a.filled.now) ≡ min a.fills 256 = omega (arith, length-take (c.min.result - 0) a.filled.now, c.min.ensures) in
    let receipts : length (take (c.min-2.result - 0) a.told.now) ≡ min a.receipts 256 = omega (arith, length-take (c.min-2.result - 0) a.told.now, c.min-2.ensures) in
    let fault = (λ i. match_fault (grid_frozen a.frozen) stock a.quote (fills i) (receipts i) ts) ∙ capped_fault (grid_frozen a.frozen) stock a.quote a.fills a.receipts ts (omega arith) (g.met.S.Store.sound a.store.now).few in
    more_fills _ (more_receipts _ (c.match_over.ensures a.fills a.receipts fault))
