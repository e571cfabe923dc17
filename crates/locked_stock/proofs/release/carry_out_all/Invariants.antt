use Rattle.std.proofs.Common.{◌≡◌, length}
use Rattle.locked_stock.specs.Holding.{held_in}
use Rattle.locked_stock.proofs.Turns.{Releasing}
use Rattle.locked_stock.proofs.release.carry_out_all.Given as goal

abbrev pub invariant-loop-instruction : goal.invariant-loop-instruction
invariant-loop-instruction g l =
    Releasing (g.S.Store.room l.initial.store) (held_in l.initial.stock) (g.S.Book.orders l.initial.store) l.initial.receipts l.count (held_in l.stock) (g.S.Book.orders l.store) l.receipts
    × (g.S.Store.room l.store ≡ g.S.Store.room l.initial.store)
    × (l.stock.slots.now ≡ l.initial.stock.slots.now)
    × (l.stock.slots.ghost_name ≡ l.initial.stock.slots.ghost_name)

abbrev pub decreases-loop-instruction : goal.decreases-loop-instruction
decreases-loop-instruction g l = length (held_in l.stock)
