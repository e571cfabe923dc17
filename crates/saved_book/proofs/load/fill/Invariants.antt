use Rattle.std.proofs.Common.{◌≡◌, ◌++◌}
use Rattle.saved_book.proofs.load.fill.Given as goal

abbrev pub invariant-loop-order : goal.invariant-loop-order
invariant-loop-order g l =
    (g.S.Book.orders l.store ++ l.order-iterator ≡ g.B.Book.orders l.book)
    × (g.S.Store.room l.store ≡ g.S.Store.room l.initial.store)
