use Rattle.std.proofs.Common.{◌≡◌, ◌+◌}
use Rattle.book.specs.Figures.{open_shares}
use Rattle.book.proofs.open.open_shares.Given as goal

abbrev pub invariant-loop-order : goal.invariant-loop-order
invariant-loop-order g l = l.shares + open_shares l.order-iterator ≡ open_shares (g.B.Book.orders l.book)
