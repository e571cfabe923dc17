use Rattle.std.proofs.Common.{◌≡◌, ◌+◌, ◌*◌, ◌≤◌, length}
use Rattle.std.specs.List.{flat_map, AllByRecursion}
use Rattle.saved_book.specs.Steps.{laid, FitsItsBytes}
use Rattle.saved_book.proofs.save.put_each.Given as goal

abbrev pub invariant-loop-place : goal.invariant-loop-place
invariant-loop-place g l =
    (l.at + g.row.N * l.place-iterator.count + g.row.N * length l.place-iterator.iter ≤ length l.out)
    × (laid (l.at + g.row.N * l.place-iterator.count) (flat_map g.P.Part.part l.place-iterator.iter) l.out ≡ laid l.at (flat_map g.P.Part.part (g.B.Book.orders l.book)) l.initial.out)
    × (AllByRecursion FitsItsBytes l.place-iterator.iter → AllByRecursion FitsItsBytes (g.B.Book.orders l.book))
