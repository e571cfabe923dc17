use Rattle.std.proofs.Common.{◌≡◌, ◌++◌}
use Rattle.settling.specs.Steps.{stop_numbers}
use Rattle.settling.proofs.stops.note_stops.Given as goal

abbrev pub invariant-loop-order : goal.invariant-loop-order
invariant-loop-order g l = l.numbers.items ++ stop_numbers l.quote l.order-iterator ≡ stop_numbers l.quote (g.B.Book.orders l.book)
