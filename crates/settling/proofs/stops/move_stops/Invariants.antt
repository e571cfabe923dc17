use Rattle.std.proofs.Common.{◌≡◌, take, fold}
use Rattle.settling.specs.Steps.{stop_moved}
use Rattle.settling.proofs.stops.move_stops.Given as goal

abbrev pub invariant-loop-number : goal.invariant-loop-number
invariant-loop-number g l = (g.S.Book.orders l.store ≡ fold (stop_moved l.quote) (g.S.Book.orders l.initial.store) (take l.number-index l.numbers)) × (g.S.Store.room l.store ≡ g.S.Store.room l.initial.store)
