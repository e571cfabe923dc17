use Rattle.std.proofs.Common.{◌≡◌, take}
use Rattle.settling.specs.Fills.{after_fills}
use Rattle.settling.proofs.settle.settle.Given as goal

abbrev pub invariant-loop-fill : goal.invariant-loop-fill
invariant-loop-fill g l = (g.S.Book.orders l.store ≡ after_fills (take l.fill-index l.fills) (g.S.Book.orders l.initial.store)) × (g.S.Store.room l.store ≡ g.S.Store.room l.initial.store)
