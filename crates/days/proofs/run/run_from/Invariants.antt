use Rattle.std.proofs.Common.{◌≡◌}
use Rattle.days.specs.Journals.{told_by}
use Rattle.days.specs.Phases.{grid_in, state_of, rules_of}
use Rattle.days.specs.Steps.{StockKept}
use Rattle.days.proofs.Siding.{Running}
use Rattle.days.proofs.run.run_from.Given as goal

abbrev pub invariant-loop-carried : goal.invariant-loop-carried
invariant-loop-carried g l =
    Running (rules_of (grid_in l.initial.phase) (g.S.Store.room l.initial.store) l.initial.stock) (state_of l.initial.phase (g.S.Book.orders l.initial.store) l.initial.stock) l.calls l.carried
    (told_by l.initial.journal) (told_by l.journal) (state_of l.phase (g.S.Book.orders l.store) l.stock)
    × (grid_in l.phase ≡ grid_in l.initial.phase)
    × StockKept l.initial.stock l.stock
    × (g.S.Store.room l.store ≡ g.S.Store.room l.initial.store)
