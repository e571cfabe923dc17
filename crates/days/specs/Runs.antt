-- What running the calls of a day gives.
use Rattle.std.specs.Prelude.{◌≡◌, ℕ, ◌<◌, ◌≤◌, false, List, ◌++◌, length, take}
use Rattle.orders.specs.Ticks.{Grid}
use Rattle.orders.specs.declared.instruction.Instruction.{Instruction}
use Rattle.orders.specs.declared.order.Order.{Order}
use Rattle.waiting_line.specs.declared.line.WaitingLine.{WaitingLine}
use Rattle.days.specs.Days.{State, record_of, end_of}
use Rattle.days.specs.Journals.{told_by, has_room}
use Rattle.days.specs.Phases.{rules_of}
use Rattle.days.specs.Steps.{StockKept}
use Rattle.days.specs.declared.call.Call.{Call}
use Rattle.days.specs.declared.journal.Journal.{Journal}

-- the first n calls were carried out by the rules from the state s and noted, and all of them unless the journal is full
pub record DayRun (g : Grid) (room : ℕ) (l : WaitingLine (Instruction Order)) (s : State) (calls : List Call) (n : ℕ) (before after : Journal) (room_after : ℕ) (l_after : WaitingLine (Instruction Order)) (t : State) : Type 0 where
  pub told : told_by after ≡ told_by before ++ record_of (rules_of g room l) s (take n calls)
  pub ended : t ≡ end_of (rules_of g room l) s (take n calls)
  pub carried : n < length calls → has_room after ≡ false
  pub within : n ≤ length calls
  pub kept : StockKept l l_after
  pub same : room_after ≡ room
