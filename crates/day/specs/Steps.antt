-- What the steps of the code give.
use Rattle.std.specs.Prelude.{◌≡◌, ℕ, List, Some, Result}
use Rattle.orders.specs.Ticks.{Grid}
use Rattle.orders.specs.declared.terms.Terms.{Terms}
use Rattle.day_lines.specs.declared.fault.DayFault.{DayFault}
use Rattle.day_lines.specs.declared.line.Line.{Line}
use Rattle.day.specs.Days.{carried_by}
use Rattle.day.specs.declared.answer.Answer.{Answer}

-- a line in pre-call: its answer, and the store after it
pub record Carried (g : Grid) (room : ℕ) (line : Result Line DayFault) (before : List Terms) (answer : Answer) (room_after : ℕ) (after : List Terms) : Type 0 where
  pub value : Some answer ≡ (carried_by g room line before).answer
  pub book : after ≡ (carried_by g room line before).book
  pub same : room_after ≡ room
