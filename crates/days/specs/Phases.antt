-- The state of a day by the values of the code.
use Rattle.std.specs.Prelude.{ℕ, List}
use Rattle.orders.specs.Ticks.{Grid}
use Rattle.orders.specs.declared.instruction.Instruction.{Instruction}
use Rattle.orders.specs.declared.order.Order.{Order}
use Rattle.orders.specs.declared.terms.Terms.{Terms}
use Rattle.waiting_line.specs.Lines.{room_of}
use Rattle.waiting_line.specs.declared.line.WaitingLine.{WaitingLine}
use Rattle.locked_stock.specs.Holding.{held_in}
use Rattle.engine.specs.Matches.{grid_frozen}
use Rattle.engine.specs.PreCalls.{grid_under}
use Rattle.days.specs.Days.{Rules, State, in_pre_call, in_freeze}
use Rattle.days.specs.declared.phase.Phase.{Phase}
use Rattle.days.specs.declared.phase.Phase.TheVariants.{PreCall, Frozen}

-- the grid of a phase
abbrev pub grid_in : Phase → Grid
grid_in (PreCall p) = grid_under p
grid_in (Frozen f) = grid_frozen f

-- a phase with a book and a locked stock
abbrev pub state_of : Phase → List Terms → WaitingLine (Instruction Order) → State
state_of (PreCall p) ts l = in_pre_call ts (held_in l)
state_of (Frozen f) ts l = in_freeze ts (held_in l)

-- the rules of a day under a grid, with the capacity of its book and its locked stock
abbrev pub rules_of : Grid → ℕ → WaitingLine (Instruction Order) → Rules
rules_of g room l = record { grid = g; room = room; stock = room_of l.slots.now }
