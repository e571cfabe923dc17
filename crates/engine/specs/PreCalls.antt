-- What an instruction sent in pre-call answers, and the book after it.
use Rattle.std.specs.Prelude.{◌≡◌, ℕ, List, Ok, Err, Result}
use Rattle.orders.specs.Checks.{checked}
use Rattle.orders.specs.Ticks.{Grid}
use Rattle.orders.specs.Told.{grid_of}
use Rattle.orders.specs.declared.instruction.Instruction.{Instruction}
use Rattle.orders.specs.declared.instruction.Instruction.TheVariants.{Enter, Change, Delete}
use Rattle.orders.specs.declared.refusal.Refusal.{Refusal}
use Rattle.orders.specs.declared.terms.Terms.{Terms}
use Rattle.orders.specs.declared.ticket.Ticket.{Ticket}
use Rattle.engine.specs.declared.pre_call.PreCall.{PreCall}
use Rattle.instructions.specs.Conservation.{Conserved}
use Rattle.instructions.specs.Effects.{carried_answer, carried_book}
use Rattle.instructions.specs.declared.effect.Effect.{Effect}

-- a checked instruction is carried out, and a fault in its own fields is the answer
abbrev pub answer_once : Result (Instruction Terms) Refusal → ℕ → List Terms → Result Effect Refusal
answer_once (Ok i) room ts = carried_answer room i ts
answer_once (Err e) room ts = Err e

abbrev pub book_once : Result (Instruction Terms) Refusal → ℕ → List Terms → List Terms
book_once (Ok i) room ts = carried_book room i ts
book_once (Err e) room ts = ts

abbrev pub sent_answer : Grid → ℕ → Instruction Ticket → List Terms → Result Effect Refusal
sent_answer g room i ts = answer_once (checked g i) room ts

abbrev pub sent_book : Grid → ℕ → Instruction Ticket → List Terms → List Terms
sent_book g room i ts = book_once (checked g i) room ts

-- the grid of the phase
abbrev pub grid_under : PreCall → Grid
grid_under p = grid_of p.settings

-- the order number that an instruction names
abbrev pub named : Instruction Ticket → ℕ
named (Enter t) = t.number
named (Change t) = t.number
named (Delete n p) = n

-- what one instruction gives on a grid: its answer, the book after it, the capacity as before, and no share lost or invented
pub record Sent (g : Grid) (i : Instruction Ticket) (room : ℕ) (before : List Terms) (answer : Result Effect Refusal) (room_after : ℕ) (after : List Terms) : Type 0 where
  pub value : answer ≡ sent_answer g room i before
  pub book : after ≡ sent_book g room i before
  pub same : room_after ≡ room
  pub conserves : Conserved (named i) answer before after
