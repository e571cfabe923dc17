-- What the steps of the code give.
use Rattle.std.specs.Prelude.{◌≡◌, ℕ, ◌≤◌, List, [], ◌∷◌, ◌++◌, length, Ok, Err, Result}
use Rattle.orders.specs.Ticks.{Grid}
use Rattle.orders.specs.declared.instruction.Instruction.{Instruction}
use Rattle.orders.specs.declared.refusal.Refusal.{Refusal}
use Rattle.engine.specs.Freezes.{match_fault}
use Rattle.orders.specs.declared.order.Order.{Order}
use Rattle.orders.specs.declared.terms.Terms.{Terms}
use Rattle.waiting_line.specs.Lines.{room_of}
use Rattle.waiting_line.specs.declared.line.WaitingLine.{WaitingLine}
use Rattle.settling.specs.declared.fill.Fill.{Fill}
use Rattle.locked_stock.specs.declared.receipt.Receipt.{Receipt}
use Rattle.days.specs.Counts.{stops_in, fills_in, receipts_in}
use Rattle.days.specs.Days.{Rules, State, Entry, book_of, turn}
use Rattle.days.specs.Journals.{entry_with}
use Rattle.days.specs.Phases.{rules_of}
use Rattle.pricing.specs.Stops.{triggered_orders}
use Rattle.pricing.specs.declared.quote.Quote.{Quote}
use Rattle.days.specs.declared.call.Call.TheVariants.{Send, Freeze, Match, Lift}
use Rattle.days.specs.declared.answer.Answer.{Answer}
use Rattle.days.specs.declared.answer.Answer.TheVariants.{Held, Refused}
use Rattle.days.specs.declared.call.Call.{Call}

-- the three lists have at least as many as the answer says, which are no more than an auction can make
pub record Enough (a : Answer) (ts : List Terms) (fs : List Fill) (rs : List Receipt) : Type 0 where
  pub stops : stops_in a ≤ length ts
  pub fills : fills_in a ≤ length fs
  pub receipts : receipts_in a ≤ length rs
  pub few_stops : length ts ≤ 256
  pub few_fills : length fs ≤ 256
  pub few_receipts : length rs ≤ 256

-- an answer that tells of nothing triggered, filled or receipted
pub record Bare (a : Answer) : Type 0 where
  pub stops : stops_in a ≡ 0
  pub fills : fills_in a ≡ 0
  pub receipts : receipts_in a ≡ 0

-- the answer to an instruction that waits or was refused
abbrev pub told_waiting : Result (Unit {0}) Refusal → Answer
told_waiting (Ok u) = Held
told_waiting (Err e) = Refused e

-- a locked stock over the same slots, with as much room as before
pub record StockKept (l after : WaitingLine (Instruction Order)) : Type 0 where
  pub room : room_of after.slots.now ≡ room_of l.slots.now
  pub lent : after.slots.ghost_name ≡ l.slots.ghost_name

-- one call is carried out and noted: by the rules, from a state, with the record before and after it, and the state after it
pub record Turned (r : Rules) (s : State) (c : Call) (before after : List Entry) (t : State) : Type 0 where
  pub told : after ≡ before ++ (turn r s c).entry ∷ []
  pub state : t ≡ (turn r s c).state

-- the stops that a call triggers if it is a match that is held
abbrev pub stops_for : Call → List Terms → List Terms
stops_for (Send i) ts = []
stops_for Freeze ts = []
stops_for (Match q f n) ts = triggered_orders q ts
stops_for (Lift n) ts = []

-- so many entries are refused for a match as those of the call are
abbrev pub SameFault : Grid → WaitingLine (Instruction Order) → List Terms → Quote → ℕ → ℕ → ℕ → ℕ → Type 0
SameFault g l ts q fills receipts f n = match_fault g (room_of l.slots.now) q fills receipts ts ≡ match_fault g (room_of l.slots.now) q f n ts

-- a call is carried out by the rules from a state: its entry read off its answer and the arrays, the state after it, and grid, slots and capacity as before
pub record CarriedOut (g : Grid) (room : ℕ) (l : WaitingLine (Instruction Order)) (s : State) (c : Call) (a : Answer) (filled : List Fill) (told : List Receipt) (g_after : Grid) (room_after : ℕ) (l_after : WaitingLine (Instruction Order)) (t : State) : Type 0 where
  pub entry : entry_with (record { call = c; answer = a }) (stops_for c (book_of s)) filled told ≡ (turn (rules_of g room l) s c).entry
  pub state : t ≡ (turn (rules_of g room l) s c).state
  pub stops : stops_in a ≤ length (stops_for c (book_of s))
  pub fills : fills_in a ≤ length filled
  pub receipts : receipts_in a ≤ length told
  pub grid : g_after ≡ g
  pub kept : StockKept l l_after
  pub same : room_after ≡ room

-- one call is carried out and noted: by the rules, and grid, slots and capacity are as before
pub record Passed (g : Grid) (room : ℕ) (l : WaitingLine (Instruction Order)) (s : State) (c : Call) (before after : List Entry) (g_after : Grid) (room_after : ℕ) (l_after : WaitingLine (Instruction Order)) (t : State) : Type 0 where
  pub turned : Turned (rules_of g room l) s c before after t
  pub grid : g_after ≡ g
  pub kept : StockKept l l_after
  pub same : room_after ≡ room
