-- Days as they were held, and what holds of any two of them.
use Rattle.std.specs.Prelude.{◌≡◌, ℕ, List, [], length, take, drop}
use Rattle.orders.specs.Ticks.{Grid}
use Rattle.orders.specs.declared.instruction.Instruction.{Instruction}
use Rattle.orders.specs.declared.order.Order.{Order}
use Rattle.orders.specs.declared.terms.Terms.{Terms}
use Rattle.waiting_line.specs.declared.line.WaitingLine.{WaitingLine}
use Rattle.locked_stock.specs.Holding.{held_in}
use Rattle.days.specs.Conserved.{ConservedDay}
use Rattle.days.specs.Days.{Rules, State, in_pre_call, book_of, Entry, record_of, end_of}
use Rattle.days.specs.Delayed.{DelayedTwin}
use Rattle.days.specs.Phases.{rules_of}
use Rattle.days.specs.Sealed.{SealedFreeze}
use Rattle.days.specs.declared.call.Call.{Call}

-- a day as it was held over a store: its rules, the book and the locked stock at its start, the calls that were carried out, what was told, and its state at the end
pub record HeldDay : Type 0 where
  pub rules : Rules
  pub first : List Terms
  pub waiting : List (Instruction Terms)
  pub calls_made : List Call
  pub told : List Entry
  pub end : State

-- a day by the values of the code: the first n of its calls, and what its journal tells since its start
abbrev pub day_held : Grid → ℕ → WaitingLine (Instruction Order) → List Terms → List Call → ℕ → List Entry → List Entry → State → HeldDay
day_held g room l ts calls n before after end =
    record { rules = rules_of g room l; first = ts; waiting = held_in l; calls_made = take n calls; told = drop (length before) after; end = end }

-- each call did and answered what the rules say, from what the last one left
pub record ByTheRules (d : HeldDay) : Type 0 where
  pub told_right : d.told ≡ record_of d.rules (in_pre_call d.first d.waiting) d.calls_made
  pub end_right : d.end ≡ end_of d.rules (in_pre_call d.first d.waiting) d.calls_made

-- two days with equal settings, capacities, first lists and locked stocks
pub record SameStart (d e : HeldDay) : Type 0 where
  pub rules : d.rules ≡ e.rules
  pub first : d.first ≡ e.first
  pub waiting : d.waiting ≡ e.waiting

-- what holds of two days over stores of whatever make; the delayed twin begins with an empty locked stock
pub record SideBySide (d e : HeldDay) : Type 0 where
  pub rules_first : ByTheRules d
  pub rules_second : ByTheRules e
  pub sealed : SameStart d e → SealedFreeze d.told e.told
  pub delayed : SameStart d e → d.waiting ≡ [] → DelayedTwin d.told (book_of d.end) e.told (book_of e.end)
  pub conserved_first : ConservedDay d.first d.told (book_of d.end)
  pub conserved_second : ConservedDay e.first e.told (book_of e.end)
