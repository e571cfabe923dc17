-- What the calls of a store answer and leave, by its capacity and its list.
use Rattle.std.specs.Prelude.{◌≡◌, ℕ, ◌≤◌, Bool, false, cond, ◌&&◌, List, [], ◌∷◌, ◌++◌, length, Some, None, Option, Result, ◌==◌, nat_le}
use Rattle.std.specs.List.{slice_get}
use Rattle.std.specs.Option.{option_map}
use Rattle.orders.specs.Answers.{answered, left}
use Rattle.orders.specs.Told.{terms_of}
use Rattle.orders.specs.declared.order.Order.{Order}
use Rattle.orders.specs.declared.refusal.Refusal.{Refusal}
use Rattle.orders.specs.declared.refusal.Refusal.TheVariants.{NumberHeld, BookFull}
use Rattle.orders.specs.declared.terms.Terms.{Terms}
use Rattle.book.specs.Lists.{held, found, without, lowered, Sound}

-- why an order cannot be appended
abbrev pub append_fault : ℕ → Terms → List Terms → Option Refusal
append_fault room t ts = cond (held t.number ts) (Some NumberHeld) (cond (length ts == room) (Some BookFull) None)

abbrev pub append_answer : ℕ → Terms → List Terms → Result (Unit {0}) Refusal
append_answer room t ts = answered (append_fault room t ts) tt

abbrev pub after_append : ℕ → Terms → List Terms → List Terms
after_append room t ts = left (append_fault room t ts) ts (ts ++ t ∷ [])

-- q is from 1 to what is open
abbrev pub up_to_open : ℕ → Option Terms → Bool
up_to_open q None = false
up_to_open q (Some t) = nat_le 1 q && nat_le q t.quantity

-- may the open quantity of the number be set to q?
abbrev pub can_lower : ℕ → ℕ → List Terms → Bool
can_lower n q ts = up_to_open q (found n ts)

abbrev pub after_lower : ℕ → ℕ → List Terms → List Terms
after_lower n q ts = cond (can_lower n q ts) (lowered n q ts) ts

-- what every call of a store keeps: its capacity, and a sound list that is no longer
pub record Kept (before after : ℕ) (ts : List Terms) : Type 0 where
  pub same : after ≡ before
  pub most : after ≤ 256
  pub within : length ts ≤ after
  pub sound : Sound ts

-- what a step over a store leaves: the list that is wanted, at the capacity that was
pub record Leaves (room : ℕ) (wanted : List Terms) (room_after : ℕ) (ts : List Terms) : Type 0 where
  pub after : ts ≡ wanted
  pub same : room_after ≡ room

-- What each call gives: on the list, at a capacity, its argument, the answer, and the capacity and the list after it.

pub record Counted (ts : List Terms) (answer : ℕ) : Type 0 where
  pub value : answer ≡ length ts
  pub sound : Sound ts

pub record ReadAt (ts : List Terms) (place : ℕ) (answer : Option Order) : Type 0 where
  pub value : option_map terms_of answer ≡ slice_get ts place
  pub sound : Sound ts

pub record ToldCapacity (room : ℕ) (ts : List Terms) (answer : ℕ) : Type 0 where
  pub value : answer ≡ room
  pub kept : Kept room room ts

pub record Appended (room : ℕ) (ts : List Terms) (t : Terms) (answer : Result (Unit {0}) Refusal) (room_after : ℕ) (ts_after : List Terms) : Type 0 where
  pub value : answer ≡ append_answer room t ts
  pub after : ts_after ≡ after_append room t ts
  pub kept : Kept room room_after ts_after

pub record TakenOut (room : ℕ) (ts : List Terms) (number : ℕ) (answer : Option Order) (room_after : ℕ) (ts_after : List Terms) : Type 0 where
  pub value : option_map terms_of answer ≡ found number ts
  pub after : ts_after ≡ without number ts
  pub kept : Kept room room_after ts_after

pub record Lowered (room : ℕ) (ts : List Terms) (number quantity : ℕ) (answer : Bool) (room_after : ℕ) (ts_after : List Terms) : Type 0 where
  pub value : answer ≡ can_lower number quantity ts
  pub after : ts_after ≡ after_lower number quantity ts
  pub kept : Kept room room_after ts_after
