-- What waits in a line, and what its calls give.
use Rattle.std.specs.Prelude.{◌≡◌, ℕ, ◌+◌, ◌-◌, min, Bool, cond, List, [], ◌∷◌, ◌++◌, length, take, drop, Ok, Err, Option, Result, ◌==◌, nat_lt, slice_set}
use Rattle.std.specs.List.{slice_get}
use Rattle.orders.specs.declared.refusal.Refusal.{Refusal}
use Rattle.waiting_line.specs.declared.line.WaitingLine.{WaitingLine}

-- how many can wait: at most 256 of the slots are used
abbrev pub room_of : {T : Type 0} → List T → ℕ
room_of slots = min (length slots) 256

-- the slots in use, read round from one of them
abbrev pub round_from : {T : Type 0} → ℕ → List T → List T
round_from f slots = drop f (take (room_of slots) slots) ++ take f (take (room_of slots) slots)

-- what waits, oldest first
abbrev pub waiting : {T : Type 0} → WaitingLine T → List T
waiting l = take l.count (round_from l.first l.slots.now)

-- the slot that is k behind the first, read round
abbrev pub slot_at : {T : Type 0} → WaitingLine T → ℕ → ℕ
slot_at l k = cond (nat_lt (l.first + k) (room_of l.slots.now)) (l.first + k) (l.first + k - room_of l.slots.now)

-- as many wait as can
abbrev pub is_full : {T : Type 0} → WaitingLine T → Bool
is_full l = length (waiting l) == room_of l.slots.now

-- a record joins behind the others, and no slot changes but the one behind them; a full line answers the refusal and stays
pub record Put {T : Type 0} (l : WaitingLine T) (x : T) (full : Refusal) (answer : Result (Unit {0}) Refusal) (after : WaitingLine T) : Type 0 where
  pub value : answer ≡ cond (is_full l) (Err full) (Ok tt)
  pub waits : waiting after ≡ cond (is_full l) (waiting l) (waiting l ++ x ∷ [])
  pub slots : after.slots.now ≡ cond (is_full l) l.slots.now (slice_set l.slots.now (slot_at l (length (waiting l))) x)
  pub lent : after.slots.ghost_name ≡ l.slots.ghost_name

-- the oldest leaves, if one waits, and no slot changes
pub record Taken {T : Type 0} (l : WaitingLine T) (answer : Option T) (after : WaitingLine T) : Type 0 where
  pub value : answer ≡ slice_get (waiting l) 0
  pub waits : waiting after ≡ drop 1 (waiting l)
  pub slots : after.slots.now ≡ l.slots.now
  pub lent : after.slots.ghost_name ≡ l.slots.ghost_name
