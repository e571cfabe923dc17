-- What waits in a locked stock, and what an instruction sent in a freeze gives.
use Rattle.std.specs.Prelude.{◌≡◌, cond, List, [], ◌∷◌, ◌++◌, map, length, Ok, Err, Result, slice_set}
use Rattle.orders.specs.Told.{told}
use Rattle.orders.specs.declared.instruction.Instruction.{Instruction}
use Rattle.orders.specs.declared.order.Order.{Order}
use Rattle.orders.specs.declared.refusal.Refusal.{Refusal}
use Rattle.orders.specs.declared.refusal.Refusal.TheVariants.{LockedStockFull}
use Rattle.orders.specs.declared.terms.Terms.{Terms}
use Rattle.waiting_line.specs.Lines.{waiting, slot_at, is_full}
use Rattle.waiting_line.specs.declared.line.WaitingLine.{WaitingLine}

-- the instructions that wait, oldest first
abbrev pub held_in : WaitingLine (Instruction Order) → List (Instruction Terms)
held_in l = map told (waiting l)

-- the instructions in the slots, waiting or not
abbrev pub slots_of : WaitingLine (Instruction Order) → List (Instruction Terms)
slots_of l = map told l.slots.now

-- an instruction joins behind the others, in the one slot that changes; a full stock refuses it and stays
pub record Joined (i : Instruction Terms) (l : WaitingLine (Instruction Order)) (answer : Result (Unit {0}) Refusal) (after : WaitingLine (Instruction Order)) : Type 0 where
  pub value : answer ≡ cond (is_full l) (Err LockedStockFull) (Ok tt)
  pub held : held_in after ≡ cond (is_full l) (held_in l) (held_in l ++ i ∷ [])
  pub slots : slots_of after ≡ cond (is_full l) (slots_of l) (slice_set (slots_of l) (slot_at l (length (waiting l))) i)
  pub lent : after.slots.ghost_name ≡ l.slots.ghost_name

-- an instruction with a fault of its own is refused and changes nothing; any other joins the stock
abbrev pub HeldBy : Result (Instruction Terms) Refusal → WaitingLine (Instruction Order) → Result (Unit {0}) Refusal → WaitingLine (Instruction Order) → Type 0
HeldBy (Err e) l answer after = (answer ≡ Err e) × (after ≡ l)
HeldBy (Ok i) l answer after = Joined i l answer after
