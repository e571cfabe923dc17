-- What an instruction does to a book, once its own fields are checked.
use Rattle.std.specs.Prelude.{◌≡◌, ℕ, ◌-◌, cond, List, [], ◌∷◌, ◌++◌, Some, None, Option, Result, ◌==◌}
use Rattle.orders.specs.Forms.{same_form}
use Rattle.orders.specs.declared.instruction.Instruction.{Instruction}
use Rattle.orders.specs.declared.instruction.Instruction.TheVariants.{Enter, Change, Delete}
use Rattle.orders.specs.declared.refusal.Refusal.{Refusal}
use Rattle.orders.specs.declared.refusal.Refusal.TheVariants.{NumberUnknown, OtherParticipant, SideOrKind}
use Rattle.orders.specs.declared.terms.Terms.{Terms}
use Rattle.orders.specs.Answers.{answered, left}
use Rattle.book.specs.Calls.{append_fault}
use Rattle.book.specs.Figures.{open_of}
use Rattle.book.specs.Lists.{found, without}
use Rattle.instructions.specs.declared.effect.Effect.{Effect}

-- why a participant may not touch the order that was found: there is none, or it is another's
abbrev pub owner_fault : ℕ → Option Terms → Option Refusal
owner_fault p None = Some NumberUnknown
owner_fault p (Some t) = cond (t.participant == p) None (Some OtherParticipant)

-- why the order that was found may not be changed to t
abbrev pub change_fault : Terms → Option Terms → Option Refusal
change_fault t None = Some NumberUnknown
change_fault t (Some u) = cond (u.participant == t.participant) (cond (same_form u t) None (Some SideOrKind)) (Some OtherParticipant)

-- why the instruction is refused
abbrev pub fault : ℕ → Instruction Terms → List Terms → Option Refusal
fault room (Enter t) ts = append_fault room t ts
fault room (Change t) ts = change_fault t (found t.number ts)
fault room (Delete n p) ts = owner_fault p (found n ts)

-- the shares that it adds and takes off: a change adds the rise or takes off the fall
abbrev pub effect : Instruction Terms → List Terms → Effect
effect (Enter t) ts = record { added = t.quantity; taken_off = 0 }
effect (Change t) ts = record { added = t.quantity - open_of t.number ts; taken_off = open_of t.number ts - t.quantity }
effect (Delete n p) ts = record { added = 0; taken_off = open_of n ts }

-- the book that it makes: what is entered or changed stands last
abbrev pub changed : Instruction Terms → List Terms → List Terms
changed (Enter t) ts = ts ++ t ∷ []
changed (Change t) ts = without t.number ts ++ t ∷ []
changed (Delete n p) ts = without n ts

abbrev pub carried_answer : ℕ → Instruction Terms → List Terms → Result Effect Refusal
carried_answer room i ts = answered (fault room i ts) (effect i ts)

abbrev pub carried_book : ℕ → Instruction Terms → List Terms → List Terms
carried_book room i ts = left (fault room i ts) ts (changed i ts)

-- an instruction carried out or refused: its answer, the book after it, and the capacity, which stays
pub record Obeyed (room : ℕ) (i : Instruction Terms) (ts : List Terms) (answer : Result Effect Refusal) (room_after : ℕ) (ts_after : List Terms) : Type 0 where
  pub value : answer ≡ carried_answer room i ts
  pub after : ts_after ≡ carried_book room i ts
  pub same : room_after ≡ room
