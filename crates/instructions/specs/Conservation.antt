-- No share is lost or invented by an instruction.
use Rattle.std.specs.Prelude.{◌≡◌, ℕ, ◌+◌, List, Ok, Err, Result, ◌≢◌}
use Rattle.orders.specs.declared.instruction.Instruction.{Instruction}
use Rattle.orders.specs.declared.instruction.Instruction.TheVariants.{Enter, Change, Delete}
use Rattle.orders.specs.declared.refusal.Refusal.{Refusal}
use Rattle.orders.specs.declared.terms.Terms.{Terms}
use Rattle.book.specs.Figures.{open_of}
use Rattle.instructions.specs.declared.effect.Effect.{Effect}

-- the order number that an instruction is about
abbrev pub about : Instruction Terms → ℕ
about (Enter t) = t.number
about (Change t) = t.number
about (Delete n p) = n

-- the shares that an answer adds and takes off, none if it is a refusal
abbrev pub added_by : Result Effect Refusal → ℕ
added_by (Ok e) = e.added
added_by (Err r) = 0

abbrev pub taken_off_by : Result Effect Refusal → ℕ
taken_off_by (Ok e) = e.taken_off
taken_off_by (Err r) = 0

-- of the number n, open before and added are open after and taken off; of any other number nothing changes
pub record Conserved (n : ℕ) (answer : Result Effect Refusal) (before after : List Terms) : Type 0 where
  pub here : open_of n before + added_by answer ≡ open_of n after + taken_off_by answer
  pub elsewhere : (m : ℕ) → (m ≢ n) → open_of m after ≡ open_of m before
