-- Receipts balance, number by number, and different numbers stay different.
use Rattle.std.proofs.Common.{◌≡◌, ℕ, ◌+◌, true, cond, eqb, List, [], ◌∷◌, Some, None, Option, Result, sym, refl, ap, subst, ⊎_elim, arith}
use Rattle.std.proofs.lemmas.List.Sums.{sum_by-cons}
use Rattle.std.proofs.lemmas.Bool.{cases_Bool, eqb-true, eqb-false}
use Rattle.orders.specs.Answers.{left}
use Rattle.orders.specs.declared.instruction.Instruction.{Instruction}
use Rattle.orders.specs.declared.instruction.Instruction.TheVariants.{Enter, Change, Delete}
use Rattle.orders.specs.declared.refusal.Refusal.{Refusal}
use Rattle.orders.specs.declared.terms.Terms.{Terms}
use Rattle.book.proofs.Laws.{distinct_push, distinct_without, held_gone}
use Rattle.book.specs.Lists.{without, distinct}
use Rattle.instructions.proofs.Conserving.{not_held, conserves}
use Rattle.instructions.specs.Conservation.{Conserved, about, added_by, taken_off_by}
use Rattle.book.specs.Figures.{open_of}
use Rattle.instructions.specs.Effects.{fault, changed, carried_answer, carried_book}
use Rattle.instructions.specs.declared.effect.Effect.{Effect}
use Rattle.locked_stock.specs.Receipts.{receipts_of, book_after, ReceiptsBalance}

-- an instruction with no fault
changed_distinct : (room : ℕ) (i : Instruction Terms) (ts : List Terms) → distinct ts ≡ true → fault room i ts ≡ None → distinct (changed i ts) ≡ true
changed_distinct room (Enter t) ts d f = distinct_push ts t d (not_held room t ts f)
changed_distinct room (Change t) ts d f = distinct_push (without t.number ts) t (distinct_without t.number ts d) (held_gone t.number ts d)
changed_distinct room (Delete n p) ts d f = distinct_without n ts d

by_fault : (f : Option Refusal) (ts us : List Terms) → distinct ts ≡ true → (f ≡ None → distinct us ≡ true) → distinct (left f ts us) ≡ true
by_fault None ts us d h = h refl
by_fault (Some e) ts us d h = d

pub carried_distinct : (room : ℕ) (i : Instruction Terms) (ts : List Terms) → distinct ts ≡ true → distinct (carried_book room i ts) ≡ true
carried_distinct room i ts d = by_fault (fault room i ts) ts (changed i ts) d (changed_distinct room i ts d)

-- the numbers that an answer tells count for the number that the instruction is about
pub balance_at : (n m : ℕ) (r : Result Effect Refusal) (ts us : List Terms) → Conserved m r ts us → open_of n ts + cond (eqb m n) (added_by r) 0 ≡ open_of n us + cond (eqb m n) (taken_off_by r) 0
balance_at n m r ts us c =
    ⊎_elim
    (λ e. rw e (subst (λ k. open_of k ts + added_by r ≡ open_of k us + taken_off_by r) (eqb-true m n e) c.here))
    (λ e. rw e (ap (λ k. k + 0) (sym (c.elsewhere n (λ h. eqb-false m n e (sym h))))))
    (cases_Bool (eqb m n))

pub receipts_balance : (room : ℕ) (is : List (Instruction Terms)) (ts : List Terms) → distinct ts ≡ true → ReceiptsBalance (receipts_of room is ts) ts (book_after room is ts)
receipts_balance room [] ts d n = refl
receipts_balance room (i ∷ is) ts d n =
    let us = carried_book room i ts in
    let one = balance_at n (about i) (carried_answer room i ts) ts us (conserves room i ts d) in
    let rest = receipts_balance room is us (carried_distinct room i ts d) n in
    simp sum_by-cons (omega arith)

pub after_distinct : (room : ℕ) (is : List (Instruction Terms)) (ts : List Terms) → distinct ts ≡ true → distinct (book_after room is ts) ≡ true
after_distinct room [] ts d = d
after_distinct room (i ∷ is) ts d = after_distinct room is (carried_book room i ts) (carried_distinct room i ts d)
