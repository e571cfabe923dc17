-- Every instruction conserves shares.
use Rattle.std.proofs.Common.{◌≡◌, ℕ, true, false, List, Some, None, Ok, Option, Result, sym, refl, ap, ◌∙◌, subst, ⊎_elim, arith}
use Rattle.std.proofs.lemmas.Bool.{cases_Bool}
use Rattle.orders.specs.declared.instruction.Instruction.{Instruction}
use Rattle.orders.specs.declared.instruction.Instruction.TheVariants.{Enter, Change, Delete}
use Rattle.orders.specs.declared.refusal.Refusal.{Refusal}
use Rattle.orders.specs.declared.terms.Terms.{Terms}
use Rattle.book.proofs.Laws.{found_none, found_without, found_gone, open_push_here, open_push_elsewhere}
use Rattle.orders.specs.Answers.{answered, left}
use Rattle.book.specs.Calls.{append_fault}
use Rattle.book.specs.Figures.{open_in}
use Rattle.book.specs.Lists.{without, held, distinct, Sound}
use Rattle.instructions.specs.Conservation.{Conserved, about}
use Rattle.instructions.specs.Effects.{fault, effect, changed, carried_answer, carried_book}
use Rattle.instructions.specs.declared.effect.Effect.{Effect}

pub not_held : (room : ℕ) (t : Terms) (ts : List Terms) → append_fault room t ts ≡ None → held t.number ts ≡ false
not_held room t ts f =
    ⊎_elim (λ h. let k = rw h at f in cc) (λ h. h) (cases_Bool (held t.number ts))

-- an instruction with no fault
accepted : (room : ℕ) (i : Instruction Terms) (ts : List Terms) → distinct ts ≡ true → fault room i ts ≡ None → Conserved (about i) (Ok (effect i ts)) ts (changed i ts)
accepted room (Enter t) ts d f =
    let none = found_none t.number ts (not_held room t ts f) in
    record { here = omega (arith, open_push_here t ts none, ap open_in none); elsewhere = λ n h. open_push_elsewhere n t ts h }
accepted room (Change t) ts d f =
    record {
      here = omega (arith, open_push_here t (without t.number ts) (found_gone t.number ts d));
      elsewhere = λ n h. open_push_elsewhere n t (without t.number ts) h ∙ ap open_in (found_without n t.number ts h);
    }
accepted room (Delete n p) ts d f =
    record { here = omega (arith, ap open_in (found_gone n ts d)); elsewhere = λ m h. ap open_in (found_without m n ts h) }

by_fault : (f : Option Refusal) (i : Instruction Terms) (ts : List Terms) → (f ≡ None → Conserved (about i) (Ok (effect i ts)) ts (changed i ts)) → Conserved (about i) (answered f (effect i ts)) ts (left f ts (changed i ts))
by_fault None i ts h = h refl
by_fault (Some e) i ts h = record { here = refl; elsewhere = λ n ne. refl }

pub conserves : (room : ℕ) (i : Instruction Terms) (ts : List Terms) → distinct ts ≡ true → Conserved (about i) (carried_answer room i ts) ts (carried_book room i ts)
conserves room i ts d = by_fault (fault room i ts) i ts (accepted room i ts d)

-- an instruction under the name that a match gave it
pub record Carried (room : ℕ) (i : Instruction Terms) (r : Result Effect Refusal) (ts us : List Terms) : Type 0 where
  pub value : r ≡ carried_answer room i ts
  pub after : us ≡ carried_book room i ts
  pub conserved : Conserved (about i) r ts us

pub carried : (room : ℕ) (i j : Instruction Terms) (r : Result Effect Refusal) (ts us : List Terms) → Sound ts → j ≡ i → r ≡ carried_answer room i ts → us ≡ carried_book room i ts → Carried room j r ts us
carried room i j r ts us s e v a =
    subst (λ k. Carried room k r ts us) (sym e)
    (record { value = v; after = a; conserved = subst (λ us. Conserved (about i) r ts us) (sym a) (subst (λ r. Conserved (about i) r ts (carried_book room i ts)) (sym v) (conserves room i ts s.apart)) })
