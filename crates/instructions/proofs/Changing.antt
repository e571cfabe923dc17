-- What a change does once the old order is found to be the participant's own.
use Rattle.std.proofs.Common.{◌≡◌, ℕ, ◌≤◌, true, false, eqb, List, length, Some, None, Ok, Err, Option, sym, ap, ◌∙◌, subst, ⊎_elim}
use Rattle.std.proofs.lemmas.Bool.{cases_Bool}
use Rattle.orders.specs.Forms.{same_form}
use Rattle.orders.specs.declared.instruction.Instruction.TheVariants.{Change}
use Rattle.orders.specs.declared.refusal.Refusal.{Refusal}
use Rattle.orders.specs.declared.refusal.Refusal.TheVariants.{SideOrKind}
use Rattle.orders.specs.declared.terms.Terms.{Terms}
use Rattle.book.proofs.Laws.{held_found, append_again}
use Rattle.orders.specs.Answers.{answered}
use Rattle.book.specs.Calls.{append_fault}
use Rattle.book.specs.Lists.{found, without, Sound}
use Rattle.instructions.specs.Effects.{fault}
use Rattle.instructions.specs.Steps.{owned}

-- u is the order in the list that t would change
pub record Own (t : Terms) (ts : List Terms) (u : Terms) : Type 0 where
  pub is : found t.number ts ≡ Some u
  pub owner : eqb u.participant t.participant ≡ true

owned_parts : (p : ℕ) (o : Option Terms) (u : Terms) → Ok u ≡ owned p o → (o ≡ Some u) × (eqb u.participant p ≡ true)
owned_parts p None u e = cc
owned_parts p (Some t) u e =
    ⊎_elim
    (λ b. let k = rw b at e in let same : t ≡ u = cc in (ap Some same, subst (λ x. eqb x.participant p ≡ true) same b))
    (λ b. let k = rw b at e in cc)
    (cases_Bool (eqb t.participant p))

pub own : (t n : Terms) (ts : List Terms) (u : Terms) → n ≡ t → Ok u ≡ owned n.participant (found n.number ts) → Own t ts u
own t n ts u e o =
    let p = owned_parts n.participant (found n.number ts) u o in
    record { is = ap (λ x. found x.number ts) (sym e) ∙ p.0; owner = ap (λ x. eqb u.participant x.participant) (sym e) ∙ p.1 }

pub other_form : {t : Terms} {ts : List Terms} {u : Terms} (room : ℕ) → Own t ts u → same_form u t ≡ false → fault room (Change t) ts ≡ Some SideOrKind
other_form room o f = rw (o.is, o.owner, f)

pub no_fault : {t : Terms} {ts : List Terms} {u : Terms} (room : ℕ) → Own t ts u → same_form u t ≡ true → fault room (Change t) ts ≡ None
no_fault room o f = rw (o.is, o.owner, f)

-- an order that was taken out finds room again
pub room_again : {t : Terms} {ts : List Terms} {u : Terms} (room : ℕ) → Own t ts u → Sound ts → length ts ≤ room → append_fault room t (without t.number ts) ≡ None
room_again {t} {ts} {u} room o s within = append_again room t ts (held_found t.number ts u o.is) s within

pub not_refused : {A : Type 0} (f : Option Refusal) (e : Refusal) (x : A) → f ≡ None → Err e ≡ answered f x → ⊥
not_refused None e x h k = cc
not_refused (Some r) e x h k = cc
