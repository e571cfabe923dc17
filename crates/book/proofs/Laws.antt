-- Laws of the list definitions that every store uses.
use Rattle.std.proofs.Common.{◌≡◌, ℕ, suc, ◌+◌, ◌≤◌, true, false, cond, not, ◌&&◌, ◌||◌, eqb, List, [], ◌∷◌, ◌++◌, length, Some, None, Option, sym, refl, ap, ◌∙◌, subst, ⊎_elim, arith}
use Rattle.std.proofs.lemmas.Bool.{cases_Bool, and_parts, and_from, or_parts, or_from, not-true, not_from_false, or_left, or_right, eqb-true, eq-eqb, ne_eqb, both_ways}
use Rattle.std.specs.Option.{option_or}
use Rattle.orders.specs.declared.terms.Terms.{Terms}
use Rattle.orders.specs.Ranges.{in_range}
use Rattle.std.proofs.ByRecursion.{All-weaker, sum_by_le}
use Rattle.std.proofs.lemmas.List.Folds.{list_any-append, find-append}
use Rattle.std.proofs.lemmas.Bool.Decides.{nat_tests}
use Rattle.std.specs.List.{AllByRecursion}
use Rattle.book.specs.Calls.{append_fault}
use Rattle.book.specs.Figures.{quantity_of, open_shares, open_in, open_of}
use Rattle.book.specs.Lists.{held, found, without, lowered, distinct, Sound}

-- one more at the end
pub held_push : (m : ℕ) (ts : List Terms) (t : Terms) → held m ts ≡ false → eqb t.number m ≡ false → held m (ts ++ t ∷ []) ≡ false
held_push m ts t h e = list_any-append (λ x. eqb x.number m) ts (t ∷ []) ∙ or_from _ _ h (or_from _ _ e refl)

pub eqb_flip : (m n : ℕ) → eqb m n ≡ false → eqb n m ≡ false
eqb_flip m n h = grind (arith, nat_tests)

pub distinct_push : (ts : List Terms) (t : Terms) → distinct ts ≡ true → held t.number ts ≡ false → distinct (ts ++ t ∷ []) ≡ true
distinct_push [] t d h = refl
distinct_push (x ∷ ts) t d h =
    let p = or_parts (eqb x.number t.number) (held t.number ts) h in
    let q = and_parts (not (held x.number ts)) (distinct ts) d in
    and_from _ _ (not_from_false _ (held_push x.number ts t (not-true _ q.0) (eqb_flip _ _ p.0))) (distinct_push ts t q.1 p.1)

-- one left out
pub held_without : (m n : ℕ) (ts : List Terms) → held m ts ≡ false → held m (without n ts) ≡ false
held_without m n [] h = refl
held_without m n (t ∷ ts) h =
    let p = or_parts (eqb t.number m) (held m ts) h in
    ⊎_elim (λ e. rw e p.1) (λ e. rw e (or_from _ _ p.0 (held_without m n ts p.1))) (cases_Bool (eqb t.number n))

pub distinct_without : (n : ℕ) (ts : List Terms) → distinct ts ≡ true → distinct (without n ts) ≡ true
distinct_without n [] d = refl
distinct_without n (t ∷ ts) d =
    let q = and_parts (not (held t.number ts)) (distinct ts) d in
    ⊎_elim (λ e. rw e q.1) (λ e. rw e (and_from _ _ (not_from_false _ (held_without t.number n ts (not-true _ q.0))) (distinct_without n ts q.1))) (cases_Bool (eqb t.number n))

pub length_without : (n : ℕ) (ts : List Terms) → length (without n ts) ≤ length ts
length_without n [] = omega arith
length_without n (t ∷ ts) = ⊎_elim (λ e. rw e (omega arith)) (λ e. rw e (omega (arith, length_without n ts))) (cases_Bool (eqb t.number n))

-- one lowered
pub held_lowered : (m n q : ℕ) (ts : List Terms) → held m (lowered n q ts) ≡ held m ts
held_lowered m n q [] = refl
held_lowered m n q (t ∷ ts) = ⊎_elim (λ e. rw e) (λ e. rw e (ap (λ b. eqb t.number m || b) (held_lowered m n q ts))) (cases_Bool (eqb t.number n))

pub distinct_lowered : (n q : ℕ) (ts : List Terms) → distinct (lowered n q ts) ≡ distinct ts
distinct_lowered n q [] = refl
distinct_lowered n q (t ∷ ts) =
    ⊎_elim (λ e. rw e) (λ e. rw e (ap (λ b. not b && distinct (lowered n q ts)) (held_lowered t.number n q ts) ∙ ap (λ b. not (held t.number ts) && b) (distinct_lowered n q ts))) (cases_Bool (eqb t.number n))

pub length_lowered : (n q : ℕ) (ts : List Terms) → length (lowered n q ts) ≡ length ts
length_lowered n q [] = refl
length_lowered n q (t ∷ ts) = ⊎_elim (λ e. rw e) (λ e. rw e (ap suc (length_lowered n q ts))) (cases_Bool (eqb t.number n))

-- what a search tells
pub held_found : (n : ℕ) (ts : List Terms) (t : Terms) → found n ts ≡ Some t → held n ts ≡ true
held_found n [] t h = cc
held_found n (x ∷ ts) t h = ⊎_elim (λ e. or_left _ _ e) (λ e. or_right _ _ (held_found n ts t (rw e at h))) (cases_Bool (eqb x.number n))

pub not_held : (n : ℕ) (ts : List Terms) → found n ts ≡ None → held n ts ≡ false
not_held n [] h = refl
not_held n (x ∷ ts) h =
    ⊎_elim (λ e. let k = rw e at h in cc)
    (λ e. or_from _ _ e (not_held n ts (rw e at h))) (cases_Bool (eqb x.number n))

pub without_none : (n : ℕ) (ts : List Terms) → held n ts ≡ false → without n ts ≡ ts
without_none n [] h = refl
without_none n (x ∷ ts) h = let p = or_parts (eqb x.number n) (held n ts) h in rw p.0 (ap (λ l. x ∷ l) (without_none n ts p.1))

-- a number that was taken out is held no more, and makes room
pub held_gone : (n : ℕ) (ts : List Terms) → distinct ts ≡ true → held n (without n ts) ≡ false
held_gone n [] d = refl
held_gone n (x ∷ ts) d =
    let q = and_parts (not (held x.number ts)) (distinct ts) d in
    ⊎_elim (λ e. rw e (subst (λ m. held m ts ≡ false) (eqb-true x.number n e) (not-true _ q.0)))
    (λ e. rw e (or_from _ _ e (held_gone n ts q.1))) (cases_Bool (eqb x.number n))

pub length_gone : (n : ℕ) (ts : List Terms) → held n ts ≡ true → length (without n ts) + 1 ≡ length ts
length_gone n [] h = absurd (both_ways false refl h)
length_gone n (x ∷ ts) h =
    ⊎_elim (λ e. rw e (omega arith))
    (λ e. rw e (omega (arith, length_gone n ts (rw e at h)))) (cases_Bool (eqb x.number n))

-- all the shares of a book
quantity_most : (t : Terms) → in_range t ≡ true → t.quantity ≤ 1000000
quantity_most t h = grind (arith, nat_tests)

pub shares_most : (ts : List Terms) → Sound ts → open_shares ts ≤ 256000000
shares_most ts s = omega (arith, sum_by_le quantity_of 1000000 ts (All-weaker (λ t. in_range t ≡ true) (λ t. t.quantity ≤ 1000000) quantity_most ts s.ranged), s.few)

-- what is found after a change of the list
pub found_none : (n : ℕ) (ts : List Terms) → held n ts ≡ false → found n ts ≡ None
found_none n [] h = refl
found_none n (x ∷ ts) h = let p = or_parts (eqb x.number n) (held n ts) h in rw p.0 (found_none n ts p.1)

pub found_push : (n : ℕ) (ts : List Terms) (t : Terms) → found n (ts ++ t ∷ []) ≡ option_or (found n ts) (found n (t ∷ []))
found_push n ts t = find-append (λ x. eqb x.number n) ts (t ∷ [])

pub found_without : (n m : ℕ) (ts : List Terms) → (n ≡ m → ⊥) → found n (without m ts) ≡ found n ts
found_without n m [] h = refl
found_without n m (x ∷ ts) h =
    ⊎_elim
    (λ e. let other : eqb x.number n ≡ false = ne_eqb _ _ (λ k. h (sym k ∙ eqb-true x.number m e)) in rw (e, other))
    (λ e. rw e (ap (cond (eqb x.number n) (Some x)) (found_without n m ts h)))
    (cases_Bool (eqb x.number m))

pub found_gone : (n : ℕ) (ts : List Terms) → distinct ts ≡ true → found n (without n ts) ≡ None
found_gone n ts d = found_none n (without n ts) (held_gone n ts d)

-- a number that is not held is no order's
pub not_held_each : (n : ℕ) (ts : List Terms) → held n ts ≡ false → AllByRecursion (λ t. eqb t.number n ≡ false) ts
not_held_each n [] h = tt
not_held_each n (x ∷ ts) h = let p = or_parts (eqb x.number n) (held n ts) h in (p.0, not_held_each n ts p.1)

-- an order that is found has the number
pub found_number : (n : ℕ) (ts : List Terms) (t : Terms) → found n ts ≡ Some t → t.number ≡ n
found_number n [] t h = cc
found_number n (x ∷ ts) t h =
    ⊎_elim (λ e. let k = rw e at h in let same : x ≡ t = cc in ap (λ y. y.number) (sym same) ∙ eqb-true x.number n e)
    (λ e. found_number n ts t (rw e at h)) (cases_Bool (eqb x.number n))

-- an order whose number was taken out finds room again
pub append_again : (room : ℕ) (t : Terms) (ts : List Terms) → held t.number ts ≡ true → Sound ts → length ts ≤ room → append_fault room t (without t.number ts) ≡ None
append_again room t ts h s within =
    let gone = held_gone t.number ts s.apart in
    let free : eqb (length (without t.number ts)) room ≡ false = ne_eqb _ _ (omega (arith, length_gone t.number ts h)) in
    rw (gone, free)

-- what is open after an order is put at the end
no_other : (o : Option Terms) → open_in (option_or o None) ≡ open_in o
no_other None = refl
no_other (Some t) = refl

pub open_push_here : (t : Terms) (ts : List Terms) → found t.number ts ≡ None → open_of t.number (ts ++ t ∷ []) ≡ t.quantity
open_push_here t ts f = ap open_in (found_push t.number ts t) ∙ rw (f, eq-eqb t.number t.number refl)

pub open_push_elsewhere : (n : ℕ) (t : Terms) (ts : List Terms) → (n ≡ t.number → ⊥) → open_of n (ts ++ t ∷ []) ≡ open_of n ts
open_push_elsewhere n t ts h =
    let other : eqb t.number n ≡ false = ne_eqb _ _ (λ e. h (sym e)) in
    ap open_in (found_push n ts t) ∙ rw other (no_other (found n ts))
