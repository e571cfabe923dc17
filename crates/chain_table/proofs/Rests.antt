-- What is left of a chain from a row on.
use Rattle.std.proofs.Common.{◌≡◌, ℕ, true, false, eqb, List, [], ◌∷◌, refl, sym, ap, ◌∙◌, subst, ⊎_elim}
use Rattle.std.proofs.lemmas.Bool.{or_from, or_cases, or_left, or_right, eq-eqb, ne_eqb, eqb-true, both_ways, cases_Bool}
use Rattle.chain_table.specs.Chains.{among, no_row_twice}
use Rattle.chain_table.specs.Steps.{rest_from}
use Rattle.chain_table.proofs.Indices.{other, once_parts}
use Rattle.chain_table.proofs.Walks.{Linked, first_among}

-- nothing is left from what is not in it
pub none_from : (p : ℕ) (xs : List ℕ) → among p xs ≡ false → rest_from p xs ≡ []
none_from p [] h = refl
none_from p (x ∷ xs) h = let o = other p x xs h in rw (ne_eqb x p o.0) (none_from p xs o.1)

after_first : (f g : ℕ → ℕ) (x : ℕ) (xs : List ℕ) (b : ℕ) → Linked f g x xs b → among x xs ≡ false → (x ≡ b → ⊥) → rest_from (f x) (x ∷ xs) ≡ xs
after_first f g x [] b h off n = rw h.0 (rw (ne_eqb x b n))
after_first f g x (y ∷ ys) b h off n = rw h.0 (rw (ne_eqb x y (λ e. (other x y ys off).0 (sym e))) (rw (eq-eqb y y refl)))

wider : (p b x : ℕ) (xs : List ℕ) → among p (b ∷ xs) ≡ true → among p (b ∷ x ∷ xs) ≡ true
wider p b x xs h = ⊎_elim (λ e. or_left _ _ e) (λ e. or_right _ _ (or_right _ _ e)) (or_cases (eqb b p) (among p xs) h)

-- a step along it
pub step_from : (f g : ℕ → ℕ) (a : ℕ) (xs : List ℕ) (b i : ℕ) → Linked f g a xs b → no_row_twice xs ≡ true → among b xs ≡ false → among i xs ≡ true
    → (rest_from i xs ≡ i ∷ rest_from (f i) xs) × (among (f i) (b ∷ xs) ≡ true)
step_from f g a [] b i h once off k = absurd (both_ways false refl k)
step_from f g a (x ∷ xs) b i h once off k =
    let q = once_parts x xs once in
    let o = other b x xs off in
    ⊎_elim
    (λ e. subst (λ j. (rest_from j (x ∷ xs) ≡ j ∷ rest_from (f j) (x ∷ xs)) × (among (f j) (b ∷ x ∷ xs) ≡ true)) (eqb-true x i e)
    (rw (eq-eqb x x refl) (ap (λ l. x ∷ l) (sym (after_first f g x xs b h.2 q.0 o.0))), wider (f x) b x xs (first_among f g x xs b h.2)))
    (λ e.
    let r = step_from f g x xs b i h.2 q.1 o.1 (rw e at k) in
    let n : x ≡ f i → ⊥ = λ z. both_ways (among x (b ∷ xs)) (or_from _ _ (ne_eqb b x (λ y. o.0 (sym y))) q.0) (ap (λ p. among p (b ∷ xs)) z ∙ r.1) in
    (rw e (rw (ne_eqb x (f i) n) r.0), wider (f i) b x xs r.1))
    (cases_Bool (eqb x i))
