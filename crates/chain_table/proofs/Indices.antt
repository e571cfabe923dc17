-- Lists of indices: what is among them, none twice, all below a bound.
use Rattle.std.specs.Prelude.{◌≡◌, ℕ, ◌<◌, ◌≤◌, true, false, not, List, [], ◌∷◌, ◌++◌, ◌==◌, ◌≢◌, nat_lt, refl}
use Rattle.std.proofs.Common.{⊎_elim, subst, arith}
use Rattle.std.proofs.lemmas.Bool.{cases_Bool, and_parts, and_from, or_parts, or_from, or_cases, not-true, not_from_false, eqb-true, eqb-false, ltb-true, lt-ltb, both_ways}
use Rattle.std.specs.List.{AllByRecursion}
use Rattle.book.proofs.Laws.{eqb_flip}
use Rattle.chain_table.specs.Chains.{among, no_row_twice, all_below}

-- what is not among a list
pub other : (p x : ℕ) (xs : List ℕ) → among p (x ∷ xs) ≡ false → (x ≢ p) × (among p xs ≡ false)
other p x xs h = let q = or_parts (x == p) (among p xs) h in (eqb-false x p q.0, q.1)

pub among_parts : (p : ℕ) (xs ys : List ℕ) → among p (xs ++ ys) ≡ false → (among p xs ≡ false) × (among p ys ≡ false)
among_parts p [] ys h = (refl, h)
among_parts p (x ∷ xs) ys h =
    let q = or_parts (x == p) (among p (xs ++ ys)) h in
    let r = among_parts p xs ys q.1 in
    (or_from _ _ q.0 r.0, r.1)

pub among_from : (p : ℕ) (xs ys : List ℕ) → among p xs ≡ false → among p ys ≡ false → among p (xs ++ ys) ≡ false
among_from p [] ys h k = k
among_from p (x ∷ xs) ys h k = let q = or_parts (x == p) (among p xs) h in or_from _ _ q.0 (among_from p xs ys q.1 k)

-- none twice
pub once_parts : (x : ℕ) (xs : List ℕ) → no_row_twice (x ∷ xs) ≡ true → (among x xs ≡ false) × (no_row_twice xs ≡ true)
once_parts x xs h = let q = and_parts (not (among x xs)) (no_row_twice xs) h in (not-true _ q.0, q.1)

pub once_from : (x : ℕ) (xs : List ℕ) → among x xs ≡ false → no_row_twice xs ≡ true → no_row_twice (x ∷ xs) ≡ true
once_from x xs h k = and_from _ _ (not_from_false _ h) k

pub once_front : (xs ys : List ℕ) → no_row_twice (xs ++ ys) ≡ true → no_row_twice xs ≡ true
once_front [] ys h = refl
once_front (x ∷ xs) ys h = let q = once_parts x (xs ++ ys) h in once_from x xs (among_parts x xs ys q.0).0 (once_front xs ys q.1)

-- one taken out of the middle, and put into it
pub once_out : (xs : List ℕ) (i : ℕ) (ys : List ℕ) → no_row_twice (xs ++ i ∷ ys) ≡ true → (among i (xs ++ ys) ≡ false) × (no_row_twice (xs ++ ys) ≡ true)
once_out [] i ys h = once_parts i ys h
once_out (x ∷ xs) i ys h =
    let q = once_parts x (xs ++ i ∷ ys) h in
    let r = once_out xs i ys q.1 in
    let s = among_parts x xs (i ∷ ys) q.0 in
    let t = or_parts (i == x) (among x ys) s.1 in
    (or_from _ _ (eqb_flip i x t.0) r.0, once_from x (xs ++ ys) (among_from x xs ys s.0 t.1) r.1)

pub once_in : (xs : List ℕ) (i : ℕ) (ys : List ℕ) → among i (xs ++ ys) ≡ false → no_row_twice (xs ++ ys) ≡ true → no_row_twice (xs ++ i ∷ ys) ≡ true
once_in [] i ys h k = once_from i ys h k
once_in (x ∷ xs) i ys h k =
    let q = once_parts x (xs ++ ys) k in
    let s = among_parts x xs ys q.0 in
    let t = or_parts (x == i) (among i (xs ++ ys)) h in
    once_from x (xs ++ i ∷ ys) (among_from x xs (i ∷ ys) s.0 (or_from _ _ (eqb_flip x i t.0) s.1)) (once_in xs i ys t.1 q.1)

-- what is in the front is not in the rest
pub once_sides : (p : ℕ) (xs ys : List ℕ) → no_row_twice (xs ++ ys) ≡ true → among p xs ≡ true → among p ys ≡ false
once_sides p [] ys h k = absurd (both_ways false refl k)
once_sides p (x ∷ xs) ys h k =
    let q = once_parts x (xs ++ ys) h in
    ⊎_elim (λ e. subst (λ z. among z ys ≡ false) (eqb-true x p e) (among_parts x xs ys q.0).1)
    (λ e. once_sides p xs ys q.1 e) (or_cases (x == p) (among p xs) k)

-- what holds of each
pub all_parts : {X : Type 0} (P : X → Type 0) (xs ys : List X) → AllByRecursion P (xs ++ ys) → AllByRecursion P xs × AllByRecursion P ys
all_parts P [] ys h = (tt, h)
all_parts P (x ∷ xs) ys h = let r = all_parts P xs ys h.1 in ((h.0, r.0), r.1)

pub all_among : (P : ℕ → Type 0) (p : ℕ) (xs : List ℕ) → AllByRecursion P xs → among p xs ≡ true → P p
all_among P p [] h k = absurd (both_ways false refl k)
all_among P p (x ∷ xs) h k = ⊎_elim (λ e. subst P (eqb-true x p e) h.0) (λ e. all_among P p xs h.1 e) (or_cases (x == p) (among p xs) k)

-- all below a bound
abbrev pub Below : ℕ → List ℕ → Type 0
Below n xs = AllByRecursion (λ x. x < n) xs

pub from_below : (n : ℕ) (xs : List ℕ) → all_below n xs ≡ true → Below n xs
from_below n [] h = tt
from_below n (x ∷ xs) h = let q = and_parts (nat_lt x n) (all_below n xs) h in (ltb-true x n q.0, from_below n xs q.1)

pub to_below : (n : ℕ) (xs : List ℕ) → Below n xs → all_below n xs ≡ true
to_below n [] h = refl
to_below n (x ∷ xs) h = and_from _ _ (lt-ltb x n h.0) (to_below n xs h.1)

-- an index at the bound or past it is not among them
pub past_off : (n p : ℕ) (xs : List ℕ) → n ≤ p → Below n xs → among p xs ≡ false
past_off n p xs l h = ⊎_elim (λ e. let k = all_among (λ x. x < n) p xs h e in absurd (omega arith)) (λ e. e) (cases_Bool (among p xs))
