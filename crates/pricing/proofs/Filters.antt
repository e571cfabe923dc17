-- Facts on lists of prices: filters, tests of all, lowest and highest.
use Rattle.std.proofs.Common.{◌≡◌, ℕ, ◌<◌, ◌≤◌, min, max, Bool, true, false, cond, ◌&&◌, eqb, ◌⊎◌, List, [], ◌∷◌, ◌++◌, length, Option, Some, None, IfSome, fold, sum_by, filter, refl, ap, ◌∙◌, subst, inl, inr, ⊎_elim, arith}
use Rattle.std.proofs.lemmas.List.Sums.{sum_by-cons, fold_push}
use Rattle.std.proofs.lemmas.Bool.{and_parts, and_from, cases_Bool, cases_lt, eqb-true}
use Rattle.std.proofs.lemmas.List.Folds.{list_all-append}
use Rattle.std.specs.List.{filter_map, cons_option, list_all, AllByRecursion}
use Rattle.pricing.specs.Price.{lowest_of, highest_of}

module _ {X : Type 0} where
  pub kept_none : (t : X → Bool) (xs : List X) → AllByRecursion (λ x. t x ≡ false) xs → filter t xs ≡ []
  kept_none t [] a = refl
  kept_none t (x ∷ xs) a = rw a.0 (kept_none t xs a.1)

  pub kept_all : (t : X → Bool) (xs : List X) → AllByRecursion (λ x. t x ≡ true) xs → filter t xs ≡ xs
  kept_all t [] a = refl
  kept_all t (x ∷ xs) a = rw a.0 (ap (λ l. x ∷ l) (kept_all t xs a.1))

  pub kept_same : (t u : X → Bool) (xs : List X) → AllByRecursion (λ x. t x ≡ u x) xs → filter t xs ≡ filter u xs
  kept_same t u [] a = refl
  kept_same t u (x ∷ xs) a = rw a.0 (ap (λ l. cond (u x) (x ∷ l) l) (kept_same t u xs a.1))

  pub kept_twice : (t u : X → Bool) (xs : List X) → filter u (filter t xs) ≡ filter (λ x. t x && u x) xs
  kept_twice t u [] = refl
  kept_twice t u (x ∷ xs) = ⊎_elim (λ e. rw e (ap (λ l. cond (u x) (x ∷ l) l) (kept_twice t u xs))) (λ e. rw e (kept_twice t u xs)) (cases_Bool (t x))

  pub all_every : (P : X → Type 0) → ((x : X) → P x) → (xs : List X) → AllByRecursion P xs
  all_every P h [] = tt
  all_every P h (x ∷ xs) = (h x, all_every P h xs)

  pub all_both : (P Q : X → Type 0) (xs : List X) → AllByRecursion P xs → AllByRecursion Q xs → AllByRecursion (λ x. P x × Q x) xs
  all_both P Q [] a b = tt
  all_both P Q (x ∷ xs) a b = ((a.0, b.0), all_both P Q xs a.1 b.1)

  pub sum_le : (f g : X → ℕ) (xs : List X) → AllByRecursion (λ x. f x ≤ g x) xs → sum_by f xs ≤ sum_by g xs
  sum_le f g [] a = omega arith
  sum_le f g (x ∷ xs) a = omega (arith, a.0, sum_le f g xs a.1, sum_by-cons f x xs, sum_by-cons g x xs)

  -- what holds of all that the elements add holds of what each adds
  all_first : (P : X → Type 0) (o : Option X) (xs : List X) → AllByRecursion P (cons_option o xs) → IfSome o P × AllByRecursion P xs
  all_first P None xs a = (tt, a)
  all_first P (Some x) xs a = a

  pub all_added : {Y : Type 0} (P : X → Type 0) (f : Y → Option X) (ys : List Y) → AllByRecursion P (filter_map f ys) → AllByRecursion (λ y. IfSome (f y) P) ys
  all_added P f [] a = tt
  all_added P f (y ∷ ys) a = let r = all_first P (f y) (filter_map f ys) a in (r.0, all_added P f ys r.1)

  all_with : (P : X → Type 0) (o : Option X) (xs : List X) → IfSome o P → AllByRecursion P xs → AllByRecursion P (cons_option o xs)
  all_with P None xs h a = a
  all_with P (Some x) xs h a = (h, a)

  pub added_all : {Y : Type 0} (P : X → Type 0) (f : Y → Option X) → ((y : Y) → IfSome (f y) P) → (ys : List Y) → AllByRecursion P (filter_map f ys)
  added_all P f h [] = tt
  added_all P f h (y ∷ ys) = all_with P (f y) (filter_map f ys) (h y) (added_all P f h ys)

pub all_of_all : (t : ℕ → Bool) (ps : List ℕ) → list_all t ps ≡ true → AllByRecursion (λ p. t p ≡ true) ps
all_of_all t [] e = tt
all_of_all t (p ∷ ps) e = let h = and_parts (t p) (list_all t ps) e in (h.0, all_of_all t ps h.1)

pub all_all_of : (t : ℕ → Bool) (ps : List ℕ) → AllByRecursion (λ p. t p ≡ true) ps → list_all t ps ≡ true
all_all_of t [] a = refl
all_all_of t (p ∷ ps) a = and_from (t p) (list_all t ps) a.0 (all_all_of t ps a.1)

pub and_true : (a : Bool) → (a && true) ≡ a
and_true true = refl
and_true false = refl

pub all_of_push : (t : ℕ → Bool) (ps : List ℕ) (p : ℕ) → list_all t (ps ++ p ∷ []) ≡ (list_all t ps && t p)
all_of_push t ps p = list_all-append t ps (p ∷ []) ∙ ap (λ b. list_all t ps && b) (and_true (t p))

-- lowest and highest of a list that is not empty
pub lowest_push : (ks : List ℕ) (p : ℕ) → 0 < length ks → lowest_of (ks ++ p ∷ []) ≡ min (lowest_of ks) p
lowest_push [] p h = absurd (omega arith)
lowest_push (k ∷ ks) p h = fold_push min k ks p

pub highest_push : (ks : List ℕ) (p : ℕ) → 0 < length ks → highest_of (ks ++ p ∷ []) ≡ max (highest_of ks) p
highest_push [] p h = absurd (omega arith)
highest_push (k ∷ ks) p h = fold_push max k ks p

module _ (P : ℕ → Type 0) where
  -- f gives one of its two numbers
  either_all : (f : ℕ → ℕ → ℕ) → ((a b : ℕ) → (a ≡ f a b) ⊎ (b ≡ f a b)) → (k : ℕ) (ks : List ℕ) → P k → AllByRecursion P ks → P (fold f k ks)
  either_all f one k [] x a = x
  either_all f one k (r ∷ ks) x a = either_all f one (f k r) ks (⊎_elim (λ e. subst P e x) (λ e. subst P e a.0) (one k r)) a.1

  pub lowest_all : (ks : List ℕ) → 0 < length ks → AllByRecursion P ks → P (lowest_of ks)
  lowest_all [] h a = absurd (omega arith)
  lowest_all (k ∷ ks) h a = either_all min (λ a b. ⊎_elim (λ l. inl (omega arith)) (λ l. inr (omega arith)) (cases_lt a b)) k ks a.0 a.1

  pub highest_all : (ks : List ℕ) → 0 < length ks → AllByRecursion P ks → P (highest_of ks)
  highest_all [] h a = absurd (omega arith)
  highest_all (k ∷ ks) h a = either_all max (λ a b. ⊎_elim (λ l. inr (omega arith)) (λ l. inl (omega arith)) (cases_lt a b)) k ks a.0 a.1

min_le : (k : ℕ) (ks : List ℕ) → fold min k ks ≤ k
min_le k [] = omega arith
min_le k (r ∷ ks) = omega (arith, min_le (min k r) ks)

le_max : (k : ℕ) (ks : List ℕ) → k ≤ fold max k ks
le_max k [] = omega arith
le_max k (r ∷ ks) = omega (arith, le_max (max k r) ks)

pub lowest_le_highest : (ks : List ℕ) → lowest_of ks ≤ highest_of ks
lowest_le_highest [] = omega arith
lowest_le_highest (k ∷ ks) = omega (arith, min_le k ks, le_max k ks)

-- either no element is x, or x has what all have
pub seek : (P : ℕ → Type 0) (x : ℕ) (ps : List ℕ) → AllByRecursion P ps → (AllByRecursion (λ r. eqb r x ≡ false) ps ⊎ P x)
seek P x [] a = inl tt
seek P x (p ∷ ps) a =
    ⊎_elim (λ e. inr (subst P (eqb-true p x e) a.0))
    (λ e. ⊎_elim (λ none. inl (e, none)) (λ y. inr y) (seek P x ps a.1))
    (cases_Bool (eqb p x))
