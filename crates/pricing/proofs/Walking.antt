-- Loops that add up a list, or list it anew, place by place.
use Rattle.std.proofs.Common.{◌≡◌, ℕ, ◌+◌, ◌<◌, ◌≤◌, List, [], ◌∷◌, ◌++◌, length, get_or, take, drop, fold, sum_by, sym, ap, ◌∙◌, arith}
use Rattle.std.proofs.lemmas.List.{append-nil, append_assoc, drop_more, at_drop_all}
use Rattle.std.proofs.lemmas.List.Sums.{fold-append, sum_by_more}
use Rattle.std.specs.List.{flat_map}
use Rattle.book.proofs.Reading.{Stands}

pub sum_more : {X : Type 0} (f : X → ℕ) (xs : List X) (i : ℕ) (d : X) (n m : ℕ) → i < length xs → n ≡ sum_by f (take i xs) → m ≡ f (get_or xs i d) → n + m ≡ sum_by f (take (i + 1) xs)
sum_more f xs i d n m h e k = omega (arith, sum_by_more f xs i d h)

-- what a slice has at a place
pub at_place : {X : Type 0} (xs : List X) (i : ℕ) (d : X) → i < length xs → Stands xs i (get_or xs i d)
at_place xs i d h = record { within = h; first = drop_more xs i d h }

-- S lists what the elements of a list add, and so far ys are listed
module _ {X Y : Type 0} (S : List X → List Y) where
  pub listed_more : {xs : List X} {i : ℕ} {x : X} → ((r : List X) → S (x ∷ r) ≡ S (x ∷ []) ++ S r) → Stands xs i x → (ys zs all : List Y) → zs ≡ ys ++ S (x ∷ []) → ys ++ S (drop i xs) ≡ all → zs ++ S (drop (i + 1) xs) ≡ all
  listed_more {xs} {i} {x} parts here ys zs all e w =
      ap (λ l. l ++ S (drop (i + 1) xs)) e
      ∙ append_assoc ys (S (x ∷ [])) (S (drop (i + 1) xs))
      ∙ ap (λ l. ys ++ l) (sym (ap S here.first ∙ parts (drop (i + 1) xs)))
      ∙ w

  pub listed_all : (xs : List X) (i : ℕ) (ys all : List Y) → S [] ≡ [] → length xs ≤ i → ys ++ S (drop i xs) ≡ all → ys ≡ all
  listed_all xs i ys all none h w = sym (append-nil ys) ∙ ap (λ l. ys ++ l) (sym (at_drop_all S xs i h ∙ none)) ∙ w

-- a fold over what the elements of a list add
pub folded_more : {X Y Z : Type 0} (f : Z → Y → Z) (h : X → List Y) {xs : List X} {i : ℕ} {x : X} → Stands xs i x → (z w all : Z) → w ≡ fold f z (h x) → fold f z (flat_map h (drop i xs)) ≡ all → fold f w (flat_map h (drop (i + 1) xs)) ≡ all
folded_more f h {xs} {i} {x} here z w all e k =
    ap (λ u. fold f u (flat_map h (drop (i + 1) xs))) e
    ∙ sym (fold-append f z (h x) (flat_map h (drop (i + 1) xs)))
    ∙ ap (λ l. fold f z (flat_map h l)) (sym here.first)
    ∙ k
