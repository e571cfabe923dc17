-- A list made of parts that are all as long.
use Rattle.std.proofs.Common.{◌≡◌, ℕ, zero, suc, ◌+◌, ◌*◌, List, [], ◌∷◌, ◌++◌, length, drop, sym, ap, ◌∙◌, add_comm, mul-zero, mul-suc, arith, length-append}
use Rattle.std.proofs.lemmas.List.{drop_all, drop_at, drop-drop}
use Rattle.std.specs.List.{flat_map}

module _ {X : Type 0} (f : X → List ℕ) (s : ℕ) (size : (x : X) → length (f x) ≡ s) where
  pub length_joined : (xs : List X) → length (flat_map f xs) ≡ s * length xs
  length_joined [] = sym (mul-zero s)
  length_joined (x ∷ xs) =
      length-append (f x) (flat_map f xs)
      ∙ (λ i. size x i + length_joined xs i)
      ∙ add_comm s (s * length xs)
      ∙ sym (mul-suc s (length xs))

  pub drop_joined : (k : ℕ) (xs : List X) → drop (s * k) (flat_map f xs) ≡ flat_map f (drop k xs)
  drop_joined zero xs = ap (λ m. drop m (flat_map f xs)) (mul-zero s)
  drop_joined (suc k) [] = drop_all (s * suc k) [] (omega arith)
  drop_joined (suc k) (x ∷ xs) =
      ap (λ m. drop m (f x ++ flat_map f xs)) (mul-suc s k ∙ add_comm (s * k) s)
      ∙ sym (drop-drop (s * k) s (f x ++ flat_map f xs))
      ∙ ap (drop (s * k)) (drop_at (f x) (flat_map f xs) s (size x))
      ∙ drop_joined k xs
