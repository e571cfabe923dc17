-- Reading a list place by place.
use Rattle.std.proofs.Common.{◌≡◌, ℕ, zero, suc, ◌+◌, ◌<◌, ◌≤◌, List, [], ◌∷◌, length, drop, Option, Some, None, sym, ◌∙◌, ap, subst, suc-add, arith}
use Rattle.std.proofs.lemmas.List.{drop_all}
use Rattle.std.specs.Iterator.{YieldsFirstBy}
use Rattle.std.specs.List.{slice_get}
use Rattle.std.specs.Option.{option_map}
use Rattle.orders.specs.Told.{terms_of}
use Rattle.orders.specs.declared.order.Order.{Order}
use Rattle.orders.specs.declared.terms.Terms.{Terms}

-- x stands at the place i of xs
pub record Stands {X : Type 0} (xs : List X) (i : ℕ) (x : X) : Type 0 where
  pub within : i < length xs
  pub first : drop i xs ≡ x ∷ drop (i + 1) xs

pub stands : {X : Type 0} (xs : List X) (i : ℕ) (x : X) → Some x ≡ slice_get xs i → Stands xs i x
stands [] i x e = cc
stands (y ∷ xs) zero x e = record { within = omega arith; first = cc }
stands (y ∷ xs) (suc i) x e =
    let s = stands xs i x e in
    record { within = omega (arith, s.within); first = rw (suc-add i 1) s.first }

-- nothing stands past the end
pub past : {X : Type 0} (xs : List X) (i : ℕ) → None ≡ slice_get xs i → length xs ≤ i
past [] i e = omega arith
past (x ∷ xs) zero e = cc
past (x ∷ xs) (suc i) e = omega (arith, past xs i e)

-- one step of a walk: the order at the place i is the first of those left
pub first_left : (ts left : List Terms) (i : ℕ) (r : Option Order) → drop i ts ≡ left → i < length ts → option_map terms_of r ≡ slice_get ts i → YieldsFirstBy {S = List Terms} terms_of (λ l. l) left r (drop (i + 1) ts)
first_left ts left i (Some o) e lt v = sym e ∙ (stands ts i (terms_of o) v).first
first_left ts left i None e lt v = absurd (omega (arith, lt, past ts i v))

-- a walk that has come to the end
pub none_left : (ts left : List Terms) (i j : ℕ) (r : Option Order) → r ≡ None → drop i ts ≡ left → j ≡ i → length ts ≤ i → YieldsFirstBy {S = List Terms} terms_of (λ l. l) left r (drop j ts)
none_left ts left i j r n e same past =
    let empty : drop i ts ≡ [] = drop_all i ts past in
    subst (λ o. YieldsFirstBy {S = List Terms} terms_of (λ l. l) left o (drop j ts)) (sym n) (sym e ∙ empty, ap (λ k. drop k ts) same ∙ empty)
