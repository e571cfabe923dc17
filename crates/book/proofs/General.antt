-- General facts that stores use.
use Rattle.std.proofs.Common.{◌≡◌, Bool, true, false, cond, List, [], ◌∷◌, Some, None, refl}
use Rattle.std.specs.List.{AllByRecursion}

-- what holds of everything holds of each of a list
pub all_of : {X : Type 0} (P : X → Type 0) → ((x : X) → P x) → (xs : List X) → AllByRecursion P xs
all_of P h [] = tt
all_of P h (x ∷ xs) = (h x, all_of P h xs)

-- an answer that a test gives or withholds
pub given : {X : Type 0} (b : Bool) (x y : X) → Some x ≡ cond b (Some y) None → (b ≡ true) × (x ≡ y)
given true x y e = (refl, cc)
given false x y e = cc

pub withheld : {X : Type 0} (b : Bool) (y : X) → None ≡ cond b (Some y) None → b ≡ false
withheld true y e = cc
withheld false y e = refl
