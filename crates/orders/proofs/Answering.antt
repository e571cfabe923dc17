-- What an answer tells of its fault.
use Rattle.std.proofs.Common.{◌≡◌, Some, None, Ok, Err, Option, refl}
use Rattle.orders.specs.Answers.{answered}
use Rattle.orders.specs.declared.refusal.Refusal.{Refusal}

pub refused_by : {A : Type 0} (f : Option Refusal) (x : A) (e : Refusal) → Err e ≡ answered f x → f ≡ Some e
refused_by None x e h = cc
refused_by (Some d) x e h = cc

pub not_refused : {A : Type 0} (f : Option Refusal) (x y : A) → Ok y ≡ answered f x → f ≡ None
not_refused None x y h = refl
not_refused (Some d) x y h = cc

-- what is answered where there is no fault
pub answered_as : {A : Type 0} (f : Option Refusal) (x y : A) → Ok y ≡ answered f x → y ≡ x
answered_as None x y h = cc
answered_as (Some d) x y h = cc
