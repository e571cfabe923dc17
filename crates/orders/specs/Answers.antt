-- What a call answers and leaves, by its fault.
use Rattle.std.specs.Prelude.{Some, None, Ok, Err, Option, Result}
use Rattle.orders.specs.declared.refusal.Refusal.{Refusal}

-- what a call answers: its fault, or else x
abbrev pub answered : {A : Type 0} → Option Refusal → A → Result A Refusal
answered None x = Ok x
answered (Some e) x = Err e

-- what a call leaves: y where it has no fault, and else x, which it found
abbrev pub left : {A : Type 0} → Option Refusal → A → A → A
left None x y = y
left (Some e) x y = x
