-- The number that at most ten digits write, one digit after another.
use Rattle.std.proofs.Common.{◌≡◌, ℕ, zero, suc, ◌+◌, ◌-◌, ◌*◌, ◌^◌, ◌<◌, ◌≤◌, true, List, [], ◌∷◌, length, get_or, take, sym, subst, lt_of_lt_of_le, arith, length-take}
use native.Mathlib.Nat.{pow-le-pow_right}
use lib.Seq.{take-nil}
use Rattle.std.proofs.lemmas.Bool.{and_parts}
use Rattle.std.proofs.lemmas.Int.Digits.{digits_value-lt, digits_value_more}
use Rattle.std.proofs.lemmas.Str.Parse.{digit_at}
use Rattle.std.proofs.lemmas.Bool.Decides.{nat_tests}
use Rattle.std.specs.Str.Parse.{AllDigits, digits_value}
use Rattle.std.specs.Int.{IsInRange}
use Rattle.std.specs.Char.{is_ascii_digit, digit_value as digitValue}
use Rattle.std.specs.List.{list_all}

digit_value : (b : ℕ) → IsInRange 48 57 b → digitValue b ≡ b - 48
digit_value b h = grind (arith, nat_tests)

-- digits in the words of parsing
pub all_digits : (ds : List ℕ) → list_all is_ascii_digit ds ≡ true → AllDigits 10 ds
all_digits [] h = tt
all_digits (b ∷ ds) h =
    let each = and_parts (is_ascii_digit b) (list_all is_ascii_digit ds) h in
    (grind (arith, nat_tests, each.0), all_digits ds each.1)

digits_take : (ds : List ℕ) (n : ℕ) → AllDigits 10 ds → AllDigits 10 (take n ds)
digits_take [] n d = subst (AllDigits 10) (sym (take-nil n)) tt
digits_take (b ∷ ds) zero d = tt
digits_take (b ∷ ds) (suc n) d = (d.0, digits_take ds n d.1)

value_small : (ds : List ℕ) → length ds ≤ 10 → AllDigits 10 ds → digits_value 10 ds < 10 ^ 10
value_small ds h d = lt_of_lt_of_le (digits_value-lt 10 ds d) (pow-le-pow_right (omega arith) h)

-- what one more digit asks for and gives, sum being the value of the first i
pub record OneMore (ds : List ℕ) (i sum : ℕ) : Type 0 where
  pub small : sum < 10 ^ 10
  pub digit : IsInRange 48 57 (get_or ds i 0)
  pub next : sum * 10 + (get_or ds i 0 - 48) ≡ digits_value 10 (take (i + 1) ds)

pub one_more : (ds : List ℕ) (i sum : ℕ) → length ds ≤ 10 → AllDigits 10 ds → i < length ds → sum ≡ digits_value 10 (take i ds) → OneMore ds i sum
one_more ds i sum few d h e =
    let digit = digit_at ds i d h in
    let small = value_small (take i ds) (simp length-take (omega arith)) (digits_take ds i d) in
    record {
      small = omega arith;
      digit = digit;
      next = omega (arith, digits_value_more 10 ds i h, digit_value (get_or ds i 0) digit);
    }
