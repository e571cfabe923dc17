-- The fields of a line. A reading starts after the first p bytes, and tells a fault by its place, counted from 1.
use Rattle.std.specs.Prelude.{ℕ, ◌+◌, cond, ◌&&◌, List, [], ◌∷◌, length, take, drop, Some, None, Ok, Err, Option, Result, ◌==◌, nat_le}
use Rattle.std.specs.Option.{ok_or}
use Rattle.std.specs.Str.Parse.{digits_value}
use Rattle.std.specs.Char.{is_ascii_digit}
use Rattle.std.specs.List.{prefix_len}
use Rattle.day_lines.specs.Faults.{fault_at}
use Rattle.day_lines.specs.declared.fault.Cause.TheVariants.{Missing, Unexpected, TooLarge}
use Rattle.day_lines.specs.declared.fault.FieldFault.{FieldFault}
use Rattle.orders.specs.declared.terms.OrderType.{OrderType}
use Rattle.orders.specs.declared.terms.OrderType.TheVariants.{Market, Limit, StopMarket, StopLimit}
use Rattle.orders.specs.declared.terms.Side.{Side}
use Rattle.orders.specs.declared.terms.Side.TheVariants.{Buy, Sell}

-- what stands in front of a text: all the digits there are, any other byte, or nothing
pub data Token : Type 0 where
  digit_run : List ℕ → Token
  other_byte : ℕ → Token
  line_end : Token

-- the token in front of a text
abbrev pub first_token : List ℕ → Token
first_token [] = line_end
first_token (b ∷ bs) = cond (is_ascii_digit b) (digit_run (take (prefix_len is_ascii_digit (b ∷ bs)) (b ∷ bs))) (other_byte b)

-- the token after p bytes of a line
abbrev pub token_after : List ℕ → ℕ → Token
token_after line p = first_token (drop p line)

-- how many bytes a token has
abbrev pub token_length : Token → ℕ
token_length (digit_run ds) = length ds
token_length (other_byte b) = 1
token_length line_end = 0

-- the number of a token: at most ten digits, and at most max
abbrev pub number_at : ℕ → ℕ → Token → Result ℕ FieldFault
number_at max place (digit_run ds) = cond (nat_le (length ds) 10 && nat_le (digits_value 10 ds) max) (Ok (digits_value 10 ds)) (Err (fault_at TooLarge place))
number_at max place (other_byte b) = Err (fault_at Unexpected place)
number_at max place line_end = Err (fault_at Missing place)

-- the letter of a token
abbrev pub letter_at : ℕ → Token → Result ℕ FieldFault
letter_at place (digit_run ds) = Err (fault_at Unexpected place)
letter_at place (other_byte b) = Ok b
letter_at place line_end = Err (fault_at Missing place)

-- a reading, and then one that goes on from what it gave
abbrev pub and_then : {A B E : Type 0} → Result A E → (A → Result B E) → Result B E
and_then (Ok x) k = k x
and_then (Err e) k = Err e

-- A reading after p bytes gives what it has read, with the number of bytes that are then passed.

-- the next number, of at most max
abbrev pub next_number : ℕ → List ℕ → ℕ → Result (ℕ × ℕ) FieldFault
next_number max line p = and_then (number_at max (p + 1) (token_after line p)) (λ n. Ok (n, p + token_length (token_after line p)))

-- the next letter
abbrev pub next_letter : List ℕ → ℕ → Result (ℕ × ℕ) FieldFault
next_letter line p = and_then (letter_at (p + 1) (token_after line p)) (λ b. Ok (b, p + 1))

-- what the next letter stands for
abbrev pub next_named : {A : Type 0} → (ℕ → Option A) → List ℕ → ℕ → Result (A × ℕ) FieldFault
next_named named line p =
    and_then (next_letter line p) (λ b.
    and_then (ok_or (named b.0) (fault_at Unexpected b.1)) (λ x.
    Ok (x, b.1)))

-- B and S
abbrev pub side_letter : Side → ℕ
side_letter Buy = 66
side_letter Sell = 83

-- M, L, P and Q
abbrev pub type_letter : OrderType → ℕ
type_letter Market = 77
type_letter Limit = 76
type_letter StopMarket = 80
type_letter StopLimit = 81

-- what a byte stands for: a side, the type of an order, the space (32) before a field
abbrev pub side_named : ℕ → Option Side
side_named b =
    cond (b == side_letter Buy) (Some Buy)
    (cond (b == side_letter Sell) (Some Sell) None)

abbrev pub type_named : ℕ → Option OrderType
type_named b =
    cond (b == type_letter Market) (Some Market)
    (cond (b == type_letter Limit) (Some Limit)
    (cond (b == type_letter StopMarket) (Some StopMarket)
    (cond (b == type_letter StopLimit) (Some StopLimit) None)))

abbrev pub space_named : ℕ → Option (Unit {0})
space_named b = cond (b == 32) (Some tt) None

-- a space, and then a reading
abbrev pub spaced : {A : Type 0} → (List ℕ → ℕ → Result (A × ℕ) FieldFault) → List ℕ → ℕ → Result (A × ℕ) FieldFault
spaced next line p = and_then (next_named space_named line p) (λ s. next line s.1)

-- the most that a number may be, and the most that a lot or a participant may be
abbrev pub largest : ℕ
largest = 4294967295

abbrev pub largest_short : ℕ
largest_short = 65535

-- the fields of the lines
abbrev pub number_field : List ℕ → ℕ → Result (ℕ × ℕ) FieldFault
number_field line p = spaced (next_number largest) line p

abbrev pub short_field : List ℕ → ℕ → Result (ℕ × ℕ) FieldFault
short_field line p = spaced (next_number largest_short) line p

abbrev pub side_field : List ℕ → ℕ → Result (Side × ℕ) FieldFault
side_field line p = spaced (next_named side_named) line p

abbrev pub type_field : List ℕ → ℕ → Result (OrderType × ℕ) FieldFault
type_field line p = spaced (next_named type_named) line p
