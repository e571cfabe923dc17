-- The saved book of a list of orders, as bytes. Numbers have their least byte first.
use Rattle.std.specs.Prelude.{ℕ, ◌/◌, ◌%◌, List, [], ◌∷◌, ◌++◌, length}
use Rattle.std.specs.List.{flat_map}
use Rattle.std.specs.Option.{unwrap_or}
use Rattle.orders.specs.Forms.{type_of, limit_of, stop_of, side_code, type_code}
use Rattle.orders.specs.declared.terms.Terms.{Terms}

-- a number in two bytes
abbrev pub two : ℕ → List ℕ
two n = n % 256 ∷ n / 256 % 256 ∷ []

-- a number in four bytes
abbrev pub four : ℕ → List ℕ
four n = n % 256 ∷ n / 256 % 256 ∷ n / 65536 % 256 ∷ n / 16777216 % 256 ∷ []

abbrev pub number_bytes : Terms → List ℕ
number_bytes t = four t.number

-- a record: participant, side, kind, quantity, limit and stop limit, each 0 where the kind has none
abbrev pub record_bytes : Terms → List ℕ
record_bytes t =
    two t.participant ++ (side_code t.side ∷ type_code (type_of t.kind) ∷ (four t.quantity ++ (four (unwrap_or (limit_of t.kind) 0) ++ four (unwrap_or (stop_of t.kind) 0))))

-- the count, the size of a record, the order numbers, the records
abbrev pub encode : List Terms → List ℕ
encode ts = four (length ts) ++ (four 16 ++ (flat_map number_bytes ts ++ flat_map record_bytes ts))
