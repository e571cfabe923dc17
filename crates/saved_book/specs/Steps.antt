-- What only the steps of the code need.
use Rattle.std.specs.Prelude.{ℕ, ◌+◌, ◌*◌, ◌^◌, ◌<◌, Bool, cond, List, ◌++◌, length, take, drop, Some, None, Ok, Err, Option, Result, ◌==◌}
use Rattle.std.specs.List.{list_any, range_with_len}
use Rattle.orders.specs.declared.refusal.Refusal.TheVariants.{NumberHeld}
use Rattle.orders.specs.declared.terms.Terms.{Terms}
use Rattle.saved_book.specs.Decoding.{four_at, laid_out}
use Rattle.saved_book.specs.declared.fault.RecordFault.{RecordFault}
use Rattle.saved_book.specs.declared.fault.RecordFault.TheVariants.{Refused}

-- a list with a part laid over it from a place on
abbrev pub laid : ℕ → List ℕ → List ℕ → List ℕ
laid at part xs = take at xs ++ (part ++ drop (at + length part) xs)

-- some record before k has the number
abbrev pub numbered_before : List ℕ → ℕ → ℕ → Bool
numbered_before bs m k = list_any (λ j. four_at bs (8 + 4 * j) == m) (range_with_len 0 k)

-- a record is good if none before it has its number
abbrev pub alone : List ℕ → ℕ → Result Terms RecordFault → Result (Unit {0}) RecordFault
alone bs k (Ok t) = cond (numbered_before bs t.number k) (Err (Refused NumberHeld)) (Ok tt)
alone bs k (Err f) = Err f

-- the count that the head says, if the layout fits
abbrev pub head_count : List ℕ → Option ℕ
head_count bs = cond (laid_out bs) (Some (four_at bs 0)) None

-- the number and the participant of an order fit their bytes
abbrev pub FitsItsBytes : Terms → Type 0
FitsItsBytes t = (t.number < 2 ^ 32) × (t.participant < 2 ^ 16)
