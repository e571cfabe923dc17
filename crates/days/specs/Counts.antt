-- How many orders were triggered, fills and receipts written, by the answer of a call.
use Rattle.std.specs.Prelude.{ℕ}
use Rattle.engine.specs.declared.matched.Matched.TheVariants.{Priced, Unpriced}
use Rattle.days.specs.declared.answer.Answer.{Answer}
use Rattle.days.specs.declared.answer.Answer.TheVariants.{Done, Held, Frozen, Matched, Lifted, Refused}
use Rattle.days.specs.declared.counts.Counts.{Counts}

-- nothing triggered, filled or told by receipts
abbrev pub none : Counts
none = record { stops = 0; fills = 0; receipts = 0 }

abbrev pub counts_in : Answer → Counts
counts_in (Done e) = none
counts_in Held = none
counts_in Frozen = none
counts_in (Matched (Priced p n z stops fills receipts)) = record { stops = stops; fills = fills; receipts = receipts }
counts_in (Matched (Unpriced stops fills receipts)) = record { stops = stops; fills = fills; receipts = receipts }
counts_in (Lifted n) = record { stops = 0; fills = 0; receipts = n }
counts_in (Refused e) = none

abbrev pub stops_in : Answer → ℕ
stops_in a = (counts_in a).stops

abbrev pub fills_in : Answer → ℕ
fills_in a = (counts_in a).fills

abbrev pub receipts_in : Answer → ℕ
receipts_in a = (counts_in a).receipts
