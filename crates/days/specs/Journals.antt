-- What a journal tells.
use Rattle.std.specs.Prelude.{◌≡◌, ℕ, ◌+◌, ◌-◌, ◌*◌, ◌^◌, ◌≤◌, Bool, true, ◌&&◌, List, [], ◌∷◌, take, drop, min, vec_items, vec_len, vec_capacity, nat_le, nat_lt}
use Rattle.orders.specs.declared.terms.Terms.{Terms}
use Rattle.settling.specs.declared.fill.Fill.{Fill}
use Rattle.locked_stock.specs.declared.receipt.Receipt.{Receipt}
use Rattle.days.specs.Counts.{stops_in, fills_in, receipts_in}
use Rattle.days.specs.Days.{Entry}
use Rattle.days.specs.declared.journal.Journal.{Journal}
use Rattle.days.specs.declared.note.Note.{Note}

-- a note with the first of what was triggered, filled and told by receipts, as many as its answer says
abbrev pub entry_with : Note → List Terms → List Fill → List Receipt → Entry
entry_with n ts fs rs =
    record {
      call = n.call;
      answer = n.answer;
      triggered = take (stops_in n.answer) ts;
      fills = take (fills_in n.answer) fs;
      receipts = take (receipts_in n.answer) rs;
    }

-- the entries that notes tell, each with its own part of the three lists
abbrev pub entries_of : List Note → List Terms → List Fill → List Receipt → List Entry
entries_of [] ts fs rs = []
entries_of (n ∷ ns) ts fs rs =
    entry_with n ts fs rs ∷ entries_of ns (drop (stops_in n.answer) ts) (drop (fills_in n.answer) fs) (drop (receipts_in n.answer) rs)

-- the record that a journal tells
abbrev pub told_by : Journal → List Entry
told_by j = entries_of (vec_items j.notes) (vec_items j.triggered) (vec_items j.fills) (vec_items j.receipts)

-- the lists of a journal
abbrev pub notes_in : Journal → List Note
notes_in j = vec_items j.notes

abbrev pub triggered_in : Journal → List Terms
triggered_in j = vec_items j.triggered

abbrev pub all_fills : Journal → List Fill
all_fills j = vec_items j.fills

abbrev pub all_receipts : Journal → List Receipt
all_receipts j = vec_items j.receipts

-- there is room for one more call, whatever it triggers, fills and tells
abbrev pub has_room : Journal → Bool
has_room j =
    nat_lt (vec_len j.notes) (vec_capacity j.notes)
    && nat_le (vec_len j.triggered + 256) (vec_capacity j.triggered)
    && nat_le (vec_len j.fills + 256) (vec_capacity j.fills)
    && nat_le (vec_len j.receipts + 256) (vec_capacity j.receipts)

-- the most that each list can get from so many matches and lifts, and from one more, as far as a length goes
abbrev pub most_listed : ℕ → ℕ
most_listed endings = min ((endings + 1) * 256) (2 ^ 64 - 1)

-- an empty journal with room for so many calls, for whatever the first of them triggers, fills and tells, and for what so many matches and lifts do
pub record EmptyFor (calls endings : ℕ) (j : Journal) : Type 0 where
  pub told : told_by j ≡ []
  pub calls_fit : calls ≤ vec_capacity j.notes
  pub first_fits : 1 ≤ calls → has_room j ≡ true
  pub triggered_fit : most_listed endings ≤ vec_capacity j.triggered
  pub fills_fit : most_listed endings ≤ vec_capacity j.fills
  pub receipts_fit : most_listed endings ≤ vec_capacity j.receipts
