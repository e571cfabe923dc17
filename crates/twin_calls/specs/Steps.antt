-- The twin's calls, note by note.
use Rattle.std.specs.Prelude.{◌≡◌, List, [], ◌∷◌, ◌++◌, map, take}
use Rattle.days.specs.Counts.{receipts_in}
use Rattle.days.specs.Delayed.{Where, outside, inside, moved_on}
use Rattle.days.specs.declared.answer.Answer.{Answer}
use Rattle.days.specs.declared.answer.Answer.TheVariants.{Done, Held, Frozen, Matched, Lifted, Refused}
use Rattle.days.specs.declared.call.Call.{Call}
use Rattle.days.specs.declared.call.Call.TheVariants.{Send, Freeze, Match, Lift}
use Rattle.days.specs.declared.note.Note.{Note}
use Rattle.twin_calls.specs.declared.Place.{Place}
use Rattle.twin_calls.specs.declared.Place.TheVariants as place

-- where a day is: in a freeze with what it holds, or in none
abbrev pub where_of : Place → Where
where_of (place.PreCall spare) = outside
where_of (place.Frozen held) = inside held.items

-- a call of a freeze, if it is no instruction
abbrev pub kept : Call → List Call
kept (Send i) = []
kept Freeze = Freeze ∷ []
kept (Match q f n) = Match q f n ∷ []
kept (Lift n) = Lift n ∷ []

-- what the twin calls in the place of a call with its answer
abbrev pub twin_of : Where → Call → Answer → List Call
twin_of outside c a = c ∷ []
twin_of (inside held) c (Done x) = kept c
twin_of (inside held) c Held = []
twin_of (inside held) c Frozen = kept c
twin_of (inside held) c (Matched m) = c ∷ map Send (take (receipts_in (Matched m)) held)
twin_of (inside held) c (Lifted n) = c ∷ map Send (take n held)
twin_of (inside held) c (Refused x) = kept c

abbrev pub twin_from : Where → List Note → List Call
twin_from w [] = []
twin_from w (n ∷ ns) = twin_of w n.call n.answer ++ twin_from (moved_on w n.call n.answer) ns

-- one note: the twin's calls before and after it, and where the day is then
pub record Noted (w : Where) (n : Note) (before after : List Call) (w' : Where) : Type 0 where
  pub told : after ≡ before ++ twin_of w n.call n.answer
  pub place : w' ≡ moved_on w n.call n.answer
