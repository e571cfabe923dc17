-- What is sent in a freeze does not reach its matches.
use Rattle.std.specs.Prelude.{◌≡◌, Bool, true, false, cond, not, List, [], ◌∷◌, ◌++◌, map, filter}
use Rattle.orders.specs.declared.terms.Terms.{Terms}
use Rattle.settling.specs.declared.fill.Fill.{Fill}
use Rattle.engine.specs.declared.matched.Matched.{Matched}
use Rattle.engine.specs.declared.matched.Matched.TheVariants.{Priced, Unpriced}
use Rattle.days.specs.Days.{Entry}
use Rattle.days.specs.declared.answer.Answer.{Answer}
use Rattle.days.specs.declared.answer.Answer.TheVariants as answer
use Rattle.days.specs.declared.call.Call.{Call}
use Rattle.days.specs.declared.call.Call.TheVariants.{Send, Freeze, Match, Lift}

abbrev pub calls : List Entry → List Call
calls day = map (λ e. e.call) day

abbrev pub is_instruction : Call → Bool
is_instruction (Send i) = true
is_instruction Freeze = false
is_instruction (Match q f n) = false
is_instruction (Lift n) = false

-- the calls that are no instructions
abbrev pub other_calls : List Call → List Call
other_calls cs = filter (λ c. not (is_instruction c)) cs

-- a match's answer, its receipts not counted
abbrev pub but_receipts : Matched → Matched
but_receipts (Priced p n z stops fills receipts) = Priced p n z stops fills 0
but_receipts (Unpriced stops fills receipts) = Unpriced stops fills 0

-- an answer, its receipts not counted
abbrev pub uncounted : Answer → Answer
uncounted (answer.Done e) = answer.Done e
uncounted answer.Held = answer.Held
uncounted answer.Frozen = answer.Frozen
uncounted (answer.Matched m) = answer.Matched (but_receipts m)
uncounted (answer.Lifted n) = answer.Lifted 0
uncounted (answer.Refused e) = answer.Refused e

-- matches are alike if these are the same
pub record MatchTold : Type 0 where
  pub answer : Answer
  pub triggered : List Terms
  pub fills : List Fill

-- what an entry tells of a match, if it is one
abbrev pub match_told : Entry → Call → List MatchTold
match_told e (Send i) = []
match_told e Freeze = []
match_told e (Match q f n) = record { answer = uncounted e.answer; triggered = e.triggered; fills = e.fills } ∷ []
match_told e (Lift n) = []

-- a match or a lift that is not refused ends the freeze
abbrev pub ends_freeze : Answer → Bool
ends_freeze (answer.Done e) = false
ends_freeze answer.Held = false
ends_freeze answer.Frozen = false
ends_freeze (answer.Matched m) = true
ends_freeze (answer.Lifted n) = true
ends_freeze (answer.Refused e) = false

-- the matches up to the end of the freeze, refused ones too
abbrev pub freeze_matches : List Entry → List MatchTold
freeze_matches [] = []
freeze_matches (e ∷ day) = match_told e e.call ++ cond (ends_freeze e.answer) [] (freeze_matches day)

-- two days that agree in their calls up to a freeze, and in it but for instructions, have alike matches in it
abbrev pub SealedFreeze : List Entry → List Entry → Type 0
SealedFreeze one two =
    (before before' inside inside' later later' : List Entry) (freeze freeze' : Entry) →
    one ≡ before ++ freeze ∷ (inside ++ later) →
    two ≡ before' ++ freeze' ∷ (inside' ++ later') →
    freeze.call ≡ Freeze →
    freeze'.call ≡ Freeze →
    calls before ≡ calls before' →
    other_calls (calls inside) ≡ other_calls (calls inside') →
    freeze_matches inside ≡ freeze_matches inside'
