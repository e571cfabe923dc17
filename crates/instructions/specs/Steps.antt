-- What the steps of the code answer.
use Rattle.std.specs.Prelude.{ℕ, cond, Some, None, Ok, Err, Option, Result, ◌==◌}
use Rattle.orders.specs.declared.refusal.Refusal.{Refusal}
use Rattle.orders.specs.declared.refusal.Refusal.TheVariants.{NumberUnknown, OtherParticipant}
use Rattle.orders.specs.declared.terms.Terms.{Terms}

-- the order that was found, if it is the participant's own
abbrev pub owned : ℕ → Option Terms → Result Terms Refusal
owned p None = Err NumberUnknown
owned p (Some t) = cond (t.participant == p) (Ok t) (Err OtherParticipant)
