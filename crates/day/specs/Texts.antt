-- The text of each answer, as bytes.
use Rattle.std.specs.Prelude.{ℕ, List, ◌++◌, codes, decimal}
use Rattle.orders.specs.Numbers.{number_of}
use Rattle.orders.specs.declared.refusal.Refusal.TheVariants.{Text}
use Rattle.day.specs.declared.answer.Answer.{Answer}
use Rattle.day.specs.declared.answer.Answer.TheVariants.{Ready, Done, Refused, Bad, Open}

abbrev pub text_of : Answer → List ℕ
text_of Ready = codes "ready"
text_of (Done e) = codes "ok " ++ (decimal e.added ++ (codes " " ++ decimal e.taken_off))
text_of (Refused r) = codes "no " ++ decimal (number_of r)
text_of (Bad place) = codes "bad " ++ (decimal (number_of Text) ++ (codes " " ++ decimal place))
text_of (Open f) = codes "open " ++ (decimal f.orders ++ (codes " " ++ decimal f.shares))
