-- What every line of a day gives.
use Rattle.std.specs.Prelude.{◌≡◌, ℕ, List, Some, None, Option}
use Rattle.orders.specs.declared.terms.Terms.{Terms}
use Rattle.day.specs.Days.{State, day_step}
use Rattle.day.specs.declared.answer.Answer.{Answer}
use Rattle.day.specs.declared.answer.Answer.TheVariants.{Ready, Done, Refused, Bad, Open}

-- a line that is not answered by ok leaves the book as it was
abbrev pub ChangedByOkAlone : Option Answer → List Terms → List Terms → Type 0
ChangedByOkAlone (Some (Done e)) before after = Unit {0}
ChangedByOkAlone (Some Ready) before after = after ≡ before
ChangedByOkAlone (Some (Refused r)) before after = after ≡ before
ChangedByOkAlone (Some (Bad place)) before after = after ≡ before
ChangedByOkAlone (Some (Open f)) before after = after ≡ before
ChangedByOkAlone None before after = after ≡ before

-- a line at a capacity, a state and a book: its answer, and the capacity, the state and the book after it
pub record Stepped (room : ℕ) (before : State) (book : List Terms) (line : List ℕ) (answer : Option Answer) (room_after : ℕ) (after : State) (book_after : List Terms) : Type 0 where
  pub value : answer ≡ (day_step room before book line).answer
  pub state : after ≡ (day_step room before book line).state
  pub orders : book_after ≡ (day_step room before book line).book
  pub same : room_after ≡ room
  pub keeps : ChangedByOkAlone answer book book_after
