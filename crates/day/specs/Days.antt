-- A day, line by line.
use Rattle.std.specs.Prelude.{ℕ, List, Some, None, Ok, Err, Option, Result}
use Rattle.std.specs.Result.{result_map_both}
use Rattle.orders.specs.Ticks.{Grid, settings_answer}
use Rattle.orders.specs.declared.refusal.Refusal.TheVariants as refusal
use Rattle.orders.specs.declared.terms.Terms.{Terms}
use Rattle.book.specs.Figures.{open_figure}
use Rattle.engine.specs.PreCalls.{grid_under, sent_answer, sent_book}
use Rattle.day_lines.specs.Grammar.{day_line}
use Rattle.day_lines.specs.declared.fault.DayFault.{DayFault}
use Rattle.day_lines.specs.declared.line.Line.{Line}
use Rattle.day_lines.specs.declared.line.Line.TheVariants as says
use Rattle.day_lines.specs.declared.stage.Stage.TheVariants as stage
use Rattle.day.specs.Answers.{fault_answer, effect_answer}
use Rattle.day.specs.declared.answer.Answer.{Answer}
use Rattle.day.specs.declared.answer.Answer.TheVariants.{Ready, Refused, Open}
use Rattle.day.specs.declared.phase.Phase.{Phase}
use Rattle.day.specs.declared.phase.Phase.TheVariants as phase

-- a day before its first line, in pre-call on a grid, or over since its first line was not accepted
pub data State : Type 0 where
  opening : State
  pre_call : Grid → State
  over : State

abbrev pub state_of : Phase → State
state_of phase.Opening = opening
state_of (phase.PreCall p) = pre_call (grid_under p)
state_of phase.Over = over

-- what a line does: its answer, none once the day is over, and the state and the book after it
pub record Step : Type 0 where
  pub answer : Option Answer
  pub state : State
  pub book : List Terms

-- the grid that the first line sets, or the answer to one that is not accepted
abbrev pub settled : Result Line DayFault → Result Grid Answer
settled (Ok (says.Settings lot class)) = result_map_both (λ g. g) Refused (settings_answer lot class)
settled (Ok (says.Instruction i)) = Err (Refused refusal.WrongPhase)
settled (Err f) = Err (fault_answer f)

abbrev pub opened_by : Result Grid Answer → List Terms → Step
opened_by (Ok g) ts = record { answer = Some Ready; state = pre_call g; book = ts }
opened_by (Err a) ts = record { answer = Some a; state = over; book = ts }

-- a later line, on a grid and at a capacity
abbrev pub carried_by : Grid → ℕ → Result Line DayFault → List Terms → Step
carried_by g room (Ok (says.Settings lot class)) ts = record { answer = Some (Refused refusal.WrongPhase); state = pre_call g; book = ts }
carried_by g room (Ok (says.Instruction i)) ts = record { answer = Some (effect_answer (sent_answer g room i ts)); state = pre_call g; book = sent_book g room i ts }
carried_by g room (Err f) ts = record { answer = Some (fault_answer f); state = pre_call g; book = ts }

-- one line of a day, by the capacity of its store
abbrev pub day_step : ℕ → State → List Terms → List ℕ → Step
day_step room opening ts line = opened_by (settled (day_line stage.Opening line)) ts
day_step room (pre_call g) ts line = carried_by g room (day_line stage.PreCall line) ts
day_step room over ts line = record { answer = None; state = over; book = ts }

-- what the end of the input prints: nothing where no day was opened
abbrev pub closing_answer : State → List Terms → Option Answer
closing_answer opening ts = None
closing_answer (pre_call g) ts = Some (Open (open_figure ts))
closing_answer over ts = None
