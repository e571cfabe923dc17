-- A line that is not answered by ok leaves the book as it was.
use Rattle.std.proofs.Common.{◌≡◌, ℕ, List, Some, None, Ok, Err, Option, Result, sym, refl, subst}
use Rattle.orders.specs.Checks.{checked}
use Rattle.orders.specs.Ticks.{Grid}
use Rattle.orders.specs.declared.instruction.Instruction.{Instruction}
use Rattle.orders.specs.declared.refusal.Refusal.{Refusal}
use Rattle.orders.specs.declared.terms.Terms.{Terms}
use Rattle.orders.specs.Answers.{answered, left}
use Rattle.instructions.specs.Effects.{fault, effect, changed}
use Rattle.instructions.specs.declared.effect.Effect.{Effect}
use Rattle.engine.specs.PreCalls.{answer_once, book_once}
use Rattle.day_lines.specs.Grammar.{day_line}
use Rattle.day_lines.specs.declared.fault.DayFault.{DayFault}
use Rattle.day_lines.specs.declared.line.Line.{Line}
use Rattle.day_lines.specs.declared.line.Line.TheVariants as says
use Rattle.day_lines.specs.declared.stage.Stage.TheVariants as stage
use Rattle.day.specs.Answers.{effect_answer}
use Rattle.day.specs.Days.{State, opening, pre_call, over, settled, opened_by, carried_by, day_step}
use Rattle.day.specs.Laws.{ChangedByOkAlone, Stepped}
use Rattle.day.specs.declared.answer.Answer.{Answer}
use Rattle.day.specs.declared.answer.Answer.TheVariants.{Ready, Done, Refused, Bad, Open}

unchanged : (a : Answer) (ts : List Terms) → ChangedByOkAlone (Some a) ts ts
unchanged Ready ts = refl
unchanged (Done e) ts = tt
unchanged (Refused r) ts = refl
unchanged (Bad place) ts = refl
unchanged (Open f) ts = refl

by_fault : (f : Option Refusal) (e : Effect) (ts us : List Terms) → ChangedByOkAlone (Some (effect_answer (answered f e))) ts (left f ts us)
by_fault None e ts us = tt
by_fault (Some r) e ts us = refl

by_check : (r : Result (Instruction Terms) Refusal) (room : ℕ) (ts : List Terms) → ChangedByOkAlone (Some (effect_answer (answer_once r room ts))) ts (book_once r room ts)
by_check (Ok i) room ts = by_fault (fault room i ts) (effect i ts) ts (changed i ts)
by_check (Err e) room ts = refl

by_opening : (r : Result Grid Answer) (ts : List Terms) → ChangedByOkAlone (opened_by r ts).answer ts (opened_by r ts).book
by_opening (Ok g) ts = refl
by_opening (Err a) ts = unchanged a ts

by_line : (g : Grid) (room : ℕ) (l : Result Line DayFault) (ts : List Terms) → ChangedByOkAlone (carried_by g room l ts).answer ts (carried_by g room l ts).book
by_line g room (Ok (says.Settings lot class)) ts = refl
by_line g room (Ok (says.Instruction i)) ts = by_check (checked g i) room ts
by_line g room (Err f) ts = unchanged _ ts

keeps : (room : ℕ) (s : State) (ts : List Terms) (line : List ℕ) → ChangedByOkAlone (day_step room s ts line).answer ts (day_step room s ts line).book
keeps room opening ts line = by_opening (settled (day_line stage.Opening line)) ts
keeps room (pre_call g) ts line = by_line g room (day_line stage.PreCall line) ts
keeps room over ts line = refl

-- a step, under the name that a match gave its state
pub stepped : (room : ℕ) (s named : State) (ts : List Terms) (line : List ℕ) (answer : Option Answer) (room_after : ℕ) (after : State) (us : List Terms) → s ≡ named → answer ≡ (day_step room named ts line).answer → after ≡ (day_step room named ts line).state → us ≡ (day_step room named ts line).book → room_after ≡ room → Stepped room s ts line answer room_after after us
stepped room s named ts line answer room_after after us e v w b r =
    subst (λ x. Stepped room x ts line answer room_after after us) (sym e)
    (record {
      value = v;
      state = w;
      orders = b;
      same = r;
      keeps = subst (λ x. ChangedByOkAlone x ts us) (sym v) (subst (λ x. ChangedByOkAlone (day_step room named ts line).answer ts x) (sym b) (keeps room named ts line));
    })

pub opened_book : (r : Result Grid Answer) (ts : List Terms) → (opened_by r ts).book ≡ ts
opened_book (Ok g) ts = refl
opened_book (Err a) ts = refl

pub carried_state : (g : Grid) (room : ℕ) (l : Result Line DayFault) (ts : List Terms) → (carried_by g room l ts).state ≡ pre_call g
carried_state g room (Ok (says.Settings lot class)) ts = refl
carried_state g room (Ok (says.Instruction i)) ts = refl
carried_state g room (Err f) ts = refl
