-- The answers that faults and results make.
use Rattle.std.specs.Prelude.{Ok, Err, Result}
use Rattle.orders.specs.declared.refusal.Refusal.{Refusal}
use Rattle.orders.specs.declared.refusal.Refusal.TheVariants as refusal
use Rattle.instructions.specs.declared.effect.Effect.{Effect}
use Rattle.day_lines.specs.Faults.{place_of}
use Rattle.day_lines.specs.declared.fault.DayFault.{DayFault}
use Rattle.day_lines.specs.declared.fault.DayFault.TheVariants as fault
use Rattle.day.specs.declared.answer.Answer.{Answer}
use Rattle.day.specs.declared.answer.Answer.TheVariants.{Done, Refused, Bad}

abbrev pub fault_answer : DayFault → Answer
fault_answer (fault.Line f) = Bad (place_of f)
fault_answer fault.WrongPhase = Refused refusal.WrongPhase

abbrev pub effect_answer : Result Effect Refusal → Answer
effect_answer (Ok e) = Done e
effect_answer (Err r) = Refused r
