-- What a line says, by its letter and its fields, and where in a day it may stand.
use Rattle.std.specs.Prelude.{ℕ, ◌+◌, Bool, true, false, cond, List, length, Ok, Err, Result, ◌==◌, nat_lt}
use Rattle.std.specs.Result.{result_map_both}
use Rattle.day_lines.specs.Fields.{and_then, next_letter, number_field, short_field, side_field, type_field}
use Rattle.day_lines.specs.declared.fault.DayFault.{DayFault}
use Rattle.day_lines.specs.declared.fault.DayFault.TheVariants as day
use Rattle.day_lines.specs.declared.fault.FieldFault.{FieldFault}
use Rattle.day_lines.specs.declared.fault.LineFault.{LineFault}
use Rattle.day_lines.specs.declared.fault.LineFault.TheVariants.{Field, Letter, Longer}
use Rattle.day_lines.specs.declared.line.Line.{Line}
use Rattle.day_lines.specs.declared.line.Line.TheVariants as says
use Rattle.day_lines.specs.declared.stage.Stage.{Stage}
use Rattle.day_lines.specs.declared.stage.Stage.TheVariants.{Opening, PreCall}
use Rattle.orders.specs.declared.instruction.Instruction.{Instruction}
use Rattle.orders.specs.declared.instruction.Instruction.TheVariants.{Enter, Change, Delete}
use Rattle.orders.specs.declared.ticket.Ticket.{Ticket}

-- a result whose fault the layer above tells
abbrev pub raised : {A E F : Type 0} → (E → F) → Result A E → Result A F
raised f r = result_map_both (λ x. x) f r

-- a field, and then the rest of the line
abbrev pub field_then : {A B : Type 0} → Result (A × ℕ) FieldFault → (A → ℕ → Result B LineFault) → Result B LineFault
field_then r k = and_then (raised Field r) (λ x. k x.0 x.1)

-- nothing stands after the last field
abbrev pub line_ended : List ℕ → ℕ → Result (Unit {0}) LineFault
line_ended line p = cond (nat_lt p (length line)) (Err (Longer (p + 1))) (Ok tt)

-- S: lot class
abbrev pub settings_line : List ℕ → ℕ → Result Line LineFault
settings_line line p =
    field_then (short_field line p) (λ lot p.
    field_then (number_field line p) (λ class p.
    and_then (line_ended line p) (λ _.
    Ok (says.Settings lot class))))

-- E and C: number participant side type quantity limit stop
abbrev pub ticket_line : List ℕ → ℕ → Result Ticket LineFault
ticket_line line p =
    field_then (number_field line p) (λ number p.
    field_then (short_field line p) (λ participant p.
    field_then (side_field line p) (λ side p.
    field_then (type_field line p) (λ order_type p.
    field_then (number_field line p) (λ quantity p.
    field_then (number_field line p) (λ limit p.
    field_then (number_field line p) (λ stop p.
    and_then (line_ended line p) (λ _.
    Ok (record { number = number; participant = participant; side = side; order_type = order_type; quantity = quantity; limit = limit; stop = stop })))))))))

-- D: number participant
abbrev pub delete_line : List ℕ → ℕ → Result (Instruction Ticket) LineFault
delete_line line p =
    field_then (number_field line p) (λ number p.
    field_then (short_field line p) (λ participant p.
    and_then (line_ended line p) (λ _.
    Ok (Delete number participant))))

-- what a line says after its letter: S (83), E (69), C (67) or D (68)
abbrev pub line_named : ℕ → List ℕ → ℕ → Result Line LineFault
line_named b line p =
    cond (b == 83) (settings_line line p)
    (cond (b == 69) (and_then (ticket_line line p) (λ t. Ok (says.Instruction (Enter t))))
    (cond (b == 67) (and_then (ticket_line line p) (λ t. Ok (says.Instruction (Change t))))
    (cond (b == 68) (and_then (delete_line line p) (λ d. Ok (says.Instruction d)))
    (Err (Letter 1)))))

-- what a line says, or the first fault of its text
abbrev pub line_text : List ℕ → Result Line LineFault
line_text line = field_then (next_letter line 0) (λ b p. line_named b line p)

-- the settings stand in the first line of a day, and there alone
abbrev pub admitted : Stage → Line → Bool
admitted Opening (says.Settings lot class) = true
admitted Opening (says.Instruction i) = false
admitted PreCall (says.Settings lot class) = false
admitted PreCall (says.Instruction i) = true

-- what a line of the day says; a line out of place is told after every fault of its text
abbrev pub day_line : Stage → List ℕ → Result Line DayFault
day_line stage line = and_then (raised day.Line (line_text line)) (λ l. cond (admitted stage l) (Ok l) (Err day.WrongPhase))
