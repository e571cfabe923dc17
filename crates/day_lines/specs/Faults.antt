-- Faults and their places, counted from 1.
use Rattle.std.specs.Prelude.{ℕ}
use Rattle.day_lines.specs.declared.fault.Cause.{Cause}
use Rattle.day_lines.specs.declared.fault.FieldFault.{FieldFault}
use Rattle.day_lines.specs.declared.fault.LineFault.{LineFault}
use Rattle.day_lines.specs.declared.fault.LineFault.TheVariants.{Field, Letter, Longer}

-- the fault of a field at a place
abbrev pub fault_at : Cause → ℕ → FieldFault
fault_at c place = record { cause = c; place = place }

-- where the fault of a line stands
abbrev pub place_of : LineFault → ℕ
place_of (Field f) = f.place
place_of (Letter p) = p
place_of (Longer p) = p
