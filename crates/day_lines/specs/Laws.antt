-- What holds of the reading of every line.
use Rattle.std.specs.Prelude.{◌≡◌, ℕ, ◌+◌, ◌≤◌, true, List, length, Ok, Err, Result}
use Rattle.day_lines.specs.Faults.{place_of}
use Rattle.day_lines.specs.Grammar.{admitted, day_line}
use Rattle.day_lines.specs.Texts.{written, LineFits}
use Rattle.day_lines.specs.declared.fault.DayFault.{DayFault}
use Rattle.day_lines.specs.declared.fault.DayFault.TheVariants as day
use Rattle.day_lines.specs.declared.line.Line.{Line}
use Rattle.day_lines.specs.declared.stage.Stage.{Stage}

-- the place is that of a byte of the line, or one past its end
abbrev pub PlaceIn : List ℕ → ℕ → Type 0
PlaceIn line place = (1 ≤ place) × (place ≤ length line + 1)

-- a fault of the text has a place in the line
abbrev pub Placed : List ℕ → Result Line DayFault → Type 0
Placed line (Ok l) = Unit {0}
Placed line (Err (day.Line f)) = PlaceIn line (place_of f)
Placed line (Err day.WrongPhase) = Unit {0}

-- every line is read back from its text, where it may stand
abbrev pub ReadsBack : Type 0
ReadsBack = (stage : Stage) (l : Line) → LineFits l → admitted stage l ≡ true → day_line stage (written l) ≡ Ok l
