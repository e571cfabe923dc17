-- What a cursor passes.
use Rattle.std.specs.Prelude.{◌≡◌, ℕ, List, Result}
use Rattle.day_lines.specs.Steps.{left_at}
use Rattle.day_lines.specs.declared.cursor.Cursor.{Cursor}
use Rattle.day_lines.specs.declared.fault.FieldFault.{FieldFault}

-- a reading stays on the line, and passes what a definition says
abbrev pub Passes : {A : Type 0} → (List ℕ → ℕ → Result (A × ℕ) FieldFault) → Cursor → Result A FieldFault → Cursor → Type 0
Passes reading c r after = (after.line ≡ c.line) × (left_at r after.at ≡ reading c.line.now c.at)
