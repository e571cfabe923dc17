-- The values of the code by the words of the fields.
use Rattle.std.specs.Prelude.{ℕ, Result}
use Rattle.std.specs.Result.{result_map_both}
use Rattle.day_lines.specs.Fields.{Token, digit_run, other_byte, line_end}
use Rattle.day_lines.specs.declared.field.Field.{Field}
use Rattle.day_lines.specs.declared.field.Field.TheVariants.{Number, Letter, End}

-- a field without its place
abbrev pub token_of : Field → Token
token_of (Number ds p) = digit_run ds.bytes.now
token_of (Letter b p) = other_byte b
token_of (End p) = line_end

-- the place of a field
abbrev pub stands_at : Field → ℕ
stands_at (Number ds p) = p
stands_at (Letter b p) = p
stands_at (End p) = p

-- what a reading gave, with the number of bytes that the cursor has then passed
abbrev pub left_at : {A E : Type 0} → Result A E → ℕ → Result (A × ℕ) E
left_at r p = result_map_both (λ x. (x, p)) (λ e. e) r
