-- Every fault of the text has a place in the line.
use Rattle.std.proofs.Common.{ℕ, ◌+◌, ◌≤◌, cond, ◌&&◌, eqb, ltb, leb, List, length, IfErr, Some, None, Ok, Err, Option, Result, arith, MatchResult}
use Rattle.std.proofs.lemmas.Bool.{cond_both, ltb-true}
use Rattle.std.specs.Option.{ok_or}
use Rattle.std.specs.Str.Parse.{digits_value}
use Rattle.day_lines.proofs.Tokens.{token_fits}
use Rattle.day_lines.specs.Faults.{fault_at, place_of}
use Rattle.day_lines.specs.Fields.{Token, digit_run, other_byte, line_end, token_length, token_after, and_then, number_at, letter_at, next_number, next_letter, next_named, spaced, space_named, side_named, type_named, largest, largest_short}
use Rattle.day_lines.specs.Grammar.{raised, field_then, line_ended, settings_line, ticket_line, delete_line, line_named, line_text, admitted, day_line}
use Rattle.day_lines.specs.Laws.{PlaceIn, Placed}
use Rattle.day_lines.specs.declared.fault.Cause.TheVariants.{Unexpected, TooLarge}
use Rattle.day_lines.specs.declared.fault.DayFault.TheVariants as day
use Rattle.day_lines.specs.declared.fault.FieldFault.{FieldFault}
use Rattle.day_lines.specs.declared.fault.LineFault.{LineFault}
use Rattle.day_lines.specs.declared.fault.LineFault.TheVariants.{Longer}
use Rattle.day_lines.specs.declared.line.Line.{Line}
use Rattle.day_lines.specs.declared.stage.Stage.{Stage}

then_cases : {A B E : Type 0} (P : A → Type 0) (Q : B → Type 0) (R : E → Type 0) (r : Result A E) (k : A → Result B E) → MatchResult r P R → ((x : A) → P x → MatchResult (k x) Q R) → MatchResult (and_then r k) Q R
then_cases P Q R (Ok x) k h g = g x h
then_cases P Q R (Err e) k h g = h

module _ (line : List ℕ) where
  -- some bytes are passed, and no more than there are
  abbrev Passed : ℕ → Type 0
  Passed p = (1 ≤ p) × (p ≤ length line)

  -- a reading passes bytes of the line, and its fault has a place there
  abbrev FieldPlaced : {A : Type 0} → Result (A × ℕ) FieldFault → Type 0
  FieldPlaced r = MatchResult r (λ x. Passed x.1) (λ e. PlaceIn line e.place)

  abbrev LinePlaced : {A : Type 0} → Result A LineFault → Type 0
  LinePlaced r = IfErr r (λ f. PlaceIn line (place_of f))

  number_placed : (max p : ℕ) → Passed p → (t : Token) → p + token_length t ≤ length line → FieldPlaced (and_then (number_at max (p + 1) t) (λ n. Ok (n, p + token_length t)))
  number_placed max p h (digit_run ds) f =
      cond_both (leb (length ds) 10 && leb (digits_value 10 ds) max) (Ok (digits_value 10 ds)) (Err (fault_at TooLarge (p + 1))) (λ r. FieldPlaced (and_then r (λ n. Ok (n, p + length ds))))
      (λ _. (omega arith, f))
      (λ _. (omega arith, omega arith))
  number_placed max p h (other_byte b) f = (omega arith, omega arith)
  number_placed max p h line_end f = (omega arith, omega arith)

  next_number_placed : (max p : ℕ) → Passed p → FieldPlaced (next_number max line p)
  next_number_placed max p h = number_placed max p h (token_after line p) (token_fits line p h.1)

  letter_placed : (p : ℕ) → p ≤ length line → (t : Token) → p + token_length t ≤ length line → FieldPlaced (and_then (letter_at (p + 1) t) (λ b. Ok (b, p + 1)))
  letter_placed p h (digit_run ds) f = (omega arith, omega arith)
  letter_placed p h (other_byte b) f = (omega arith, f)
  letter_placed p h line_end f = (omega arith, omega arith)

  next_letter_placed : (p : ℕ) → p ≤ length line → FieldPlaced (next_letter line p)
  next_letter_placed p h = letter_placed p h (token_after line p) (token_fits line p h)

  named_placed : {A : Type 0} (o : Option A) (q : ℕ) → Passed q → FieldPlaced (and_then (ok_or o (fault_at Unexpected q)) (λ x. Ok (x, q)))
  named_placed (Some x) q h = h
  named_placed None q h = (h.0, omega arith)

  next_named_placed : {A : Type 0} (named : ℕ → Option A) (p : ℕ) → p ≤ length line → FieldPlaced (next_named named line p)
  next_named_placed {A} named p h =
      then_cases (λ b. Passed b.1) (λ x. Passed x.1) _ (next_letter line p) (λ b. and_then (ok_or (named b.0) (fault_at Unexpected b.1)) (λ x. Ok (x, b.1)))
      (next_letter_placed p h) (λ b f. named_placed (named b.0) b.1 f)

  spaced_placed : {A : Type 0} (next : List ℕ → ℕ → Result (A × ℕ) FieldFault) → ((p : ℕ) → Passed p → FieldPlaced (next line p)) → (p : ℕ) → Passed p → FieldPlaced (spaced next line p)
  spaced_placed next g p h = then_cases (λ s. Passed s.1) (λ x. Passed x.1) _ (next_named space_named line p) (λ s. next line s.1) (next_named_placed space_named p h.1) (λ s f. g s.1 f)

  spaced_number : (max p : ℕ) → Passed p → FieldPlaced (spaced (next_number max) line p)
  spaced_number max = spaced_placed (next_number max) (next_number_placed max)

  spaced_named : {A : Type 0} (named : ℕ → Option A) (p : ℕ) → Passed p → FieldPlaced (spaced (next_named named) line p)
  spaced_named named = spaced_placed (next_named named) (λ p h. next_named_placed named p h.1)

  field_then_placed : {A B : Type 0} (r : Result (A × ℕ) FieldFault) (k : A → ℕ → Result B LineFault) → FieldPlaced r → ((x : A) (p : ℕ) → Passed p → LinePlaced (k x p)) → LinePlaced (field_then r k)
  field_then_placed (Ok x) k h g = g x.0 x.1 h
  field_then_placed (Err e) k h g = h

  mapped_placed : {A B : Type 0} (r : Result A LineFault) (f : A → B) → LinePlaced r → LinePlaced (and_then r (λ x. Ok (f x)))
  mapped_placed (Ok x) f h = tt
  mapped_placed (Err e) f h = h

  ended_placed : (p : ℕ) → LinePlaced (line_ended line p)
  ended_placed p = cond_both (ltb p (length line)) (Err (Longer (p + 1))) (Ok tt) (λ r. LinePlaced r) (λ e. (omega arith, omega (arith, ltb-true p (length line) e))) (λ _. tt)

  last_placed : {A : Type 0} (x : A) (p : ℕ) → LinePlaced (and_then (line_ended line p) (λ _. Ok x))
  last_placed x p = mapped_placed (line_ended line p) (λ _. x) (ended_placed p)

  settings_placed : (p : ℕ) → Passed p → LinePlaced (settings_line line p)
  settings_placed p h =
      field_then_placed _ _ (spaced_number largest_short p h) (λ lot p h.
      field_then_placed _ _ (spaced_number largest p h) (λ class p h.
      last_placed _ p))

  ticket_placed : (p : ℕ) → Passed p → LinePlaced (ticket_line line p)
  ticket_placed p h =
      field_then_placed _ _ (spaced_number largest p h) (λ number p h.
      field_then_placed _ _ (spaced_number largest_short p h) (λ participant p h.
      field_then_placed _ _ (spaced_named side_named p h) (λ side p h.
      field_then_placed _ _ (spaced_named type_named p h) (λ kind p h.
      field_then_placed _ _ (spaced_number largest p h) (λ quantity p h.
      field_then_placed _ _ (spaced_number largest p h) (λ limit p h.
      field_then_placed _ _ (spaced_number largest p h) (λ stop p h.
      last_placed _ p)))))))

  delete_placed : (p : ℕ) → Passed p → LinePlaced (delete_line line p)
  delete_placed p h =
      field_then_placed _ _ (spaced_number largest p h) (λ number p h.
      field_then_placed _ _ (spaced_number largest_short p h) (λ participant p h.
      last_placed _ p))

  named_line_placed : (b p : ℕ) → Passed p → LinePlaced (line_named b line p)
  named_line_placed b p h =
      cond_both (eqb b 83) _ _ (λ r. LinePlaced r) (λ _. settings_placed p h) (λ _.
      cond_both (eqb b 69) _ _ (λ r. LinePlaced r) (λ _. mapped_placed _ _ (ticket_placed p h)) (λ _.
      cond_both (eqb b 67) _ _ (λ r. LinePlaced r) (λ _. mapped_placed _ _ (ticket_placed p h)) (λ _.
      cond_both (eqb b 68) _ _ (λ r. LinePlaced r) (λ _. mapped_placed _ _ (delete_placed p h)) (λ _.
      (omega arith, omega arith)))))

  text_placed : LinePlaced (line_text line)
  text_placed = field_then_placed _ _ (next_letter_placed 0 (omega arith)) (λ b p h. named_line_placed b p h)

  day_placed : (stage : Stage) (r : Result Line LineFault) → LinePlaced r → Placed line (and_then (raised day.Line r) (λ l. cond (admitted stage l) (Ok l) (Err day.WrongPhase)))
  day_placed stage (Ok l) h = cond_both (admitted stage l) _ _ (λ r. Placed line r) (λ _. tt) (λ _. tt)
  day_placed stage (Err f) h = h

pub placed : (stage : Stage) (line : List ℕ) → Placed line (day_line stage line)
placed stage line = day_placed line stage (line_text line) (text_placed line)
