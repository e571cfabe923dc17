-- A line is read back from its text.
use Rattle.std.proofs.Common.{◌≡◌, ℕ, ◌+◌, ◌<◌, ◌≤◌, true, false, cond, ◌&&◌, ltb, leb, List, [], ◌∷◌, ◌++◌, length, drop, Some, Ok, Err, decimal, Option, Result, sym, refl, ap, ◌∙◌, arith}
use Rattle.std.proofs.lemmas.Fmt.{decimal_is_IsNumeral, length-decimal-le}
use Rattle.std.proofs.lemmas.List.{take_at, drop_at, drop-drop, length-drop}
use Rattle.std.proofs.lemmas.Bool.{and_from, cond-true, cond-false, le-leb, le-ltb}
use Rattle.std.proofs.lemmas.Bool.Decides.{nat_tests}
use Rattle.std.specs.Str.Parse.{AllDigits, IsNumeral, digits_value}
use Rattle.std.specs.Char.{is_ascii_digit, digit_value}
use Rattle.std.specs.List.{prefix_len}
use Rattle.day_lines.proofs.Tokens.{run_token}
use Rattle.day_lines.specs.Fields.{digit_run, other_byte, first_token, and_then, next_number, next_named, spaced, space_named, side_named, side_letter, type_named, type_letter, largest, largest_short}
use Rattle.day_lines.specs.Grammar.{field_then, line_ended, settings_line, ticket_line, delete_line, line_text, admitted, raised}
use Rattle.day_lines.specs.Laws.{ReadsBack}
use Rattle.day_lines.specs.Texts.{spaced_out, ticket_fields, written, TicketFits, LineFits}
use Rattle.day_lines.specs.declared.fault.DayFault.TheVariants as day
use Rattle.day_lines.specs.declared.fault.FieldFault.{FieldFault}
use Rattle.day_lines.specs.declared.fault.LineFault.{LineFault}
use Rattle.day_lines.specs.declared.line.Line.{Line}
use Rattle.day_lines.specs.declared.line.Line.TheVariants as says
use Rattle.orders.specs.declared.instruction.Instruction.TheVariants.{Enter, Change, Delete}
use Rattle.orders.specs.declared.terms.OrderType.{OrderType}
use Rattle.orders.specs.declared.terms.OrderType.TheVariants.{Market, Limit, StopMarket, StopLimit}
use Rattle.orders.specs.declared.terms.Side.{Side}
use Rattle.orders.specs.declared.terms.Side.TheVariants.{Buy, Sell}
use Rattle.orders.specs.declared.ticket.Ticket.{Ticket}

digit_byte : (b : ℕ) → digit_value b < 10 → is_ascii_digit b ≡ true
digit_byte b h = grind (arith, nat_tests)

-- digits before what begins with none
leading_run : (ds rest : List ℕ) → AllDigits 10 ds → prefix_len is_ascii_digit rest ≡ 0 → prefix_len is_ascii_digit (ds ++ rest) ≡ length ds
leading_run [] rest d e = e
leading_run (b ∷ ds) rest d e = cond-true (is_ascii_digit b) (1 + prefix_len is_ascii_digit (ds ++ rest)) 0 (digit_byte b d.0) ∙ omega (arith, leading_run ds rest d.1 e)

front_token : (ds rest : List ℕ) → IsNumeral 10 ds → prefix_len is_ascii_digit rest ≡ 0 → first_token (ds ++ rest) ≡ digit_run ds
front_token ds rest d e = sym (run_token (ds ++ rest) (length ds) (sym (leading_run ds rest d.1 e)) d.0).0 ∙ ap digit_run (take_at ds rest (length ds) refl)

-- the reading after p bytes gives x and leaves rest
record Gives {A : Type 0} (next : List ℕ → ℕ → Result (A × ℕ) FieldFault) (line : List ℕ) (p : ℕ) (x : A) (rest : List ℕ) : Type 0 where
  passed : ℕ
  gives : next line p ≡ Ok (x, passed)
  left : drop passed line ≡ rest

side_back : (s : Side) → (side_named (side_letter s) ≡ Some s) × (is_ascii_digit (side_letter s) ≡ false)
side_back Buy = (refl, refl)
side_back Sell = (refl, refl)

type_back : (o : OrderType) → (type_named (type_letter o) ≡ Some o) × (is_ascii_digit (type_letter o) ≡ false)
type_back Market = (refl, refl)
type_back Limit = (refl, refl)
type_back StopMarket = (refl, refl)
type_back StopLimit = (refl, refl)

no_digit_first : (fields : List (List ℕ)) → prefix_len is_ascii_digit (spaced_out fields) ≡ 0
no_digit_first [] = refl
no_digit_first (f ∷ fields) = refl

-- these fields stand after p bytes, and nothing more
record Left (line : List ℕ) (p : ℕ) (fields : List (List ℕ)) : Type 0 where
  is : drop p line ≡ spaced_out fields

module _ (line : List ℕ) where
  one_on : (p b : ℕ) (rest : List ℕ) → drop p line ≡ b ∷ rest → drop (p + 1) line ≡ rest
  one_on p b rest e = sym (drop-drop 1 p line) ∙ ap (drop 1) e

  named_gives : {A : Type 0} (named : ℕ → Option A) (p b : ℕ) (x : A) (rest : List ℕ) → (named b ≡ Some x) × (is_ascii_digit b ≡ false) → drop p line ≡ b ∷ rest → Gives (next_named named) line p x rest
  named_gives named p b x rest n e =
      let token : first_token (drop p line) ≡ other_byte b = ap first_token e ∙ cond-false (is_ascii_digit b) _ (other_byte b) n.1 in
      record { passed = p + 1; gives = rw (token, n.0); left = one_on p b rest e }

  number_gives : (max p n : ℕ) (rest : List ℕ) → n ≤ max → max ≤ largest → prefix_len is_ascii_digit rest ≡ 0 → drop p line ≡ decimal n ++ rest → Gives (next_number max) line p n rest
  number_gives max p n rest small bound r e =
      let ds = decimal n in
      let reads = decimal_is_IsNumeral n (omega arith) in
      let token : first_token (drop p line) ≡ digit_run ds = ap first_token e ∙ front_token ds rest reads.0 r in
      let few = length-decimal-le 10 n (omega arith) (omega arith) (omega arith) in
      let fits : (leb (length ds) 10 && leb (digits_value 10 ds) max) ≡ true = and_from _ _ (le-leb (length ds) 10 few) (le-leb (digits_value 10 ds) max (omega (arith, reads.1))) in
      record {
        passed = p + length ds;
        gives = rw (token, fits, reads.1);
        left = sym (drop-drop (length ds) p line) ∙ ap (drop (length ds)) e ∙ drop_at ds rest (length ds) refl;
      }

  spaced_gives : {A : Type 0} {x : A} {rest : List ℕ} (next : List ℕ → ℕ → Result (A × ℕ) FieldFault) (p : ℕ) (text : List ℕ) → drop p line ≡ 32 ∷ text → ((q : ℕ) → drop q line ≡ text → Gives next line q x rest) → Gives (spaced next) line p x rest
  spaced_gives next p text e g =
      let space = named_gives space_named p 32 tt text (refl, refl) e in
      let after = g space.passed space.left in
      record { passed = after.passed; gives = ap (λ s. and_then s (λ t. next line t.1)) space.gives ∙ after.gives; left = after.left }

  -- a field of the text, and then the rest of the line
  field_back : {A B : Type 0} {next : List ℕ → ℕ → Result (A × ℕ) FieldFault} {p : ℕ} {x : A} {fields : List (List ℕ)} (k : A → ℕ → Result B LineFault) (y : Result B LineFault) → Gives next line p x (spaced_out fields) → ((q : ℕ) → Left line q fields → k x q ≡ y) → field_then (next line p) k ≡ y
  field_back k y g h = ap (λ r. field_then r k) g.gives ∙ h g.passed (record { is = g.left })

  number_back : {B : Type 0} {p : ℕ} {fields : List (List ℕ)} (max n : ℕ) (k : ℕ → ℕ → Result B LineFault) (y : Result B LineFault) → n ≤ max → max ≤ largest → Left line p (decimal n ∷ fields) → ((q : ℕ) → Left line q fields → k n q ≡ y) → field_then (spaced (next_number max) line p) k ≡ y
  number_back {p} {fields} max n k y small fits e =
      field_back k y (spaced_gives (next_number max) p _ e.is (λ q e. number_gives max q n (spaced_out fields) small fits (no_digit_first fields) e))

  named_back : {A B : Type 0} {p b : ℕ} {x : A} {fields : List (List ℕ)} (named : ℕ → Option A) (k : A → ℕ → Result B LineFault) (y : Result B LineFault) → (named b ≡ Some x) × (is_ascii_digit b ≡ false) → Left line p ((b ∷ []) ∷ fields) → ((q : ℕ) → Left line q fields → k x q ≡ y) → field_then (spaced (next_named named) line p) k ≡ y
  named_back {p} {b} {x} {fields} named k y n e =
      field_back k y (spaced_gives (next_named named) p _ e.is (λ q e. named_gives named q b x (spaced_out fields) n e))

  last_back : {B : Type 0} {p : ℕ} (x : B) → Left line p [] → and_then (line_ended line p) (λ _. Ok x) ≡ Ok x
  last_back {p} x e =
      let none : ltb p (length line) ≡ false = le-ltb p (length line) (omega (arith, length-drop p line, ap length e.is)) in
      rw none

  settings_back : (lot class p : ℕ) → lot ≤ largest_short → class ≤ largest → Left line p (decimal lot ∷ decimal class ∷ []) → settings_line line p ≡ Ok (says.Settings lot class)
  settings_back lot class p l c e =
      number_back largest_short lot _ _ l (omega arith) e (λ p e.
      number_back largest class _ _ c (omega arith) e (λ p e.
      last_back _ e))

  ticket_back : (t : Ticket) (p : ℕ) → TicketFits t → Left line p (ticket_fields t) → ticket_line line p ≡ Ok t
  ticket_back t p f e =
      number_back largest t.number _ _ f.0 (omega arith) e (λ p e.
      number_back largest_short t.participant _ _ f.1 (omega arith) e (λ p e.
      named_back side_named _ _ (side_back t.side) e (λ p e.
      named_back type_named _ _ (type_back t.order_type) e (λ p e.
      number_back largest t.quantity _ _ f.2 (omega arith) e (λ p e.
      number_back largest t.limit _ _ f.3 (omega arith) e (λ p e.
      number_back largest t.stop _ _ f.4 (omega arith) e (λ p e.
      last_back _ e)))))))

  delete_back : (number participant p : ℕ) → number ≤ largest → participant ≤ largest_short → Left line p (decimal number ∷ decimal participant ∷ []) → delete_line line p ≡ Ok (Delete number participant)
  delete_back number participant p n w e =
      number_back largest number _ _ n (omega arith) e (λ p e.
      number_back largest_short participant _ _ w (omega arith) e (λ p e.
      last_back _ e))

after_letter : (b : ℕ) (fields : List (List ℕ)) → Left (b ∷ spaced_out fields) 1 fields
after_letter b fields = record { is = refl }

text_back : (l : Line) → LineFits l → line_text (written l) ≡ Ok l
text_back (says.Settings lot class) f = settings_back _ lot class 1 f.0 f.1 (after_letter 83 _)
text_back (says.Instruction (Enter t)) f = ap (λ r. and_then r (λ t. Ok (says.Instruction (Enter t)))) (ticket_back _ t 1 f (after_letter 69 _))
text_back (says.Instruction (Change t)) f = ap (λ r. and_then r (λ t. Ok (says.Instruction (Change t)))) (ticket_back _ t 1 f (after_letter 67 _))
text_back (says.Instruction (Delete number participant)) f = ap (λ r. and_then r (λ d. Ok (says.Instruction d))) (delete_back _ number participant 1 f.0 f.1 (after_letter 68 _))

pub reads_back : ReadsBack
reads_back stage l f a = ap (λ r. and_then (raised day.Line r) (λ l. cond (admitted stage l) (Ok l) (Err day.WrongPhase))) (text_back l f) ∙ cond-true (admitted stage l) (Ok l) (Err day.WrongPhase) a
