-- The text of a line: its letter, and then each field after a space. A newline may end it.
use Rattle.std.specs.Prelude.{ℕ, ◌-◌, ◌≤◌, cond, List, [], ◌∷◌, length, take, decimal, ◌==◌, slice_index}
use Rattle.std.specs.List.{flat_map}
use Rattle.day_lines.specs.Fields.{side_letter, type_letter, largest, largest_short}
use Rattle.day_lines.specs.declared.line.Line.{Line}
use Rattle.day_lines.specs.declared.line.Line.TheVariants as says
use Rattle.orders.specs.declared.instruction.Instruction.TheVariants.{Enter, Change, Delete}
use Rattle.orders.specs.declared.ticket.Ticket.{Ticket}

-- a space (32) before each field
abbrev pub spaced_out : List (List ℕ) → List ℕ
spaced_out fields = flat_map (λ f. 32 ∷ f) fields

-- number participant side type quantity limit stop
abbrev pub ticket_fields : Ticket → List (List ℕ)
ticket_fields t =
    decimal t.number ∷ decimal t.participant
    ∷ (side_letter t.side ∷ []) ∷ (type_letter t.order_type ∷ [])
    ∷ decimal t.quantity ∷ decimal t.limit ∷ decimal t.stop ∷ []

-- the text of a line: S (83), E (69), C (67) or D (68), and the fields
abbrev pub written : Line → List ℕ
written (says.Settings lot class) = 83 ∷ spaced_out (decimal lot ∷ decimal class ∷ [])
written (says.Instruction (Enter t)) = 69 ∷ spaced_out (ticket_fields t)
written (says.Instruction (Change t)) = 67 ∷ spaced_out (ticket_fields t)
written (says.Instruction (Delete number participant)) = 68 ∷ spaced_out (decimal number ∷ decimal participant ∷ [])

-- the numbers are in their ranges, as in every value of the code
abbrev pub TicketFits : Ticket → Type 0
TicketFits t = (t.number ≤ largest) × (t.participant ≤ largest_short) × (t.quantity ≤ largest) × (t.limit ≤ largest) × (t.stop ≤ largest)

abbrev pub LineFits : Line → Type 0
LineFits (says.Settings lot class) = (lot ≤ largest_short) × (class ≤ largest)
LineFits (says.Instruction (Enter t)) = TicketFits t
LineFits (says.Instruction (Change t)) = TicketFits t
LineFits (says.Instruction (Delete number participant)) = (number ≤ largest) × (participant ≤ largest_short)

-- a line without the newline (10) that ends it
abbrev pub newline_cut : List ℕ → List ℕ
newline_cut line = cond (slice_index line (length line - 1) == 10) (take (length line - 1) line) line
