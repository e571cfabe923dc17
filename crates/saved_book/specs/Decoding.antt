-- The list of orders that a saved book means, or its first fault.
use Rattle.std.specs.Prelude.{ℕ, zero, suc, ◌+◌, ◌*◌, Bool, cond, ◌&&◌, List, [], ◌∷◌, ◌++◌, length, Some, None, Ok, Err, Option, Result, ◌==◌, nat_le, slice_index}
use Rattle.std.specs.Result.{result_map_both}
use Rattle.orders.specs.Checks.{checked_ticket}
use Rattle.orders.specs.Codes.{side_named, type_named}
use Rattle.orders.specs.Ticks.{Grid}
use Rattle.orders.specs.declared.refusal.Refusal.TheVariants.{NumberHeld}
use Rattle.orders.specs.declared.terms.OrderType.{OrderType}
use Rattle.orders.specs.declared.terms.Side.{Side}
use Rattle.orders.specs.declared.terms.Terms.{Terms}
use Rattle.orders.specs.declared.ticket.Ticket.{Ticket}
use Rattle.book.specs.Lists.{held}
use Rattle.saved_book.specs.declared.fault.RecordFault.{RecordFault}
use Rattle.saved_book.specs.declared.fault.RecordFault.TheVariants.{Code, Refused}
use Rattle.saved_book.specs.declared.fault.SavedFault.{SavedFault}
use Rattle.saved_book.specs.declared.fault.SavedFault.TheVariants.{Layout, Record}

-- the number in the two bytes from a place on
abbrev pub two_at : List ℕ → ℕ → ℕ
two_at bs i = slice_index bs i + slice_index bs (i + 1) * 256

-- the number in the four bytes from a place on
abbrev pub four_at : List ℕ → ℕ → ℕ
four_at bs i = slice_index bs i + slice_index bs (i + 1) * 256 + slice_index bs (i + 2) * 65536 + slice_index bs (i + 3) * 16777216

-- a ticket, if the codes of its record name a side and a type
abbrev pub ticket_of : ℕ → ℕ → Option Side → Option OrderType → ℕ → ℕ → ℕ → Option Ticket
ticket_of n p None o q l t = None
ticket_of n p (Some s) None q l t = None
ticket_of n p (Some s) (Some o) q l t =
    Some (record { number = n; participant = p; side = s; order_type = o; quantity = q; limit = l; stop = t })

-- the ticket of an order number and the record from a place on
abbrev pub ticket_at : List ℕ → ℕ → ℕ → Option Ticket
ticket_at bs n at =
    ticket_of n (two_at bs at) (side_named (slice_index bs (at + 2))) (type_named (slice_index bs (at + 3))) (four_at bs (at + 4)) (four_at bs (at + 8)) (four_at bs (at + 12))

-- a record is checked as an order that is entered
abbrev pub checked_record : Grid → Option Ticket → Result Terms RecordFault
checked_record g None = Err Code
checked_record g (Some t) = result_map_both (λ u. u) Refused (checked_ticket g t)

-- the order in record k of n, or its fault; number and record stand apart
abbrev pub record_at : Grid → List ℕ → ℕ → ℕ → Result Terms RecordFault
record_at g bs n k = checked_record g (ticket_at bs (four_at bs (8 + 4 * k)) (8 + 4 * n + 16 * k))

-- record k goes behind the orders before it, none of which may have its number
abbrev pub joined_by : ℕ → Result (List Terms) SavedFault → Result Terms RecordFault → Result (List Terms) SavedFault
joined_by k (Err f) r = Err f
joined_by k (Ok ts) (Err f) = Err (Record k f)
joined_by k (Ok ts) (Ok t) = cond (held t.number ts) (Err (Record k (Refused NumberHeld))) (Ok (ts ++ t ∷ []))

-- the orders of the first k of n records, or the first fault among them
abbrev pub orders_upto : Grid → List ℕ → ℕ → ℕ → Result (List Terms) SavedFault
orders_upto g bs n zero = Ok []
orders_upto g bs n (suc k) = joined_by k (orders_upto g bs n k) (record_at g bs n k)

-- at most 256 orders, records of 16 bytes, and just the bytes that they take
abbrev pub laid_out : List ℕ → Bool
laid_out bs = nat_le (four_at bs 0) 256 && (four_at bs 4 == 16 && length bs == 8 + 20 * four_at bs 0)

abbrev pub decode : Grid → List ℕ → Result (List Terms) SavedFault
decode g bs = cond (laid_out bs) (orders_upto g bs (four_at bs 0) (four_at bs 0)) (Err Layout)
