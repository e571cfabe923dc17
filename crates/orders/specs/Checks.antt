-- What the settings ask of an instruction, whatever the book holds.
use Rattle.std.specs.Prelude.{ℕ, ◌%◌, Bool, cond, ◌&&◌, Some, None, Ok, Err, Option, Result, ◌==◌, nat_le}
use Rattle.std.specs.Option.{ok_or}
use Rattle.orders.specs.Ranges.{is_price, is_quantity}
use Rattle.orders.specs.Results.{seen}
use Rattle.orders.specs.Ticks.{Grid}
use Rattle.orders.specs.declared.instruction.Instruction.{Instruction}
use Rattle.orders.specs.declared.instruction.Instruction.TheVariants.{Enter, Change, Delete}
use Rattle.orders.specs.declared.refusal.Refusal.{Refusal}
use Rattle.orders.specs.declared.refusal.Refusal.TheVariants as refusal
use Rattle.orders.specs.declared.terms.Kind.{Kind}
use Rattle.orders.specs.declared.terms.Kind.TheVariants as kind
use Rattle.orders.specs.declared.terms.OrderType.{OrderType}
use Rattle.orders.specs.declared.terms.OrderType.TheVariants.{Market, Limit, StopMarket, StopLimit}
use Rattle.orders.specs.declared.terms.Terms.{Terms}
use Rattle.orders.specs.declared.ticket.Ticket.{Ticket}

-- neither the order number nor the participant is 0
abbrev pub identified : ℕ → ℕ → Bool
identified n p = nat_le 1 n && nat_le 1 p

-- a quantity on the lot
abbrev pub on_lot : Grid → ℕ → Bool
on_lot g q = is_quantity q && q % g.lot == 0

-- a price on the tick
abbrev pub on_tick : Grid → ℕ → Bool
on_tick g p = is_price p && p % g.tick == 0

-- the kind that a ticket names: each price that the kind has is given and on the tick, and no other is given
abbrev pub kind_named : Grid → OrderType → ℕ → ℕ → Option Kind
kind_named g Market l t = cond (l == 0 && t == 0) (Some kind.Market) None
kind_named g Limit l t = cond (on_tick g l && t == 0) (Some (kind.Limit l)) None
kind_named g StopMarket l t = cond (l == 0 && on_tick g t) (Some (kind.StopMarket t)) None
kind_named g StopLimit l t = cond (on_tick g l && on_tick g t) (Some (kind.StopLimit l t)) None

-- the terms that a ticket asks for under a kind
abbrev pub terms_under : Ticket → Kind → Terms
terms_under t k = record { number = t.number; participant = t.participant; side = t.side; kind = k; quantity = t.quantity }

-- the terms that a ticket asks for, or its first fault
abbrev pub checked_ticket : Grid → Ticket → Result Terms Refusal
checked_ticket g t =
    cond (identified t.number t.participant)
    (cond (on_lot g t.quantity)
    (seen (terms_under t) (ok_or (kind_named g t.order_type t.limit t.stop) refusal.Price))
    (Err refusal.Quantity))
    (Err refusal.Identity)

-- the instruction by its terms, or its first fault
abbrev pub checked : Grid → Instruction Ticket → Result (Instruction Terms) Refusal
checked g (Enter t) = seen Enter (checked_ticket g t)
checked g (Change t) = seen Change (checked_ticket g t)
checked g (Delete n p) = cond (identified n p) (Ok (Delete n p)) (Err refusal.Identity)
