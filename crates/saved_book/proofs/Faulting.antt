-- What the fault of saved bytes names.
use Rattle.std.proofs.Common.{ℕ, zero, suc, ◌+◌, ◌*◌, ◌<◌, ◌≤◌, Bool, true, false, cond, List, [], ◌∷◌, ◌++◌, IfErr, Some, None, Ok, Err, Option, Result, arith}
use Rattle.std.specs.Option.{ok_or}
use Rattle.std.specs.Result.{result_map_both}
use Rattle.orders.specs.Checks.{identified, on_lot, kind_named, terms_under, checked_ticket}
use Rattle.orders.specs.Numbers.{number_of}
use Rattle.orders.specs.Results.{seen}
use Rattle.orders.specs.Ticks.{Grid}
use Rattle.orders.specs.declared.refusal.Refusal.{Refusal}
use Rattle.orders.specs.declared.refusal.Refusal.TheVariants as refusal
use Rattle.orders.specs.declared.terms.Kind.{Kind}
use Rattle.orders.specs.declared.terms.Terms.{Terms}
use Rattle.orders.specs.declared.ticket.Ticket.{Ticket}
use Rattle.book.specs.Lists.{held}
use Rattle.saved_book.specs.Calls.{NamedFault}
use Rattle.saved_book.specs.Decoding.{four_at, ticket_at, checked_record, record_at, joined_by, orders_upto, laid_out, decode}
use Rattle.saved_book.specs.Faults.{fault_number}
use Rattle.saved_book.specs.declared.fault.RecordFault.{RecordFault}
use Rattle.saved_book.specs.declared.fault.RecordFault.TheVariants.{Refused}
use Rattle.saved_book.specs.declared.fault.SavedFault.{SavedFault}
use Rattle.saved_book.specs.declared.fault.SavedFault.TheVariants.{Layout, Record}

-- a ticket is refused by a number up to 3
kind_refused : (t : Ticket) (o : Option Kind) → IfErr (seen (terms_under t) (ok_or o refusal.Price)) (λ e. number_of e ≤ 4)
kind_refused t None = omega arith
kind_refused t (Some k) = tt

ticket_refused : (g : Grid) (t : Ticket) (a b : Bool) → IfErr (cond a (cond b (seen (terms_under t) (ok_or (kind_named g t.order_type t.limit t.stop) refusal.Price)) (Err refusal.Quantity)) (Err refusal.Identity)) (λ e. number_of e ≤ 4)
ticket_refused g t true true = kind_refused t (kind_named g t.order_type t.limit t.stop)
ticket_refused g t true false = omega arith
ticket_refused g t false b = omega arith

raised : (r : Result Terms Refusal) → IfErr r (λ e. number_of e ≤ 4) → IfErr (result_map_both (λ u. u) Refused r) (λ f. fault_number f ≤ 4)
raised (Ok u) h = tt
raised (Err e) h = h

record_refused : (g : Grid) (o : Option Ticket) → IfErr (checked_record g o) (λ f. fault_number f ≤ 4)
record_refused g None = omega arith
record_refused g (Some t) = raised (checked_ticket g t) (ticket_refused g t (identified t.number t.participant) (on_lot g t.quantity))

-- the first fault is that of one of the records
abbrev Below : ℕ → SavedFault → Type 0
Below n Layout = Unit {0}
Below n (Record k f) = (k < n) × (fault_number f ≤ 4)

below_more : (k : ℕ) (f : SavedFault) → Below k f → Below (suc k) f
below_more k Layout h = tt
below_more k (Record j f) h = (omega arith, h.1)

by_number : (k : ℕ) (ts : List Terms) (t : Terms) (b : Bool) → IfErr (cond b (Err (Record k (Refused refusal.NumberHeld))) (Ok (ts ++ t ∷ []))) (Below (suc k))
by_number k ts t true = (omega arith, omega arith)
by_number k ts t false = tt

by_record : (k : ℕ) (r : Result (List Terms) SavedFault) (h : Result Terms RecordFault) → IfErr r (Below k) → IfErr h (λ f. fault_number f ≤ 4) → IfErr (joined_by k r h) (Below (suc k))
by_record k (Err f) h p q = below_more k f p
by_record k (Ok ts) (Err f) p q = (omega arith, q)
by_record k (Ok ts) (Ok t) p q = by_number k ts t (held t.number ts)

upto_refused : (g : Grid) (bs : List ℕ) (n k : ℕ) → IfErr (orders_upto g bs n k) (Below k)
upto_refused g bs n zero = tt
upto_refused g bs n (suc k) = by_record k (orders_upto g bs n k) (record_at g bs n k) (upto_refused g bs n k) (record_refused g (ticket_at bs (four_at bs (8 + 4 * k)) (8 + 4 * n + 16 * k)))

by_layout : (g : Grid) (bs : List ℕ) (b : Bool) → IfErr (cond b (orders_upto g bs (four_at bs 0) (four_at bs 0)) (Err Layout)) (Below (four_at bs 0))
by_layout g bs true = upto_refused g bs (four_at bs 0) (four_at bs 0)
by_layout g bs false = tt

told : (bs : List ℕ) (r : Result (List Terms) SavedFault) → IfErr r (Below (four_at bs 0)) → IfErr r (NamedFault bs)
told bs (Ok ts) h = tt
told bs (Err Layout) h = tt
told bs (Err (Record k f)) h = h

pub named_fault : (g : Grid) (bs : List ℕ) → IfErr (decode g bs) (NamedFault bs)
named_fault g bs = told bs (decode g bs) (by_layout g bs (laid_out bs))
