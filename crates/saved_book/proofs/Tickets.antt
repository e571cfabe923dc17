-- Tickets that pass their checks, and records that are read.
use Rattle.std.proofs.Common.{◌≡◌, ℕ, ◌+◌, ◌*◌, ◌<◌, ◌≤◌, Bool, true, false, cond, ◌&&◌, eqb, List, [], ◌∷◌, ◌++◌, length, get_or, take, drop, Some, None, Ok, Err, Option, Result, sym, refl, ap, ◌∙◌, add_assoc, add-zero, arith, take-add}
use Rattle.std.proofs.lemmas.List.{drop-drop, get_or-take}
use Rattle.std.proofs.lemmas.Bool.{and_parts, eqb-true}
use Rattle.std.proofs.lemmas.Bool.Decides.{nat_tests}
use Rattle.std.specs.Option.{ok_or, unwrap_or}
use Rattle.std.specs.Result.{result_map_both}
use Rattle.orders.proofs.Checking.{checked_in_range}
use Rattle.orders.specs.Checks.{identified, on_lot, on_tick, kind_named, terms_under, checked_ticket}
use Rattle.orders.specs.Forms.{type_of, limit_of, stop_of, side_code, type_code}
use Rattle.orders.specs.Codes.{side_named, type_named}
use Rattle.orders.specs.Ranges.{in_range}
use Rattle.orders.specs.Results.{seen}
use Rattle.orders.specs.Ticks.{Grid}
use Rattle.orders.specs.declared.refusal.Refusal.{Refusal}
use Rattle.orders.specs.declared.refusal.Refusal.TheVariants as refusal
use Rattle.orders.specs.declared.terms.Kind.{Kind}
use Rattle.orders.specs.declared.terms.Kind.TheVariants as kind
use Rattle.orders.specs.declared.terms.OrderType.{OrderType}
use Rattle.orders.specs.declared.terms.OrderType.TheVariants.{Market, Limit, StopMarket, StopLimit}
use Rattle.orders.specs.declared.terms.Side.{Side}
use Rattle.orders.specs.declared.terms.Side.TheVariants.{Buy, Sell}
use Rattle.orders.specs.declared.terms.Terms.{Terms}
use Rattle.orders.specs.declared.ticket.Ticket.{Ticket}
use Rattle.book.proofs.General.{given}
use Rattle.saved_book.specs.Decoding.{two_at, four_at, ticket_of, ticket_at, checked_record, record_at}
use Rattle.saved_book.specs.Encoding.{two, four, record_bytes}
use Rattle.saved_book.proofs.Digits.{Bytes, first, two_written, four_written, get_or_from, two_from, four_from}
use Rattle.saved_book.specs.declared.fault.RecordFault.TheVariants.{Refused}

-- a ticket that gives terms: its checks, and its kind
pub record Passed (g : Grid) (t : Ticket) (u : Terms) : Type 0 where
  pub kind : Kind
  pub identity : identified t.number t.participant ≡ true
  pub lot : on_lot g t.quantity ≡ true
  pub named : kind_named g t.order_type t.limit t.stop ≡ Some kind
  pub whole : u ≡ terms_under t kind

by_kind : (g : Grid) (t : Ticket) (u : Terms) (o : Option Kind) → identified t.number t.participant ≡ true → on_lot g t.quantity ≡ true → kind_named g t.order_type t.limit t.stop ≡ o → seen (terms_under t) (ok_or o refusal.Price) ≡ Ok u → Passed g t u
by_kind g t u None i l n e = cc
by_kind g t u (Some k) i l n e = record { kind = k; identity = i; lot = l; named = n; whole = cc }

by_tests : (g : Grid) (t : Ticket) (u : Terms) (a b : Bool) → identified t.number t.participant ≡ a → on_lot g t.quantity ≡ b →
    cond a (cond b (seen (terms_under t) (ok_or (kind_named g t.order_type t.limit t.stop) refusal.Price)) (Err refusal.Quantity)) (Err refusal.Identity) ≡ Ok u → Passed g t u
by_tests g t u true true i l e = by_kind g t u _ i l refl e
by_tests g t u true false i l e = cc
by_tests g t u false b i l e = cc

pub passed : (g : Grid) (t : Ticket) (u : Terms) → checked_ticket g t ≡ Ok u → Passed g t u
passed g t u e = by_tests g t u _ _ refl refl e

pub passed_ranged : (g : Grid) (t : Ticket) (u : Terms) → Passed g t u → in_range u ≡ true
passed_ranged g t u p = ap in_range p.whole ∙ checked_in_range g t p.kind p.identity p.lot p.named

-- a kind that is named has the type and the prices that name it
record Named (o : OrderType) (l t : ℕ) (k : Kind) : Type 0 where
  type : type_of k ≡ o
  limit : unwrap_or (limit_of k) 0 ≡ l
  stop : unwrap_or (stop_of k) 0 ≡ t

named_is : (g : Grid) (o : OrderType) (l t : ℕ) (k : Kind) → kind_named g o l t ≡ Some k → Named o l t k
named_is g Market l t k e =
    let h = given (eqb l 0 && eqb t 0) k kind.Market (sym e) in
    let b = and_parts (eqb l 0) (eqb t 0) h.0 in
    record { type = ap type_of h.1; limit = ap (λ k. unwrap_or (limit_of k) 0) h.1 ∙ sym (eqb-true l 0 b.0); stop = ap (λ k. unwrap_or (stop_of k) 0) h.1 ∙ sym (eqb-true t 0 b.1) }
named_is g Limit l t k e =
    let h = given (on_tick g l && eqb t 0) k (kind.Limit l) (sym e) in
    let b = and_parts (on_tick g l) (eqb t 0) h.0 in
    record { type = ap type_of h.1; limit = ap (λ k. unwrap_or (limit_of k) 0) h.1; stop = ap (λ k. unwrap_or (stop_of k) 0) h.1 ∙ sym (eqb-true t 0 b.1) }
named_is g StopMarket l t k e =
    let h = given (eqb l 0 && on_tick g t) k (kind.StopMarket t) (sym e) in
    let b = and_parts (eqb l 0) (on_tick g t) h.0 in
    record { type = ap type_of h.1; limit = ap (λ k. unwrap_or (limit_of k) 0) h.1 ∙ sym (eqb-true l 0 b.0); stop = ap (λ k. unwrap_or (stop_of k) 0) h.1 }
named_is g StopLimit l t k e =
    let h = given (on_tick g l && on_tick g t) k (kind.StopLimit l t) (sym e) in
    record { type = ap type_of h.1; limit = ap (λ k. unwrap_or (limit_of k) 0) h.1; stop = ap (λ k. unwrap_or (stop_of k) 0) h.1 }

-- the record that a ticket says
abbrev pub ticket_bytes : Ticket → List ℕ
ticket_bytes t =
    two t.participant ++ (side_code t.side ∷ type_code t.order_type ∷ (four t.quantity ++ (four t.limit ++ four t.stop)))

-- the record of the terms is that of the ticket
pub passed_bytes : (g : Grid) (t : Ticket) (u : Terms) → Passed g t u → ticket_bytes t ≡ record_bytes u
passed_bytes g t u p =
    let n = named_is g t.order_type t.limit t.stop p.kind p.named in
    (λ i. ticket_bytes (record { number = t.number; participant = t.participant; side = t.side; order_type = sym n.type i; quantity = t.quantity; limit = sym n.limit i; stop = sym n.stop i }))
    ∙ ap record_bytes (sym p.whole)

-- a record that is read is that of a ticket that passed
pub record Read (g : Grid) (o : Option Ticket) (u : Terms) : Type 0 where
  pub ticket : Ticket
  pub is : o ≡ Some ticket
  pub passed : Passed g ticket u

by_check : (g : Grid) (t : Ticket) (u : Terms) (r : Result Terms Refusal) → checked_ticket g t ≡ r → result_map_both (λ u. u) Refused r ≡ Ok u → Read g (Some t) u
by_check g t u (Ok v) c e = record { ticket = t; is = refl; passed = passed g t u (c ∙ cc) }
by_check g t u (Err f) c e = cc

pub read : (g : Grid) (o : Option Ticket) (u : Terms) → checked_record g o ≡ Ok u → Read g o u
read g None u e = cc
read g (Some t) u e = by_check g t u _ refl e

-- what a ticket that is read is made of
record Made (n p : ℕ) (s : Option Side) (o : Option OrderType) (q l t : ℕ) (k : Ticket) : Type 0 where
  number : n ≡ k.number
  participant : p ≡ k.participant
  side : s ≡ Some k.side
  type : o ≡ Some k.order_type
  quantity : q ≡ k.quantity
  limit : l ≡ k.limit
  stop : t ≡ k.stop

made_of : (n p : ℕ) (s : Option Side) (o : Option OrderType) (q l t : ℕ) (k : Ticket) → ticket_of n p s o q l t ≡ Some k → Made n p s o q l t k
made_of n p None o q l t k e = cc
made_of n p (Some s) None q l t k e = cc
made_of n p (Some s) (Some o) q l t k e =
    let z : record { number = n; participant = p; side = s; order_type = o; quantity = q; limit = l; stop = t } ≡ k = cc in
    record { number = ap (λ x. x.number) z; participant = ap (λ x. x.participant) z; side = ap (λ x. Some x.side) z; type = ap (λ x. Some x.order_type) z; quantity = ap (λ x. x.quantity) z; limit = ap (λ x. x.limit) z; stop = ap (λ x. x.stop) z }

made_at : (bs : List ℕ) (n at : ℕ) (k : Ticket) → ticket_at bs n at ≡ Some k → Made n (two_at bs at) (side_named (get_or bs (at + 2) 0)) (type_named (get_or bs (at + 3) 0)) (four_at bs (at + 4)) (four_at bs (at + 8)) (four_at bs (at + 12)) k
made_at bs n at k e = made_of n (two_at bs at) (side_named (get_or bs (at + 2) 0)) (type_named (get_or bs (at + 3) 0)) (four_at bs (at + 4)) (four_at bs (at + 8)) (four_at bs (at + 12)) k e

module _ (g : Grid) (bs : List ℕ) (n k : ℕ) (u : Terms) (e : record_at g bs n k ≡ Ok u) where
  pub read_ranged : in_range u ≡ true
  read_ranged = let r = read g (ticket_at bs (four_at bs (8 + 4 * k)) (8 + 4 * n + 16 * k)) u e in passed_ranged g r.ticket u r.passed

  pub read_number : u.number ≡ four_at bs (8 + 4 * k)
  read_number =
      let r = read g (ticket_at bs (four_at bs (8 + 4 * k)) (8 + 4 * n + 16 * k)) u e in
      ap (λ t. t.number) r.passed.whole ∙ sym (made_at bs (four_at bs (8 + 4 * k)) (8 + 4 * n + 16 * k) r.ticket r.is).number

-- a ticket is read from its record alone
pub ticket_from : (bs : List ℕ) (n at : ℕ) → ticket_at bs n at ≡ ticket_at (drop at bs) n 0
ticket_from bs n at =
    let p = ap (two_at bs) (sym (add-zero at)) ∙ two_from bs at 0 in
    λ i. ticket_of n (p i) (side_named (get_or_from bs at 2 i)) (type_named (get_or_from bs at 3 i)) (four_from bs at 4 i) (four_from bs at 8 i) (four_from bs at 12 i)

ticket_front : (bs : List ℕ) (n : ℕ) → ticket_at (take 16 bs) n 0 ≡ ticket_at bs n 0
ticket_front bs n =
    let f : (i : ℕ) → i < 16 → get_or (take 16 bs) i 0 ≡ get_or bs i 0 = λ i h. get_or-take 16 bs i 0 h in
    let four : (i : ℕ) → i < 13 → four_at (take 16 bs) i ≡ four_at bs i = λ i h. (λ j. f i (omega arith) j + f (i + 1) (omega arith) j * 256 + f (i + 2) (omega arith) j * 65536 + f (i + 3) (omega arith) j * 16777216) in
    λ j. ticket_of n (f 0 (omega arith) j + f 1 (omega arith) j * 256) (side_named (f 2 (omega arith) j)) (type_named (f 3 (omega arith) j)) (four 4 (omega arith) j) (four 8 (omega arith) j) (four 12 (omega arith) j)

pub ticket_alone : (bs : List ℕ) (n at : ℕ) → ticket_at (take 16 (drop at bs)) n 0 ≡ ticket_at bs n at
ticket_alone bs n at = ticket_front (drop at bs) n ∙ sym (ticket_from bs n at)

-- a code that names something is its code
side_coded : (b : ℕ) (s : Side) → side_named b ≡ Some s → b ≡ side_code s
side_coded b Buy e = grind (arith, nat_tests)
side_coded b Sell e = grind (arith, nat_tests)

type_coded : (b : ℕ) (o : OrderType) → type_named b ≡ Some o → b ≡ type_code o
type_coded b Market e = grind (arith, nat_tests)
type_coded b Limit e = grind (arith, nat_tests)
type_coded b StopMarket e = grind (arith, nat_tests)
type_coded b StopLimit e = grind (arith, nat_tests)

-- the bytes of a record that is read are those of its ticket
pub ticket_written : (bs : List ℕ) (n at : ℕ) (k : Ticket) → at + 16 ≤ length bs → Bytes bs → ticket_at bs n at ≡ Some k → take 16 (drop at bs) ≡ ticket_bytes k
ticket_written bs n at k h b e =
    let m = made_at bs n at k e in
    let side : take 1 (drop (at + 2) bs) ≡ side_code k.side ∷ [] = ap (take 1) (first bs (at + 2) (omega arith)) ∙ ap (λ x. x ∷ []) (side_coded _ k.side m.side) in
    let type : take 1 (drop (at + 3) bs) ≡ type_code k.order_type ∷ [] = ap (take 1) (first bs (at + 3) (omega arith)) ∙ ap (λ x. x ∷ []) (type_coded _ k.order_type m.type) in
    let participant = two_written bs at (omega arith) b ∙ ap two m.participant in
    let quantity = four_written bs (at + 4) (omega arith) b ∙ ap four m.quantity in
    let limit = four_written bs (at + 8) (omega arith) b ∙ ap four m.limit in
    let stop = four_written bs (at + 12) (omega arith) b ∙ ap four m.stop in
    let more : (i s r : ℕ) → take (s + r) (drop (at + i) bs) ≡ take s (drop (at + i) bs) ++ take r (drop (at + (i + s)) bs) =
    λ i s r. take-add s r (drop (at + i) bs) ∙ ap (λ l. take s (drop (at + i) bs) ++ take r l) (drop-drop s (at + i) bs ∙ ap (λ j. drop j bs) (add_assoc at i s)) in
    take-add 2 14 (drop at bs)
    ∙ (λ i. participant i ++ (ap (take 14) (drop-drop 2 at bs)
    ∙ more 2 1 13 ∙ (λ i. side i ++ (more 3 1 12 ∙ (λ i. type i ++ (more 4 4 8 ∙ (λ i. quantity i ++ (more 8 4 4 ∙ (λ i. limit i ++ stop i)) i)) i)) i)) i)
