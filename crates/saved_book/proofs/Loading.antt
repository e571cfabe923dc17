-- Loading what was saved: decoding what encoding gives is the same list.
use Rattle.std.proofs.Common.{◌≡◌, ℕ, zero, suc, ◌+◌, ◌*◌, ◌^◌, ◌<◌, ◌≤◌, true, eqb, leb, List, [], ◌∷◌, ◌++◌, length, get_or, take, drop, Some, Ok, sym, refl, ap, ◌∙◌, add-zero, add-one, arith, length-append}
use Rattle.std.proofs.ByRecursion.{All-get_or}
use Rattle.std.proofs.lemmas.List.{drop_at, drop-append-le, drop-drop, drop_more, take_more, take_all, take-append-drop}
use Rattle.std.proofs.lemmas.Bool.{and_parts, and_from, cond-true, cond-false, le-leb, eq-eqb}
use Rattle.std.proofs.lemmas.Bool.Decides.{nat_tests}
use Rattle.std.specs.Option.{ok_or, unwrap_or}
use Rattle.std.specs.Result.{result_map_both}
use Rattle.std.specs.List.{flat_map, AllByRecursion}
use Rattle.orders.specs.Checks.{identified, on_lot, on_tick, kind_named, terms_under, checked_ticket}
use Rattle.orders.specs.Forms.{type_of, limit_of, stop_of, side_code, type_code}
use Rattle.orders.specs.Codes.{side_named, type_named}
use Rattle.orders.specs.Ranges.{in_range, has_prices}
use Rattle.orders.specs.Results.{seen}
use Rattle.orders.specs.Ticks.{Grid}
use Rattle.orders.specs.declared.refusal.Refusal.TheVariants as refusal
use Rattle.orders.specs.declared.terms.Kind.{Kind}
use Rattle.orders.specs.declared.terms.Kind.TheVariants as kind
use Rattle.orders.specs.declared.terms.OrderType.{OrderType}
use Rattle.orders.specs.declared.terms.OrderType.TheVariants.{Market, Limit, StopMarket, StopLimit}
use Rattle.orders.specs.declared.terms.Side.{Side}
use Rattle.orders.specs.declared.terms.Side.TheVariants.{Buy, Sell}
use Rattle.orders.specs.declared.terms.Terms.{Terms}
use Rattle.orders.specs.declared.ticket.Ticket.{Ticket}
use Rattle.book.specs.Lists.{distinct, Sound}
use Rattle.saved_book.specs.Calls.{on_grid, prices_on_tick, LoadsBack}
use Rattle.saved_book.specs.Decoding.{four_at, ticket_of, ticket_at, checked_record, record_at, joined_by, orders_upto, laid_out, decode}
use Rattle.saved_book.specs.Encoding.{number_bytes, record_bytes, encode}
use Rattle.saved_book.specs.Steps.{FitsItsBytes}
use Rattle.saved_book.specs.declared.fault.RecordFault.TheVariants.{Refused}
use Rattle.saved_book.proofs.Chunks.{length_joined, drop_joined}
use Rattle.saved_book.proofs.Digits.{two_back, four_back, four_from}
use Rattle.saved_book.proofs.Tickets.{ticket_from}
use Rattle.saved_book.proofs.Places.{apart_in}

-- the codes of sides and types name them
side_back : (s : Side) → side_named (side_code s) ≡ Some s
side_back Buy = refl
side_back Sell = refl

type_back : (o : OrderType) → type_named (type_code o) ≡ Some o
type_back Market = refl
type_back Limit = refl
type_back StopMarket = refl
type_back StopLimit = refl

-- the numbers of an order fit their bytes
record Fits (t : Terms) : Type 0 where
  number : t.number < 2 ^ 32
  participant : t.participant < 2 ^ 16
  quantity : t.quantity < 2 ^ 32
  limit : unwrap_or (limit_of t.kind) 0 < 2 ^ 32
  stop : unwrap_or (stop_of t.kind) 0 < 2 ^ 32

limit_fits : (k : Kind) → has_prices k ≡ true → unwrap_or (limit_of k) 0 < 2 ^ 32
limit_fits kind.Market h = omega arith
limit_fits (kind.Limit l) h = grind (arith, nat_tests)
limit_fits (kind.StopMarket s) h = omega arith
limit_fits (kind.StopLimit l s) h = grind (arith, nat_tests)

stop_fits : (k : Kind) → has_prices k ≡ true → unwrap_or (stop_of k) 0 < 2 ^ 32
stop_fits kind.Market h = omega arith
stop_fits (kind.Limit l) h = omega arith
stop_fits (kind.StopMarket s) h = grind (arith, nat_tests)
stop_fits (kind.StopLimit l s) h = grind (arith, nat_tests)

fits : (t : Terms) → t.number < 2 ^ 32 → t.participant < 2 ^ 16 → in_range t ≡ true → Fits t
fits t n p h =
    let prices : has_prices t.kind ≡ true = grind (arith, nat_tests) in
    record { number = n; participant = p; quantity = grind (arith, nat_tests); limit = limit_fits t.kind prices; stop = stop_fits t.kind prices }

-- the ticket that would enter an order
abbrev ticket_for : Terms → Ticket
ticket_for t = record { number = t.number; participant = t.participant; side = t.side; order_type = type_of t.kind; quantity = t.quantity; limit = unwrap_or (limit_of t.kind) 0; stop = unwrap_or (stop_of t.kind) 0 }

kind_back : (g : Grid) (k : Kind) → prices_on_tick g k ≡ true → kind_named g (type_of k) (unwrap_or (limit_of k) 0) (unwrap_or (stop_of k) 0) ≡ Some k
kind_back g kind.Market h = refl
kind_back g (kind.Limit l) h = cond-true _ _ _ (and_from (on_tick g l) _ h refl)
kind_back g (kind.StopMarket s) h = cond-true _ _ _ h
kind_back g (kind.StopLimit l s) h = cond-true _ _ _ h

ticket_back : (g : Grid) (t : Terms) → in_range t ≡ true → on_grid g t ≡ true → checked_ticket g (ticket_for t) ≡ Ok t
ticket_back g t r o =
    let named : identified t.number t.participant ≡ true = grind (arith, nat_tests) in
    let parts = and_parts (on_lot g t.quantity) (prices_on_tick g t.kind) o in
    cond-true _ _ _ named
    ∙ cond-true _ _ _ parts.0
    ∙ ap (λ k. seen (terms_under (ticket_for t)) (ok_or k refusal.Price)) (kind_back g t.kind parts.1)

-- a record that stands in front is read
record_front : (t : Terms) (n : ℕ) (rest : List ℕ) → Fits t → n ≡ t.number → ticket_at (record_bytes t ++ rest) n 0 ≡ Some (ticket_for t)
record_front t n rest f e = λ i. ticket_of (e i) (two_back t.participant f.participant i) (side_back t.side i) (type_back (type_of t.kind) i) (four_back t.quantity f.quantity i) (four_back (unwrap_or (limit_of t.kind) 0) f.limit i) (four_back (unwrap_or (stop_of t.kind) 0) f.stop i)

-- the encoding, from a place on
module _ (ts : List Terms) where
  pub numbers_long : length (flat_map number_bytes ts) ≡ 4 * length ts
  numbers_long = length_joined number_bytes 4 (λ t. refl) ts

  records_long : length (flat_map record_bytes ts) ≡ 16 * length ts
  records_long = length_joined record_bytes 16 (λ t. refl) ts

  pub length_encode : length (encode ts) ≡ 8 + 20 * length ts
  length_encode = omega (arith, length-append (flat_map number_bytes ts) (flat_map record_bytes ts), numbers_long, records_long)

  numbers_from : (k : ℕ) → k ≤ length ts → drop (8 + 4 * k) (encode ts) ≡ flat_map number_bytes (drop k ts) ++ flat_map record_bytes ts
  numbers_from k h =
      sym (drop-drop (4 * k) 8 (encode ts))
      ∙ drop-append-le (4 * k) (flat_map number_bytes ts) (flat_map record_bytes ts) (omega (arith, numbers_long))
      ∙ ap (λ l. l ++ flat_map record_bytes ts) (drop_joined number_bytes 4 (λ t. refl) k ts)

  records_from : (k : ℕ) → drop (8 + 4 * length ts + 16 * k) (encode ts) ≡ flat_map record_bytes (drop k ts)
  records_from k =
      sym (drop-drop (16 * k) (8 + 4 * length ts) (encode ts))
      ∙ ap (drop (16 * k)) (sym (drop-drop (4 * length ts) 8 (encode ts)) ∙ drop_at (flat_map number_bytes ts) (flat_map record_bytes ts) (4 * length ts) numbers_long)
      ∙ drop_joined record_bytes 16 (λ t. refl) k ts

  -- record k is read as the order at place k
  record_reads : (g : Grid) (k : ℕ) (t : Terms) → k < length ts → drop k ts ≡ t ∷ drop (k + 1) ts → Fits t → in_range t ≡ true → on_grid g t ≡ true → record_at g (encode ts) (length ts) k ≡ Ok t
  record_reads g k t h s f r o =
      let number : four_at (encode ts) (8 + 4 * k) ≡ t.number =
      ap (four_at (encode ts)) (sym (add-zero (8 + 4 * k)))
      ∙ four_from (encode ts) (8 + 4 * k) 0
      ∙ ap (λ l. four_at l 0) (numbers_from k (omega arith) ∙ ap (λ l. flat_map number_bytes l ++ flat_map record_bytes ts) s)
      ∙ four_back t.number f.number in
      let ticket : ticket_at (encode ts) (four_at (encode ts) (8 + 4 * k)) (8 + 4 * length ts + 16 * k) ≡ Some (ticket_for t) =
      ticket_from (encode ts) _ (8 + 4 * length ts + 16 * k)
      ∙ ap (λ l. ticket_at l (four_at (encode ts) (8 + 4 * k)) 0) (records_from k ∙ ap (flat_map record_bytes) s)
      ∙ record_front t _ (flat_map record_bytes (drop (k + 1) ts)) f number in
      ap (checked_record g) ticket ∙ ap (result_map_both (λ u. u) Refused) (ticket_back g t r o)

-- what stands where there is no order
nothing : Terms
nothing = record { number = 0; participant = 0; side = Buy; kind = kind.Market; quantity = 0 }

module _ (g : Grid) (ts : List Terms) (sound : Sound ts) (ok : AllByRecursion Fits ts) (on : AllByRecursion (λ t. on_grid g t ≡ true) ts) where
  upto_encoded : (k : ℕ) → k ≤ length ts → orders_upto g (encode ts) (length ts) k ≡ Ok (take k ts)
  upto_encoded zero h = refl
  upto_encoded (suc k) h =
      let lt : k < length ts = omega arith in
      let reads : record_at g (encode ts) (length ts) k ≡ Ok (get_or ts k nothing) =
      record_reads ts g k (get_or ts k nothing) lt (drop_more ts k nothing lt) (All-get_or Fits ts k nothing lt ok) (All-get_or (λ t. in_range t ≡ true) ts k nothing lt sound.ranged) (All-get_or (λ t. on_grid g t ≡ true) ts k nothing lt on) in
      (λ i. joined_by k (upto_encoded k (omega arith) i) (reads i))
      ∙ cond-false _ _ _ (apart_in (take k ts) (drop (k + 1) ts) (get_or ts k nothing) (ap distinct (ap (λ l. take k ts ++ l) (sym (drop_more ts k nothing lt)) ∙ take-append-drop k ts) ∙ sound.apart))
      ∙ ap Ok (sym (ap (λ m. take m ts) (sym (add-one k)) ∙ take_more ts k nothing lt))

  decode_encode : decode g (encode ts) ≡ Ok ts
  decode_encode =
      let count : four_at (encode ts) 0 ≡ length ts = four_back (length ts) (omega (arith, sound.few)) in
      let few : leb (four_at (encode ts) 0) 256 ≡ true = le-leb _ _ (omega (arith, count, sound.few)) in
      let size : eqb (four_at (encode ts) 4) 16 ≡ true = refl in
      let long : eqb (length (encode ts)) (8 + 20 * four_at (encode ts) 0) ≡ true = eq-eqb _ _ (omega (arith, count, length_encode ts)) in
      cond-true (laid_out (encode ts)) _ _ (and_from _ _ few (and_from _ _ size long))
      ∙ ap (λ c. orders_upto g (encode ts) c c) count
      ∙ upto_encoded (length ts) (omega arith)
      ∙ ap Ok (take_all (length ts) ts (omega arith))

-- the numbers of an order that is in range fit their bytes, if its number and its participant do
all_fit : (ts : List Terms) → AllByRecursion FitsItsBytes ts → AllByRecursion (λ t. in_range t ≡ true) ts → AllByRecursion Fits ts
all_fit [] n r = tt
all_fit (t ∷ ts) n r = (fits t n.0.0 n.0.1 r.0, all_fit ts n.1 r.1)

pub loads_back : (ts : List Terms) → Sound ts → AllByRecursion FitsItsBytes ts → LoadsBack ts
loads_back ts s n g on = decode_encode g ts s (all_fit ts n s.ranged) on
