-- Saving what was loaded: the orders that bytes mean are saved as these bytes.
use Rattle.std.proofs.Common.{◌≡◌, ℕ, zero, suc, ◌+◌, ◌*◌, ◌<◌, ◌≤◌, List, [], ◌∷◌, ◌++◌, length, take, drop, Ok, sym, refl, ap, ◌∙◌, subst, append_assoc, arith, length-drop, take-add}
use Rattle.std.proofs.lemmas.List.{take-append-drop, take_all, drop-drop, flat_map_more}
use Rattle.std.specs.List.{flat_map}
use Rattle.orders.specs.Ticks.{Grid}
use Rattle.orders.specs.declared.terms.Terms.{Terms}
use Rattle.saved_book.specs.Calls.{SavesBack}
use Rattle.saved_book.specs.Decoding.{four_at, ticket_at, record_at, orders_upto}
use Rattle.saved_book.specs.Encoding.{four, number_bytes, record_bytes, encode}
use Rattle.saved_book.proofs.Digits.{Bytes, four_written}
use Rattle.saved_book.proofs.Opening.{opened}
use Rattle.saved_book.proofs.Tickets.{read, read_number, passed_bytes, ticket_written}
use Rattle.saved_book.proofs.Upto.{behind, upto_length}

-- the bytes of the first k of n records are those of a list of orders
record StandFor (bs : List ℕ) (n k : ℕ) (ts : List Terms) : Type 0 where
  numbers : take (4 * k) (drop 8 bs) ≡ flat_map number_bytes ts
  terms : take (16 * k) (drop (8 + 4 * n) bs) ≡ flat_map record_bytes ts

-- one more part
one_more : (f : Terms → List ℕ) (s k : ℕ) (xs : List ℕ) (ts : List Terms) (t : Terms) → take (s * k) xs ≡ flat_map f ts → take s (drop (s * k) xs) ≡ f t → s * k + s ≡ s * suc k → take (s * suc k) xs ≡ flat_map f (ts ++ t ∷ [])
one_more f s k xs ts t before here e =
    ap (λ m. take m xs) (sym e)
    ∙ take-add (s * k) s xs
    ∙ (λ i. before i ++ here i)
    ∙ flat_map_more f [] ts t

module _ (g : Grid) (bs : List ℕ) (n : ℕ) (long : 8 + 20 * n ≤ length bs) (bytes : Bytes bs) where
  number_stands : (k : ℕ) (t : Terms) → k < n → record_at g bs n k ≡ Ok t → take 4 (drop (8 + 4 * k) bs) ≡ number_bytes t
  number_stands k t h e = four_written bs (8 + 4 * k) (omega arith) bytes ∙ ap four (sym (read_number g bs n k t e))

  record_stands : (k : ℕ) (t : Terms) → k < n → record_at g bs n k ≡ Ok t → take 16 (drop (8 + 4 * n + 16 * k) bs) ≡ record_bytes t
  record_stands k t h e =
      let r = read g (ticket_at bs (four_at bs (8 + 4 * k)) (8 + 4 * n + 16 * k)) t e in
      ticket_written bs (four_at bs (8 + 4 * k)) (8 + 4 * n + 16 * k) r.ticket (omega arith) bytes r.is
      ∙ passed_bytes g r.ticket t r.passed

  stand : (k : ℕ) (ts : List Terms) → k ≤ n → orders_upto g bs n k ≡ Ok ts → StandFor bs n k ts
  stand zero ts h e = let d : [] ≡ ts = cc in subst (StandFor bs n 0) d (record { numbers = refl; terms = refl })
  stand (suc k) ts h e =
      let b = behind k (orders_upto g bs n k) (record_at g bs n k) ts e in
      let s = stand k b.orders (omega arith) b.read_before in
      subst (StandFor bs n (suc k)) (sym b.whole)
      (record {
        numbers = one_more number_bytes 4 k (drop 8 bs) b.orders b.order s.numbers (ap (take 4) (drop-drop (4 * k) 8 bs) ∙ number_stands k b.order (omega arith) b.read_here) (omega arith);
        terms = one_more record_bytes 16 k (drop (8 + 4 * n) bs) b.orders b.order s.terms (ap (take 16) (drop-drop (16 * k) (8 + 4 * n) bs) ∙ record_stands k b.order (omega arith) b.read_here) (omega arith);
      })

-- the head, the numbers and the records are all of the bytes
encoded : (bs : List ℕ) (n : ℕ) (ts : List Terms) → length bs ≡ 8 + 20 * n → take 8 bs ≡ four n ++ four 16 → length ts ≡ n → StandFor bs n n ts → encode ts ≡ bs
encoded bs n ts long head count s =
    let last : take (16 * n) (drop (8 + 4 * n) bs) ≡ drop (8 + 4 * n) bs = take_all (16 * n) (drop (8 + 4 * n) bs) (simp length-drop (omega arith)) in
    let rest : flat_map number_bytes ts ++ flat_map record_bytes ts ≡ drop 8 bs =
    (λ i. sym s.numbers i ++ (sym s.terms ∙ last ∙ sym (drop-drop (4 * n) 8 bs)) i)
    ∙ take-append-drop (4 * n) (drop 8 bs) in
    ap (λ m. four m ++ (four 16 ++ (flat_map number_bytes ts ++ flat_map record_bytes ts))) count
    ∙ sym (append_assoc (four n) (four 16) (flat_map number_bytes ts ++ flat_map record_bytes ts))
    ∙ (λ i. sym head i ++ rest i)
    ∙ take-append-drop 8 bs

head_stands : (bs : List ℕ) (n : ℕ) → 8 ≤ length bs → Bytes bs → four_at bs 0 ≡ n → four_at bs 4 ≡ 16 → take 8 bs ≡ four n ++ four 16
head_stands bs n h bytes c s =
    take-add 4 4 bs
    ∙ (λ i. (four_written bs 0 (omega arith) bytes ∙ ap four c) i ++ (four_written bs 4 (omega arith) bytes ∙ ap four s) i)

pub saves_back : (g : Grid) (bs : List ℕ) → Bytes bs → SavesBack g bs
saves_back g bs bytes ts e =
    let o = opened g bs ts e in
    encoded bs (four_at bs 0) ts o.long (head_stands bs (four_at bs 0) (omega (arith, o.long)) bytes refl o.size) (upto_length g bs (four_at bs 0) (four_at bs 0) ts o.read)
    (stand g bs (four_at bs 0) (omega (arith, o.long)) bytes (four_at bs 0) ts (omega arith) o.read)
