-- Bytes that mean a list of orders.
use Rattle.std.proofs.Common.{◌≡◌, ℕ, ◌+◌, ◌*◌, ◌<◌, ◌≤◌, Bool, true, false, cond, ◌&&◌, eqb, leb, List, length, Some, Ok, Err, Result, sym, refl, ap, ◌∙◌, arith}
use Rattle.std.proofs.lemmas.Bool.{and_parts, eqb-true, leb-true, cond-true}
use Rattle.std.specs.List.{slice_get}
use Rattle.std.specs.Option.{option_map}
use Rattle.std.specs.Result.{result_ok}
use Rattle.orders.specs.Results.{seen}
use Rattle.orders.specs.Ticks.{Grid}
use Rattle.orders.specs.declared.terms.Terms.{Terms}
use Rattle.book.proofs.General.{given}
use Rattle.book.specs.Lists.{Sound}
use Rattle.saved_book.specs.Calls.{orders_of, orders_in}
use Rattle.saved_book.specs.Decoding.{four_at, record_at, orders_upto, laid_out, decode}
use Rattle.saved_book.specs.Steps.{head_count}
use Rattle.saved_book.specs.declared.fault.SavedFault.{SavedFault}
use Rattle.saved_book.specs.declared.fault.SavedFault.TheVariants.{Layout}
use Rattle.saved_book.proofs.Upto.{upto_length, upto_distinct, upto_ranged, upto_nth}

pub record Opened (g : Grid) (bs : List ℕ) (ts : List Terms) : Type 0 where
  pub few : four_at bs 0 ≤ 256
  pub size : four_at bs 4 ≡ 16
  pub long : length bs ≡ 8 + 20 * four_at bs 0
  pub read : orders_upto g bs (four_at bs 0) (four_at bs 0) ≡ Ok ts
  pub count : length ts ≡ four_at bs 0

by_layout : (g : Grid) (bs : List ℕ) (ts : List Terms) (b : Bool) → laid_out bs ≡ b → cond b (orders_upto g bs (four_at bs 0) (four_at bs 0)) (Err Layout) ≡ Ok ts → Opened g bs ts
by_layout g bs ts true l e =
    let p = and_parts (leb (four_at bs 0) 256) (eqb (four_at bs 4) 16 && eqb (length bs) (8 + 20 * four_at bs 0)) l in
    let q = and_parts (eqb (four_at bs 4) 16) (eqb (length bs) (8 + 20 * four_at bs 0)) p.1 in
    record {
      few = leb-true _ _ p.0;
      size = eqb-true _ _ q.0;
      long = eqb-true _ _ q.1;
      read = e;
      count = upto_length g bs (four_at bs 0) (four_at bs 0) ts e;
    }
by_layout g bs ts false l e = cc

pub opened : (g : Grid) (bs : List ℕ) (ts : List Terms) → decode g bs ≡ Ok ts → Opened g bs ts
opened g bs ts e = by_layout g bs ts (laid_out bs) refl e

-- what bytes mean is a book
sound_of : (g : Grid) (bs : List ℕ) (r : Result (List Terms) SavedFault) → decode g bs ≡ r → Sound (orders_of r)
sound_of g bs (Err f) e = record { few = omega arith; apart = refl; ranged = tt }
sound_of g bs (Ok ts) e =
    let o = opened g bs ts e in
    record {
      few = omega (arith, o.few, o.count);
      apart = upto_distinct g bs (four_at bs 0) (four_at bs 0) ts o.read;
      ranged = upto_ranged g bs (four_at bs 0) (four_at bs 0) ts o.read;
    }

pub sound_in : (g : Grid) (bs : List ℕ) → Sound (orders_in g bs)
sound_in g bs = sound_of g bs (decode g bs) refl

-- bytes that mean some orders
some_of : (g : Grid) (bs : List ℕ) (r : Result (List Terms) SavedFault) → decode g bs ≡ r → 0 < length (orders_of r) → Opened g bs (orders_of r)
some_of g bs (Err f) e h = absurd (omega arith)
some_of g bs (Ok ts) e h = opened g bs ts e

pub some_in : (g : Grid) (bs : List ℕ) → 0 < length (orders_in g bs) → Opened g bs (orders_in g bs)
some_in g bs h = some_of g bs (decode g bs) refl h

-- the order at a place is that of the record there
pub nth_in : (g : Grid) (bs : List ℕ) (n k : ℕ) → n ≡ length (orders_in g bs) → k < n → slice_get (orders_in g bs) k ≡ result_ok (record_at g bs n k)
nth_in g bs n k e h =
    let o = some_in g bs (omega arith) in
    upto_nth g bs (four_at bs 0) (four_at bs 0) (orders_in g bs) k o.read (omega (arith, o.count))
    ∙ ap (λ m. result_ok (record_at g bs m k)) (sym o.count ∙ sym e)

-- a result as an option, seen through a function
pub ok_seen : {A B E : Type 0} (f : A → B) (r : Result A E) → option_map f (result_ok r) ≡ result_ok (seen f r)
ok_seen f (Ok x) = refl
ok_seen f (Err e) = refl

-- the check of all the records of bytes that are laid out
module _ (g : Grid) (bs : List ℕ) (n : ℕ) (h : Some n ≡ head_count bs) where
  all_records : orders_upto g bs n n ≡ decode g bs
  all_records =
      let p = given (laid_out bs) n (four_at bs 0) h in
      ap (λ m. orders_upto g bs m m) p.1 ∙ sym (cond-true (laid_out bs) _ _ p.0)

  by_records : (r : Result (List Terms) SavedFault) (u : Unit {0}) → decode g bs ≡ r → Ok u ≡ seen (λ _. tt) r → (Ok (orders_of r) ≡ r) × (n ≡ length (orders_of r))
  by_records (Err f) u d e = cc
  by_records (Ok ts) u d e = (refl, sym (upto_length g bs n n ts (all_records ∙ d)))

  pub checked : (u : Unit {0}) → Ok u ≡ seen (λ _. tt) (orders_upto g bs n n) → (Ok (orders_in g bs) ≡ decode g bs) × (n ≡ length (orders_in g bs))
  checked u e = by_records (decode g bs) u refl (e ∙ ap (seen (λ _. tt)) all_records)

  by_fault : (r : Result (List Terms) SavedFault) (f : SavedFault) → ◌≡◌ {A = Result (Unit {0}) SavedFault} (Err f) (seen (λ _. tt) r) → Err f ≡ r
  by_fault (Ok ts) f e = cc
  by_fault (Err x) f e = cc

  pub faulted : (f : SavedFault) → ◌≡◌ {A = Result (Unit {0}) SavedFault} (Err f) (seen (λ _. tt) (orders_upto g bs n n)) → Err f ≡ decode g bs
  faulted f e = by_fault (decode g bs) f (e ∙ ap (seen (λ _. tt)) all_records)
