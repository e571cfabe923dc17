-- The orders of the first records.
use Rattle.std.proofs.Common.{◌≡◌, ℕ, zero, suc, ◌+◌, ◌-◌, ◌*◌, ◌<◌, Bool, true, false, cond, ◌||◌, eqb, List, [], ◌∷◌, ◌++◌, length, is_ok, Some, Ok, Err, Result, sym, refl, ap, ◌∙◌, subst, ⊎_elim, suc-add, zero-add, add-zero, arith}
use Rattle.std.proofs.ByRecursion.{All-push}
use Rattle.std.proofs.lemmas.List.{length_push}
use Rattle.std.proofs.lemmas.Bool.{cases_lt, both_ways, cond-true, cond-false}
use Rattle.std.specs.List.{slice_get, AllByRecursion, list_any, range_with_len}
use Rattle.std.specs.Result.{result_ok}
use Rattle.orders.specs.Ranges.{in_range}
use Rattle.orders.specs.Results.{seen}
use Rattle.orders.specs.Ticks.{Grid}
use Rattle.orders.specs.declared.refusal.Refusal.TheVariants.{NumberHeld}
use Rattle.orders.specs.declared.terms.Terms.{Terms}
use Rattle.book.proofs.Laws.{distinct_push}
use Rattle.book.specs.Lists.{held, distinct}
use Rattle.saved_book.specs.Decoding.{four_at, record_at, joined_by, orders_upto}
use Rattle.saved_book.specs.Steps.{numbered_before, alone}
use Rattle.saved_book.specs.declared.fault.RecordFault.{RecordFault}
use Rattle.saved_book.specs.declared.fault.RecordFault.TheVariants.{Refused}
use Rattle.saved_book.specs.declared.fault.SavedFault.{SavedFault}
use Rattle.saved_book.specs.declared.fault.SavedFault.TheVariants.{Record}
use Rattle.saved_book.proofs.Tickets.{read_number, read_ranged}

-- what it takes that one more record is read
pub record Behind (before : Result (List Terms) SavedFault) (here : Result Terms RecordFault) (ts : List Terms) : Type 0 where
  pub orders : List Terms
  pub order : Terms
  pub read_before : before ≡ Ok orders
  pub read_here : here ≡ Ok order
  pub apart : held order.number orders ≡ false
  pub whole : ts ≡ orders ++ order ∷ []

behind_cond : (k : ℕ) (us : List Terms) (t : Terms) (ts : List Terms) (b : Bool) (f : SavedFault) → held t.number us ≡ b → cond b (Err f) (Ok (us ++ t ∷ [])) ≡ Ok ts → Behind (Ok us) (Ok t) ts
behind_cond k us t ts true f h e = cc
behind_cond k us t ts false f h e = record { orders = us; order = t; read_before = refl; read_here = refl; apart = h; whole = cc }

pub behind : (k : ℕ) (before : Result (List Terms) SavedFault) (here : Result Terms RecordFault) (ts : List Terms) → joined_by k before here ≡ Ok ts → Behind before here ts
behind k (Err f) here ts e = cc
behind k (Ok us) (Err f) ts e = cc
behind k (Ok us) (Ok t) ts e = behind_cond k us t ts (held t.number us) _ refl e

-- a fault stays
pub err_stays : (g : Grid) (bs : List ℕ) (n k d : ℕ) (f : SavedFault) → orders_upto g bs n k ≡ Err f → orders_upto g bs n (d + k) ≡ Err f
err_stays g bs n k zero f e = ap (orders_upto g bs n) (zero-add k) ∙ e
err_stays g bs n k (suc d) f e =
    ap (orders_upto g bs n) (suc-add d k) ∙ ap (λ r. joined_by (d + k) r (record_at g bs n (d + k))) (err_stays g bs n k d f e)

or_swap : (a b c : Bool) → (a || (b || c)) ≡ (b || (a || c))
or_swap true true c = refl
or_swap true false c = refl
or_swap false b c = refl

-- one more number of a range
any_more : (p : ℕ → Bool) (a n : ℕ) → list_any p (range_with_len a (suc n)) ≡ p (a + n) || list_any p (range_with_len a n)
any_more p a zero = ap (λ j. p j || false) (sym (add-zero a))
any_more p a (suc n) =
    ap (λ b. p a || b) (any_more p (a + 1) n)
    ∙ or_swap (p a) (p (a + 1 + n)) (list_any p (range_with_len (a + 1) n))
    ∙ ap (λ j. p j || list_any p (range_with_len a (suc n))) (omega arith)

nth_before : {X : Type 0} (xs : List X) (y : X) (k : ℕ) → k < length xs → slice_get (xs ++ y ∷ []) k ≡ slice_get xs k
nth_before [] y k h = absurd (omega arith)
nth_before (x ∷ xs) y zero h = refl
nth_before (x ∷ xs) y (suc k) h = nth_before xs y k (omega arith)

nth_last : {X : Type 0} (xs : List X) (y : X) → slice_get (xs ++ y ∷ []) (length xs) ≡ Some y
nth_last [] y = refl
nth_last (x ∷ xs) y = nth_last xs y

module _ (g : Grid) (bs : List ℕ) (n : ℕ) where
  pub upto_length : (k : ℕ) (ts : List Terms) → orders_upto g bs n k ≡ Ok ts → length ts ≡ k
  upto_length zero ts e = cc
  upto_length (suc k) ts e =
      let b = behind k (orders_upto g bs n k) (record_at g bs n k) ts e in
      ap length b.whole ∙ length_push b.orders b.order ∙ omega (arith, upto_length k b.orders b.read_before)

  pub upto_distinct : (k : ℕ) (ts : List Terms) → orders_upto g bs n k ≡ Ok ts → distinct ts ≡ true
  upto_distinct zero ts e = cc
  upto_distinct (suc k) ts e =
      let b = behind k (orders_upto g bs n k) (record_at g bs n k) ts e in
      ap distinct b.whole ∙ distinct_push b.orders b.order (upto_distinct k b.orders b.read_before) b.apart

  pub upto_ranged : (k : ℕ) (ts : List Terms) → orders_upto g bs n k ≡ Ok ts → AllByRecursion (λ t. in_range t ≡ true) ts
  upto_ranged zero ts e = let d : [] ≡ ts = cc in subst (AllByRecursion (λ t. in_range t ≡ true)) d tt
  upto_ranged (suc k) ts e =
      let b = behind k (orders_upto g bs n k) (record_at g bs n k) ts e in
      subst (AllByRecursion (λ t. in_range t ≡ true)) (sym b.whole) (All-push (λ t. in_range t ≡ true) b.orders b.order (upto_ranged k b.orders b.read_before) (read_ranged g bs n k b.order b.read_here))

  -- the order at a place is that of the record there
  pub upto_nth : (m : ℕ) (ts : List Terms) (k : ℕ) → orders_upto g bs n m ≡ Ok ts → k < m → slice_get ts k ≡ result_ok (record_at g bs n k)
  upto_nth zero ts k e h = absurd (omega arith)
  upto_nth (suc m) ts k e h =
      let b = behind m (orders_upto g bs n m) (record_at g bs n m) ts e in
      let long = upto_length m b.orders b.read_before in
      ap (λ l. slice_get l k) b.whole
      ∙ ⊎_elim
      (λ lt. nth_before b.orders b.order k (omega arith) ∙ upto_nth m b.orders k b.read_before lt)
      (λ le. let here : k ≡ m = omega arith in
      ap (slice_get (b.orders ++ b.order ∷ [])) (here ∙ sym long) ∙ nth_last b.orders b.order ∙ sym (ap result_ok (ap (record_at g bs n) here ∙ b.read_here)))
      (cases_lt k m)

  -- the numbers of the orders are those in the bytes
  held_push_is : (m : ℕ) (us : List Terms) (t : Terms) → held m (us ++ t ∷ []) ≡ (eqb t.number m || held m us)
  held_push_is m [] t = refl
  held_push_is m (u ∷ us) t = ap (λ b. eqb u.number m || b) (held_push_is m us t) ∙ or_swap (eqb u.number m) (eqb t.number m) (held m us)

  pub upto_held : (k m : ℕ) (ts : List Terms) → orders_upto g bs n k ≡ Ok ts → held m ts ≡ numbered_before bs m k
  upto_held zero m ts e = cc
  upto_held (suc k) m ts e =
      let b = behind k (orders_upto g bs n k) (record_at g bs n k) ts e in
      ap (held m) b.whole ∙ held_push_is m b.orders b.order
      ∙ (λ i. eqb (read_number g bs n k b.order b.read_here i) m || upto_held k m b.orders b.read_before i)
      ∙ sym (any_more (λ j. eqb (four_at bs (8 + 4 * j)) m) 0 k ∙ ap (λ j. eqb (four_at bs (8 + 4 * j)) m || numbered_before bs m k) (zero-add k))

-- one more record is checked, behind some that are good
err_by_number : (k : ℕ) (ts : List Terms) (t : Terms) (f : RecordFault) (b : Bool) → held t.number ts ≡ b → ◌≡◌ {A = Result (Unit {0}) RecordFault} (Err f) (cond b (Err (Refused NumberHeld)) (Ok tt)) → joined_by k (Ok ts) (Ok t) ≡ Err (Record k f)
err_by_number k ts t f true h e = let d : Refused NumberHeld ≡ f = cc in cond-true _ _ _ h ∙ ap (λ x. Err (Record k x)) d
err_by_number k ts t f false h e = cc

ok_by_number : (k : ℕ) (ts : List Terms) (t : Terms) (u : Unit {0}) (b : Bool) → held t.number ts ≡ b → Ok u ≡ cond b (Err (Refused NumberHeld)) (Ok tt) → is_ok (joined_by k (Ok ts) (Ok t)) ≡ true
ok_by_number k ts t u true h e = cc
ok_by_number k ts t u false h e = ap is_ok (cond-false _ _ _ h)

module _ (g : Grid) (bs : List ℕ) (n k : ℕ) where
  by_err : (r : Result (List Terms) SavedFault) (h : Result Terms RecordFault) (f : RecordFault) → orders_upto g bs n k ≡ r → is_ok r ≡ true → Err f ≡ alone bs k h → joined_by k r h ≡ Err (Record k f)
  by_err (Err x) h f e o a = absurd (both_ways false refl o)
  by_err (Ok ts) (Err x) f e o a = cc
  by_err (Ok ts) (Ok t) f e o a = err_by_number k ts t f _ (upto_held g bs n k t.number ts e) a

  pub checked_err : (f : RecordFault) → is_ok (orders_upto g bs n k) ≡ true → Err f ≡ alone bs k (record_at g bs n k) → orders_upto g bs n (suc k) ≡ Err (Record k f)
  checked_err f o a = by_err (orders_upto g bs n k) (record_at g bs n k) f refl o a

  by_ok : (r : Result (List Terms) SavedFault) (h : Result Terms RecordFault) (u : Unit {0}) → orders_upto g bs n k ≡ r → is_ok r ≡ true → Ok u ≡ alone bs k h → is_ok (joined_by k r h) ≡ true
  by_ok (Err x) h u e o a = absurd (both_ways false refl o)
  by_ok (Ok ts) (Err x) u e o a = cc
  by_ok (Ok ts) (Ok t) u e o a = ok_by_number k ts t u _ (upto_held g bs n k t.number ts e) a

  pub checked_ok : (u : Unit {0}) → is_ok (orders_upto g bs n k) ≡ true → Ok u ≡ alone bs k (record_at g bs n k) → is_ok (orders_upto g bs n (suc k)) ≡ true
  checked_ok u o a = by_ok (orders_upto g bs n k) (record_at g bs n k) u refl o a

-- a fault is that of all the records
pub stays_to : (g : Grid) (bs : List ℕ) (n k : ℕ) (f : SavedFault) → k < n → orders_upto g bs n (suc k) ≡ Err f → orders_upto g bs n n ≡ Err f
stays_to g bs n k f h e =
    let far : n ≡ n - suc k + suc k = omega arith in
    ap (orders_upto g bs n) far ∙ err_stays g bs n (suc k) (n - suc k) f e

pub ok_told : {A E : Type 0} (r : Result A E) → is_ok r ≡ true → ◌≡◌ {A = Result (Unit {0}) E} (Ok tt) (seen (λ _. tt) r)
ok_told (Ok x) h = refl
ok_told (Err e) h = absurd (both_ways false refl h)
