-- What the place of a number says of the list, and what the row there says of it.
use Rattle.std.proofs.Common.{◌≡◌, ℕ, suc, ◌+◌, ◌<◌, ◌≤◌, Bool, true, false, cond, List, [], ◌∷◌, ◌≢◌, map, length, get_or, take, drop, set, remove, position, Some, None, is_some, option_map, ◌==◌, nat_lt, slice_get, slice_index_or, slice_set, Vec, vec_items, vec_len, ⊎_elim, refl, sym, ap, ◌∙◌, arith}
use Rattle.std.proofs.Math.Numerals.{one-add}
use Rattle.std.proofs.lemmas.List.{take-map, drop-map, map-append, length-map, get_or-map, map-set, drop_more}
use Rattle.std.proofs.lemmas.List.Folds.{find_at}
use Rattle.std.proofs.lemmas.Option.{slice_get-map, slice_get-get_or, slice_get_past}
use Rattle.std.proofs.lemmas.Bool.{ltb-true, ltb-false, lt-ltb, le-ltb, cases_Bool, eq-eqb, ne_eqb}
use Rattle.std.proofs.lemmas.Bool.Decides.{nat_tests}
use Rattle.std.specs.List.{position_or_len}
use Rattle.std.specs.declared.alloc.Global.{Global}
use Rattle.orders.specs.Ranges.{with_quantity}
use Rattle.orders.specs.Told.{terms_of}
use Rattle.orders.specs.declared.order.Order.{Order}
use Rattle.orders.specs.declared.terms.Terms.{Terms}
use Rattle.book.proofs.General.{given, withheld}
use Rattle.book.proofs.Laws.{without_none}
use Rattle.book.proofs.Reading.{Stands}
use Rattle.book.specs.Lists.{held, found, without, lowered}
use Rattle.row_table.specs.Rows.{place_of}

-- the place of a number: the first row that has it
abbrev pub first_of : ℕ → List Terms → ℕ
first_of n = position_or_len (λ t. t.number == n)

pub place_some : (n i : ℕ) (ts : List Terms) → Some i ≡ place_of n ts → (i ≡ first_of n ts) × (i < length ts)
place_some n i ts e =
    let g = given _ _ _ e in
    let lt = ltb-true _ _ g.0 in
    (g.1, omega (arith, lt, g.1))

pub place_none : (n : ℕ) (ts : List Terms) → None ≡ place_of n ts → length ts ≤ first_of n ts
place_none n ts e = ltb-false _ _ (withheld _ _ e)

-- the search for that place, turn by turn
pub place_here : {ts : List Terms} {i : ℕ} {t : Terms} (n : ℕ) → Stands ts i t → t.number ≡ n → first_of n (drop i ts) ≡ 0
place_here n s e = ap (first_of n) s.first ∙ rw (eq-eqb _ _ e)

pub place_next : {ts : List Terms} {i : ℕ} {t : Terms} (n : ℕ) → Stands ts i t → (t.number ≢ n) → first_of n (drop i ts) ≡ suc (first_of n (drop (i + 1) ts))
place_next n s e = ap (first_of n) s.first ∙ rw (ne_eqb _ _ e) (one-add _)

-- by that place an order is found, left out and lowered
pub found_at : (n : ℕ) (ts : List Terms) → found n ts ≡ slice_get ts (first_of n ts)
found_at n ts = find_at (λ t. t.number == n) ts

pub without_at : (n : ℕ) (ts : List Terms) → without n ts ≡ remove ts (first_of n ts)
without_at n [] = refl
without_at n (t ∷ ts) =
    ⊎_elim (λ e. rw e) (λ e. rw e (rw (one-add (first_of n ts)) (ap (λ l. t ∷ l) (without_at n ts)))) (cases_Bool (t.number == n))

pub lowered_at : (n q : ℕ) (ts : List Terms) (d : Terms) → lowered n q ts ≡ slice_set ts (first_of n ts) (with_quantity (slice_index_or ts (first_of n ts) d) q)
lowered_at n q [] d = refl
lowered_at n q (t ∷ ts) d =
    ⊎_elim (λ e. rw e) (λ e. rw e (rw (one-add (first_of n ts)) (ap (λ l. t ∷ l) (lowered_at n q ts d)))) (cases_Bool (t.number == n))

-- it is there if the number is held
pub held_at : (n : ℕ) (ts : List Terms) → held n ts ≡ nat_lt (first_of n ts) (length ts)
held_at n [] = refl
held_at n (t ∷ ts) =
    ⊎_elim (λ e. rw e (sym (lt-ltb 0 (length (t ∷ ts)) (omega arith)))) (λ e. rw e (let h = held_at n ts in grind (arith, nat_tests))) (cases_Bool (t.number == n))

some_if : (b : Bool) (i : ℕ) → is_some (cond b (Some i) None) ≡ b
some_if true i = refl
some_if false i = refl

pub held_if : (n : ℕ) (ts : List Terms) → held n ts ≡ is_some (place_of n ts)
held_if n ts = held_at n ts ∙ sym (some_if _ _)

-- the rows of a table and the list that it means
first_told : (n : ℕ) (os : List Order) → position_or_len (λ o. (terms_of o).number == n) os ≡ first_of n (map terms_of os)
first_told n [] = refl
first_told n (o ∷ os) = ⊎_elim (λ e. rw e) (λ e. rw e (ap (λ k. 1 + k) (first_told n os))) (cases_Bool ((terms_of o).number == n))

pub place_told : (n : ℕ) (os : List Order) → position (λ o. (terms_of o).number == n) os ≡ place_of n (map terms_of os)
place_told n os = rw (first_told n os, length-map os terms_of)

pub row_stands : (xs : List Order) (i : ℕ) (o : Order) → i < length xs → o ≡ slice_index_or xs i o → Stands (map terms_of xs) i (terms_of o)
row_stands xs i o h e =
    let within : i < length (map terms_of xs) = rw length-map h in
    record {
      within = within;
      first = drop_more (map terms_of xs) i (terms_of o) within ∙ ap (λ t. t ∷ drop (i + 1) (map terms_of xs)) (get_or-map terms_of xs i o (terms_of o) h ∙ ap terms_of (sym e));
    }

pub rows_length : (v : Vec Order Global) → vec_len v ≡ length (map terms_of (vec_items v))
rows_length v = v.ok.0 ∙ sym (length-map (vec_items v) terms_of)

map_removed : {X Y : Type 0} (f : X → Y) (xs : List X) (i : ℕ) → map f (remove xs i) ≡ remove (map f xs) i
map_removed f xs i = map-append f (take i xs) (drop (suc i) xs) ∙ simp (take-map f, drop-map f)

pub row_read : (xs : List Order) (i : ℕ) (o : Order) → i < length xs → o ≡ slice_index_or xs i o → Some (terms_of o) ≡ slice_get (map terms_of xs) i
row_read xs i o h e = sym (slice_get-map terms_of xs i ∙ ap (option_map terms_of) (slice_get-get_or xs i o h ∙ ap Some (sym e)))

-- the row o stands at the place i of the number n
pub record Found (n : ℕ) (xs : List Order) (i : ℕ) (o : Order) : Type 0 where
  pub place : i ≡ first_of n (map terms_of xs)
  pub within : i < length xs
  pub is : o ≡ slice_index_or xs i o

-- so does the row that was read at the place that a search told
pub row_placed : {n : ℕ} {xs : List Order} {i : ℕ} {o : Order} → Some i ≡ place_of n (map terms_of xs) → o ≡ slice_index_or xs i o → Found n xs i o
row_placed {n} {xs} {i} e is =
    let h = place_some n i (map terms_of xs) e in
    record { place = h.0; within = omega (arith, h.1, length-map xs terms_of); is = is }

pub row_found : {n : ℕ} {xs : List Order} {i : ℕ} {o : Order} → Found n xs i o → Some (terms_of o) ≡ found n (map terms_of xs)
row_found {n} {xs} {i} {o} f =
    row_read xs i o f.within f.is ∙ ap (slice_get (map terms_of xs)) f.place ∙ sym (found_at n (map terms_of xs))

pub row_removed : {n : ℕ} {xs : List Order} {i : ℕ} {o : Order} → Found n xs i o → map terms_of (remove xs i) ≡ without n (map terms_of xs)
row_removed {n} {xs} {i} f = map_removed terms_of xs i ∙ ap (remove (map terms_of xs)) f.place ∙ sym (without_at n (map terms_of xs))

pub row_lowered : {n : ℕ} {xs : List Order} {i : ℕ} {o : Order} (q : ℕ) (p : Order) → Found n xs i o → terms_of p ≡ with_quantity (terms_of o) q → map terms_of (slice_set xs i p) ≡ lowered n q (map terms_of xs)
row_lowered {n} {xs} {i} {o} q p f e =
    let ts = map terms_of xs in
    let here : get_or ts i (terms_of o) ≡ terms_of o = get_or-map terms_of xs i o (terms_of o) f.within ∙ ap terms_of (sym f.is) in
    map-set terms_of xs i p
    ∙ ap (set ts i) (e ∙ ap (λ t. with_quantity t q) (sym here))
    ∙ ap (λ k. set ts k (with_quantity (slice_index_or ts k (terms_of o)) q)) f.place
    ∙ sym (lowered_at n q ts (terms_of o))

-- no row has the number
pub not_found : (n : ℕ) (ts : List Terms) → length ts ≤ first_of n ts → None ≡ found n ts
not_found n ts h = sym (found_at n ts ∙ slice_get_past ts (first_of n ts) h)

pub not_removed : (n : ℕ) (ts : List Terms) → length ts ≤ first_of n ts → ts ≡ without n ts
not_removed n ts h = sym (without_none n ts (held_at n ts ∙ le-ltb _ _ h))

-- nor where the search for its place told none
pub none_found : (n : ℕ) (ts : List Terms) → None ≡ place_of n ts → None ≡ found n ts
none_found n ts e = not_found n ts (place_none n ts e)

pub none_removed : (n : ℕ) (ts : List Terms) → None ≡ place_of n ts → ts ≡ without n ts
none_removed n ts e = not_removed n ts (place_none n ts e)
