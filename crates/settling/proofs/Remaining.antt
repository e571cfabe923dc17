-- What remains of a list after fills.
use Rattle.std.proofs.Common.{◌≡◌, ℕ, ◌-◌, ◌<◌, ◌≤◌, true, false, cond, ◌||◌, eqb, List, [], ◌∷◌, ◌++◌, length, Some, None, sym, refl, ap, ◌∙◌, subst, ⊎_elim, arith}
use Rattle.std.proofs.lemmas.List.{append-nil, append_assoc}
use Rattle.std.proofs.lemmas.List.Sums.{sum_by-append}
use Rattle.std.proofs.lemmas.Bool.{cases_Bool, cases_lt, and_parts, and_from, or_parts, not-true, not_from_false, eqb-true, eqb-false, eq-eqb, ne_eqb}
use Rattle.std.proofs.lemmas.Bool.Decides.{nat_tests}
use Rattle.std.specs.List.{AllByRecursion}
use Rattle.orders.specs.Ranges.{in_range, with_quantity}
use Rattle.orders.specs.declared.terms.Terms.{Terms}
use Rattle.book.proofs.Laws.{found_none}
use Rattle.book.specs.Figures.{open_in, open_of}
use Rattle.book.specs.Lists.{held, found, distinct, Sound}
use Rattle.settling.specs.Fills.{shares_for, traded_of, rest_of, remaining, after_fills}
use Rattle.settling.specs.declared.fill.Fill.{Fill}

-- an order has a share open
some_open : (t : Terms) → in_range t ≡ true → 0 < t.quantity
some_open t h = grind (arith, nat_tests)

lower_in_range : (r : ℕ) (t : Terms) → 0 < r → r ≤ t.quantity → in_range t ≡ true → in_range (with_quantity t r) ≡ true
lower_in_range r t some most h = grind (arith, nat_tests)

-- one order: all of it is traded, some, or nothing
module _ (fs : List Fill) (t : Terms) where
  pub remaining_all : t.quantity ≤ traded_of t.number fs → remaining fs t ≡ []
  remaining_all h = rw (eq-eqb (rest_of fs t) 0 (omega arith))

  pub remaining_some : traded_of t.number fs < t.quantity → remaining fs t ≡ with_quantity t (rest_of fs t) ∷ []
  remaining_some h = rw (ne_eqb (rest_of fs t) 0 (omega arith))

  pub remaining_whole : traded_of t.number fs ≡ 0 → in_range t ≡ true → remaining fs t ≡ t ∷ []
  remaining_whole z r =
      let whole : rest_of fs t ≡ t.quantity = omega arith in
      remaining_some (omega (arith, some_open t r)) ∙ ap (λ q. with_quantity t q ∷ []) whole

  -- its rest stands in front of ts, if it has one
  held_past : (n : ℕ) (ts : List Terms) → eqb t.number n ≡ false → held n (remaining fs t ++ ts) ≡ held n ts
  held_past n ts h =
      ⊎_elim (λ l. ap (λ us. held n (us ++ ts)) (remaining_some l) ∙ ap (λ b. b || held n ts) h)
      (λ l. ap (λ us. held n (us ++ ts)) (remaining_all l)) (cases_lt (traded_of t.number fs) t.quantity)

  found_past : (n : ℕ) (ts : List Terms) → eqb t.number n ≡ false → found n (remaining fs t ++ ts) ≡ found n ts
  found_past n ts h =
      ⊎_elim (λ l. ap (λ us. found n (us ++ ts)) (remaining_some l) ∙ ap (λ b. cond b (Some (with_quantity t (rest_of fs t))) (found n ts)) h)
      (λ l. ap (λ us. found n (us ++ ts)) (remaining_all l)) (cases_lt (traded_of t.number fs) t.quantity)

  open_here : (n : ℕ) (ts : List Terms) → eqb t.number n ≡ true → found n ts ≡ None → open_of n (remaining fs t ++ ts) ≡ t.quantity - traded_of n fs
  open_here n ts h none =
      let here : rest_of fs t ≡ t.quantity - traded_of n fs = ap (λ m. t.quantity - traded_of m fs) (eqb-true t.number n h) in
      ⊎_elim
      (λ l.
      ap (λ us. open_of n (us ++ ts)) (remaining_some l)
      ∙ ap (λ b. open_in (cond b (Some (with_quantity t (rest_of fs t))) (found n ts))) h
      ∙ here)
      (λ l.
      let zero : 0 ≡ t.quantity - traded_of n fs = omega arith in
      ap (λ us. open_of n (us ++ ts)) (remaining_all l) ∙ ap open_in none ∙ zero)
      (cases_lt (traded_of t.number fs) t.quantity)

-- nothing is traded
pub fills_untraded : (fs : List Fill) (ts : List Terms) → AllByRecursion (λ t. traded_of t.number fs ≡ 0) ts → AllByRecursion (λ t. in_range t ≡ true) ts → after_fills fs ts ≡ ts
fills_untraded fs [] z r = refl
fills_untraded fs (t ∷ ts) z r =
    ap (λ l. l ++ after_fills fs ts) (remaining_whole fs t z.0 r.0) ∙ ap (λ l. t ∷ l) (fills_untraded fs ts z.1 r.1)

-- fills that trade as much for every number
pub fills_same : (fs gs : List Fill) → ((n : ℕ) → traded_of n fs ≡ traded_of n gs) → (ts : List Terms) → after_fills fs ts ≡ after_fills gs ts
fills_same fs gs h [] = refl
fills_same fs gs h (t ∷ ts) =
    ap (λ q. cond (eqb (t.quantity - q) 0) [] (with_quantity t (t.quantity - q) ∷ []) ++ after_fills fs ts) (h t.number)
    ∙ ap (λ l. remaining gs t ++ l) (fills_same fs gs h ts)

-- some fills, and then others
fills_parts : (fs : List Fill) (ts us : List Terms) → after_fills fs (ts ++ us) ≡ after_fills fs ts ++ after_fills fs us
fills_parts fs [] us = refl
fills_parts fs (t ∷ ts) us =
    ap (λ l. remaining fs t ++ l) (fills_parts fs ts us) ∙ sym (append_assoc (remaining fs t) (after_fills fs ts) (after_fills fs us))

module _ (fs gs : List Fill) where
  remaining_again : (t : Terms) → after_fills gs (remaining fs t) ≡ remaining (fs ++ gs) t
  remaining_again t =
      let both = sum_by-append (shares_for t.number) fs gs in
      ⊎_elim
      (λ l.
      let rest : rest_of fs t - traded_of t.number gs ≡ rest_of (fs ++ gs) t = omega arith in
      ap (after_fills gs) (remaining_some fs t l)
      ∙ append-nil (remaining gs (with_quantity t (rest_of fs t)))
      ∙ ap (λ r. cond (eqb r 0) [] (with_quantity t r ∷ [])) rest)
      (λ l. ap (after_fills gs) (remaining_all fs t l) ∙ sym (remaining_all (fs ++ gs) t (omega arith)))
      (cases_lt (traded_of t.number fs) t.quantity)

  pub fills_append : (ts : List Terms) → after_fills gs (after_fills fs ts) ≡ after_fills (fs ++ gs) ts
  fills_append [] = refl
  fills_append (t ∷ ts) =
      fills_parts gs (remaining fs t) (after_fills fs ts)
      ∙ ap (λ l. l ++ after_fills gs (after_fills fs ts)) (remaining_again t)
      ∙ ap (λ l. remaining (fs ++ gs) t ++ l) (fills_append ts)

-- what the list keeps
module _ (fs : List Fill) where
  held_after : (n : ℕ) (ts : List Terms) → held n ts ≡ false → held n (after_fills fs ts) ≡ false
  held_after n [] h = refl
  held_after n (t ∷ ts) h =
      let p = or_parts (eqb t.number n) (held n ts) h in
      held_past fs t n (after_fills fs ts) p.0 ∙ held_after n ts p.1

  pub distinct_after : (ts : List Terms) → distinct ts ≡ true → distinct (after_fills fs ts) ≡ true
  distinct_after [] d = refl
  distinct_after (t ∷ ts) d =
      let p = and_parts _ (distinct ts) d in
      let rest = distinct_after ts p.1 in
      ⊎_elim (λ e. rw e rest) (λ e. rw e (and_from _ _ (not_from_false _ (held_after t.number ts (not-true _ p.0))) rest)) (cases_Bool (eqb (rest_of fs t) 0))

  ranged_after : (ts : List Terms) → AllByRecursion (λ t. in_range t ≡ true) ts → AllByRecursion (λ t. in_range t ≡ true) (after_fills fs ts)
  ranged_after [] r = tt
  ranged_after (t ∷ ts) r =
      let rest = ranged_after ts r.1 in
      ⊎_elim (λ e. rw e rest)
      (λ e.
      let some : rest_of fs t ≡ 0 → ⊥ = eqb-false (rest_of fs t) 0 e in
      rw e (lower_in_range (rest_of fs t) t (omega arith) (omega arith) r.0, rest))
      (cases_Bool (eqb (rest_of fs t) 0))

  pub fills_length : (ts : List Terms) → length (after_fills fs ts) ≤ length ts
  fills_length [] = omega arith
  fills_length (t ∷ ts) =
      let rest = fills_length ts in
      ⊎_elim (λ e. rw e (omega arith)) (λ e. rw e (omega arith)) (cases_Bool (eqb (rest_of fs t) 0))

  pub fills_sound : (ts : List Terms) → Sound ts → Sound (after_fills fs ts)
  fills_sound ts s = record { few = omega (arith, fills_length ts, s.few); apart = distinct_after ts s.apart; ranged = ranged_after ts s.ranged }

  pub fills_open : (n : ℕ) (ts : List Terms) → distinct ts ≡ true → open_of n (after_fills fs ts) ≡ open_of n ts - traded_of n fs
  fills_open n [] d = omega arith
  fills_open n (t ∷ ts) d =
      let p = and_parts _ (distinct ts) d in
      ⊎_elim
      (λ e.
      let apart = subst (λ m. held m ts ≡ false) (eqb-true t.number n e) (not-true _ p.0) in
      open_here fs t n (after_fills fs ts) e (found_none n (after_fills fs ts) (held_after n ts apart))
      ∙ sym (ap (λ b. open_in (cond b (Some t) (found n ts)) - traded_of n fs) e))
      (λ e.
      ap open_in (found_past fs t n (after_fills fs ts) e)
      ∙ fills_open n ts p.1
      ∙ sym (ap (λ b. open_in (cond b (Some t) (found n ts)) - traded_of n fs) e))
      (cases_Bool (eqb t.number n))
