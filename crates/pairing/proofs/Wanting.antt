-- What the interests of a side add up to.
use Rattle.std.proofs.Common.{◌≡◌, ℕ, suc, ◌+◌, ◌≤◌, Bool, true, false, cond, not, ◌&&◌, eqb, List, [], ◌∷◌, ◌++◌, map, sum_by, filter, sym, refl, ap, ◌∙◌, subst, ⊎_elim, arith}
use Rattle.std.proofs.lemmas.List.Sorted.{sum_by-IsPermutation}
use Rattle.std.proofs.lemmas.List.Sums.{sum_by-cons, sum_by-append}
use Rattle.std.proofs.lemmas.Bool.{cases_Bool, eqb-true, and_parts, or_parts, not-true, cond-true, cond-false, cond_both}
use Rattle.std.proofs.lemmas.Bool.Decides.{nat_tests}
use Rattle.orders.specs.Forms.{side_code}
use Rattle.orders.specs.declared.terms.Side.{Side}
use Rattle.orders.specs.declared.terms.Side.TheVariants.{Buy, Sell}
use Rattle.orders.specs.declared.terms.Terms.{Terms}
use Rattle.book.specs.Lists.{held, distinct}
use Rattle.book.specs.Figures.{open_of}
use Rattle.pricing.specs.Depth.{kind_takes, takes_at}
use Rattle.pairing.proofs.Joining.{queued_shuffled}
use Rattle.pairing.specs.Queues.{placed_from, trading_at, interest_of, quote_interest}
use Rattle.pairing.specs.Steps.{queue_by}
use Rattle.pairing.specs.declared.interest.Interest.{Interest}
use Rattle.pairing.specs.declared.placed.Placed.{Placed}

-- what is wanted under the numbers that pass a test
abbrev pub wanted_by : (ℕ → Bool) → Interest → ℕ
wanted_by t i = cond (t i.number) i.quantity 0

pub sum_by_map : {X Y : Type 0} (f : Y → ℕ) (g : X → Y) (xs : List X) → sum_by f (map g xs) ≡ sum_by (λ x. f (g x)) xs
sum_by_map f g [] = refl
sum_by_map f g (x ∷ xs) = omega (arith, sum_by-cons f (g x) (map g xs), sum_by-cons (λ x. f (g x)) x xs, sum_by_map f g xs)

sum_by_kept : {X : Type 0} (t : X → Bool) (f : X → ℕ) (xs : List X) → sum_by f (filter t xs) ≡ sum_by (λ x. cond (t x) (f x) 0) xs
sum_by_kept t f [] = refl
sum_by_kept t f (x ∷ xs) =
    let rest = sum_by_kept t f xs in
    let whole = sum_by-cons (λ x. cond (t x) (f x) 0) x xs in
    cond_both (t x) (x ∷ filter t xs) (filter t xs) (λ l. sum_by f l ≡ sum_by (λ y. cond (t y) (f y) 0) (x ∷ xs))
    (λ e. omega (arith, rest, whole, sum_by-cons f x (filter t xs), cond-true (t x) (f x) 0 e))
    (λ e. omega (arith, rest, whole, cond-false (t x) (f x) 0 e))

sum_by_placed : (f : Terms → ℕ) (i : ℕ) (ts : List Terms) → sum_by (λ a. f a.terms) (placed_from i ts) ≡ sum_by f ts
sum_by_placed f i [] = refl
sum_by_placed f i (t ∷ ts) =
    omega (arith, sum_by-cons (λ a. f a.terms) (record { place = i; terms = t }) (placed_from (suc i) ts), sum_by-cons f t ts, sum_by_placed f (suc i) ts)

quote_sum : (t : ℕ → Bool) (v : ℕ) → sum_by (wanted_by t) (quote_interest v) ≡ cond (t 0) v 0
quote_sum t v =
    cond_both (eqb v 0) [] (record { number = 0; quantity = v } ∷ []) (λ l. sum_by (wanted_by t) l ≡ cond (t 0) v 0)
    (λ e. let none = eqb-true v 0 e in cond_both (t 0) v 0 (λ n. 0 ≡ n) (λ _. sym none) (λ _. refl))
    (λ e. omega arith)

module _ (before : Placed → Placed → Bool) (side : Side) (p : ℕ) (ts : List Terms) where
  -- a sum over a queue is one over the orders that trade
  pub queue_sum : (f : Terms → ℕ) → sum_by (λ a. f a.terms) (queue_by before side p ts) ≡ sum_by (λ u. cond (takes_at side p u) (f u) 0) ts
  queue_sum f =
      sum_by-IsPermutation (λ a. f a.terms) (trading_at side p ts) (queue_by before side p ts) (queued_shuffled before (trading_at side p ts))
      ∙ sum_by_kept (λ a. takes_at side p a.terms) (λ a. f a.terms) (placed_from 0 ts)
      ∙ sum_by_placed (λ u. cond (takes_at side p u) (f u) 0) 0 ts

  -- what is wanted under some numbers, by the orders that trade and by the quote
  pub wanted_sum : (t : ℕ → Bool) (v : ℕ) → sum_by (wanted_by t) (map interest_of (queue_by before side p ts) ++ quote_interest v) ≡ sum_by (λ u. cond (takes_at side p u) (cond (t u.number) u.quantity 0) 0) ts + cond (t 0) v 0
  wanted_sum t v =
      sum_by-append (wanted_by t) (map interest_of (queue_by before side p ts)) (quote_interest v)
      ∙ ap (λ n. n + sum_by (wanted_by t) (quote_interest v)) (sum_by_map (wanted_by t) interest_of (queue_by before side p ts) ∙ queue_sum (λ u. cond (t u.number) u.quantity 0))
      ∙ ap (λ n. sum_by (λ u. cond (takes_at side p u) (cond (t u.number) u.quantity 0) 0) ts + n) (quote_sum t v)

part_le : (b : Bool) (n : ℕ) → cond b n 0 ≤ n
part_le b n = grind (arith, nat_tests)

-- an order trades on one side at most
one_side : (side : Side) (a b : Bool) (n : ℕ) → cond (eqb (side_code side) 0 && a) n 0 + cond (eqb (side_code side) 1 && b) n 0 ≤ n
one_side Buy a b n = omega (arith, part_le a n)
one_side Sell a b n = omega (arith, part_le b n)

-- what both sides have is no more than what all orders have
pub both_sides : (f : Terms → ℕ) (p : ℕ) (ts : List Terms) → sum_by (λ u. cond (takes_at Buy p u) (f u) 0) ts + sum_by (λ u. cond (takes_at Sell p u) (f u) 0) ts ≤ sum_by f ts
both_sides f p [] = omega arith
both_sides f p (t ∷ ts) =
    omega (
      arith,
      both_sides f p ts,
      one_side t.side (kind_takes Buy t.kind p) (kind_takes Sell t.kind p) (f t),
      sum_by-cons (λ u. cond (takes_at Buy p u) (f u) 0) t ts,
      sum_by-cons (λ u. cond (takes_at Sell p u) (f u) 0) t ts,
      sum_by-cons f t ts,
    )

-- the orders of a number have open what is open of it
none_held : (n : ℕ) (ts : List Terms) → held n ts ≡ false → sum_by (λ u. cond (eqb u.number n) u.quantity 0) ts ≡ 0
none_held n [] h = refl
none_held n (t ∷ ts) h =
    let parts = or_parts (eqb t.number n) (held n ts) h in
    omega (arith, sum_by-cons (λ u. cond (eqb u.number n) u.quantity 0) t ts, cond-false (eqb t.number n) t.quantity 0 parts.0, none_held n ts parts.1)

pub open_sum : (n : ℕ) (ts : List Terms) → distinct ts ≡ true → sum_by (λ u. cond (eqb u.number n) u.quantity 0) ts ≡ open_of n ts
open_sum n [] d = refl
open_sum n (t ∷ ts) d =
    let parts = and_parts (not (held t.number ts)) (distinct ts) d in
    let whole = sum_by-cons (λ u. cond (eqb u.number n) u.quantity 0) t ts in
    ⊎_elim
    (λ e. let here = cond-true (eqb t.number n) t.quantity 0 e in
    let none = none_held n ts (subst (λ m. held m ts ≡ false) (eqb-true t.number n e) (not-true _ parts.0)) in
    whole ∙ rw e (omega (arith, none)))
    (λ e. let here = cond-false (eqb t.number n) t.quantity 0 e in whole ∙ rw e (omega (arith, open_sum n ts parts.1)))
    (cases_Bool (eqb t.number n))
