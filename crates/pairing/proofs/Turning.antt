-- The loops that pair: what is written, and what is still to come, give the same array in the end.
use Rattle.std.proofs.Common.{◌≡◌, ℕ, ◌+◌, ◌-◌, ◌<◌, ◌≤◌, min, false, cond, eqb, List, [], ◌∷◌, ◌++◌, length, get_or, take, drop, set, sum_by, sym, refl, ap, ◌∙◌, subst, ⊎_elim, arith}
use Rattle.std.proofs.lemmas.List.{append_assoc, length-set, take_more_set, take-append-drop, drop-set-lt, at_drop_more}
use Rattle.std.proofs.lemmas.List.Sums.{sum_by-cons}
use Rattle.std.proofs.lemmas.Bool.{cases_lt, eq-eqb, ne_eqb, le-leb, lt-leb, cond-true, cond-false, eqb-true, eqb-false, cond_both}
use Rattle.std.specs.List.{AllByRecursion}
use Rattle.settling.specs.declared.fill.Fill.{Fill}
use Rattle.pairing.specs.Pairs.{a_fill, paired}
use Rattle.pairing.specs.Steps.{wanted, Written}
use Rattle.pairing.specs.declared.interest.Interest.{Interest}

-- the array in the end, if n fills are written and fs are still to come
abbrev pub final : ℕ → List Fill → List Fill → List Fill
final n out fs = take n out ++ (fs ++ drop (n + length fs) out)

-- the array will be as it was to be in the beginning, and it has room
pub record Course (n₀ : ℕ) (out₀ fs₀ : List Fill) (n : ℕ) (out fs : List Fill) : Type 0 where
  pub ends : final n out fs ≡ final n₀ out₀ fs₀
  pub counts : n + length fs ≡ n₀ + length fs₀
  pub room : n + length fs ≤ length out

pub joined_course : {n₀ n₁ n : ℕ} {out₀ fs₀ out₁ fs₁ out fs : List Fill} → Course n₀ out₀ fs₀ n₁ out₁ fs₁ → Course n₁ out₁ fs₁ n out fs → Course n₀ out₀ fs₀ n out fs
joined_course c d = record { ends = d.ends ∙ c.ends; counts = d.counts ∙ c.counts; room = d.room }

pub written_one : {n₀ : ℕ} {out₀ fs₀ : List Fill} (n : ℕ) (out : List Fill) (f : Fill) (fs : List Fill) → Course n₀ out₀ fs₀ n out (f ∷ fs) → Course n₀ out₀ fs₀ (n + 1) (set out n f) fs
written_one n out f fs c =
    let within : n < length out = omega (arith, c.room) in
    let count : n + 1 + length fs ≡ n + length (f ∷ fs) = omega arith in
    record {
      ends =
          ap (λ l. l ++ (fs ++ drop (n + 1 + length fs) (set out n f))) (take_more_set out n f within)
          ∙ ap (λ l. (take n out ++ f ∷ []) ++ (fs ++ l)) (drop-set-lt (n + 1 + length fs) out n f (omega arith))
          ∙ append_assoc (take n out) (f ∷ []) (fs ++ drop (n + 1 + length fs) out)
          ∙ ap (λ k. take n out ++ (f ∷ (fs ++ drop k out))) count
          ∙ c.ends;
      counts = omega (arith, c.counts);
      room = simp length-set (omega (arith, c.room));
    }

-- nothing is still to come
pub finished : {fs before out : List Fill} {n : ℕ} → Course 0 before fs n out [] → Written fs before n out
finished {fs} {before} {out} {n} c =
    let zero : n + 0 ≡ n = omega arith in
    let all : 0 + length fs ≡ length fs = omega arith in
    record {
      value = omega (arith, c.counts);
      after = sym (ap (λ k. take n out ++ drop k out) zero ∙ take-append-drop n out) ∙ c.ends ∙ ap (λ k. fs ++ drop k before) all;
    }

abbrev pub interest : ℕ → ℕ → Interest
interest n r = record { number = n; quantity = r }

-- the sells, of whose first k shares are taken
abbrev pub lessened : ℕ → List Interest → List Interest
lessened k [] = []
lessened k (s ∷ ss) = interest s.number (s.quantity - k) ∷ ss

pub lessened_none : (ss : List Interest) → lessened 0 ss ≡ ss
lessened_none [] = refl
lessened_none (s ∷ ss) = let e : s.quantity - 0 ≡ s.quantity = omega arith in ap (λ r. interest s.number r ∷ ss) e

-- the sells after x shares of the first
abbrev pub sells_after : ℕ → Interest → List Interest → List Interest
sells_after x s ss = cond (eqb x s.quantity) ss (lessened x (s ∷ ss))

-- one pair
pub turn : (p b w : ℕ) (bs : List Interest) (s : Interest) (ss : List Interest) (x : ℕ) → 0 < w → x ≡ min w s.quantity → paired p (interest b w ∷ bs) (s ∷ ss) ≡ a_fill p b s.number x ∷ paired p (interest b (w - x) ∷ bs) (sells_after x s ss)
turn p b w bs s ss x pos e =
    let some : eqb w 0 ≡ false = ne_eqb w 0 (λ k. omega arith) in
    ⊎_elim
    (λ lt. let same : x ≡ w = omega arith in
    let nothing : w - w ≡ 0 = omega arith in
    let less : eqb w s.quantity ≡ false = ne_eqb w s.quantity (λ k. omega arith) in
    rw (same, some, lt-leb s.quantity w lt, less, nothing))
    (λ le. let same : x ≡ s.quantity = omega arith in rw (same, some, le-leb s.quantity w le, eq-eqb s.quantity s.quantity refl))
    (cases_lt w s.quantity)

-- so many shares are left, if the buyer at hand wants w more; every other interest wants one at least
pub record Going (w : ℕ) (rest ss : List Interest) (left : ℕ) : Type 0 where
  pub used : left ≡ min (w + sum_by wanted rest) (sum_by wanted ss)
  pub buyers : AllByRecursion (λ i. 1 ≤ i.quantity) rest
  pub sellers : AllByRecursion (λ i. 1 ≤ i.quantity) ss

after_sum : (x : ℕ) (s : Interest) (ss : List Interest) → x ≤ s.quantity → sum_by wanted (sells_after x s ss) + x ≡ s.quantity + sum_by wanted ss
after_sum x s ss h =
    cond_both (eqb x s.quantity) ss (lessened x (s ∷ ss)) (λ l. sum_by wanted l + x ≡ s.quantity + sum_by wanted ss)
    (λ e. omega (arith, eqb-true x s.quantity e))
    (λ e. omega (arith, sum_by-cons wanted (interest s.number (s.quantity - x)) ss))

after_all : (x : ℕ) (s : Interest) (ss : List Interest) → x ≤ s.quantity → AllByRecursion (λ i. 1 ≤ i.quantity) ss → AllByRecursion (λ i. 1 ≤ i.quantity) (sells_after x s ss)
after_all x s ss h a =
    cond_both (eqb x s.quantity) ss (lessened x (s ∷ ss)) (AllByRecursion (λ i. 1 ≤ i.quantity)) (λ e. a) (λ e. let some : x ≡ s.quantity → ⊥ = eqb-false x s.quantity e in (omega arith, a))

pub going_on : (w : ℕ) (rest : List Interest) (s : Interest) (ss : List Interest) (left x : ℕ) → x ≡ min w s.quantity → Going w rest (s ∷ ss) left → Going (w - x) rest (sells_after x s ss) (left - x)
going_on w rest s ss left x e g =
    record {
      used = omega (arith, e, g.used, after_sum x s ss (omega arith), sum_by-cons wanted s ss);
      buyers = g.buyers;
      sellers = after_all x s ss (omega arith) g.sellers.1;
    }

-- a pair takes a share at least, and no more than are left
pub takes_some : (w : ℕ) (rest : List Interest) (s : Interest) (ss : List Interest) (left x : ℕ) → 0 < w → x ≡ min w s.quantity → Going w rest (s ∷ ss) left → (1 ≤ x) × (x ≤ left)
takes_some w rest s ss left x pos e g = (omega (arith, g.sellers.0), omega (arith, g.used, sum_by-cons wanted s ss))

-- a buyer who wants no more, or finds no sells
pub sated : (p b : ℕ) (bs ss : List Interest) → paired p (interest b 0 ∷ bs) ss ≡ paired p bs ss
sated p b bs [] = refl
sated p b bs (s ∷ ss) = refl

pub no_sells : (p : ℕ) (bs : List Interest) → paired p bs [] ≡ []
no_sells p [] = refl
no_sells p (b ∷ bs) = no_sells p bs

none_left : (is : List Interest) → AllByRecursion (λ i. 1 ≤ i.quantity) is → sum_by wanted is ≡ 0 → is ≡ []
none_left [] a e = refl
none_left (i ∷ is) a e = absurd (omega (arith, a.0, sum_by-cons wanted i is))

-- the shares are used up, and nothing is still to come
pub used_up : (p b w : ℕ) (rest ss : List Interest) (left : ℕ) → Going w rest ss left → left ≡ 0 → paired p (interest b w ∷ rest) ss ≡ []
used_up p b w rest ss left g e =
    ⊎_elim
    (λ h. let none : w ≡ 0 = omega (arith, g.used) in
    ap (λ r. paired p (interest b r ∷ rest) ss) none ∙ sated p b rest ss ∙ ap (λ l. paired p l ss) (none_left rest g.buyers (omega (arith, g.used))))
    (λ h. ap (paired p (interest b w ∷ rest)) (none_left ss g.sellers (omega (arith, g.used))) ∙ no_sells p (interest b w ∷ rest))
    (cases_lt (w + sum_by wanted rest) (sum_by wanted ss))

-- one turn of the inner loop: x shares of the first sell
pub record Turned (n₀ : ℕ) (out₀ fs₀ : List Fill) (p b w : ℕ) (rest : List Interest) (s : Interest) (ss : List Interest) (n : ℕ) (out : List Fill) (left x : ℕ) : Type 0 where
  pub within : n < length out
  pub some : 1 ≤ x
  pub most : x ≤ left
  pub course : Course n₀ out₀ fs₀ (n + 1) (set out n (a_fill p b s.number x)) (paired p (interest b (w - x) ∷ rest) (sells_after x s ss))
  pub going : Going (w - x) rest (sells_after x s ss) (left - x)

module _ {n₀ : ℕ} {out₀ fs₀ : List Fill} {p b w : ℕ} {rest : List Interest} {s : Interest} {ss : List Interest} {n : ℕ} {out : List Fill} {left x : ℕ} (t : Turned n₀ out₀ fs₀ p b w rest s ss n out left x) where
  -- the loop goes on with these sells
  pub gone_on : {us : List Interest} → sells_after x s ss ≡ us → Course n₀ out₀ fs₀ (n + 1) (set out n (a_fill p b s.number x)) (paired p (interest b (w - x) ∷ rest) us) × Going (w - x) rest us (left - x)
  gone_on e = (subst (λ l. Course n₀ out₀ fs₀ (n + 1) (set out n (a_fill p b s.number x)) (paired p (interest b (w - x) ∷ rest) l)) e t.course, subst (λ l. Going (w - x) rest l (left - x)) e t.going)

  -- or the shares are used up
  pub all_used : left - x ≡ 0 → Course n₀ out₀ fs₀ (n + 1) (set out n (a_fill p b s.number x)) []
  all_used e = subst (Course n₀ out₀ fs₀ (n + 1) (set out n (a_fill p b s.number x))) (used_up p b (w - x) rest (sells_after x s ss) (left - x) t.going e) t.course

-- the first of the sells, of which k shares are taken
module _ (sells : List Interest) (k : ℕ) (head : Interest) (behind : List Interest) (here : sells ≡ head ∷ behind) where
  abbrev pub sell : Interest
  sell = interest head.number (head.quantity - k)

  pub not_taken : (w : ℕ) (rest : List Interest) (left : ℕ) → Going w rest (lessened k sells) left → k < head.quantity
  not_taken w rest left g = omega (arith, (subst (AllByRecursion (λ i. 1 ≤ i.quantity)) (ap (lessened k) here) g.sellers).0)

  pub turned : {n₀ : ℕ} {out₀ fs₀ : List Fill} (p b w : ℕ) (rest : List Interest) (n : ℕ) (out : List Fill) (left x : ℕ) → 0 < w → x ≡ min w (head.quantity - k) → Course n₀ out₀ fs₀ n out (paired p (interest b w ∷ rest) (lessened k sells)) → Going w rest (lessened k sells) left → Turned n₀ out₀ fs₀ p b w rest sell behind n out left x
  turned {n₀} {out₀} {fs₀} p b w rest n out left x pos e c g =
      let first = subst (λ ss. Going w rest ss left) (ap (lessened k) here) g in
      let some = takes_some w rest sell behind left x pos e first in
      let course = subst (Course n₀ out₀ fs₀ n out) (ap (λ ss. paired p (interest b w ∷ rest) (lessened k ss)) here ∙ turn p b w rest sell behind x pos e) c in
      record {
        within = omega (arith, course.room);
        some = some.0;
        most = some.1;
        course = written_one n out _ _ course;
        going = going_on w rest sell behind left x e first;
      }

  -- the sells that the code goes on with
  pub next_sell : (x : ℕ) → k < head.quantity → k + x ≡ head.quantity → sells_after x sell behind ≡ lessened 0 behind
  next_sell x h e = cond-true (eqb x sell.quantity) _ _ (eq-eqb x sell.quantity (omega arith)) ∙ sym (lessened_none behind)

  pub same_sell : (x : ℕ) → k < head.quantity → (k + x ≡ head.quantity → ⊥) → sells_after x sell behind ≡ lessened (k + x) sells
  same_sell x h e =
      let less : sell.quantity - x ≡ head.quantity - (k + x) = omega arith in
      cond-false (eqb x sell.quantity) _ _ (ne_eqb x sell.quantity (λ n. e (omega arith)))
      ∙ ap (λ r. interest head.number r ∷ behind) less
      ∙ sym (ap (lessened (k + x)) here)

-- the buyer at place i
module _ (p : ℕ) (buys : List Interest) (i : ℕ) (d : Interest) (ss : List Interest) where
  pub through : {n₀ n₁ n : ℕ} {out₀ fs₀ out₁ out fs : List Fill} → i < length buys → Course n₀ out₀ fs₀ n₁ out₁ (paired p (drop i buys) ss) → Course n₁ out₁ (paired p (get_or buys i d ∷ drop (i + 1) buys) ss) n out fs → Course n₀ out₀ fs₀ n out fs
  through {n₀} {n₁} {n} {out₀} {fs₀} {out₁} h c k = joined_course (subst (Course n₀ out₀ fs₀ n₁ out₁) (at_drop_more (λ bs. paired p bs ss) buys i d h) c) k

-- no sells are left
pub none_to_sell : {n₀ : ℕ} {out₀ fs₀ : List Fill} (p : ℕ) (bs ss : List Interest) (k n : ℕ) (out : List Fill) → length ss ≡ 0 → Course n₀ out₀ fs₀ n out (paired p bs (lessened k ss)) → Course n₀ out₀ fs₀ n out []
none_to_sell {n₀} {out₀} {fs₀} p bs [] k n out e c = subst (Course n₀ out₀ fs₀ n out) (no_sells p bs) c
none_to_sell p bs (s ∷ ss) k n out e c = absurd (omega arith)
