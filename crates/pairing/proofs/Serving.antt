-- What the fills of two sides add up to, and how many there are.
use Rattle.std.proofs.Common.{◌≡◌, ℕ, ◌+◌, ◌-◌, ◌<◌, ◌≤◌, min, Bool, true, false, cond, not, eqb, leb, ◌⊎◌, List, [], ◌∷◌, ◌++◌, length, sum_by, sym, refl, ap, ◌∙◌, inl, inr, ⊎_elim, arith}
use Rattle.std.proofs.lemmas.List.{append_assoc, length-append}
use Rattle.std.proofs.lemmas.List.Sums.{sum_by-cons, sum_by-append}
use Rattle.std.proofs.lemmas.Bool.{cases_eq, cases_lt, eqb-true, leb-true, leb-false}
use Rattle.std.proofs.lemmas.Bool.Decides.{nat_tests}
use Rattle.settling.specs.declared.fill.Fill.{Fill}
use Rattle.pairing.proofs.Wanting.{wanted_by}
use Rattle.pairing.specs.Laws.{shares_of}
use Rattle.pairing.specs.Pairs.{Served, a_fill, served, paired}
use Rattle.pairing.specs.Steps.{wanted}
use Rattle.pairing.specs.declared.interest.Interest.{Interest}

-- what is bought and sold under the numbers that pass a test
abbrev pub bought_by : (ℕ → Bool) → Fill → ℕ
bought_by t f = cond (t f.buyer) f.quantity 0

abbrev pub sold_by : (ℕ → Bool) → Fill → ℕ
sold_by t f = cond (t f.seller) f.quantity 0

-- a buyer b who wants r more shares of the sells ss
record Serves (b r : ℕ) (ss : List Interest) (v : Served) : Type 0 where
  sum : sum_by shares_of v.fills ≡ min r (sum_by wanted ss)
  gets : (t : ℕ → Bool) → sum_by (bought_by t) v.fills ≡ cond (t b) (sum_by shares_of v.fills) 0
  gives : (t : ℕ → Bool) → sum_by (sold_by t) v.fills + sum_by (wanted_by t) v.left ≡ sum_by (wanted_by t) ss
  few : length v.fills + length v.left ≤ length ss + 1
  last : length v.left ≡ 0 → length v.fills ≤ length ss

cond_none : (b : Bool) → ◌≡◌ {A = ℕ} 0 (cond b 0 0)
cond_none b = grind (arith, nat_tests)

cond_add : (b : Bool) (m n : ℕ) → cond b (m + n) 0 ≡ cond b m 0 + cond b n 0
cond_add b m n = grind (arith, nat_tests)

cond_le : (b : Bool) (m n : ℕ) → m ≤ n → cond b m 0 ≤ cond b n 0
cond_le b m n h = grind (arith, nat_tests)

serves : (p b r : ℕ) (ss : List Interest) → Serves b r ss (served p b r ss)
serves p b r [] = record { sum = omega arith; gets = λ t. cond_none (t b); gives = λ t. omega arith; few = omega arith; last = λ e. omega arith }
serves p b r (s ∷ ss) =
    go (eqb r 0) (eqb-true r 0) (leb s.quantity r) (leb-true s.quantity r) (leb-false s.quantity r) (serves p b (r - s.quantity) ss)
  where
    rest : Served
    rest = served p b (r - s.quantity) ss

    whole : Fill
    whole = a_fill p b s.number s.quantity

    part : Fill
    part = a_fill p b s.number r

    less : Interest
    less = record { number = s.number; quantity = s.quantity - r }

    go : (none : Bool) → (none ≡ true → r ≡ 0) → (fits : Bool) → (fits ≡ true → s.quantity ≤ r) → (fits ≡ false → r < s.quantity) → Serves b (r - s.quantity) ss rest → Serves b r (s ∷ ss) (cond none (record { fills = []; left = s ∷ ss }) (cond fits (record { fills = whole ∷ rest.fills; left = rest.left }) (record { fills = part ∷ []; left = less ∷ ss })))
    go true h fits le lt k =
        record { sum = omega (arith, h refl); gets = λ t. cond_none (t b); gives = λ t. omega arith; few = omega arith; last = λ e. omega arith }
    go false h true le lt k =
        record {
          sum = omega (arith, le refl, k.sum, sum_by-cons shares_of whole rest.fills, sum_by-cons wanted s ss);
          gets =
              λ t. sum_by-cons (bought_by t) whole rest.fills
              ∙ ap (λ n. cond (t b) s.quantity 0 + n) (k.gets t)
              ∙ sym (cond_add (t b) s.quantity (sum_by shares_of rest.fills))
              ∙ ap (λ n. cond (t b) n 0) (sym (sum_by-cons shares_of whole rest.fills));
          gives = λ t. omega (arith, k.gives t, sum_by-cons (sold_by t) whole rest.fills, sum_by-cons (wanted_by t) s ss);
          few = omega (arith, k.few);
          last = λ e. omega (arith, k.last e);
        }
    go false h false le lt k =
        let zero : 0 + r ≡ r = omega arith in
        let both : r + (s.quantity - r) ≡ s.quantity = omega (arith, lt refl) in
        record {
          sum = omega (arith, lt refl, sum_by-cons wanted s ss);
          gets = λ t. omega (arith, ap (λ n. cond (t b) n 0) zero);
          gives =
              λ t. omega (arith, sum_by-cons (wanted_by t) less ss, sum_by-cons (wanted_by t) s ss, cond_add (t s.number) r (s.quantity - r), ap (λ n. cond (t s.number) n 0) both);
          few = omega arith;
          last = λ e. omega arith;
        }

-- the fills of the first buyer, and those of the others with what is left
module _ (p : ℕ) (b : Interest) (bs ss : List Interest) where
  abbrev first : Served
  first = served p b.number b.quantity ss

  abbrev others : List Fill
  others = paired p bs first.left

  first_serves : Serves b.number b.quantity ss first
  first_serves = serves p b.number b.quantity ss

-- the fills have the shares of the smaller side
pub paired_sum : (p : ℕ) (bs ss : List Interest) → sum_by shares_of (paired p bs ss) ≡ min (sum_by wanted bs) (sum_by wanted ss)
paired_sum p [] ss = omega arith
paired_sum p (b ∷ bs) ss =
    let v = first_serves p b bs ss in
    omega (arith, v.sum, v.gives (λ _. true), paired_sum p bs (first p b bs ss).left, sum_by-append shares_of (first p b bs ss).fills (others p b bs ss), sum_by-cons wanted b bs)

-- there are fewer fills than interests
pub paired_few : (p : ℕ) (bs ss : List Interest) → length (paired p bs ss) ≤ length bs + length ss - 1
paired_few p [] ss = omega arith
paired_few p (b ∷ bs) ss =
    let v = first_serves p b bs ss in
    let more = paired_few p bs (first p b bs ss).left in
    let both = length-append (first p b bs ss).fills (others p b bs ss) in
    ⊎_elim (λ e. omega (arith, v.last e, more, both)) (λ e. omega (arith, v.few, more, both)) (cases_eq (length (first p b bs ss).left) 0)

-- nobody buys or sells more than he wants
pub bought_most : (t : ℕ → Bool) (p : ℕ) (bs ss : List Interest) → sum_by (bought_by t) (paired p bs ss) ≤ sum_by (wanted_by t) bs
bought_most t p [] ss = omega arith
bought_most t p (b ∷ bs) ss =
    let v = first_serves p b bs ss in
    let most = cond_le (t b.number) (sum_by shares_of (first p b bs ss).fills) b.quantity (omega (arith, v.sum)) in
    omega (arith, most, v.gets t, bought_most t p bs (first p b bs ss).left, sum_by-append (bought_by t) (first p b bs ss).fills (others p b bs ss), sum_by-cons (wanted_by t) b bs)

pub sold_most : (t : ℕ → Bool) (p : ℕ) (bs ss : List Interest) → sum_by (sold_by t) (paired p bs ss) ≤ sum_by (wanted_by t) ss
sold_most t p [] ss = omega arith
sold_most t p (b ∷ bs) ss =
    omega (arith, (first_serves p b bs ss).gives t, sold_most t p bs (first p b bs ss).left, sum_by-append (sold_by t) (first p b bs ss).fills (others p b bs ss))

-- the sells that are left after all buyers
abbrev left_after : ℕ → List Interest → List Interest → List Interest
left_after p [] ss = ss
left_after p (b ∷ bs) ss = left_after p bs (served p b.number b.quantity ss).left

paired_append : (p : ℕ) (xs ys ss : List Interest) → paired p (xs ++ ys) ss ≡ paired p xs ss ++ paired p ys (left_after p xs ss)
paired_append p [] ys ss = refl
paired_append p (x ∷ xs) ys ss =
    ap (λ l. (first p x xs ss).fills ++ l) (paired_append p xs ys (first p x xs ss).left)
    ∙ sym (append_assoc (first p x xs ss).fills (others p x xs ss) (paired p ys (left_after p (x ∷ xs) ss)))

left_sum : (p : ℕ) (xs ss : List Interest) → sum_by wanted (left_after p xs ss) ≡ sum_by wanted ss - sum_by wanted xs
left_sum p [] ss = omega arith
left_sum p (x ∷ xs) ss =
    let v = first_serves p x xs ss in
    omega (arith, v.sum, v.gives (λ _. true), left_sum p xs (first p x xs ss).left, sum_by-cons wanted x xs)

-- a sum over the numbers that pass a test, and over the others
cond_not : (b : Bool) (n : ℕ) → cond b n 0 + cond (not b) n 0 ≡ n
cond_not b n = grind (arith, nat_tests)

bought_parts : (t : ℕ → Bool) (fs : List Fill) → sum_by (bought_by t) fs + sum_by (bought_by (λ n. not (t n))) fs ≡ sum_by shares_of fs
bought_parts t [] = refl
bought_parts t (f ∷ fs) =
    omega (arith, bought_parts t fs, cond_not (t f.buyer) f.quantity, sum_by-cons (bought_by t) f fs, sum_by-cons (bought_by (λ n. not (t n))) f fs, sum_by-cons shares_of f fs)

wanted_parts : (t : ℕ → Bool) (is : List Interest) → sum_by (wanted_by t) is + sum_by (wanted_by (λ n. not (t n))) is ≡ sum_by wanted is
wanted_parts t [] = refl
wanted_parts t (i ∷ is) =
    omega (arith, wanted_parts t is, cond_not (t i.number) i.quantity, sum_by-cons (wanted_by t) i is, sum_by-cons (wanted_by (λ n. not (t n))) i is, sum_by-cons wanted i is)

-- of buyers in front and buyers behind, either those behind buy nothing, or those in front buy all that they want
pub bought_in_turn : (p : ℕ) (xs ys ss : List Interest) → ((t : ℕ → Bool) → sum_by (bought_by t) (paired p (xs ++ ys) ss) ≤ sum_by (wanted_by t) xs) ⊎ ((t : ℕ → Bool) → sum_by (wanted_by t) xs ≤ sum_by (bought_by t) (paired p (xs ++ ys) ss))
bought_in_turn p xs ys ss = ⊎_elim (λ h. inr (full h)) (λ h. inl (none h)) (cases_lt (sum_by wanted xs) (sum_by wanted ss))
  where
    both : (t : ℕ → Bool) → sum_by (bought_by t) (paired p (xs ++ ys) ss) ≡ sum_by (bought_by t) (paired p xs ss) + sum_by (bought_by t) (paired p ys (left_after p xs ss))
    both t = ap (sum_by (bought_by t)) (paired_append p xs ys ss) ∙ sum_by-append (bought_by t) (paired p xs ss) (paired p ys (left_after p xs ss))

    none : sum_by wanted ss ≤ sum_by wanted xs → (t : ℕ → Bool) → sum_by (bought_by t) (paired p (xs ++ ys) ss) ≤ sum_by (wanted_by t) xs
    none h t = omega (arith, both t, bought_most t p xs ss, bought_parts t (paired p ys (left_after p xs ss)), paired_sum p ys (left_after p xs ss), left_sum p xs ss)

    full : sum_by wanted xs < sum_by wanted ss → (t : ℕ → Bool) → sum_by (wanted_by t) xs ≤ sum_by (bought_by t) (paired p (xs ++ ys) ss)
    full h t = omega (arith, both t, bought_parts t (paired p xs ss), wanted_parts t xs, paired_sum p xs ss, bought_most (λ n. not (t n)) p xs ss)
