-- Buyers and sellers may change places: the pairs stay the same.
use Rattle.std.proofs.Common.{◌≡◌, ℕ, zero, suc, ◌+◌, ◌-◌, ◌<◌, ◌≤◌, Bool, false, eqb, ◌⊎◌, List, [], ◌∷◌, ◌++◌, map, length, sum_by, sym, ap, ◌∙◌, inl, inr, ⊎_elim, arith}
use Rattle.std.proofs.lemmas.Bool.{cases_order, ne_eqb, le-leb, lt-leb}
use Rattle.std.specs.List.{AllByRecursion}
use Rattle.settling.specs.declared.fill.Fill.{Fill}
use Rattle.pairing.proofs.Serving.{bought_by, sold_by, bought_in_turn}
use Rattle.pairing.proofs.Turning.{interest, sated, no_sells}
use Rattle.pairing.proofs.Wanting.{wanted_by, sum_by_map}
use Rattle.pairing.specs.Pairs.{a_fill, paired}
use Rattle.pairing.specs.declared.interest.Interest.{Interest}

abbrev flipped : Fill → Fill
flipped f = a_fill f.price f.seller f.buyer f.quantity

-- one pair, by which of the two is the smaller
module _ (p : ℕ) (b : Interest) (bs : List Interest) (s : Interest) (ss : List Interest) (pos : 0 < b.quantity) where
  some : eqb b.quantity 0 ≡ false
  some = ne_eqb b.quantity 0 (λ e. omega arith)

  less_buy : b.quantity < s.quantity → paired p (b ∷ bs) (s ∷ ss) ≡ a_fill p b.number s.number b.quantity ∷ paired p bs (interest s.number (s.quantity - b.quantity) ∷ ss)
  less_buy h = rw (some, lt-leb s.quantity b.quantity h)

  whole_sell : s.quantity ≤ b.quantity → paired p (b ∷ bs) (s ∷ ss) ≡ a_fill p b.number s.number s.quantity ∷ paired p (interest b.number (b.quantity - s.quantity) ∷ bs) ss
  whole_sell h = rw (some, le-leb s.quantity b.quantity h)

  -- the two are equal
  same_both : b.quantity ≡ s.quantity → paired p (b ∷ bs) (s ∷ ss) ≡ a_fill p b.number s.number s.quantity ∷ paired p bs ss
  same_both e =
      let nothing : b.quantity - s.quantity ≡ 0 = omega arith in
      whole_sell (omega arith)
      ∙ ap (λ r. a_fill p b.number s.number s.quantity ∷ paired p (interest b.number r ∷ bs) ss) nothing
      ∙ ap (λ l. a_fill p b.number s.number s.quantity ∷ l) (sated p b.number bs ss)

flips : (n p : ℕ) (bs ss : List Interest) → length bs + length ss ≤ n → AllByRecursion (λ i. 1 ≤ i.quantity) bs → AllByRecursion (λ i. 1 ≤ i.quantity) ss → paired p ss bs ≡ map flipped (paired p bs ss)
flips n p [] ss h x y = no_sells p ss
flips n p (b ∷ bs) [] h x y = sym (ap (map flipped) (no_sells p (b ∷ bs)))
flips zero p (b ∷ bs) (s ∷ ss) h x y = absurd (omega arith)
flips (suc n) p (b ∷ bs) (s ∷ ss) h x y =
    ⊎_elim
    (λ e. same_both p s ss b bs y.0 (sym e)
    ∙ ap (λ l. a_fill p s.number b.number b.quantity ∷ l) (flips n p bs ss (omega arith) x.1 y.1)
    ∙ ap (λ r. a_fill p s.number b.number r ∷ map flipped (paired p bs ss)) e
    ∙ sym (ap (map flipped) (same_both p b bs s ss x.0 e)))
    (⊎_elim
    (λ lt. whole_sell p s ss b bs y.0 (omega arith)
    ∙ ap (λ l. a_fill p s.number b.number b.quantity ∷ l) (flips n p bs (interest s.number (s.quantity - b.quantity) ∷ ss) (omega arith) x.1 (omega arith, y.1))
    ∙ sym (ap (map flipped) (less_buy p b bs s ss x.0 lt)))
    (λ gt. less_buy p s ss b bs y.0 gt
    ∙ ap (λ l. a_fill p s.number b.number s.quantity ∷ l) (flips n p (interest b.number (b.quantity - s.quantity) ∷ bs) ss (omega arith) (omega arith, x.1) y.1)
    ∙ sym (ap (map flipped) (whole_sell p b bs s ss x.0 (omega arith)))))
    (cases_order b.quantity s.quantity)

-- what is sold is what is bought, were the two sides to change places
sold_flipped : (t : ℕ → Bool) (p : ℕ) (bs ss : List Interest) → AllByRecursion (λ i. 1 ≤ i.quantity) bs → AllByRecursion (λ i. 1 ≤ i.quantity) ss → sum_by (bought_by t) (paired p ss bs) ≡ sum_by (sold_by t) (paired p bs ss)
sold_flipped t p bs ss x y =
    ap (sum_by (bought_by t)) (flips (length bs + length ss) p bs ss (omega arith) x y) ∙ sum_by_map (bought_by t) flipped (paired p bs ss)

pub sold_in_turn : (p : ℕ) (bs xs ys : List Interest) → AllByRecursion (λ i. 1 ≤ i.quantity) bs → AllByRecursion (λ i. 1 ≤ i.quantity) (xs ++ ys) → ((t : ℕ → Bool) → sum_by (sold_by t) (paired p bs (xs ++ ys)) ≤ sum_by (wanted_by t) xs) ⊎ ((t : ℕ → Bool) → sum_by (wanted_by t) xs ≤ sum_by (sold_by t) (paired p bs (xs ++ ys)))
sold_in_turn p bs xs ys x y =
    ⊎_elim
    (λ none. inl (λ t. omega (arith, none t, sold_flipped t p bs (xs ++ ys) x y)))
    (λ full. inr (λ t. omega (arith, full t, sold_flipped t p bs (xs ++ ys) x y)))
    (bought_in_turn p xs ys bs)
