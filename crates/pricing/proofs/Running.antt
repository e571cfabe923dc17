-- The best of some levels, taken in one by one, tells of the levels that the price rule keeps.
use Rattle.std.proofs.Common.{◌≡◌, ℕ, ◌-◌, ◌<◌, ◌≤◌, min, max, Bool, true, false, cond, ◌&&◌, eqb, ltb, leb, ◌⊎◌, List, [], ◌∷◌, ◌++◌, length, fold, filter, sym, refl, ap, ◌∙◌, subst, inl, inr, ⊎_elim, arith}
use Rattle.std.proofs.lemmas.List.Elements.{filter-append}
use Rattle.std.proofs.ByRecursion.{All-weaker, All-push, kept_by_passes, all_kept_by}
use Rattle.std.proofs.lemmas.List.{append-nil, append_assoc, length_push}
use Rattle.std.proofs.lemmas.Bool.{leb-true, le-leb, eqb-true, eq-eqb, ne_eqb, and_parts, and_from, and_left, and_right, cases_Bool}
use Rattle.std.proofs.lemmas.Bool.{cases_eq, cases_lt}
use Rattle.std.proofs.lemmas.Bool.Decides.{nat_tests}
use Rattle.std.specs.Cmp.{nat_cmp_is}
use Rattle.std.specs.declared.cmp.Ordering.{Ordering}
use Rattle.std.specs.declared.cmp.Ordering.TheVariants.{Less, Equal, Greater}
use Rattle.std.specs.Ordering.{is_lt, is_gt, nat_cmp, ordering_then}
use Rattle.std.specs.List.{list_all, AllByRecursion}
use Rattle.pricing.proofs.Filters.{kept_none, kept_same, kept_twice, all_both, all_of_all, all_all_of, all_of_push, and_true, lowest_push, highest_push, lowest_all, highest_all, lowest_le_highest}
use Rattle.pricing.specs.Price.{with_most, with_least, lowest_of, highest_of, price_among}
use Rattle.pricing.specs.Steps.{lone_best, shared_lean, tied_best, picked, better_of, chosen_price}
use Rattle.pricing.specs.declared.best.Best.{Best}

-- what holds of each answer of a comparison holds of the comparison
by_cmp : (P : Ordering → Type 0) (a b : ℕ) → (a < b → P Less) → (a ≡ b → P Equal) → (b < a → P Greater) → P (nat_cmp a b)
by_cmp P a b l e g =
    ⊎_elim (λ h. subst P (nat_cmp_is a b Less h) (l h))
    (λ h. ⊎_elim (λ k. subst P (nat_cmp_is a b Equal k) (e k)) (λ k. let m : b < a = omega arith in subst P (nat_cmp_is a b Greater m) (g m)) (cases_eq a b))
    (cases_lt a b)

cmp_above : (a b : ℕ) → is_gt (nat_cmp a b) ≡ ltb b a
cmp_above a b = grind (arith, nat_tests)

cmp_below : (a b : ℕ) → is_lt (nat_cmp a b) ≡ ltb a b
cmp_below a b = grind (arith, nat_tests)

-- a lean is shared exactly if both have it
shared_by : (x y : Ordering) → (is_gt (shared_lean x y) ≡ (is_gt x && is_gt y)) × (is_lt (shared_lean x y) ≡ (is_lt x && is_lt y))
shared_by Less Less = (refl, refl)
shared_by Less Equal = (refl, refl)
shared_by Less Greater = (refl, refl)
shared_by Equal Less = (refl, refl)
shared_by Equal Equal = (refl, refl)
shared_by Equal Greater = (refl, refl)
shared_by Greater Less = (refl, refl)
shared_by Greater Equal = (refl, refl)
shared_by Greater Greater = (refl, refl)

-- demand d and supply s at each price
module _ (d s : ℕ → ℕ) where
  abbrev pub traded : ℕ → ℕ
  traded p = min (d p) (s p)

  abbrev pub apart : ℕ → ℕ
  apart p = max (d p) (s p) - min (d p) (s p)

  abbrev pub one : ℕ → Best
  one p = lone_best p (d p) (s p)

  -- p has the shares and the difference of b
  abbrev pub as_good : Best → ℕ → Bool
  as_good b p = eqb (traded p) b.shares && eqb (apart p) b.difference

  -- b tells of the levels ks
  pub record Tells (b : Best) (ks : List ℕ) : Type 0 where
    pub some : 0 < length ks
    pub low : b.lowest ≡ lowest_of ks
    pub high : b.highest ≡ highest_of ks
    pub over : is_gt b.lean ≡ list_all (λ r. ltb (s r) (d r)) ks
    pub under : is_lt b.lean ≡ list_all (λ r. ltb (d r) (s r)) ks

  -- b is the best of the levels ps
  pub record Leads (ps : List ℕ) (b : Best) : Type 0 where
    pub most : AllByRecursion (λ r. traded r ≤ b.shares) ps
    pub least : AllByRecursion (λ r. traded r ≡ b.shares → b.difference ≤ apart r) ps
    pub tells : Tells b (filter (as_good b) ps)

  abbrev Wins : Best → ℕ → Type 0
  Wins b p = (b.shares < traded p) ⊎ ((b.shares ≡ traded p) × (apart p < b.difference))

  abbrev Loses : Best → ℕ → Type 0
  Loses b p = (traded p < b.shares) ⊎ ((b.shares ≡ traded p) × (b.difference < apart p))

  push_yes : (b : Best) (ps : List ℕ) (p : ℕ) → as_good b p ≡ true → filter (as_good b) (ps ++ p ∷ []) ≡ filter (as_good b) ps ++ p ∷ []
  push_yes b ps p e = filter-append (as_good b) ps (p ∷ []) ∙ ap (λ t. filter (as_good b) ps ++ cond t (p ∷ []) []) e

  push_no : (b : Best) (ps : List ℕ) (p : ℕ) → as_good b p ≡ false → filter (as_good b) (ps ++ p ∷ []) ≡ filter (as_good b) ps
  push_no b ps p e = filter-append (as_good b) ps (p ∷ []) ∙ ap (λ t. filter (as_good b) ps ++ cond t (p ∷ []) []) e ∙ append-nil (filter (as_good b) ps)

  tells_one : (p : ℕ) → Tells (one p) (p ∷ [])
  tells_one p = record { some = omega arith; low = refl; high = refl; over = cmp_above (d p) (s p) ∙ sym (and_true (ltb (s p) (d p))); under = cmp_below (d p) (s p) ∙ sym (and_true (ltb (d p) (s p))) }

  good_itself : (p : ℕ) → as_good (one p) p ≡ true
  good_itself p = and_from _ _ (eq-eqb (traded p) (traded p) refl) (eq-eqb (apart p) (apart p) refl)

  not_good : (b : Best) (r : ℕ) → (traded r ≡ b.shares → apart r ≡ b.difference → ⊥) → as_good b r ≡ false
  not_good b r h =
      ⊎_elim (λ e. and_right _ _ (ne_eqb (apart r) b.difference (h (eqb-true (traded r) b.shares e)))) (λ e. and_left _ _ e) (cases_Bool (eqb (traded r) b.shares))

  wins : (ps : List ℕ) (b : Best) (p : ℕ) → Leads ps b → Wins b p → Leads (ps ++ p ∷ []) (one p)
  wins ps b p st w =
      let both = all_both (λ r. traded r ≤ b.shares) (λ r. traded r ≡ b.shares → b.difference ≤ apart r) ps st.most st.least in
      let worse : AllByRecursion (λ r. as_good (one p) r ≡ false) ps =
      All-weaker _ _ (λ r h. not_good (one p) r (λ e f. ⊎_elim (λ l. omega (arith, h.0)) (λ l. omega (arith, h.1 (e ∙ sym l.0), l.1)) w)) ps both in
      record {
        most = All-push (λ r. traded r ≤ traded p) ps p (All-weaker _ _ (λ r h. ⊎_elim (λ l. omega arith) (λ l. omega (arith, l.0)) w) ps st.most) (omega arith);
        least =
            All-push (λ r. traded r ≡ traded p → apart p ≤ apart r) ps p
            (All-weaker _ _ (λ r h e. ⊎_elim (λ l. omega (arith, h.0)) (λ l. omega (arith, h.1 (e ∙ sym l.0), l.1)) w) ps both) (λ e. omega arith);
        tells = subst (Tells (one p)) (sym (push_yes (one p) ps p (good_itself p) ∙ ap (λ z. z ++ p ∷ []) (kept_none (as_good (one p)) ps worse))) (tells_one p);
      }

  loses : (ps : List ℕ) (b : Best) (p : ℕ) → Leads ps b → Loses b p → Leads (ps ++ p ∷ []) b
  loses ps b p st w =
      record {
        most = All-push (λ r. traded r ≤ b.shares) ps p st.most (⊎_elim (λ l. omega arith) (λ l. omega (arith, l.0)) w);
        least = All-push (λ r. traded r ≡ b.shares → b.difference ≤ apart r) ps p st.least (λ e. ⊎_elim (λ l. omega arith) (λ l. omega (arith, l.1)) w);
        tells = subst (Tells b) (sym (push_no b ps p (not_good b p (λ e f. ⊎_elim (λ l. omega arith) (λ l. omega (arith, l.1)) w)))) st.tells;
      }

  ties : (ps : List ℕ) (b : Best) (p : ℕ) → Leads ps b → b.shares ≡ traded p → b.difference ≡ apart p → Leads (ps ++ p ∷ []) (tied_best b (one p))
  ties ps b p st e f =
      let ks = filter (as_good b) ps in
      let t = st.tells in
      record {
        most = All-push (λ r. traded r ≤ b.shares) ps p st.most (omega arith);
        least = All-push (λ r. traded r ≡ b.shares → b.difference ≤ apart r) ps p st.least (λ _. omega arith);
        tells =
            subst (Tells (tied_best b (one p))) (sym (push_yes b ps p (and_from _ _ (eq-eqb (traded p) b.shares (sym e)) (eq-eqb (apart p) b.difference (sym f)))))
            (record {
              some = omega (arith, length_push ks p);
              low = ap (λ z. min z p) t.low ∙ sym (lowest_push ks p t.some);
              high = ap (λ z. max z p) t.high ∙ sym (highest_push ks p t.some);
              over = (shared_by b.lean (one p).lean).0 ∙ ap (λ z. z && is_gt (one p).lean) t.over ∙ ap (λ z. list_all (λ r. ltb (s r) (d r)) ks && z) (cmp_above (d p) (s p)) ∙ sym (all_of_push (λ r. ltb (s r) (d r)) ks p);
              under = (shared_by b.lean (one p).lean).1 ∙ ap (λ z. z && is_lt (one p).lean) t.under ∙ ap (λ z. list_all (λ r. ltb (d r) (s r)) ks && z) (cmp_below (d p) (s p)) ∙ sym (all_of_push (λ r. ltb (d r) (s r)) ks p);
            });
      }

  joins : (ps : List ℕ) (b : Best) (p : ℕ) → Leads ps b → Leads (ps ++ p ∷ []) (better_of b (one p))
  joins ps b p st =
      by_cmp (λ o. Leads (ps ++ p ∷ []) (picked (ordering_then o (nat_cmp (apart p) b.difference)) b (one p))) b.shares (traded p)
      (λ l. wins ps b p st (inl l))
      (λ e. by_cmp (λ o. Leads (ps ++ p ∷ []) (picked o b (one p))) (apart p) b.difference (λ l. wins ps b p st (inr (e, l))) (λ f. ties ps b p st e (sym f)) (λ g. loses ps b p st (inr (e, g))))
      (λ g. loses ps b p st (inl g))

  folds : (ps rs : List ℕ) (b : Best) → Leads ps b → Leads (ps ++ rs) (fold (λ a p. better_of a (one p)) b rs)
  folds ps [] b st = subst (λ z. Leads z b) (sym (append-nil ps)) st
  folds ps (p ∷ rs) b st =
      subst (λ z. Leads z (fold (λ a r. better_of a (one r)) (better_of b (one p)) rs)) (append_assoc ps (p ∷ []) rs) (folds (ps ++ p ∷ []) rs (better_of b (one p)) (joins ps b p st))

  pub leads : (p : ℕ) (ps : List ℕ) → Leads (p ∷ ps) (fold (λ a r. better_of a (one r)) (one p) ps)
  leads p ps =
      folds (p ∷ []) ps (one p)
      (record { most = (omega arith, tt); least = ((λ e. omega arith), tt); tells = subst (Tells (one p)) (sym (ap (λ t. cond t (p ∷ []) []) (good_itself p))) (tells_one p) })

  -- b is the best of the levels ps
  module _ (ps : List ℕ) (b : Best) (st : Leads ps b) where
    abbrev kept : List ℕ
    kept = filter (as_good b) ps

    -- the lowest and the highest kept level have what all kept levels have
    low_kept : (P : ℕ → Type 0) → AllByRecursion P kept → P b.lowest
    low_kept P a = subst P (sym st.tells.low) (lowest_all P kept st.tells.some a)

    high_kept : (P : ℕ → Type 0) → AllByRecursion P kept → P b.highest
    high_kept P a = subst P (sym st.tells.high) (highest_all P kept st.tells.some a)

    pub low_all : (P : ℕ → Type 0) → AllByRecursion P ps → P b.lowest
    low_all P a = low_kept P (all_kept_by (as_good b) P ps a)

    pub high_all : (P : ℕ → Type 0) → AllByRecursion P ps → P b.highest
    high_all P a = high_kept P (all_kept_by (as_good b) P ps a)

    good_parts : (r : ℕ) → as_good b r ≡ true → (traded r ≡ b.shares) × (apart r ≡ b.difference)
    good_parts r e =
        let w = and_parts (eqb (traded r) b.shares) (eqb (apart r) b.difference) e in
        (eqb-true (traded r) b.shares w.0, eqb-true (apart r) b.difference w.1)

    low_good : (traded b.lowest ≡ b.shares) × (apart b.lowest ≡ b.difference)
    low_good = good_parts b.lowest (low_kept (λ r. as_good b r ≡ true) (kept_by_passes (as_good b) ps))

    pub low_shares : traded b.lowest ≡ b.shares
    low_shares = low_good.0

    pub high_shares : traded b.highest ≡ b.shares
    high_shares = (good_parts b.highest (high_kept (λ r. as_good b r ≡ true) (kept_by_passes (as_good b) ps))).0

    pub low_high : b.lowest ≤ b.highest
    low_high = omega (arith, st.tells.low, st.tells.high, lowest_le_highest kept)

    -- a test of all levels is the test t, if the lowest kept level shows that they agree
    tested : (test : ℕ → Bool) (t : Bool) (rs : List ℕ) → ((P : ℕ → Type 0) → AllByRecursion P rs → P b.lowest) → (t ≡ true → AllByRecursion (λ r. test r ≡ true) rs) → (test b.lowest ≡ true → t ≡ true) → list_all test rs ≡ t
    tested test t rs low met back =
        ⊎_elim (λ e. all_all_of test rs (met e) ∙ sym e)
        (λ e. ⊎_elim (λ a. a ∙ sym (back (low (λ r. test r ≡ true) (all_of_all test rs a)))) (λ a. a ∙ sym e) (cases_Bool (list_all test rs)))
        (cases_Bool t)

    most_test : (r : ℕ) → traded r ≤ b.shares → list_all (λ x. leb (traded x) (traded r)) ps ≡ eqb (traded r) b.shares
    most_test r h =
        tested (λ x. leb (traded x) (traded r)) (eqb (traded r) b.shares) ps low_all
        (λ e. All-weaker _ _ (λ x l. le-leb (traded x) (traded r) (omega (arith, eqb-true (traded r) b.shares e))) ps st.most)
        (λ a. eq-eqb (traded r) b.shares (omega (arith, leb-true (traded b.lowest) (traded r) a, low_shares)))

    abbrev tops : List ℕ
    tops = filter (λ r. eqb (traded r) b.shares) ps

    tops_least : AllByRecursion (λ r. b.difference ≤ apart r) tops
    tops_least =
        All-weaker _ _ (λ r h. h.1 (eqb-true (traded r) b.shares h.0)) tops
        (all_both (λ r. eqb (traded r) b.shares ≡ true) (λ r. traded r ≡ b.shares → b.difference ≤ apart r) tops
        (kept_by_passes (λ r. eqb (traded r) b.shares) ps) (all_kept_by (λ r. eqb (traded r) b.shares) (λ r. traded r ≡ b.shares → b.difference ≤ apart r) ps st.least))

    twice : filter (λ r. eqb (apart r) b.difference) tops ≡ kept
    twice = kept_twice (λ r. eqb (traded r) b.shares) (λ r. eqb (apart r) b.difference) ps

    least_test : (r : ℕ) → b.difference ≤ apart r → list_all (λ x. leb (apart r) (apart x)) tops ≡ eqb (apart r) b.difference
    least_test r h =
        tested (λ x. leb (apart r) (apart x)) (eqb (apart r) b.difference) tops
        (λ P a. low_kept P (subst (AllByRecursion P) twice (all_kept_by (λ r. eqb (apart r) b.difference) P tops a)))
        (λ e. All-weaker _ _ (λ x l. le-leb (apart r) (apart x) (omega (arith, eqb-true (apart r) b.difference e))) tops tops_least)
        (λ a. eq-eqb (apart r) b.difference (omega (arith, leb-true (apart r) (apart b.lowest) a, low_good.1)))

    -- the levels that the price rule keeps are those as good as the best
    kept_is : with_least apart (with_most traded ps) ≡ kept
    kept_is =
        ap (with_least apart) (kept_same _ _ ps (All-weaker _ _ most_test ps st.most))
        ∙ kept_same _ _ tops (All-weaker _ _ least_test tops tops_least)
        ∙ twice

    -- no level trades exactly when the best has no shares
    pub none_is : list_all (λ r. eqb (traded r) 0) ps ≡ eqb b.shares 0
    none_is =
        tested (λ r. eqb (traded r) 0) (eqb b.shares 0) ps low_all
        (λ e. All-weaker _ _ (λ r h. eq-eqb (traded r) 0 (omega (arith, eqb-true b.shares 0 e))) ps st.most)
        (λ a. eq-eqb b.shares 0 (omega (arith, eqb-true (traded b.lowest) 0 a, low_shares)))

    -- the price rule over the kept levels is the choice from the best
    pub rule_is : (tick : ℕ) → price_among tick d s (with_least apart (with_most traded ps)) ≡ chosen_price tick b
    rule_is tick = ap (price_among tick d s) kept_is ∙ sym (rw (st.tells.over, st.tells.under, st.tells.low, st.tells.high))
