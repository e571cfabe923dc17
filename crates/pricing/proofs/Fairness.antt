-- The law of the price.
use Rattle.std.proofs.Common.{◌≡◌, ℕ, zero, suc, ◌+◌, ◌-◌, ◌/◌, ◌<◌, ◌≤◌, min, Bool, true, false, cond, ◌&&◌, eqb, leb, List, ◌∷◌, Some, None, IfSome, ℤ, pos, ◌-ℤ◌, sum_by, sym, refl, ap, ◌∙◌, subst, ⊎_elim, div-mul-le_self, arith}
use Rattle.std.proofs.ByRecursion.{All-weaker}
use Rattle.std.proofs.lemmas.Bool.{leb-true, le-leb, eqb-true, eqb-false, eq-eqb, ne_eqb, and_parts, and_from, cases_Bool, cases_eq}
use Rattle.std.specs.Ordering.{is_gt, is_lt}
use Rattle.std.specs.List.{AllByRecursion}
use Rattle.orders.specs.declared.terms.Kind.{Kind}
use Rattle.orders.specs.declared.terms.Kind.TheVariants.{Market, Limit, StopMarket, StopLimit}
use Rattle.orders.specs.declared.terms.Side.{Side}
use Rattle.orders.specs.declared.terms.Side.TheVariants.{Buy, Sell}
use Rattle.orders.specs.declared.terms.Terms.{Terms}
use Rattle.pricing.proofs.Filters.{all_every, all_added, added_all, sum_le, seek}
use Rattle.pricing.proofs.Running.{Leads, leads, low_all, high_all, low_shares, high_shares, low_high, none_is, rule_is}
use Rattle.pricing.specs.Answers.{priced_at, auction_of}
use Rattle.pricing.specs.Depth.{limit_takes, kind_takes, open_at, demand_at, supply_at, shares_at, from_bid_to_ask, level_of, limit_levels, levels_of}
use Rattle.pricing.specs.Law.{Between, Fair}
use Rattle.pricing.specs.Price.{midpoint, price_of}
use Rattle.pricing.specs.Steps.{best_of, chosen_price}
use Rattle.pricing.specs.declared.best.Best.{Best}
use Rattle.pricing.specs.declared.quote.Quote.{Quote}
use Rattle.pricing.specs.declared.trial.TrialPrice.{TrialPrice}
use Rattle.pricing.specs.declared.trial.TrialPrice.TheVariants.{Priced, Unpriced}

-- for a side, y is no worse than x
abbrev NoWorse : Side → ℕ → ℕ → Type 0
NoWorse Buy x y = y ≤ x
NoWorse Sell x y = x ≤ y

limit_still : (side : Side) (l x y : ℕ) → NoWorse side x y → limit_takes side l x ≡ true → limit_takes side l y ≡ true
limit_still Buy l x y h e = le-leb y l (omega (arith, leb-true x l e))
limit_still Sell l x y h e = le-leb l y (omega (arith, leb-true l x e))

-- what takes x takes what is no worse
kind_still : (side : Side) (k : Kind) (x y : ℕ) → NoWorse side x y → kind_takes side k x ≡ true → kind_takes side k y ≡ true
kind_still side Market x y h e = refl
kind_still side (Limit l) x y h e = limit_still side l x y h e
kind_still side (StopMarket s) x y h e = e
kind_still side (StopLimit l s) x y h e = e

-- a buy that takes x, which is from bid to ask and not its limit, takes x + 1
next_takes : (q : Quote) (x : ℕ) → from_bid_to_ask q x ≡ true → (k : Kind) → IfSome (level_of q k) (λ r. eqb r x ≡ false) → kind_takes Buy k x ≡ true → kind_takes Buy k (x + 1) ≡ true
next_takes q x w Market a e = refl
next_takes q x w (Limit l) a e =
    ⊎_elim
    (λ same. let here = subst (λ b. IfSome (cond b (Some l) None) (λ r. eqb r x ≡ false)) (subst (λ r. from_bid_to_ask q r ≡ true) (sym same) w) a in absurd (eqb-false l x here same))
    (λ other. le-leb (x + 1) l (omega (arith, leb-true x l e)))
    (cases_eq l x)
next_takes q x w (StopMarket s) a e = e
next_takes q x w (StopLimit l s) a e = e

keeps_more : (a b c : Bool) (n : ℕ) → (b ≡ true → c ≡ true) → cond (a && b) n 0 ≤ cond (a && c) n 0
keeps_more false b c n h = omega arith
keeps_more true false c n h = omega arith
keeps_more true true c n h = rw (h refl) (omega arith)

module _ (q : Quote) (ts : List Terms) where
  abbrev volume : Side → ℕ → ℕ
  volume side p = sum_by (open_at side p) ts

  -- the volume of a side at y is at least that at x, if whatever takes x takes y
  volume_grows : (side : Side) (x y : ℕ) → AllByRecursion (λ t. kind_takes side t.kind x ≡ true → kind_takes side t.kind y ≡ true) ts → volume side x ≤ volume side y
  volume_grows side x y a = sum_le (open_at side x) (open_at side y) ts (All-weaker _ _ (λ t h. keeps_more _ _ _ t.quantity h) ts a)

  volume_still : (side : Side) (x y : ℕ) → NoWorse side x y → volume side x ≤ volume side y
  volume_still side x y h = volume_grows side x y (all_every _ (λ t. kind_still side t.kind x y h) ts)

  not_bid : (x : ℕ) → (x ≡ q.bid → ⊥) → demand_at q ts x ≡ volume Buy x
  not_bid x h = rw (ne_eqb x q.bid h) (omega arith)

  not_ask : (x : ℕ) → (x ≡ q.ask → ⊥) → supply_at q ts x ≡ volume Sell x
  not_ask x h = rw (ne_eqb x q.ask h) (omega arith)

  -- a price that is no level trades no more than the next one
  next_trades : (x : ℕ) → Between q x → AllByRecursion (λ r. eqb r x ≡ false) (levels_of q ts) → shares_at q ts x ≤ shares_at q ts (x + 1)
  next_trades x w a =
      let inside : from_bid_to_ask q x ≡ true = and_from _ _ (le-leb q.bid x w.0) (le-leb x q.ask w.1) in
      let each = all_added (λ r. eqb r x ≡ false) (λ t. level_of q t.kind) ts a.1.1 in
      let buys = volume_grows Buy x (x + 1) (All-weaker _ _ (λ t h. next_takes q x inside t.kind h) ts each) in
      omega (arith, not_bid x (λ e. eqb-false q.bid x a.0 (sym e)), not_ask x (λ e. eqb-false q.ask x a.1.0 (sym e)), volume_still Sell x (x + 1) (omega arith))

  -- so no price trades more than the best level
  no_more : (m : ℕ) → AllByRecursion (λ r. shares_at q ts r ≤ m) (levels_of q ts) → (n x : ℕ) → x + n ≡ q.ask → q.bid ≤ x → shares_at q ts x ≤ m
  no_more m a zero x e l = subst (λ z. shares_at q ts z ≤ m) (let f : q.ask ≡ x = omega arith in f) a.1.0
  no_more m a (suc n) x e l =
      ⊎_elim
      (λ none. let s = next_trades x (l, omega arith) none in omega (arith, no_more m a n (x + 1) (omega arith) (omega arith)))
      (λ h. h)
      (seek (λ r. shares_at q ts r ≤ m) x (levels_of q ts) a)

  -- a price between two prices that trade m shares trades as many
  between_trades : (m low p high : ℕ) → low ≤ p → p ≤ high → q.bid ≤ low → high ≤ q.ask → m ≤ shares_at q ts low → m ≤ shares_at q ts high → m ≤ shares_at q ts p
  between_trades m low p high l h bl ha sl sh =
      ⊎_elim (λ e. subst (λ z. m ≤ shares_at q ts z) (sym e) sl)
      (λ n. ⊎_elim (λ e. subst (λ z. m ≤ shares_at q ts z) (sym e) sh)
      (λ k. omega (arith, not_bid high (λ e. omega arith), not_ask low (λ e. omega arith), volume_still Buy high p h, volume_still Sell low p l))
      (cases_eq p high))
      (cases_eq p low)

  abbrev best : Best
  best = best_of q ts

  best_leads : Leads (demand_at q ts) (supply_at q ts) (levels_of q ts) best
  best_leads = leads (demand_at q ts) (supply_at q ts) q.bid (q.ask ∷ limit_levels q ts)

  level_between : (k : Kind) → IfSome (level_of q k) (Between q)
  level_between Market = tt
  level_between (Limit l) =
      ⊎_elim
      (λ e. let w = and_parts (leb q.bid l) (leb l q.ask) e in rw e (leb-true q.bid l w.0, leb-true l q.ask w.1))
      (λ e. rw e tt)
      (cases_Bool (from_bid_to_ask q l))
  level_between (StopMarket s) = tt
  level_between (StopLimit l s) = tt

  levels_between : q.bid < q.ask → AllByRecursion (Between q) (levels_of q ts)
  levels_between h = ((omega arith, omega arith), ((omega arith, omega arith), added_all (Between q) (λ t. level_of q t.kind) (λ t. level_between t.kind) ts))

  best_low : q.bid < q.ask → Between q best.lowest
  best_low h = low_all (demand_at q ts) (supply_at q ts) (levels_of q ts) best best_leads (Between q) (levels_between h)

  best_high : q.bid < q.ask → Between q best.highest
  best_high h = high_all (demand_at q ts) (supply_at q ts) (levels_of q ts) best best_leads (Between q) (levels_between h)

  choice : (tick low high : ℕ) (a b : Bool) → low ≤ high → (low ≤ cond a high (cond b low (midpoint tick low high))) × (cond a high (cond b low (midpoint tick low high)) ≤ high)
  choice tick low high true b h = (h, omega arith)
  choice tick low high false true h = (omega arith, h)
  choice tick low high false false h = (omega arith, omega (arith, div-mul-le_self ((low + high) / 2) tick))

  chosen_between : (tick : ℕ) → (best.lowest ≤ chosen_price tick best) × (chosen_price tick best ≤ best.highest)
  chosen_between tick = choice tick best.lowest best.highest (is_gt best.lean) (is_lt best.lean) (low_high (demand_at q ts) (supply_at q ts) (levels_of q ts) best best_leads)

  -- the answer, told by the best level
  auction_is : (tick n : ℕ) → auction_of tick q ts n ≡ cond (eqb best.shares 0) (Unpriced n) (priced_at q ts n (chosen_price tick best))
  auction_is tick n =
      ap (λ z. cond z (Unpriced n) (priced_at q ts n (price_of tick q ts))) (none_is (demand_at q ts) (supply_at q ts) (levels_of q ts) best best_leads)
      ∙ ap (λ z. cond (eqb best.shares 0) (Unpriced n) (priced_at q ts n z)) (rule_is (demand_at q ts) (supply_at q ts) (levels_of q ts) best best_leads tick)

  at_most : (x : ℕ) → Between q x → shares_at q ts x ≤ best.shares
  at_most x w = no_more best.shares best_leads.most (q.ask - x) x (omega (arith, w.1)) w.0

  fair_by : (tick n : ℕ) → q.bid < q.ask → (b : Bool) → eqb best.shares 0 ≡ b → Fair q ts (cond b (Unpriced n) (priced_at q ts n (chosen_price tick best)))
  fair_by tick n h true e = λ t. omega (arith, at_most t.0 t.1, t.2, eqb-true best.shares 0 e)
  fair_by tick n h false e =
      let c = chosen_between tick in
      let l = best_low h in
      let g = best_high h in
      let low = low_shares (demand_at q ts) (supply_at q ts) (levels_of q ts) best best_leads in
      let high = high_shares (demand_at q ts) (supply_at q ts) (levels_of q ts) best best_leads in
      let enough = between_trades best.shares best.lowest (chosen_price tick best) best.highest c.0 c.1 l.0 g.1 (omega (arith, low)) (omega (arith, high)) in
      let some : 1 ≤ best.shares = ⊎_elim (λ z. absurd (eqb-false best.shares 0 e z)) (λ z. omega arith) (cases_eq best.shares 0) in
      let inside : Between q (chosen_price tick best) = (omega (arith, c.0, l.0), omega (arith, c.1, g.1)) in
      record { trades = (chosen_price tick best, inside, omega (arith, enough)); between = inside; most = λ x w. omega (arith, at_most x w, enough); shares = refl; surplus = refl }

  pub fair : (tick n : ℕ) → q.bid < q.ask → Fair q ts (auction_of tick q ts n)
  fair tick n h = subst (Fair q ts) (sym (auction_is tick n)) (fair_by tick n h (eqb best.shares 0) refl)

-- what the code answers by the best level
module _ (q : Quote) (ts : List Terms) (tick n : ℕ) (b : Best) (is : b ≡ best_of q ts) where
  pub none_answer : b.shares ≡ 0 → Unpriced n ≡ auction_of tick q ts n
  none_answer z = sym (auction_is q ts tick n ∙ rw (← is, eq-eqb b.shares 0 z))

  pub some_answer : (b.shares ≡ 0 → ⊥) → (p m d s : ℕ) (z : ℤ) → p ≡ chosen_price tick b → d ≡ demand_at q ts p → s ≡ supply_at q ts p → m ≡ min d s → z ≡ pos d -ℤ pos s → Priced p m z n ≡ auction_of tick q ts n
  some_answer k p m d s z ep ed es em ez =
      ap (λ x. Priced p x z n) (em ∙ ap (λ x. min x s) ed ∙ ap (λ x. min (demand_at q ts p) x) es)
      ∙ ap (λ x. Priced p (shares_at q ts p) x n) (ez ∙ ap (λ x. pos x -ℤ pos s) ed ∙ ap (λ x. pos (demand_at q ts p) -ℤ pos x) es)
      ∙ ap (priced_at q ts n) ep
      ∙ sym (auction_is q ts tick n ∙ rw (← is, ne_eqb b.shares 0 k))

  pub best_bounds : q.bid < q.ask → q.ask ≤ 1000000000 → (b.lowest ≤ 1000000000) × (b.highest ≤ 1000000000)
  best_bounds h top =
      (omega (arith, (best_low q ts h).1, ap (λ x. x.lowest) is), omega (arith, (best_high q ts h).1, ap (λ x. x.highest) is))

  pub fair_answer : {r : TrialPrice} → q.bid < q.ask → r ≡ auction_of tick q ts n → Fair q ts r
  fair_answer h e = subst (Fair q ts) (sym e) (fair q ts tick n h)
