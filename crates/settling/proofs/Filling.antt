-- Fills settled one after the other.
use Rattle.std.proofs.Common.{◌≡◌, ℕ, ◌+◌, ◌-◌, ◌<◌, Bool, true, false, cond, ◌||◌, eqb, leb, List, [], ◌∷◌, ◌++◌, length, get_or, take, Some, None, sym, refl, ap, ◌∙◌, subst, ⊎_elim, arith}
use Rattle.std.proofs.ByRecursion.{All-weaker}
use Rattle.std.proofs.lemmas.List.{take_more}
use Rattle.std.proofs.lemmas.Bool.{cases_Bool, and_parts, and_from, not-true, eqb-true, eq-eqb, le-leb}
use Rattle.std.specs.List.{AllByRecursion}
use Rattle.orders.specs.Ranges.{in_range, with_quantity}
use Rattle.orders.specs.declared.terms.Terms.{Terms}
use Rattle.book.proofs.General.{all_of}
use Rattle.book.proofs.Laws.{eqb_flip, not_held, not_held_each}
use Rattle.book.specs.Calls.{up_to_open, can_lower, after_lower}
use Rattle.book.specs.Lists.{held, found, without, lowered, distinct, Sound}
use Rattle.settling.proofs.Remaining.{remaining_all, remaining_some, remaining_whole, fills_untraded, fills_same, fills_append}
use Rattle.settling.specs.Fills.{traded_of, rest_of, remaining, after_fills}
use Rattle.settling.specs.Steps.{lone_fill}
use Rattle.settling.specs.declared.fill.Fill.{Fill}

-- shares taken off the order of one number
module _ (n q : ℕ) where
  lone_other : (t : Terms) → eqb t.number n ≡ false → traded_of t.number (lone_fill n q ∷ []) ≡ 0
  lone_other t e = let other = eqb_flip t.number n e in rw other (omega arith)

  lone_here : (t : Terms) → eqb t.number n ≡ true → traded_of t.number (lone_fill n q ∷ []) ≡ q
  lone_here t e = let same = eq-eqb n t.number (sym (eqb-true t.number n e)) in rw same (omega arith)

  unheld : (ts : List Terms) → held n ts ≡ false → AllByRecursion (λ t. in_range t ≡ true) ts → after_fills (lone_fill n q ∷ []) ts ≡ ts
  unheld ts h r = fills_untraded (lone_fill n q ∷ []) ts (All-weaker _ _ lone_other ts (not_held_each n ts h)) r

  -- F puts what remains of the order t in its place
  module _ (t : Terms) (F : List Terms → List Terms)
      (here : (ts : List Terms) → eqb t.number n ≡ true → remaining (lone_fill n q ∷ []) t ++ ts ≡ F (t ∷ ts))
      (there : (x : Terms) (ts : List Terms) → eqb x.number n ≡ false → x ∷ F ts ≡ F (x ∷ ts)) where
    off : (ts : List Terms) → distinct ts ≡ true → AllByRecursion (λ x. in_range x ≡ true) ts → found n ts ≡ Some t → after_fills (lone_fill n q ∷ []) ts ≡ F ts
    off [] d r f = cc
    off (x ∷ ts) d r f =
        let p = and_parts _ (distinct ts) d in
        ⊎_elim
        (λ e.
        let k = rw e at f in
        let same : x ≡ t = cc in
        let apart = subst (λ m. held m ts ≡ false) (eqb-true x.number n e) (not-true _ p.0) in
        ap (λ l. remaining (lone_fill n q ∷ []) x ++ l) (unheld ts apart r.1)
        ∙ ap (λ y. remaining (lone_fill n q ∷ []) y ++ ts) same
        ∙ here ts (subst (λ y. eqb y.number n ≡ true) same e)
        ∙ ap (λ y. F (y ∷ ts)) (sym same))
        (λ e.
        ap (λ l. l ++ after_fills (lone_fill n q ∷ []) ts) (remaining_whole (lone_fill n q ∷ []) x (lone_other x e) r.0)
        ∙ ap (λ l. x ∷ l) (off ts p.1 r.1 (rw e at f))
        ∙ there x ts e)
        (cases_Bool (eqb x.number n))

-- there is none, or it has r left
module _ (n q : ℕ) (ts : List Terms) (s : Sound ts) where
  pub off_none : None ≡ found n ts → ts ≡ after_fills (lone_fill n q ∷ []) ts
  off_none f = sym (unheld n q ts (not_held n ts (sym f)) s.ranged)

  pub off_all : (t : Terms) (r : ℕ) → Some t ≡ found n ts → r ≡ t.quantity - q → r ≡ 0 → without n ts ≡ after_fills (lone_fill n q ∷ []) ts
  off_all t r f e z =
      let gone : eqb t.number n ≡ true → remaining (lone_fill n q ∷ []) t ≡ [] = λ k. remaining_all (lone_fill n q ∷ []) t (omega (arith, lone_here n q t k)) in
      sym (off n q t (without n) (λ us k. rw k (ap (λ l. l ++ us) (gone k))) (λ x us k. rw k) ts s.apart s.ranged (sym f))

  pub off_some : (t : Terms) (r : ℕ) → Some t ≡ found n ts → r ≡ t.quantity - q → (r ≡ 0 → ⊥) → after_lower n r ts ≡ after_fills (lone_fill n q ∷ []) ts
  off_some t r f e z =
      let can : can_lower n r ts ≡ true = ap (up_to_open r) (sym f) ∙ and_from (leb 1 r) (leb r t.quantity) (le-leb 1 r (omega arith)) (le-leb r t.quantity (omega arith)) in
      let rest : eqb t.number n ≡ true → remaining (lone_fill n q ∷ []) t ≡ with_quantity t r ∷ [] =
      λ k.
      let same : rest_of (lone_fill n q ∷ []) t ≡ r = omega (arith, lone_here n q t k) in
      remaining_some (lone_fill n q ∷ []) t (omega (arith, lone_here n q t k)) ∙ ap (λ x. with_quantity t x ∷ []) same in
      ap (λ b. cond b (lowered n r ts) ts) can
      ∙ sym (off n q t (lowered n r) (λ us k. rw k (ap (λ l. l ++ us) (rest k))) (λ x us k. rw k) ts s.apart s.ranged (sym f))

-- a fill takes its shares off two numbers
two_sides : (a b : Bool) (q : ℕ) → (a ≡ true → b ≡ true → ⊥) → 0 + cond (a || a) q 0 + cond (b || b) q 0 ≡ 0 + cond (a || b) q 0
two_sides true true q h = absurd (h refl refl)
two_sides true false q h = omega arith
two_sides false true q h = omega arith
two_sides false false q h = refl

module _ (f : Fill) (ts : List Terms) where
  abbrev bought : Fill
  bought = lone_fill f.buyer f.quantity

  abbrev sold : Fill
  sold = lone_fill f.seller f.quantity

  pub both_sides : (f.seller ≡ f.buyer → ⊥) → after_fills (sold ∷ []) (after_fills (bought ∷ []) ts) ≡ after_fills (f ∷ []) ts
  both_sides h =
      fills_append (bought ∷ []) (sold ∷ []) ts
      ∙ fills_same (bought ∷ sold ∷ []) (f ∷ []) (λ n. two_sides (eqb f.buyer n) (eqb f.seller n) f.quantity (λ b s. h (eqb-true f.seller n s ∙ sym (eqb-true f.buyer n b)))) ts

-- the fills before a place are settled
pub settled_none : (ts : List Terms) → Sound ts → ts ≡ after_fills [] ts
settled_none ts s = sym (fills_untraded [] ts (all_of (λ t. ◌≡◌ {A = ℕ} 0 0) (λ t. refl) ts) s.ranged)

pub settled_more : (fs : List Fill) (i : ℕ) (d : Fill) → i < length fs → (ts us vs : List Terms) → us ≡ after_fills (take i fs) ts → vs ≡ after_fills (get_or fs i d ∷ []) us → vs ≡ after_fills (take (i + 1) fs) ts
settled_more fs i d h ts us vs e k =
    k
    ∙ ap (after_fills (get_or fs i d ∷ [])) e
    ∙ fills_append (take i fs) (get_or fs i d ∷ []) ts
    ∙ ap (λ l. after_fills l ts) (sym (take_more fs i d h))
