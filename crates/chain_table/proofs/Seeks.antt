-- What a search along rows says of the terms in them.
use Rattle.std.proofs.Common.{◌≡◌, ℕ, zero, suc, slice_get, false, eqb, ◌==◌, find, List, [], ◌∷◌, ◌++◌, map, is_some, option_map, Option, Some, None, refl, ap, ◌∙◌, subst, ⊎_elim}
use Rattle.std.proofs.lemmas.Bool.{cases_Bool, eqb-true}
use Rattle.orders.specs.Ranges.{with_quantity}
use Rattle.orders.specs.declared.terms.Terms.{Terms}
use Rattle.book.specs.Lists.{held, found, without, lowered}
use Rattle.chain_table.specs.Chains.{among}
use Rattle.chain_table.proofs.Indices.{other}
use Rattle.chain_table.proofs.Walks.{alike_off, map_alike}

-- the row i of zs is the first with the number
pub record Seen (n : ℕ) (c : ℕ → Terms) (i : ℕ) (zs : List ℕ) : Type 0 where
  pub front : List ℕ
  pub back : List ℕ
  pub named : (c i).number ≡ n
  pub split : zs ≡ front ++ i ∷ back
  pub finds : found n (map c zs) ≡ Some (c i)
  pub leaves : without n (map c zs) ≡ map c (front ++ back)
  pub lowers : (q : ℕ) (c' : ℕ → Terms) → ((j : ℕ) → (j ≡ i → ⊥) → c' j ≡ c j) → c' i ≡ with_quantity (c i) q → among i (front ++ back) ≡ false → map c' zs ≡ lowered n q (map c zs)

pub seen : (n : ℕ) (c : ℕ → Terms) (zs : List ℕ) (i : ℕ) → Some i ≡ find (λ j. (c j).number == n) zs → Seen n c i zs
seen n c [] i h = cc
seen n c (z ∷ zs) i h =
    ⊎_elim
    (λ e.
    let k = rw e at h in
    let same : z ≡ i = cc in
    subst (λ j. Seen n c j (z ∷ zs)) same (record {
      front = [];
      back = zs;
      named = eqb-true _ _ e;
      split = refl;
      finds = rw e;
      leaves = rw e;
      lowers = λ q c' k r m. rw e (ap (λ t. t ∷ map c' zs) r ∙ ap (λ l. with_quantity (c z) q ∷ l) (map_alike c c' zs (alike_off c c' z k zs m)));
    }))
    (λ e.
    let s = seen n c zs i (rw e at h) in
    record {
      front = z ∷ s.front;
      back = s.back;
      named = s.named;
      split = ap (λ l. z ∷ l) s.split;
      finds = rw e s.finds;
      leaves = rw e (ap (λ l. c z ∷ l) s.leaves);
      lowers = λ q c' k r m. let o = other i z _ m in rw e (ap (λ t. t ∷ map c' zs) (k z o.0) ∙ ap (λ l. c z ∷ l) (s.lowers q c' k r o.1));
    })
    (cases_Bool (eqb (c z).number n))

-- no row has the number
pub unseen : (n : ℕ) (c : ℕ → Terms) (zs : List ℕ) → None ≡ find (λ j. (c j).number == n) zs → found n (map c zs) ≡ None
unseen n c [] h = refl
unseen n c (z ∷ zs) h =
    ⊎_elim (λ e. let k = rw e at h in cc) (λ e. rw e (unseen n c zs (rw e at h))) (cases_Bool (eqb (c z).number n))

pub held_sought : (n : ℕ) (c : ℕ → Terms) (zs : List ℕ) → held n (map c zs) ≡ is_some (find (λ j. (c j).number == n) zs)
held_sought n c [] = refl
held_sought n c (z ∷ zs) = ⊎_elim (λ e. rw e) (λ e. rw e (held_sought n c zs)) (cases_Bool (eqb (c z).number n))

-- the search along the rows, with their terms beside them
pub sought : (n : ℕ) (c : ℕ → Terms) (zs : List ℕ) (r : Option (ℕ × Terms)) → r ≡ find (λ p. p.1.number == n) (map (λ i. (i, c i)) zs) → option_map (λ p. p.0) r ≡ find (λ j. (c j).number == n) zs
sought n c [] r h = ap (option_map (λ p. p.0)) h
sought n c (z ∷ zs) r h = ⊎_elim (λ e. rw e (ap (option_map (λ p. p.0)) h ∙ rw e)) (λ e. rw e (sought n c zs r (h ∙ rw e))) (cases_Bool (eqb (c z).number n))

-- a place of those rows
pub placed : (c : ℕ → Terms) (zs : List ℕ) (k : ℕ) (r : Option (ℕ × Terms)) → r ≡ slice_get (map (λ i. (i, c i)) zs) k → option_map (λ p. p.1) r ≡ slice_get (map c zs) k
placed c [] k r h = ap (option_map (λ p. p.1)) h
placed c (z ∷ zs) zero r h = ap (option_map (λ p. p.1)) h
placed c (z ∷ zs) (suc k) r h = placed c zs k r h
