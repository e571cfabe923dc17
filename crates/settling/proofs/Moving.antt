-- Stops moved to the end one after the other.
use Rattle.std.proofs.Common.{◌≡◌, ℕ, ◌≤◌, true, false, eqb, List, [], ◌∷◌, ◌++◌, length, Some, None, fold, filter, Option, sym, refl, ap, ◌∙◌, subst, ⊎_elim}
use Rattle.std.proofs.ByRecursion.{All-weaker, All-map, all_kept_by}
use Rattle.std.proofs.lemmas.List.{append-nil, append_assoc}
use Rattle.std.proofs.lemmas.Bool.{cases_Bool, cases_eq, and_parts, not-true, eq-eqb}
use Rattle.std.specs.Option.{option_map, option_flatten}
use Rattle.std.specs.List.{AllByRecursion}
use Rattle.orders.specs.declared.terms.Terms.{Terms}
use Rattle.book.proofs.Laws.{eqb_flip, not_held_each, held_gone, held_found, distinct_push, distinct_without, found_number, found_gone, found_without, append_again, open_push_here, open_push_elsewhere}
use Rattle.book.specs.Calls.{append_fault, after_append}
use Rattle.book.specs.Figures.{open_in, open_of}
use Rattle.book.specs.Lists.{held, found, without, distinct, Sound}
use Rattle.pricing.specs.Stops.{triggered_by, made_ready, triggered_form, staying_orders, triggered_orders, after_stops}
use Rattle.pricing.specs.declared.quote.Quote.{Quote}
use Rattle.settling.specs.Steps.{stop_numbers, stop_at, moved_as, stop_moved}

module _ (q : Quote) where
  -- the first of the orders is triggered
  first_moved : (t : Terms) (ts : List Terms) → triggered_by q t ≡ true → stop_moved q (t ∷ ts) t.number ≡ ts ++ made_ready t ∷ []
  first_moved t ts e = let same = eq-eqb t.number t.number refl in rw (same, e, same)

  -- an order that stays is passed by
  moved_past : (o : Option Terms) (t : Terms) (ts : List Terms) (n : ℕ) → eqb t.number n ≡ false → moved_as o n (t ∷ ts) ≡ t ∷ moved_as o n ts
  moved_past None t ts n e = refl
  moved_past (Some u) t ts n e = rw e

  stop_past : (t : Terms) (ts : List Terms) (n : ℕ) → eqb t.number n ≡ false → stop_moved q (t ∷ ts) n ≡ t ∷ stop_moved q ts n
  stop_past t ts n e =
      ap (λ o. moved_as (option_flatten (option_map (triggered_form q) o)) n (t ∷ ts)) (let f : found n (t ∷ ts) ≡ found n ts = rw e in f)
      ∙ moved_past (stop_at q n ts) t ts n e

  stops_past : (t : Terms) (ts : List Terms) (ns : List ℕ) → AllByRecursion (λ n. eqb t.number n ≡ false) ns → fold (stop_moved q) (t ∷ ts) ns ≡ t ∷ fold (stop_moved q) ts ns
  stops_past t ts [] a = refl
  stops_past t ts (n ∷ ns) a = ap (λ l. fold (stop_moved q) l ns) (stop_past t ts n a.0) ∙ stops_past t (stop_moved q ts n) ns a.1

  numbers_apart : (n : ℕ) (ts : List Terms) → held n ts ≡ false → AllByRecursion (λ m. eqb n m ≡ false) (stop_numbers q ts)
  numbers_apart n ts h =
      All-map (λ m. eqb n m ≡ false) (λ t. t.number) (filter (triggered_by q) ts)
      (all_kept_by (triggered_by q) (λ t. eqb n t.number ≡ false) ts (All-weaker _ _ (λ t e. eqb_flip t.number n e) ts (not_held_each n ts h)))

  -- us stand behind the orders
  moved_behind : (ts us : List Terms) → distinct ts ≡ true → fold (stop_moved q) (ts ++ us) (stop_numbers q ts) ≡ staying_orders q ts ++ (us ++ triggered_orders q ts)
  moved_behind [] us d = sym (append-nil us)
  moved_behind (t ∷ ts) us d =
      let p = and_parts _ (distinct ts) d in
      let r = made_ready t in
      ⊎_elim
      (λ e.
      rw e
      (ap (λ l. fold (stop_moved q) l (stop_numbers q ts)) (first_moved t (ts ++ us) e ∙ append_assoc ts us (r ∷ []))
      ∙ moved_behind ts (us ++ r ∷ []) p.1
      ∙ ap (λ l. staying_orders q ts ++ l) (append_assoc us (r ∷ []) (triggered_orders q ts))))
      (λ e.
      rw e
      (stops_past t (ts ++ us) (stop_numbers q ts) (numbers_apart t.number ts (not-true _ p.0))
      ∙ ap (λ l. t ∷ l) (moved_behind ts us p.1)))
      (cases_Bool (triggered_by q t))

  pub all_moved : (ts : List Terms) → distinct ts ≡ true → fold (stop_moved q) ts (stop_numbers q ts) ≡ after_stops q ts
  all_moved ts d = ap (λ l. fold (stop_moved q) l (stop_numbers q ts)) (sym (append-nil ts)) ∙ moved_behind ts [] d

  -- a stop of the list: its order, and what it becomes
  pub record Stop (n : ℕ) (ts : List Terms) (t : Terms) : Type 0 where
    pub order : Terms
    pub is : found n ts ≡ Some order
    pub ready : t ≡ made_ready order

  stop_by : (n : ℕ) (ts : List Terms) (t : Terms) (o : Option Terms) → found n ts ≡ o → Some t ≡ option_flatten (option_map (triggered_form q) o) → Stop n ts t
  stop_by n ts t None f e = absurd cc
  stop_by n ts t (Some u) f e =
      ⊎_elim
      (λ b. let k = rw b at e in record { order = u; is = f; ready = cc })
      (λ b. let k = rw b at e in absurd cc)
      (cases_Bool (triggered_by q u))

  pub stop_from : (n : ℕ) (ts : List Terms) (t : Terms) → Some t ≡ stop_at q n ts → Stop n ts t
  stop_from n ts t e = stop_by n ts t (found n ts) refl e

  pub stop_number : {n : ℕ} {ts : List Terms} {t : Terms} → Stop n ts t → t.number ≡ n
  stop_number {n} {ts} s = ap (λ x. x.number) s.ready ∙ found_number n ts s.order s.is

  -- a stop that was taken out finds room again
  pub stop_appended : (n room : ℕ) (ts us : List Terms) (t : Terms) → Some t ≡ stop_at q n ts → Sound ts → length ts ≤ room → us ≡ without n ts → after_append room t us ≡ stop_moved q ts n
  stop_appended n room ts us t e s within w =
      let stop = stop_from n ts t e in
      let same = stop_number stop in
      let gone : us ≡ without t.number ts = w ∙ ap (λ m. without m ts) (sym same) in
      let is_held : held t.number ts ≡ true = ap (λ m. held m ts) same ∙ held_found n ts stop.order stop.is in
      let free : append_fault room t us ≡ None = ap (append_fault room t) gone ∙ append_again room t ts is_held s within in
      rw (free, ← e) (ap (λ l. l ++ t ∷ []) w)

  -- what one move keeps
  moved_keeps : (n : ℕ) (ts : List Terms) (o : Option Terms) → o ≡ stop_at q n ts → distinct ts ≡ true → distinct (moved_as o n ts) ≡ true
  moved_keeps n ts None e d = d
  moved_keeps n ts (Some t) e d =
      let same = stop_number (stop_from n ts t e) in
      distinct_push (without n ts) t (distinct_without n ts d) (ap (λ m. held m (without n ts)) same ∙ held_gone n ts d)

  moved_open : (m n : ℕ) (ts : List Terms) (o : Option Terms) → o ≡ stop_at q n ts → distinct ts ≡ true → open_of m (moved_as o n ts) ≡ open_of m ts
  moved_open m n ts None e d = refl
  moved_open m n ts (Some t) e d =
      let stop = stop_from n ts t e in
      let same = stop_number stop in
      ⊎_elim
      (λ k.
      let gone : found t.number (without n ts) ≡ None = ap (λ x. found x (without n ts)) same ∙ found_gone n ts d in
      ap (λ x. open_of x (without n ts ++ t ∷ [])) (k ∙ sym same)
      ∙ open_push_here t (without n ts) gone
      ∙ ap (λ x. x.quantity) stop.ready
      ∙ sym (ap (λ x. open_of x ts) k ∙ ap open_in stop.is))
      (λ k. open_push_elsewhere m t (without n ts) (λ z. k (z ∙ same)) ∙ ap open_in (found_without m n ts k))
      (cases_eq m n)

  -- what all moves keep
  moves_keep : (ns : List ℕ) (ts : List Terms) → distinct ts ≡ true → distinct (fold (stop_moved q) ts ns) ≡ true
  moves_keep [] ts d = d
  moves_keep (n ∷ ns) ts d = moves_keep ns (stop_moved q ts n) (moved_keeps n ts (stop_at q n ts) refl d)

  moves_open : (m : ℕ) (ns : List ℕ) (ts : List Terms) → distinct ts ≡ true → open_of m (fold (stop_moved q) ts ns) ≡ open_of m ts
  moves_open m [] ts d = refl
  moves_open m (n ∷ ns) ts d =
      moves_open m ns (stop_moved q ts n) (moved_keeps n ts (stop_at q n ts) refl d) ∙ moved_open m n ts (stop_at q n ts) refl d

  pub stops_distinct : (ts : List Terms) → distinct ts ≡ true → distinct (after_stops q ts) ≡ true
  stops_distinct ts d = subst (λ l. distinct l ≡ true) (all_moved ts d) (moves_keep (stop_numbers q ts) ts d)

  pub stops_open : (m : ℕ) (ts : List Terms) → distinct ts ≡ true → open_of m (after_stops q ts) ≡ open_of m ts
  stops_open m ts d = ap (open_of m) (sym (all_moved ts d)) ∙ moves_open m (stop_numbers q ts) ts d
