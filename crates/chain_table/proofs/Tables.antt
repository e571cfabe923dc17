-- The rows of a table: along its chain, the row of a number, the first free row, and what comes of the table when one of them changes.
use Rattle.std.proofs.Common.{◌≡◌, ℕ, suc, ◌+◌, ◌-◌, ◌<◌, ◌≤◌, ◌==◌, ◌≢◌, true, false, Option, List, [], ◌∷◌, ◌++◌, map, get_or, Some, None, vec_items, vec_len, sym, ap, ◌∙◌, subst, ⊎_elim, arith}
use Rattle.std.proofs.lemmas.List.{nil_from_length}
use Rattle.std.proofs.lemmas.Bool.{eqb-true, or_cases}
use Rattle.orders.specs.Ranges.{with_quantity}
use Rattle.orders.specs.declared.terms.Terms.{Terms}
use Rattle.book.proofs.Laws.{distinct_push, distinct_without, distinct_lowered}
use Rattle.book.specs.Lists.{held, found, without, lowered, distinct}
use Rattle.chain_table.specs.Chains.{spot, links_at, next, prev, terms_at, told_by, walk, free_rows, among, no_row_twice}
use Rattle.chain_table.specs.Rows.{rows_of}
use Rattle.chain_table.specs.Steps.{path_of, rest_from, told_in, row_holding, Holds, Node, Relinked, Joined, Refilled, Pushed}
use Rattle.chain_table.specs.declared.chain.Chain.{Chain}
use Rattle.chain_table.specs.declared.chain.Links.{Links}
use Rattle.chain_table.specs.declared.chain.Row.{Row}
use Rattle.chain_table.specs.declared.table.ChainTable.{ChainTable}
use Rattle.chain_table.proofs.Indices.{past_off, once_front, once_out, all_parts}
use Rattle.chain_table.proofs.Intact.{Intact, Holding, opened, below, on_spot}
use Rattle.chain_table.proofs.Moves.{row_made, before_spot, after_spot, leave, grow, enter, rewrite}
use Rattle.chain_table.proofs.Spots.{spot_row, told_row, row_is}
use Rattle.chain_table.proofs.Rests.{none_from, step_from}
use Rattle.chain_table.proofs.Seeks.{Seen, seen, unseen}
use Rattle.chain_table.proofs.Writes.{row_links, row_told}

abbrev spare_of : ChainTable → List ℕ
spare_of t = free_rows t.chain (spot t.free) t.count

few_rows : (t : ChainTable) → vec_len t.chain.rows ≤ 256
few_rows t = omega (arith, t.within, t.most)

end_off : (t : ChainTable) → among 256 (path_of t) ≡ false
end_off t = past_off (vec_len t.chain.rows) 256 (path_of t) (few_rows t) (below (opened t))

-- a walk along the rows in use: at a row, and at the end
pub record WalkStep (t : ChainTable) (o : Option ℕ) (at : ℕ) : Type 0 where
  pub made : at < vec_len t.chain.rows
  pub off : at ≢ 256
  pub rest : rest_from (spot o) (path_of t) ≡ at ∷ rest_from (next t.chain at) (path_of t)
  pub still : among (next t.chain at) (256 ∷ path_of t) ≡ true

pub walk_step : (t : ChainTable) (o : Option ℕ) (at : ℕ) → o ≡ Some at → among (spot o) (256 ∷ path_of t) ≡ true → WalkStep t o at
walk_step t o at e k =
    let told = told_row o at (vec_len t.chain.rows) e (on_spot t.chain (spot o) (path_of t) (few_rows t) (below (opened t)) k) in
    let off : at ≢ 256 = λ z. omega (arith, told.2) in
    let h = subst (λ i. among i (256 ∷ path_of t) ≡ true) told.0 k in
    let here = ⊎_elim (λ z. absurd (off (sym (eqb-true 256 at z)))) (λ z. z) (or_cases (256 == at) (among at (path_of t)) h) in
    let once = once_front (path_of t) (spare_of t) t.once in
    let r = step_from (next t.chain) (prev t.chain) 256 (path_of t) 256 at (opened t).link once (end_off t) here in
    record { made = told.1; off = off; rest = ap (λ i. rest_from i (path_of t)) told.0 ∙ r.0; still = r.1 }

pub walk_read : (t : ChainTable) (o : Option ℕ) (at : ℕ) (r : Row) → o ≡ Some at → among (spot o) (256 ∷ path_of t) ≡ true → r ≡ get_or (vec_items t.chain.rows) at r
    → (map (told_in t.chain) (rest_from (spot o) (path_of t)) ≡ (at, told_by r) ∷ map (told_in t.chain) (rest_from (spot r.links.after) (path_of t))) × (among (spot r.links.after) (256 ∷ path_of t) ≡ true)
walk_read t o at r e k h =
    let w = walk_step t o at e k in
    let on : next t.chain at ≡ spot r.links.after = ap (λ l. spot l.after) (sym (row_links t.chain at r w.off w.made h)) in (
      ap (map (told_in t.chain)) w.rest
          ∙ ap (λ i. told_in t.chain at ∷ map (told_in t.chain) (rest_from i (path_of t))) on
          ∙ ap (λ x. (at, x) ∷ map (told_in t.chain) (rest_from (spot r.links.after) (path_of t))) (sym (row_told t.chain at r w.made h)),
      subst (λ i. among i (256 ∷ path_of t) ≡ true) on w.still,
    )

pub walk_end : (t : ChainTable) → rest_from 256 (path_of t) ≡ []
walk_end t = none_from 256 (path_of t) (end_off t)

-- the number is not held
pub none_at : (t : ChainTable) (n : ℕ) → None ≡ row_holding n t → found n (rows_of t) ≡ None
none_at t n h = unseen n (terms_at t.chain) (path_of t) h

-- the number is held in the row at
module _ {t : ChainTable} {n at : ℕ} (h : Holds t n at) where
  pub seen_at : Seen n (terms_at t.chain) at (path_of t)
  seen_at = seen n (terms_at t.chain) (path_of t) at h.is

  split_at : Intact t.chain t.count (spot t.free) t.capacity (seen_at.front ++ at ∷ seen_at.back) (spare_of t) (rows_of t)
  split_at = subst (λ l. Intact t.chain t.count (spot t.free) t.capacity l (spare_of t) (rows_of t)) seen_at.split (opened t)

  pub used_made : at < vec_len t.chain.rows
  used_made = row_made seen_at.front at seen_at.back (spare_of t) split_at

  pub used_before : Node t.chain (prev t.chain at)
  used_before = before_spot seen_at.front at seen_at.back (spare_of t) split_at

  pub used_after : Node t.chain (next t.chain at)
  used_after = after_spot seen_at.front at seen_at.back (spare_of t) split_at

  used_few : at < 256
  used_few = omega (arith, used_made, t.within, t.most)

  pub read_links : {r : Row} → r ≡ get_or (vec_items t.chain.rows) at r → r.links ≡ links_at t.chain at
  read_links {r} e = row_links t.chain at r (λ k. omega (arith, used_few)) used_made e

  -- that row leaves the chain
  pub released : {c1 c2 : Chain} {r : Row} {l : Links} → r ≡ get_or (vec_items t.chain.rows) at r → spot l.after ≡ spot t.free
      → Joined t.chain c1 (spot r.links.before) (spot r.links.after) → Relinked c1 c2 (spot (Some at)) l
      → Holding c2 (t.count - 1) (spot (Some at)) t.capacity (without n (rows_of t))
  released {c1} {c2} {r} {l} e f j k =
      let s = seen_at in
      let here = spot_row at used_few in
      let apart = ap distinct (sym s.leaves) ∙ distinct_without n (rows_of t) t.apart in
      let joined = subst (λ l. Joined t.chain c1 (spot l.before) (spot l.after)) (read_links e) j in
      let left = leave s.front at s.back (spare_of t) split_at f joined (subst (λ i. Relinked c1 c2 i l) here k) apart in
      let same = subst (λ i. Intact c2 (t.count - 1) i t.capacity (s.front ++ s.back) (at ∷ spare_of t) (map (terms_at t.chain) (s.front ++ s.back))) (sym here) left in
      record { intact = subst (λ ts. Intact c2 (t.count - 1) (spot (Some at)) t.capacity (s.front ++ s.back) (at ∷ spare_of t) ts) (sym s.leaves) same; used = s.front ++ s.back; spare = at ∷ spare_of t }

  -- the open quantity in that row is set
  pub rewritten : {d : Chain} {q : ℕ} → Refilled t.chain d at (with_quantity (terms_at t.chain at) q)
      → Holding d t.count (spot t.free) t.capacity (lowered n q (rows_of t))
  rewritten {d} {q} r =
      let s = seen_at in
      let once = subst (λ l. no_row_twice l ≡ true) s.split (once_front (path_of t) (spare_of t) t.once) in
      let told = s.lowers q (terms_at d) r.off r.here (once_out s.front at s.back once).0 in
      record { used = path_of t; spare = spare_of t; intact = rewrite (opened t) r told (distinct_lowered n q (rows_of t) ∙ t.apart) }

-- no row is free, and one is added
pub grown : (t : ChainTable) {d : Chain} → t.count ≡ vec_len t.chain.rows → t.count < t.capacity → Pushed t.chain d → Holding d t.count (spot (Some t.count)) t.capacity (rows_of t)
grown t {d} e h p =
    let nil = nil_from_length (spare_of t) (omega (arith, (opened t).total)) in
    let none = subst (λ l. Intact t.chain t.count (spot t.free) t.capacity (path_of t) l (rows_of t)) nil (opened t) in
    subst (λ i. Holding d t.count i t.capacity (rows_of t)) (sym (spot_row t.count (omega (arith, t.most)))) (record { used = path_of t; spare = t.count ∷ []; intact = grow none h p })

-- a row is free
module _ (t : ChainTable) (h : t.count < vec_len t.chain.rows) where
  rest : List ℕ
  rest = walk (next t.chain) (vec_len t.chain.rows - t.count - 1) (next t.chain (spot t.free))

  first_free : Intact t.chain t.count (spot t.free) t.capacity (path_of t) (spot t.free ∷ rest) (rows_of t)
  unfolding rest
  first_free =
      let e : vec_len t.chain.rows - t.count ≡ suc (vec_len t.chain.rows - t.count - 1) = omega arith in
      subst (λ l. Intact t.chain t.count (spot t.free) t.capacity (path_of t) l (rows_of t)) (ap (λ k. walk (next t.chain) k (spot t.free)) e) (opened t)

  pub free_made : spot t.free < vec_len t.chain.rows
  free_made = (all_parts (λ i. i < vec_len t.chain.rows) (path_of t) (spot t.free ∷ rest) first_free.present).1.0

  module _ {at : ℕ} (f : t.free ≡ Some at) where
    free_row : spot t.free ≡ at
    free_row = row_is t.free at f (omega (arith, free_made, t.within, t.most))

    free_at : at < vec_len t.chain.rows
    free_at = omega (arith, free_made, free_row)

    -- it comes to the end of the chain
    pub entered : {c0 c1 c2 : Chain} {r : Row} {x : Terms} → r ≡ get_or (vec_items t.chain.rows) at r → held x.number (rows_of t) ≡ false
        → Refilled t.chain c0 at x → Joined c0 c1 (prev t.chain 256) (spot (Some at)) → Joined c1 c2 (spot (Some at)) 256
        → Holding c2 (t.count + 1) (spot r.links.after) t.capacity (rows_of t ++ x ∷ [])
    entered {c0} {c1} {c2} {r} {x} e new w j k =
        let few : at < 256 = omega (arith, free_at, t.within, t.most) in
        let here = spot_row at few in
        let first = subst (λ i. Intact t.chain t.count i t.capacity (path_of t) (i ∷ rest) (rows_of t)) free_row first_free in
        let j1 = subst (λ i. Joined c0 c1 (prev t.chain 256) i) here j in
        let k1 = subst (λ i. Joined c1 c2 i 256) here k in
        let s = enter (path_of t) at rest first w j1 k1 (distinct_push (rows_of t) x t.apart new) in
        let near = row_links t.chain at r (λ n. omega (arith, few)) free_at e in
        record { used = path_of t ++ at ∷ []; spare = rest; intact = subst (λ l. Intact c2 (t.count + 1) (spot l.after) t.capacity (path_of t ++ at ∷ []) rest (rows_of t ++ x ∷ [])) (sym near) s }
