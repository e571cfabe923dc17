-- What holds of a table, with its rows in use and its free rows as lists.
use Rattle.std.specs.Prelude.{◌≡◌, ℕ, ◌+◌, ◌-◌, ◌<◌, ◌≤◌, true, List, ◌∷◌, ◌++◌, map, length, vec_len, vec_capacity, ◌==◌, slice_index_or, refl}
use Rattle.std.proofs.ByRecursion.{All-get_or}
use Rattle.std.proofs.Common.{⊎_elim, sym, ap, subst, ◌∙◌, add-one, arith}
use Rattle.std.proofs.lemmas.List.{length-map}
use Rattle.std.proofs.lemmas.Bool.{or_cases, eqb-true}
use Rattle.orders.specs.declared.terms.Terms.{Terms}
use Rattle.book.specs.Calls.{Kept}
use Rattle.book.specs.Lists.{distinct}
use Rattle.chain_table.specs.Chains.{spot, next, prev, terms_at, walk, used_rows, free_rows, rows_told, linked_both_ways, among, no_row_twice, all_below}
use Rattle.chain_table.specs.Rows.{rows_of}
use Rattle.chain_table.specs.Steps.{path_of, Spot, Node}
use Rattle.chain_table.specs.declared.chain.Chain.{Chain}
use Rattle.chain_table.specs.declared.table.ChainTable.{ChainTable}
use Rattle.chain_table.proofs.Indices.{all_parts, all_among, Below, from_below, to_below}
use Rattle.chain_table.specs.Kept.{Fields, length_walk, fields_kept}
use Rattle.chain_table.proofs.Walks.{Linked, from_linked, to_linked, walk_linked, last_among, first_of, step_of}

-- the rows xs are in use and tell ts, and the rows sp are free
pub record Intact (c : Chain) (count free capacity : ℕ) (xs sp : List ℕ) (ts : List Terms) : Type 0 where
  pub most : capacity ≤ 256
  pub within : vec_len c.rows ≤ capacity
  pub reserved : capacity ≤ vec_capacity c.rows
  pub long : length xs ≡ count
  pub total : count + length sp ≡ vec_len c.rows
  pub link : Linked (next c) (prev c) 256 xs 256
  pub frees : walk (next c) (length sp) free ≡ sp
  pub once : no_row_twice (xs ++ sp) ≡ true
  pub present : Below (vec_len c.rows) (xs ++ sp)
  pub told : map (terms_at c) xs ≡ ts
  pub apart : distinct ts ≡ true

-- some rows are in use and tell ts, and some are free
pub record Holding (c : Chain) (count free capacity : ℕ) (ts : List Terms) : Type 0 where
  pub used : List ℕ
  pub spare : List ℕ
  pub intact : Intact c count free capacity used spare ts

pub opened : (t : ChainTable) → Intact t.chain t.count (spot t.free) t.capacity (path_of t) (free_rows t.chain (spot t.free) t.count) (rows_of t)
opened t =
    let c = t.chain in
    let n = vec_len c.rows in
    let spare = length_walk (next c) (n - t.count) (spot t.free) in
    record {
      most = t.most;
      within = t.within;
      reserved = t.reserved;
      long = length_walk (next c) t.count (next c 256);
      total = omega (arith, t.counted);
      link = from_linked (next c) (prev c) 256 (path_of t) 256 t.linked;
      frees = ap (λ k. walk (next c) k (spot t.free)) spare;
      once = t.once;
      present = from_below n (path_of t ++ free_rows c (spot t.free) t.count) t.present;
      told = refl;
      apart = t.apart;
    }

-- one of some rows or the end
pub on_row : (c : Chain) (i : ℕ) (xs : List ℕ) → Below (vec_len c.rows) xs → among i (256 ∷ xs) ≡ true → Spot c i
on_row c i xs b h n = ⊎_elim (λ k. absurd (n (sym (eqb-true 256 i k)))) (λ k. all_among (λ x. x < vec_len c.rows) i xs b k) (or_cases (256 == i) (among i xs) h)

-- where there are at most 256 rows, the index of each tells it
near : (c : Chain) (i : ℕ) → vec_len c.rows ≤ 256 → Spot c i → Node c i
near c i few s n = let l = s n in omega arith

pub on_spot : (c : Chain) (i : ℕ) (xs : List ℕ) → vec_len c.rows ≤ 256 → Below (vec_len c.rows) xs → among i (256 ∷ xs) ≡ true → Node c i
on_spot c i xs few b h = near c i few (on_row c i xs b h)

module _ {c : Chain} {count free capacity : ℕ} {xs sp : List ℕ} {ts : List Terms} (s : Intact c count free capacity xs sp ts) where
  pub below : Below (vec_len c.rows) xs
  below = (all_parts (λ x. x < vec_len c.rows) xs sp s.present).0

  pub last_spot : Spot c (prev c 256)
  last_spot = on_row c (prev c 256) xs below (last_among (next c) (prev c) 256 xs 256 s.link)

  pub last_node : Node c (prev c 256)
  last_node = near c (prev c 256) (omega (arith, s.most, s.within)) last_spot

module _ {c : Chain} {count free capacity : ℕ} {ts : List Terms} (h : Holding c count free capacity ts) where
  path_is : used_rows c count ≡ h.used
  path_is = ap (λ n. walk (next c) n (next c 256)) (sym h.intact.long) ∙ walk_linked (next c) (prev c) 256 h.used 256 h.intact.link

  pub list_is : rows_told c count ≡ ts
  list_is = ap (map (terms_at c)) path_is ∙ h.intact.told

  pub closed : Fields c count free capacity
  closed =
      let s = h.intact in
      let few : vec_len c.rows - count ≡ length h.spare = omega (arith, s.total) in
      let spare : free_rows c free count ≡ h.spare = ap (λ n. walk (next c) n free) few ∙ s.frees in
      let all : used_rows c count ++ free_rows c free count ≡ h.used ++ h.spare = ap (λ l. l ++ free_rows c free count) path_is ∙ ap (λ l. h.used ++ l) spare in
      let counted : count ≤ vec_len c.rows = omega (arith, s.total) in
      let linked = ap (linked_both_ways c) path_is ∙ to_linked (next c) (prev c) 256 h.used 256 s.link in
      let once = ap no_row_twice all ∙ s.once in
      let present = ap (all_below (vec_len c.rows)) all ∙ to_below (vec_len c.rows) (h.used ++ h.spare) s.present in
      let apart = ap distinct list_is ∙ s.apart in
      record { most = s.most; within = s.within; reserved = s.reserved; counted = counted; linked = linked; once = once; present = present; apart = apart }

  pub kept : (room : ℕ) → capacity ≡ room → Kept room capacity (rows_told c count)
  kept room e = subst (λ n. Kept n capacity (rows_told c count)) e (fields_kept c count free capacity closed)

-- a table tells as many orders as it counts
pub rows_length : (t : ChainTable) → length (rows_of t) ≡ t.count
rows_length t = length-map (path_of t) (terms_at t.chain) ∙ (opened t).long

-- a table as it stands
pub whole : (t : ChainTable) → Holding t.chain t.count (spot t.free) t.capacity (rows_of t)
whole t = record { used = path_of t; spare = free_rows t.chain (spot t.free) t.count; intact = opened t }

-- along the path of a table: its first row, that each is a row, and the next of each
pub path_start : (t : ChainTable) → next t.chain 256 ≡ slice_index_or (path_of t) 0 256
path_start t = first_of (next t.chain) (prev t.chain) 256 (path_of t) 256 (opened t).link

pub path_row : (t : ChainTable) (k : ℕ) → k < t.count → slice_index_or (path_of t) k 256 < vec_len t.chain.rows
path_row t k h = All-get_or (λ i. i < vec_len t.chain.rows) (path_of t) k 256 (omega (arith, (opened t).long)) (below (opened t))

pub path_step : (t : ChainTable) (k : ℕ) → k < t.count → next t.chain (slice_index_or (path_of t) k 256) ≡ slice_index_or (path_of t) (k + 1) 256
path_step t k h =
    step_of (next t.chain) (prev t.chain) 256 (path_of t) 256 k (omega (arith, (opened t).long)) (opened t).link
    ∙ ap (λ j. slice_index_or (path_of t) j 256) (sym (add-one k))
