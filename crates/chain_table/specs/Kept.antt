-- What the calls of a chained table keep.
use Rattle.std.specs.Prelude.{◌≡◌, ℕ, zero, suc, ◌<◌, ◌≤◌, true, List, [], ◌∷◌, ◌++◌, map, length, vec_items, vec_len, vec_capacity, nat_lt, refl}
use Rattle.std.proofs.Common.{ap, arith}
use Rattle.std.proofs.ByRecursion.{All-get_or, All-map}
use Rattle.std.proofs.lemmas.List.{length-map}
use Rattle.std.proofs.lemmas.Bool.{and_parts, ltb-true}
use Rattle.std.specs.List.{AllByRecursion}
use Rattle.orders.specs.Ranges.{in_range}
use Rattle.book.proofs.General.{all_of}
use Rattle.book.specs.Calls.{Kept}
use Rattle.book.specs.Lists.{distinct}
use Rattle.chain_table.specs.Chains.{spot, next, terms_at, told_by, no_terms, walk, used_rows, free_rows, rows_told, linked_both_ways, no_row_twice, all_below}
use Rattle.chain_table.specs.Rows.{rows_of}
use Rattle.chain_table.specs.declared.chain.Chain.{Chain}
use Rattle.chain_table.specs.declared.table.ChainTable.{ChainTable}

-- the facts that the fields of a table state
abbrev pub Fields : Chain → ℕ → ℕ → ℕ → Type 0
Fields c count free capacity =
    record {
      most : capacity ≤ 256;
      within : vec_len c.rows ≤ capacity;
      reserved : capacity ≤ vec_capacity c.rows;
      counted : count ≤ vec_len c.rows;
      linked : linked_both_ways c (used_rows c count) ≡ true;
      once : no_row_twice (used_rows c count ++ free_rows c free count) ≡ true;
      present : all_below (vec_len c.rows) (used_rows c count ++ free_rows c free count) ≡ true;
      apart : distinct (rows_told c count) ≡ true;
    }

-- a walk is as long as it has steps
pub length_walk : (f : ℕ → ℕ) (n i : ℕ) → length (walk f n i) ≡ n
length_walk f zero i = refl
length_walk f (suc n) i = ap suc (length_walk f n (f i))

-- the terms in every row are in range
ranged : (c : Chain) (i : ℕ) → i < vec_len c.rows → in_range (terms_at c i) ≡ true
ranged c i h =
    let rs = vec_items c.rows in
    let l = length-map rs told_by in
    All-get_or (λ t. in_range t ≡ true) (map told_by rs) i no_terms (omega (arith, c.rows.ok.0)) (All-map (λ t. in_range t ≡ true) told_by rs (all_of (λ r. in_range (told_by r) ≡ true) (λ r. r.order.ranged) rs))

told_ranged : (c : Chain) (xs ys : List ℕ) → all_below (vec_len c.rows) (xs ++ ys) ≡ true → AllByRecursion (λ t. in_range t ≡ true) (map (terms_at c) xs)
told_ranged c [] ys h = tt
told_ranged c (x ∷ xs) ys h =
    let q = and_parts (nat_lt x (vec_len c.rows)) (all_below (vec_len c.rows) (xs ++ ys)) h in
    (ranged c x (ltb-true _ _ q.0), told_ranged c xs ys q.1)

-- where those facts hold
pub fields_kept : (c : Chain) (count free capacity : ℕ) → Fields c count free capacity → Kept capacity capacity (rows_told c count)
fields_kept c count free capacity f =
    let long = length_walk (next c) count (next c 256) in
    let told = length-map (used_rows c count) (terms_at c) in
    record {
      same = refl;
      most = f.most;
      within = omega (arith, f.within, f.counted);
      sound = record { few = omega (arith, f.most, f.within, f.counted); apart = f.apart; ranged = told_ranged c (used_rows c count) (free_rows c free count) f.present };
    }

pub table_kept : (t : ChainTable) → Kept t.capacity t.capacity (rows_of t)
table_kept t =
    fields_kept t.chain t.count (spot t.free) t.capacity (record { most = t.most; within = t.within; reserved = t.reserved; counted = t.counted; linked = t.linked; once = t.once; present = t.present; apart = t.apart })
