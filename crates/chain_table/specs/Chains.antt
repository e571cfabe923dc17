-- Rows that are chained by index. The number 256 tells the end, which stands before the first row and after the last.
use Rattle.std.specs.Prelude.{ℕ, zero, suc, ◌-◌, Bool, true, cond, not, ◌&&◌, List, [], ◌∷◌, map, Option, Some, None, vec_items, vec_len, ◌==◌, nat_lt, slice_index_or}
use Rattle.std.specs.List.{list_any, list_all}
use Rattle.orders.specs.Told.{terms_of}
use Rattle.orders.specs.declared.terms.Kind.TheVariants.{Market}
use Rattle.orders.specs.declared.terms.Side.TheVariants.{Buy}
use Rattle.orders.specs.declared.terms.Terms.{Terms}
use Rattle.chain_table.specs.declared.chain.Chain.{Chain}
use Rattle.chain_table.specs.declared.chain.Links.{Links}
use Rattle.chain_table.specs.declared.chain.Row.{Row}

-- the end is told by 256 and a row by its index, which is below 256; a larger one, which is no row, by one more
abbrev pub spot : Option ℕ → ℕ
spot None = 256
spot (Some i) = cond (nat_lt i 256) i (suc i)

-- the neighbours that a row names
abbrev pub links_of : Row → Links
links_of r = r.links

-- the terms in a row
abbrev pub told_by : Row → Terms
told_by r = terms_of r.order

-- the links of what is no row
abbrev pub no_links : Links
no_links = record { before = None; after = None }

-- the terms in what is no row
abbrev pub no_terms : Terms
no_terms = record { number = 0; participant = 0; side = Buy; kind = Market; quantity = 0 }

-- the neighbours of a row, or of the end
abbrev pub links_at : Chain → ℕ → Links
links_at c i = cond (i == 256) c.ends (slice_index_or (map links_of (vec_items c.rows)) i no_links)

-- the terms in the row of an index
abbrev pub terms_at : Chain → ℕ → Terms
terms_at c i = slice_index_or (map told_by (vec_items c.rows)) i no_terms

-- what follows a row
abbrev pub next : Chain → ℕ → ℕ
next c i = spot (links_at c i).after

-- what stands before a row
abbrev pub prev : Chain → ℕ → ℕ
prev c i = spot (links_at c i).before

-- the first n indices from i on
abbrev pub walk : (ℕ → ℕ) → ℕ → ℕ → List ℕ
walk f zero i = []
walk f (suc n) i = i ∷ walk f n (f i)

-- the rows in use, along the chain
abbrev pub used_rows : Chain → ℕ → List ℕ
used_rows c count = walk (next c) count (next c 256)

-- the free rows, as many as are not in use
abbrev pub free_rows : Chain → ℕ → ℕ → List ℕ
free_rows c free count = walk (next c) (vec_len c.rows - count) free

-- the terms in the rows in use, along the chain
abbrev pub rows_told : Chain → ℕ → List Terms
rows_told c count = map (terms_at c) (used_rows c count)

-- from a through xs to b each leads ahead to the next, and each next back
abbrev pub linked_through : (ℕ → ℕ) → (ℕ → ℕ) → ℕ → List ℕ → ℕ → Bool
linked_through f g a [] b = f a == b && g b == a
linked_through f g a (x ∷ xs) b = (f a == x && g x == a) && linked_through f g x xs b

-- so from the end through the rows to the end
abbrev pub linked_both_ways : Chain → List ℕ → Bool
linked_both_ways c xs = linked_through (next c) (prev c) 256 xs 256

-- n is one of the list
abbrev pub among : ℕ → List ℕ → Bool
among n = list_any (λ x. x == n)

-- no two of the list are equal
abbrev pub no_row_twice : List ℕ → Bool
no_row_twice [] = true
no_row_twice (x ∷ xs) = not (among x xs) && no_row_twice xs

-- each of the list is less than n
abbrev pub all_below : ℕ → List ℕ → Bool
all_below n = list_all (λ x. nat_lt x n)
