-- What the single steps of the code do.
use Rattle.std.specs.Prelude.{◌≡◌, ℕ, ◌+◌, ◌<◌, min, cond, List, [], ◌∷◌, ◌++◌, map, Some, vec_len, vec_capacity, Option, ◌==◌, ◌≢◌}
use Rattle.std.specs.List.{find}
use Rattle.orders.specs.Told.{terms_of}
use Rattle.orders.specs.declared.order.Order.{Order}
use Rattle.orders.specs.declared.terms.Terms.{Terms}
use Rattle.book.specs.Lists.{without}
use Rattle.chain_table.specs.Chains.{links_at, terms_at, next, prev, used_rows}
use Rattle.chain_table.specs.Rows.{rows_of}
use Rattle.chain_table.specs.declared.chain.Chain.{Chain}
use Rattle.chain_table.specs.declared.chain.Links.{Links}
use Rattle.chain_table.specs.declared.table.ChainTable.{ChainTable}

-- the rows in use, along the chain
abbrev pub path_of : ChainTable → List ℕ
path_of t = used_rows t.chain t.count

-- the number in a row
abbrev pub number_in : ChainTable → ℕ → ℕ
number_in t i = (terms_at t.chain i).number

-- the row in use that holds the number
abbrev pub row_holding : ℕ → ChainTable → Option ℕ
row_holding n t = find (λ i. (terms_at t.chain i).number == n) (path_of t)

-- that row is `at`
pub record Holds (t : ChainTable) (number at : ℕ) : Type 0 where
  pub is : Some at ≡ row_holding number t

-- a row that was read, with the terms in it
abbrev pub row_and_terms : ℕ × Order → ℕ × Terms
row_and_terms p = (p.0, terms_of p.1)

-- a row with the terms in it
abbrev pub told_in : Chain → ℕ → ℕ × Terms
told_in c i = (i, terms_at c i)

-- the rows in use with the terms in them, along the chain
abbrev pub rows_along : ChainTable → List (ℕ × Terms)
rows_along t = map (told_in t.chain) (path_of t)

-- the rows of a list from the row i on
abbrev pub rest_from : ℕ → List ℕ → List ℕ
rest_from i [] = []
rest_from i (x ∷ xs) = cond (x == i) (x ∷ xs) (rest_from i xs)

-- a row or the end
abbrev pub Spot : Chain → ℕ → Type 0
Spot c i = (i ≢ 256) → i < vec_len c.rows

-- a row that its index tells, so one below 256, or the end
abbrev pub Node : Chain → ℕ → Type 0
Node c i = (i ≢ 256) → i < min (vec_len c.rows) 256

-- as many rows with the same terms
pub record SameOrders (c d : Chain) : Type 0 where
  pub told : (i : ℕ) → terms_at d i ≡ terms_at c i
  pub len : vec_len d.rows ≡ vec_len c.rows
  pub cap : vec_capacity d.rows ≡ vec_capacity c.rows

-- only the links at one place change
pub record Relinked (c d : Chain) (at : ℕ) (new : Links) : Type 0 where
  pub here : links_at d at ≡ new
  pub off : (i : ℕ) → (i ≢ at) → links_at d i ≡ links_at c i
  pub same : SameOrders c d

-- from the links f ahead and g back to f' and g': b follows a, and nothing else changes
pub record Led (f f' g g' : ℕ → ℕ) (a b : ℕ) : Type 0 where
  pub ahead : f' a ≡ b
  pub back : g' b ≡ a
  pub ahead_off : (i : ℕ) → (i ≢ a) → f' i ≡ f i
  pub back_off : (i : ℕ) → (i ≢ b) → g' i ≡ g i

-- b follows a, and nothing else changes
pub record Joined (c d : Chain) (a b : ℕ) : Type 0 where
  pub led : Led (next c) (next d) (prev c) (prev d) a b
  pub same : SameOrders c d

-- only the terms in one row change, to t
pub record Refilled (c d : Chain) (at : ℕ) (t : Terms) : Type 0 where
  pub here : terms_at d at ≡ t
  pub off : (i : ℕ) → (i ≢ at) → terms_at d i ≡ terms_at c i
  pub links : (i : ℕ) → links_at d i ≡ links_at c i
  pub len : vec_len d.rows ≡ vec_len c.rows
  pub cap : vec_capacity d.rows ≡ vec_capacity c.rows

-- there is one row more, and nothing else changes
pub record Pushed (c d : Chain) : Type 0 where
  pub told : (i : ℕ) → (i ≢ vec_len c.rows) → terms_at d i ≡ terms_at c i
  pub links : (i : ℕ) → (i ≢ vec_len c.rows) → links_at d i ≡ links_at c i
  pub len : vec_len d.rows ≡ vec_len c.rows + 1
  pub cap : vec_capacity d.rows ≡ vec_capacity c.rows

-- the list is as it was, and a row is free
pub record Freed (s t : ChainTable) : Type 0 where
  pub list : rows_of t ≡ rows_of s
  pub same : t.capacity ≡ s.capacity
  pub spare : t.count < vec_len t.chain.rows

-- an order with the terms x comes to the end of the list
pub record CameLast (s t : ChainTable) (x : Terms) : Type 0 where
  pub list : rows_of t ≡ rows_of s ++ x ∷ []
  pub same : t.capacity ≡ s.capacity

-- the order of a number leaves the list
pub record Left (s t : ChainTable) (number : ℕ) : Type 0 where
  pub list : rows_of t ≡ without number (rows_of s)
  pub same : t.capacity ≡ s.capacity
