-- What a table of rows means.
use Rattle.std.specs.Prelude.{ℕ, List, map, Option, vec_items, position, ◌==◌}
use Rattle.orders.specs.Told.{terms_of}
use Rattle.orders.specs.declared.terms.Terms.{Terms}
use Rattle.row_table.specs.declared.table.RowTable.{RowTable}

-- the terms of its rows
abbrev pub rows_of : RowTable → List Terms
rows_of t = map terms_of (vec_items t.rows)

-- where the number stands first, if it is held
abbrev pub place_of : ℕ → List Terms → Option ℕ
place_of n = position (λ t. t.number == n)
