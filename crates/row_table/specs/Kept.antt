-- What the calls of a table of rows keep.
use Rattle.std.specs.Prelude.{◌≡◌, ℕ, ◌≤◌, true, List, map, length, vec_items, refl}
use Rattle.std.proofs.Common.{arith}
use Rattle.std.proofs.ByRecursion.{All-map}
use Rattle.std.proofs.lemmas.List.{length-map}
use Rattle.orders.specs.Ranges.{in_range}
use Rattle.orders.specs.Told.{terms_of}
use Rattle.orders.specs.declared.order.Order.{Order}
use Rattle.book.proofs.General.{all_of}
use Rattle.book.specs.Calls.{Kept}
use Rattle.book.specs.Lists.{distinct}
use Rattle.row_table.specs.Rows.{rows_of}
use Rattle.row_table.specs.declared.table.RowTable.{RowTable}

pub rows_kept : (os : List Order) (room : ℕ) → room ≤ 256 → length os ≤ room → distinct (map terms_of os) ≡ true → Kept room room (map terms_of os)
rows_kept os room most within apart =
    let l = length-map os terms_of in
    record {
      same = refl;
      most = most;
      within = omega arith;
      sound = record { few = omega arith; apart = apart; ranged = All-map (λ t. in_range t ≡ true) terms_of os (all_of (λ o. in_range (terms_of o) ≡ true) (λ o. o.ranged) os) };
    }

pub table_kept : (t : RowTable) → Kept t.capacity t.capacity (rows_of t)
table_kept t = rows_kept (vec_items t.rows) t.capacity t.most (omega (arith, t.within, t.rows.ok.0)) t.apart
