use Rattle.std.proofs.Common.{arith}
use Rattle.row_table.specs.Kept.{table_kept}
use Rattle.row_table.proofs.Places.{rows_length}
use Rattle.row_table.proofs.calls.RowTableBook.count.Goals as goal

pub returns : goal.returns
returns c =
    let t = c.args.self.now in
    record { value = omega (arith, rows_length t.rows); sound = (table_kept t).sound }
