use Rattle.std.proofs.Common.{refl}
use Rattle.row_table.specs.Kept.{table_kept}
use Rattle.row_table.proofs.calls.RowTableStore.capacity.Goals as goal

pub returns : goal.returns
returns c = record { value = refl; kept = table_kept c.args.self.now }
