use Rattle.std.proofs.Common.{sym}
use Rattle.chain_table.specs.Kept.{table_kept}
use Rattle.chain_table.proofs.Intact.{rows_length}
use Rattle.chain_table.proofs.calls.ChainTableBook.count.Goals as goal

pub returns : goal.returns
returns c =
    let t = c.args.self.now in
    record { value = sym (rows_length t); sound = (table_kept t).sound }
