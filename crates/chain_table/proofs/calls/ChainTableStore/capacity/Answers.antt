use Rattle.std.proofs.Common.{refl}
use Rattle.chain_table.specs.Kept.{table_kept}
use Rattle.chain_table.proofs.calls.ChainTableStore.capacity.Goals as goal

pub returns : goal.returns
returns c = record { value = refl; kept = table_kept c.args.self.now }
