use Rattle.chain_table.proofs.Writes.{joined}
use Rattle.chain_table.proofs.chain.Chain.join.Goals as goal

pub returns : goal.returns
returns c = joined c.neighbours-before.ensures c.relink.ensures c.neighbours-after.ensures c.relink-2.ensures
