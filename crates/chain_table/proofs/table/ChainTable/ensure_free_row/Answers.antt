use Rattle.std.proofs.Common.{Some, refl, ◌∙◌, arith}
use Rattle.chain_table.specs.Chains.{spot}
use Rattle.chain_table.specs.Rows.{rows_of}
use Rattle.chain_table.proofs.Intact.{Holding, closed, list_is}
use Rattle.chain_table.proofs.Tables.{grown}
use Rattle.chain_table.proofs.table.ChainTable.ensure_free_row.Goals as goal
use Rattle.chain_table.proofs.table.ChainTable.ensure_free_row.Goals.{After-push}

added : (c : After-push) →
    Holding c.push.new.self c.args.self.now.count (spot (Some c.args.self.now.count)) c.args.self.now.capacity (rows_of c.args.self.now)
added c = grown c.args.self.now (c.if-self-len.true ∙ c.len.ensures) c.requires c.push.ensures

pub invariant_of-self : goal.invariant_of-self
invariant_of-self c = closed (added c)

pub returns-then-self-len : goal.returns-then-self-len
returns-then-self-len c =
    record {
      list = list_is (added (goal.at.returns-then-self-len c).After-push);
      same = refl;
      spare = omega (arith, c.push.ensures.len, c.len.ensures);
    }
