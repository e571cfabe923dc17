-- What a chained table means.
use Rattle.std.specs.Prelude.{List}
use Rattle.orders.specs.declared.terms.Terms.{Terms}
use Rattle.chain_table.specs.Chains.{rows_told}
use Rattle.chain_table.specs.declared.table.ChainTable.{ChainTable}

-- the terms of its rows in use, along the chain
abbrev pub rows_of : ChainTable → List Terms
rows_of t = rows_told t.chain t.count
