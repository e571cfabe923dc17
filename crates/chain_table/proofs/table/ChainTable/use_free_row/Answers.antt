use Rattle.std.proofs.Common.{◌≡◌, ◌+◌, [], ◌∷◌, ◌++◌, get_or, vec_items, refl, subst, arith}
use Rattle.orders.specs.Told.{terms_of}
use Rattle.chain_table.specs.Chains.{spot}
use Rattle.chain_table.specs.Rows.{rows_of}
use Rattle.chain_table.specs.Steps.{Refilled}
use Rattle.chain_table.proofs.Intact.{Holding, opened, closed, list_is, last_node}
use Rattle.chain_table.proofs.Tables.{entered}
use Rattle.chain_table.proofs.table.ChainTable.use_free_row.Goals as goal
use Rattle.chain_table.proofs.table.ChainTable.use_free_row.Goals.{After-join-2}

pub join-requires-clause-first : goal.join-requires-clause-first
join-requires-clause-first c =
    let len = c.refill.ensures.len in
    λ n. omega (arith, last_node (opened c.args.self.now) n)

last : (c : After-join-2) →
    Holding c.join-2.new.self (c.args.self.now.count + 1) (spot c.index.result.now.links.after) c.args.self.now.capacity (rows_of c.args.self.now ++ terms_of c.args.order ∷ [])
last c =
    let t = c.args.self.now in
    let r = c.index.result.now in
    let read = subst (λ i. r ≡ get_or (vec_items t.chain.rows) i r) c.from-at.ensures c.index.ensures in
    let filled = subst (λ i. Refilled t.chain c.refill.new.self i (terms_of c.args.order)) c.from-at.ensures c.refill.ensures in
    entered t c.requires.spare c.unwrap-row.ensures read c.requires.apart filled c.join.ensures c.join-2.ensures

pub invariant_of-self : goal.invariant_of-self
invariant_of-self c = closed (last c)

pub returns : goal.returns
returns c = record { list = list_is (last (goal.at.returns c).After-join-2); same = refl }
