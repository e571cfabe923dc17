use Rattle.std.proofs.Common.{◌-◌, Some, sym, refl, subst, arith}
use Rattle.book.specs.Lists.{without}
use Rattle.chain_table.specs.Chains.{spot}
use Rattle.chain_table.specs.Rows.{rows_of}
use Rattle.chain_table.specs.Steps.{number_in, Node}
use Rattle.chain_table.proofs.Intact.{Holding, closed, list_is}
use Rattle.chain_table.proofs.Spots.{spot_row}
use Rattle.chain_table.proofs.Tables.{used_made, used_before, used_after, read_links, released}
use Rattle.chain_table.proofs.table.ChainTable.release.Goals as goal
use Rattle.chain_table.proofs.table.ChainTable.release.Goals.{After-relink}

pub index-requires : goal.index-requires
index-requires c = used_made c.requires

pub overflow_cast-row : goal.overflow_cast-row
overflow_cast-row c =
    let t = c.args.self.now in
    let made = used_made c.requires in
    omega (arith, made, t.within, t.most)

pub join-requires : goal.join-requires
join-requires c =
    let t = c.args.self.now in
    let e = sym (read_links c.requires c.index.ensures) in
    record { first = subst (λ l. Node t.chain (spot l.before)) e (used_before c.requires); second = subst (λ l. Node t.chain (spot l.after)) e (used_after c.requires) }

pub relink-requires : goal.relink-requires
relink-requires c =
    let t = c.args.self.now in
    let made = used_made c.requires in
    λ _. omega (arith, c.join.ensures.same.len, made, t.within, t.most, spot_row c.args.at (omega (arith, made, t.within, t.most)))

left : (c : After-relink) →
    Holding c.relink.new.self (c.args.self.now.count - 1) (spot (Some c.args.at)) c.args.self.now.capacity (without (number_in c.args.self.now c.args.at) (rows_of c.args.self.now))
left c = released c.requires c.index.ensures refl c.join.ensures c.relink.ensures

pub invariant_of-self : goal.invariant_of-self
invariant_of-self c = closed (left c)

pub returns : goal.returns
returns c = record { list = list_is (left (goal.at.returns c).After-relink); same = refl }
