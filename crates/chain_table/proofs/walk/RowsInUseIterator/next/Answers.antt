use Rattle.std.proofs.Common.{◌≡◌, ℕ, Some, List, [], map, length, rules, sym, ap, ◌∙◌, subst}
use Rattle.std.specs.Iterator.{YieldsFirstBy}
use Rattle.orders.specs.declared.terms.Terms.{Terms}
use Rattle.chain_table.specs.Chains.{spot}
use Rattle.chain_table.specs.Steps.{path_of, rest_from, row_and_terms, told_in}
use Rattle.chain_table.proofs.Tables.{walk_step, walk_read, walk_end}
use Rattle.chain_table.proofs.walk.RowsInUseIterator.next.Goals as goal

pub returns-in_err-self-clause-steps : goal.returns-in_err-self-clause-steps
returns-in_err-self-clause-steps c =
    let t = c.self.inside.table.now in
    let empty : c.args.self.now ≡ [] = sym c.self.view_is ∙ ap (λ o. map (told_in t.chain) (rest_from (spot o) (path_of t))) c.in_err-self.was ∙ ap (map (told_in t.chain)) (walk_end t) in
    subst (λ o. YieldsFirstBy {S = List (ℕ × Terms)} row_and_terms (λ l. l) c.args.self.now o c.args.self.now) (sym c.from_residual.ensures) (empty, empty)

pub index-row-requires : goal.index-row-requires
index-row-requires c = (walk_step c.self.inside.table.now _ _ (c.in_ok-self.was ∙ ap Some (sym c.from-at.ensures)) c.self.invariant).made

pub invariant_of-self : goal.invariant_of-self
invariant_of-self c = (walk_read c.self.inside.table.now _ _ _ (c.in_ok-self.was ∙ ap Some (sym c.from-at.ensures)) c.self.invariant c.index-row.ensures).1

pub returns-clause-steps : goal.returns-clause-steps
returns-clause-steps c = sym c.self.view_is ∙ (walk_read c.self.inside.table.now _ _ _ (c.in_ok-self.was ∙ ap Some (sym c.from-at.ensures)) c.self.invariant c.index-row.ensures).0

pub returns-clause-goes : goal.returns-clause-goes
returns-clause-goes c =
    let shorter = ap length (sym c.self.view_is ∙ (walk_read c.self.inside.table.now _ _ _ (c.in_ok-self.was ∙ ap Some (sym c.from-at.ensures)) c.self.invariant c.index-row.ensures).0) in
    search rules
