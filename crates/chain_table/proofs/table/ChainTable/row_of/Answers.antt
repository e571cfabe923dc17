use Rattle.std.proofs.Common.{◌≡◌, ◌==◌, rules, option_map, ap, sym, ◌∙◌}
use Rattle.std.proofs.lemmas.Iterator.Consumers.{YieldsList-from_first}
use Rattle.std.proofs.lemmas.Iterator.Search.{find_from_yields_List}
use borrow.Author.Tests.{tests}
use Rattle.chain_table.specs.Chains.{terms_at}
use Rattle.chain_table.specs.Steps.{path_of, row_and_terms, row_holding}
use Rattle.chain_table.proofs.Seeks.{sought}
use Rattle.chain_table.proofs.table.ChainTable.row_of.Goals as goal
use Rattle.chain_table.proofs.table.ChainTable.row_of.Goals.{After-find}

-- what the search found
found : (c : After-find) → option_map (λ p. p.0) (option_map row_and_terms c.find.result) ≡ row_holding c.args.number c.args.self.now
found c =
    let t = c.args.self.now in
    sought c.args.number (terms_at t.chain) (path_of t) _ (find_from_yields_List (λ p. p.1.number == c.args.number) _ _ c.find.result c.find.ensures.ran (YieldsList-from_first row_and_terms (λ left. left) _ c.rows_in_use.ensures) (λ x b q k. search (rules, tests)))

pub returns-in_err-at : goal.returns-in_err-at
returns-in_err-at c = c.from_residual.ensures ∙ ap (λ r. option_map (λ p. p.0) (option_map row_and_terms r)) (sym c.in_err-at.was) ∙ found (goal.at.returns-in_err-at c).After-find

pub returns : goal.returns
returns c = ap (λ r. option_map (λ p. p.0) (option_map row_and_terms r)) (sym c.in_ok-at.was) ∙ found (goal.at.returns c).After-find
