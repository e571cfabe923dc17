use Rattle.std.proofs.Common.{◌≡◌, option_map, slice_get, ap, sym, ◌∙◌, arith}
use Rattle.std.proofs.lemmas.Iterator.Consumers.{YieldsList-from_first, nth_from_yields_List}
use Rattle.std.proofs.lemmas.Option.{slice_get_past}
use Rattle.orders.specs.Told.{terms_of}
use Rattle.chain_table.specs.Chains.{terms_at}
use Rattle.chain_table.specs.Rows.{rows_of}
use Rattle.chain_table.specs.Steps.{path_of, row_and_terms}
use Rattle.chain_table.specs.Kept.{table_kept}
use Rattle.chain_table.proofs.Intact.{rows_length}
use Rattle.chain_table.proofs.Seeks.{placed}
use Rattle.chain_table.proofs.calls.ChainTableBook.order_at.Goals as goal
use Rattle.chain_table.proofs.calls.ChainTableBook.order_at.Goals.{After-nth}

pub returns-then-place-self : goal.returns-then-place-self
returns-then-place-self c =
    let t = c.args.self.now in
    record { value = sym (slice_get_past (rows_of t) c.args.place (omega (arith, rows_length t))); sound = (table_kept t).sound }

-- what was read
read : (c : After-nth) → option_map (λ p. p.1) (option_map row_and_terms c.nth.result) ≡ slice_get (rows_of c.args.self.now) c.args.place
read c =
    let t = c.args.self.now in
    placed (terms_at t.chain) (path_of t) c.args.place _ (nth_from_yields_List c.nth.result _ c.args.place c.nth.ensures.ran (YieldsList-from_first row_and_terms (λ left. left) _ c.rows_in_use.ensures))

pub returns-in_err-order : goal.returns-in_err-order
returns-in_err-order c =
    record { value = ap (option_map terms_of) c.from_residual.ensures ∙ ap (λ r. option_map (λ p. p.1) (option_map row_and_terms r)) (sym c.in_err-order.was) ∙ read (goal.at.returns-in_err-order c).After-nth; sound = (table_kept c.args.self.now).sound }

pub returns : goal.returns
returns c =
    record { value = ap (λ r. option_map (λ p. p.1) (option_map row_and_terms r)) (sym c.in_ok-order.was) ∙ read (goal.at.returns c).After-nth; sound = (table_kept c.args.self.now).sound }
