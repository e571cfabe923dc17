use Rattle.std.proofs.Common.{◌≡◌, None, Err, ap, ◌∙◌}
use Rattle.std.proofs.lemmas.Result.{err_from_is_err_and}
use Rattle.orders.specs.Told.{grid_of}
use Rattle.pricing.specs.Quotes.{quote_fault}
use Rattle.orders.proofs.Answering.{refused_by, not_refused}
use Rattle.engine.proofs.Matching.{by_quote, by_fills, by_receipts, met}
use Rattle.engine.proofs.freeze.hold_match.Given as given
use Rattle.engine.proofs.freeze.hold_match.Goals as goal
use Rattle.engine.proofs.freeze.hold_match.Goals.{In_ok-matching}

pub returns-in_err-matching : goal.returns-in_err-matching
returns-in_err-matching g c =
    let p = err_from_is_err_and c.from_residual.result c.from_residual.ensures.1 in
    by_quote _ _ _ _ _ _ _ c.from_residual.result c.in_err-matching.field-0.0 (p.1 ∙ ap Err p.2) (refused_by (quote_fault (grid_of c.args.settings) c.args.quote) c.args.quote _ c.in_err-matching.ensures.value)

-- the quote is taken
taken : (g : given.Over) (c : In_ok-matching g) → quote_fault (grid_of c.args.settings) c.args.quote ≡ None
taken g c = not_refused (quote_fault (grid_of c.args.settings) c.args.quote) c.args.quote _ c.in_ok-matching.ensures.value

pub returns-then-fills-count : goal.returns-then-fills-count
returns-then-fills-count g c = by_fills _ _ _ _ _ _ _ (taken g (goal.at.returns-then-fills-count g c).In_ok-matching) c.count.ensures.value c.if-fills-count.true

pub returns-then-receipts-capacity : goal.returns-then-receipts-capacity
returns-then-receipts-capacity g c = by_receipts _ _ _ _ _ _ _ (taken g (goal.at.returns-then-receipts-capacity g c).In_ok-matching) c.count.ensures.value c.if-fills-count.false c.capacity.ensures c.if-receipts-capacity.true

pub returns : goal.returns
returns g c =
    met _ _ _ _ _ _ _ c.in_ok-matching.matching.quote (taken g (goal.at.returns g c).In_ok-matching) c.count.ensures.value c.if-fills-count.false c.capacity.ensures c.if-receipts-capacity.false
    c.in_ok-matching.ensures.same c.run_match.ensures
