use Rattle.std.proofs.Common.{◌≡◌, ap, ◌∙◌, rules, fold}
use Rattle.std.proofs.lemmas.Iterator.{YieldsList-from_slice}
use Rattle.std.proofs.lemmas.Iterator.Consumers.{YieldsList-from_filter_map, fold_from_yields_List}
use borrow.Author.Tests.{tests}
use Rattle.pricing.specs.Depth.{level_of, limit_levels}
use Rattle.pricing.specs.Steps.{better_of, best_at}
use Rattle.pricing.proofs.gather.Crossing.best.Goals as goal

pub returns : goal.returns
returns c =
    let q = c.args.self.now.quote.quote in
    let ts = c.args.self.now.orders.items in
    let ends : c.better-ends.result ≡ better_of (best_at q ts q.bid) (best_at q ts q.ask) = cc in
    fold_from_yields_List _ (λ b p. better_of b (best_at q ts p)) _ c.fold.result c.fold.ensures.ran
    (YieldsList-from_filter_map _ (λ t. level_of q t.kind) (YieldsList-from_slice ts cc) c.filter_map.ensures.closure (λ x r k d. search (rules, tests)))
    (λ a p b k d. search (rules, tests))
    ∙ ap (λ b. fold (λ a p. better_of a (best_at q ts p)) b (limit_levels q ts)) ends
