use Rattle.std.proofs.Common.{◌≡◌, pos, ◌-ℤ◌, arith, w64, to_z, of_z}
use Rattle.std.proofs.lemmas.Int.{ints}
use Rattle.orders.specs.Told.{grid_of}
use Rattle.pricing.proofs.Fairness.{none_answer, some_answer, best_bounds, fair_answer}
use Rattle.pricing.proofs.gather.Crossing.price.Goals as goal

pub returns-then-best-eq0 : goal.returns-then-best-eq0
returns-then-best-eq0 c =
    let q = c.args.self.now.quote in
    let ts = c.args.self.now.orders.items in
    let tick = (grid_of c.args.settings).tick in
    let n = c.args.self.now.stops in
    let value = none_answer q.quote ts tick n c.best-best.result c.best-best.ensures c.if-best-eq0.true in
    record { value = value; fair = fair_answer q.quote ts tick n c.best-best.result c.best-best.ensures q.apart value }

pub price-price-requires : goal.price-price-requires
price-price-requires c =
    let q = c.args.self.now.quote in
    best_bounds q.quote c.args.self.now.orders.items 0 0 c.best-best.result c.best-best.ensures q.apart q.top

pub returns : goal.returns
returns c =
    let q = c.args.self.now.quote in
    let ts = c.args.self.now.orders.items in
    let tick = (grid_of c.args.settings).tick in
    let n = c.args.self.now.stops in
    let d = c.depth_at-demand.result in
    let s = c.depth_at-supply.result in
    let surplus : to_z w64 (of_z w64 (to_z w64 d -ℤ to_z w64 s)) ≡ pos d -ℤ pos s = omega (arith, ints) in
    let value =
    some_answer q.quote ts tick n c.best-best.result c.best-best.ensures c.if-best-eq0.false _ _ d s _ c.price-price.ensures c.depth_at-demand.ensures c.depth_at-supply.ensures c.min.ensures surplus in
    record { value = value; fair = fair_answer q.quote ts tick n c.best-best.result c.best-best.ensures q.apart value }
