use Rattle.std.proofs.Common.{rules, arith}
use Rattle.std.proofs.lemmas.Iterator.{YieldsList-from_map, YieldsList-from_slice}
use Rattle.std.proofs.lemmas.Iterator.Consumers.{fits_by_from_yields_list}
use Rattle.pricing.proofs.Bounding.{volume_most}
use Rattle.pricing.specs.Depth.{open_at}
use Rattle.pricing.proofs.gather.Crossing.volume.Goals as goal

pub sum-requires-clause-fits : goal.sum-requires-clause-fits
sum-requires-clause-fits c =
    let f = open_at c.args.side c.args.price in
    let ts = c.args.self.now.orders.items in
    fits_by_from_yields_list f ts c.map.result _ (YieldsList-from_map _ f (YieldsList-from_slice ts cc) c.map.ensures.closure (λ x r q k. search rules)) (omega (arith, volume_most c.args.side c.args.price ts c.args.self.now.bounded))
