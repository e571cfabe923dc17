use Rattle.std.proofs.Common.{length, ap, arith}
use Rattle.orders.specs.Told.{grid_of}
use Rattle.settling.proofs.Keeping.{length_after_stops}
use Rattle.auction.proofs.Balancing.{found_few}
use Rattle.auction.proofs.Holding.{ran}
use Rattle.auction.proofs.hold.run.Goals as goal

pub fill_at-count-requires : goal.fill_at-count-requires
fill_at-count-requires g c = omega (arith, ap length c.trigger_stops.ensures.after, length_after_stops c.quote.result (g.S.Book.orders c.args.store.now), c.requires)

pub slice_bounds-settle-end : goal.slice_bounds-settle-end
slice_bounds-settle-end g c =
    let filled = c.fill_at-count.ensures.value in
    omega (
      arith,
      found_few c.args.quote.quote (g.S.Book.orders c.trigger_stops.new.store) c.trial-found.result c.args.quote.apart,
      ap length c.trigger_stops.ensures.after,
      length_after_stops c.quote.result (g.S.Book.orders c.args.store.now),
      c.requires,
    )

pub returns : goal.returns
returns g c =
    ran (grid_of c.args.settings).tick c.args.quote.quote c.quote.result (g.S.Book.orders c.args.store.now)
    c.args.quote.apart (g.met.S.Store.sound c.args.store.now).apart c.trial-found.ensures.value c.trial-found.ensures.fair
    c.quote.ensures c.trigger_stops.ensures.after c.trigger_stops.ensures.same c.fill_at-count.ensures c.settle.ensures.after c.settle.ensures.same
