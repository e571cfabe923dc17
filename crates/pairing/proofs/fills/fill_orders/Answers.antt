use Rattle.std.proofs.Common.{◌≡◌, length, ap, arith}
use Rattle.orders.specs.declared.terms.Side.TheVariants.{Buy, Sell}
use Rattle.pairing.proofs.Adding.{add_up, fills_few}
use Rattle.pairing.proofs.Fronting.{by_priority}
use Rattle.pairing.specs.Pairs.{paired, fills_at}
use Rattle.pairing.proofs.fills.fill_orders.Goals as goal

pub returns-then-fills-count-clause-adds_up : goal.returns-then-fills-count-clause-adds_up
returns-then-fills-count-clause-adds_up g c = add_up _ _ _ c.args.quote.apart c.count.ensures.sound

pub returns-then-fills-count-clause-buys_by_priority : goal.returns-then-fills-count-clause-buys_by_priority
returns-then-fills-count-clause-buys_by_priority g c = by_priority _ _ _ c.count.ensures.sound Buy

pub returns-then-fills-count-clause-sells_by_priority : goal.returns-then-fills-count-clause-sells_by_priority
returns-then-fills-count-clause-sells_by_priority g c = by_priority _ _ _ c.count.ensures.sound Sell

pub pair-requires : goal.pair-requires
pair-requires g c =
    let q = c.args.quote in
    let ts = g.B.Book.orders c.args.book.now in
    let same : paired c.args.price c.of-buys.result.list.items c.of-sells.result.list.items ≡ fills_at q.quote ts c.args.price = cc in
    omega (arith, fills_few q.quote ts c.args.price q.apart, ap length same, c.if-fills-count.false, c.count.ensures.value)

pub returns-clause-adds_up : goal.returns-clause-adds_up
returns-clause-adds_up g c = add_up _ _ _ c.args.quote.apart c.count.ensures.sound

pub returns-clause-buys_by_priority : goal.returns-clause-buys_by_priority
returns-clause-buys_by_priority g c = by_priority _ _ _ c.count.ensures.sound Buy

pub returns-clause-sells_by_priority : goal.returns-clause-sells_by_priority
returns-clause-sells_by_priority g c = by_priority _ _ _ c.count.ensures.sound Sell
