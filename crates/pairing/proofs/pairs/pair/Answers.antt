use Rattle.std.proofs.Common.{◌+◌, ◌<◌, ◌∷◌, get_or, drop}
use Rattle.pairing.proofs.Turning.{Turned, interest, lessened, sell, not_taken, turned, gone_on, all_used, next_sell, same_sell, through, none_to_sell, finished}
use Rattle.pairing.specs.Pairs.{paired}
use Rattle.pairing.specs.declared.interest.Interest.{Interest}
use Rattle.pairing.proofs.pairs.pair.Goals as goal
use Rattle.pairing.proofs.pairs.pair.Goals.{In-Some, After-min-quantity}

abbrev nobody : Interest
nobody = record { number = 0; quantity = 0 }

open_sell : (c : In-Some) → c.loop-open.taken < c.in-Some.sell.now.quantity
open_sell c = not_taken c.loop-open.rest.now c.loop-open.taken c.in-Some.sell.now c.in-Some.behind.now c.in-Some.ensures.cases.0 c.loop-open.open _ c.loop-open.left c.loop-open.invariant.1

-- the turn, once its quantity is known
the_turn : (c : After-min-quantity) → let b = get_or c.as_slice-buy-items.result.now c.auction.buy-index nobody in let rest = drop (c.auction.buy-index + 1) c.as_slice-buy-items.result.now in Turned c.auction.count c.auction.fills (paired c.args.price (b ∷ rest) (lessened c.auction.taken c.auction.rest.now)) c.args.price b.number c.loop-open.open rest (sell c.loop-open.rest.now c.loop-open.taken c.in-Some.sell.now c.in-Some.behind.now c.in-Some.ensures.cases.0) c.in-Some.behind.now c.loop-open.count c.loop-open.fills c.loop-open.left c.min-quantity.result
the_turn c =
    turned c.loop-open.rest.now c.loop-open.taken c.in-Some.sell.now c.in-Some.behind.now c.in-Some.ensures.cases.0 c.args.price _ c.loop-open.open _ c.loop-open.count c.loop-open.fills c.loop-open.left c.min-quantity.result c.loop-open-test.true c.min-quantity.ensures c.loop-open.invariant.0 c.loop-open.invariant.1

pub loop-open-preserved-then-taken-sell : goal.loop-open-preserved-then-taken-sell
loop-open-preserved-then-taken-sell c =
    let t = (goal.at.loop-open-preserved-then-taken-sell c).After-min-quantity in
    gone_on (the_turn t) (next_sell c.loop-open.rest.now c.loop-open.taken c.in-Some.sell.now c.in-Some.behind.now c.in-Some.ensures.cases.0 c.min-quantity.result (open_sell (goal.at.loop-open-preserved-then-taken-sell c).In-Some) c.if-taken-sell.true)

pub loop-open-preserved : goal.loop-open-preserved
loop-open-preserved c =
    let t = (goal.at.loop-open-preserved c).After-min-quantity in
    gone_on (the_turn t) (same_sell c.loop-open.rest.now c.loop-open.taken c.in-Some.sell.now c.in-Some.behind.now c.in-Some.ensures.cases.0 c.min-quantity.result (open_sell (goal.at.loop-open-preserved c).In-Some) c.if-taken-sell.false)

pub returns-in_default : goal.returns-in_default
returns-in_default c =
    let bs = interest (get_or c.as_slice-buy-items.result.now c.auction.buy-index nobody).number c.loop-open.open ∷ drop (c.auction.buy-index + 1) c.as_slice-buy-items.result.now in
    finished (through c.args.price c.as_slice-buy-items.result.now c.auction.buy-index nobody _ c.auction-test.true c.auction.invariant.0 (none_to_sell c.args.price bs c.loop-open.rest.now c.loop-open.taken c.loop-open.count c.loop-open.fills c.in_default.ensures.cases c.loop-open.invariant.0))

pub returns-then-left-eq0 : goal.returns-then-left-eq0
returns-then-left-eq0 c =
    let t = the_turn (goal.at.returns-then-left-eq0 c).After-min-quantity in
    finished (through c.args.price c.as_slice-buy-items.result.now c.auction.buy-index nobody _ c.auction-test.true c.auction.invariant.0 (all_used t c.if-left-eq0.true))
