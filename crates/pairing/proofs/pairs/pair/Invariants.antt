use Rattle.std.proofs.Common.{◌+◌, ◌∷◌, drop}
use Rattle.pairing.proofs.Turning.{Course, Going, interest, lessened}
use Rattle.pairing.specs.Pairs.{paired}
use Rattle.pairing.proofs.pairs.pair.Given as goal

-- the buyer at hand stands in front, with what he still wants
abbrev pub invariant-loop-open : goal.invariant-loop-open
invariant-loop-open l =
    let rest = drop (l.buy-index + 1) l.buy-items in
    let e = l.initial in
    Course e.count e.fills (paired l.price (interest l.buyer e.open ∷ rest) (lessened e.taken e.rest)) l.count l.fills (paired l.price (interest l.buyer l.open ∷ rest) (lessened l.taken l.rest))
    × Going l.open rest (lessened l.taken l.rest) l.left

abbrev pub decreases-loop-open : goal.decreases-loop-open
decreases-loop-open l = l.open

abbrev pub invariant-auction : goal.invariant-auction
invariant-auction l =
    let rest = drop l.buy-index l.buy-items in
    Course 0 l.initial.fills (paired l.price l.buys.list.items l.sells.list.items) l.count l.fills (paired l.price rest (lessened l.taken l.rest))
    × Going 0 rest (lessened l.taken l.rest) l.left
