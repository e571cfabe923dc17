use Rattle.std.proofs.Common.{◌∙◌, ap, arith}
use Rattle.std.proofs.lemmas.List.Sums.{sum_by-cons}
use Rattle.orders.specs.Told.{terms_of}
use Rattle.book.specs.Figures.{quantity_of, open_shares}
use Rattle.book.proofs.Laws.{shares_most}
use Rattle.book.proofs.open.open_shares.Goals as goal

pub overflow_add-shares : goal.overflow_add-shares
overflow_add-shares g c =
    let first = ap open_shares c.in-Some.ensures.steps ∙ sum_by-cons quantity_of (terms_of c.in-Some.order) c.next.new.self in
    omega (arith, c.loop-order.invariant, first, shares_most (g.B.Book.orders c.args.book.now) c.orders_of-order-items.ensures.sound, ap quantity_of c.terms-shares.ensures)
