use Rattle.std.proofs.Common.{length, ap, ◌∙◌, arith}
use Rattle.std.proofs.lemmas.List.{length-append}
use Rattle.std.proofs.lemmas.List.Sums.{count_by-le-length}
use Rattle.orders.specs.Told.{terms_of}
use Rattle.pricing.specs.Stops.{triggered_by}
use Rattle.settling.specs.Steps.{stop_numbers}
use Rattle.settling.proofs.Noting.{first_noted, as_many}
use Rattle.settling.proofs.stops.note_stops.Goals as goal

pub push-requires : goal.push-requires
push-requires g c =
    let q = c.args.quote in
    let ts = g.B.Book.orders c.args.book.now in
    let first = ap (stop_numbers q) c.in-Some.ensures.steps ∙ first_noted q (terms_of c.in-Some.order) c.next.new.self c.in-Some-stop_number.number c.in-Some-stop_number.ensures in
    omega (
      arith,
      ap length first,
      ap length c.loop-order.invariant,
      length-append c.loop-order.numbers.items (stop_numbers q c.loop-order.order-iterator),
      as_many q ts,
      count_by-le-length (triggered_by q) ts,
      c.orders_of-order-items.ensures.sound.few,
    )
