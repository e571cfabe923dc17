use Rattle.std.proofs.Common.{◌∙◌, ◌++◌, sym, ap, arith}
use Rattle.orders.specs.Told.{terms_of}
use Rattle.book.specs.Calls.{after_append}
use Rattle.saved_book.proofs.Places.{append_there}
use Rattle.saved_book.proofs.load.fill.Goals as goal

pub loop-order-preserved : goal.loop-order-preserved
loop-order-preserved g c =
    let room = c.loop-order.invariant.1 in
    let before = g.S.Book.orders c.loop-order.store in
    let whole = ap (λ l. before ++ l) (sym c.in-Some.ensures.steps) ∙ c.loop-order.invariant.0 in (
      ap (λ l. l ++ c.next.new.self) {y = after_append (g.S.Store.room c.loop-order.store) (terms_of c.in-Some.order) before} c.append.ensures.after
          ∙ append_there _ before c.next.new.self (g.B.Book.orders c.args.book.now) (terms_of c.in-Some.order) whole c.orders_of-order-items.ensures.sound.apart (omega (arith, c.requires.room, room)),
      c.append.ensures.kept.same ∙ room,
    )
