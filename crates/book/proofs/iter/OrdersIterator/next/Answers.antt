use Rattle.std.proofs.Common.{drop, subst, sym, ◌∙◌, ap, arith}
use Rattle.std.specs.Iterator.{YieldsFirstBy}
use Rattle.std.specs.List.{slice_get}
use Rattle.std.specs.Prelude.{List}
use Rattle.orders.specs.Told.{terms_of}
use Rattle.orders.specs.declared.terms.Terms.{Terms}
use Rattle.book.proofs.Reading.{first_left, none_left}
use Rattle.book.proofs.iter.OrdersIterator.next.Goals as goal

pub returns-in_err-place-clause-steps : goal.returns-in_err-place-clause-steps
returns-in_err-place-clause-steps g c =
    let h = c.in_err-place.ensures.steps in
    none_left _ _ _ _ c.from_residual.result c.from_residual.ensures c.self.view_is h.1.1 (omega (arith, h.1.0, c.self.invariant))

pub returns-clause-steps : goal.returns-clause-steps
returns-clause-steps g c =
    let ts = g.B.Book.orders c.self.inside.book.now in
    let h = c.in_ok-place.ensures.steps in
    subst (λ k. YieldsFirstBy {S = List Terms} terms_of (λ l. l) c.args.self.now c.order_at.result (drop k ts)) (sym h.1.2) (
    first_left ts c.args.self.now c.self.inside.places.start c.order_at.result c.self.view_is (omega (arith, h.1.0, c.self.invariant)) (c.order_at.ensures.value ∙ ap (slice_get ts) h.1.1))
