use Rattle.std.proofs.Common.{◌≡◌, ◌+◌, ◌*◌, ◌≤◌, [], ◌++◌, suc, length, take, drop, sym, ap, ◌∙◌, subst, mul-suc, take-append-drop, arith}
use Rattle.std.specs.List.{flat_map, AllByRecursion}
use Rattle.orders.specs.Told.{terms_of}
use Rattle.saved_book.specs.Steps.{laid, FitsItsBytes}
use Rattle.saved_book.proofs.Writing.{put_next}
use Rattle.saved_book.proofs.save.put_each.Goals as goal

pub loop-place-preserved : goal.loop-place-preserved
loop-place-preserved g c =
    let steps = c.in-Some.ensures.steps in
    let n = g.row.N in
    let k = c.loop-place.place-iterator.count in
    let at = c.args.at + n * k in
    let out = c.loop-place.out in
    let after = c.put.new.out in
    let rest = c.next.new.self.iter in
    let part = g.P.Part.part in
    let size : length c.part_of.result ≡ n = omega arith in
    let here = c.put.ensures ∙ ap (λ p. laid (c.args.at + n * p) c.part_of.result out) steps.1 in
    let next = put_next part at n c.loop-place.place-iterator.iter rest (terms_of c.in-Some.order) c.part_of.result out after (laid c.args.at (flat_map part (g.B.Book.orders c.args.book.now)) c.args.out.now) steps.0 (c.part_of.ensures ∙ ap part c.terms.ensures) size c.loop-place.invariant.0 here (omega (arith, c.put.auto.out)) c.loop-place.invariant.1 in
    let up : c.next.new.self.count ≡ suc k = omega (arith, steps.2) in
    let more : n * c.next.new.self.count ≡ n * k + n = ap (λ j. n * j) up ∙ mul-suc n k in
    let moved : at + n ≡ c.args.at + n * c.next.new.self.count = omega (arith, more) in
    let fits : FitsItsBytes (terms_of c.in-Some.order) = (omega arith, omega arith) in (
      subst (λ p. p + n * length rest ≤ length after) moved next.0,
      ap (λ p. laid p (flat_map part rest) after) (sym moved) ∙ next.1,
      λ h. c.loop-place.invariant.2 (subst (AllByRecursion FitsItsBytes) (sym steps.0) (fits, h)),
    )

pub returns-clause-after : goal.returns-clause-after
returns-clause-after g c =
    let steps = c.in-None.ensures.steps in
    let out = c.loop-place.out in
    let at = c.args.at + g.row.N * c.loop-place.place-iterator.count in
    let here : at + 0 ≡ at = omega arith in
    let none : laid at [] out ≡ out = ap (λ k. take at out ++ drop k out) here ∙ take-append-drop at out in
    sym none ∙ ap (λ ts. laid at (flat_map g.P.Part.part ts) out) (sym steps.0.0) ∙ c.loop-place.invariant.1
