use Rattle.std.proofs.Common.{is_ok, sym, ap, ◌∙◌, add-one}
use Rattle.orders.specs.Results.{seen}
use Rattle.orders.specs.Told.{grid_of}
use Rattle.saved_book.specs.Decoding.{orders_upto}
use Rattle.saved_book.proofs.Upto.{checked_err, checked_ok, stays_to}
use Rattle.saved_book.proofs.accept.check_records.Goals as goal

pub returns-in-Err : goal.returns-in-Err
returns-in-Err c =
    let g = grid_of c.args.settings in
    let bs = c.args.layout.now.bytes.now in
    let n = c.args.layout.now.count in
    let k = c.loop-place.place in
    sym (ap (seen (λ _. tt)) (stays_to g bs n k _ c.loop-place-test.true (checked_err g bs n k c.in-Err.fault c.loop-place.invariant c.in-Err.ensures)))

pub loop-place-preserved : goal.loop-place-preserved
loop-place-preserved c =
    let g = grid_of c.args.settings in
    let bs = c.args.layout.now.bytes.now in
    let n = c.args.layout.now.count in
    let k = c.loop-place.place in
    ap (λ m. is_ok (orders_upto g bs n m)) (add-one k)
    ∙ checked_ok g bs n k c.in_default.field-0 c.loop-place.invariant c.in_default.ensures
