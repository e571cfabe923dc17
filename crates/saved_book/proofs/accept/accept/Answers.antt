use Rattle.std.proofs.Common.{◌≡◌, Some, IfErr, Err, sym, subst, ap, ◌∙◌, arith}
use Rattle.std.proofs.lemmas.Result.{err_from_is_err_and}
use Rattle.orders.specs.Told.{grid_of}
use Rattle.saved_book.specs.Calls.{NamedFault}
use Rattle.saved_book.specs.Decoding.{decode}
use Rattle.saved_book.specs.Steps.{head_count}
use Rattle.saved_book.proofs.Faulting.{named_fault}
use Rattle.saved_book.proofs.Opening.{checked, faulted}
use Rattle.saved_book.proofs.Saving.{saves_back}
use Rattle.saved_book.proofs.accept.accept.Goals as goal
use Rattle.saved_book.proofs.accept.accept.Goals.{In_ok-layout}

-- the layout is that of the bytes
same : (c : In_ok-layout) → c.in_ok-layout.layout.bytes.now ≡ c.args.bytes.now
same c = rw c.in_ok-layout.ensures.ok_part at c.of.ensures.same

head : (c : In_ok-layout) → Some c.in_ok-layout.layout.count ≡ head_count c.in_ok-layout.layout.bytes.now
head c = (rw c.in_ok-layout.ensures.ok_part at c.of.ensures.count) ∙ ap head_count (sym (same c))

pub returns-in_err-check_records : goal.returns-in_err-check_records
returns-in_err-check_records c =
    let o = (goal.at.returns-in_err-check_records c).In_ok-layout in
    let g = grid_of c.args.settings in
    let bs = c.args.bytes.now in
    let p = err_from_is_err_and c.from_residual-in_err-check_records.result c.from_residual-in_err-check_records.ensures.1 in
    let f = c.in_err-check_records.field-0.0 in
    let value : Err f ≡ decode g bs = faulted g c.in_ok-layout.layout.bytes.now c.in_ok-layout.layout.count (head o) f c.in_err-check_records.ensures ∙ ap (decode g) (same o) in
    rw (p.1 ∙ ap Err p.2) (record {
      value = value;
      fault = subst (λ a. IfErr a (NamedFault bs)) (sym value) (named_fault g bs);
      saves_back = saves_back g bs (λ i. omega (arith, c.type_inv.bytes i));
    })

pub invariant_of-result : goal.invariant_of-result
invariant_of-result c =
    let o = (goal.at.invariant_of-result c).In_ok-layout in
    record { counted = (checked (grid_of c.args.settings) c.in_ok-layout.layout.bytes.now c.in_ok-layout.layout.count (head o) c.in_ok-check_records.field-0 c.in_ok-check_records.ensures).1 }

pub returns : goal.returns
returns c =
    let o = (goal.at.returns c).In_ok-layout in
    let g = grid_of c.args.settings in
    let bs = c.args.bytes.now in
    record {
      value = (checked g c.in_ok-layout.layout.bytes.now c.in_ok-layout.layout.count (head o) c.in_ok-check_records.field-0 c.in_ok-check_records.ensures).0 ∙ ap (decode g) (same o);
      fault = tt;
      saves_back = saves_back g bs (λ i. omega (arith, c.type_inv.bytes i));
    }
