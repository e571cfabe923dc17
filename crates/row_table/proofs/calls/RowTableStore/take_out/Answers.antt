use Rattle.std.proofs.Common.{◌≡◌, true, map, vec_items, option_map, ap, ◌∙◌, arith}
use Rattle.orders.specs.Told.{terms_of}
use Rattle.book.proofs.Laws.{distinct_without}
use Rattle.book.specs.Lists.{without, distinct}
use Rattle.row_table.specs.Rows.{rows_of}
use Rattle.row_table.specs.Kept.{rows_kept, table_kept}
use Rattle.row_table.proofs.Places.{Found, row_placed, row_found, row_removed, none_found, none_removed}
use Rattle.row_table.proofs.calls.RowTableStore.take_out.Goals as goal
use Rattle.row_table.proofs.calls.RowTableStore.take_out.Goals.{After-remove}

pub returns-in_err-place : goal.returns-in_err-place
returns-in_err-place c =
    let t = c.args.self.now in
    let none = c.in_err-place.ensures in
    record { value = ap (option_map terms_of) c.from_residual.ensures ∙ none_found c.args.number (rows_of t) none; after = none_removed c.args.number (rows_of t) none; kept = table_kept t }

at_place : (c : After-remove) → Found c.args.number (vec_items c.args.self.now.rows) c.in_ok-place.place c.remove.result
at_place c = row_placed c.in_ok-place.ensures c.remove.ensures.value

left : (c : After-remove) → map terms_of (vec_items c.remove.new.self) ≡ without c.args.number (rows_of c.args.self.now)
left c = ap (map terms_of) c.remove.ensures.items ∙ row_removed (at_place c)

apart : (c : After-remove) → distinct (map terms_of (vec_items c.remove.new.self)) ≡ true
apart c =
    let t = c.args.self.now in
    ap distinct (left c) ∙ distinct_without c.args.number (rows_of t) t.apart

pub invariant_of-self-clause-apart : goal.invariant_of-self-clause-apart
invariant_of-self-clause-apart c = apart (goal.at.invariant_of-self-clause-apart c).After-remove

pub returns : goal.returns
returns c =
    let t = c.args.self.now in
    let r = (goal.at.returns c).After-remove in
    record {
      value = row_found (at_place r);
      after = left r;
      kept = rows_kept (vec_items c.remove.new.self) t.capacity t.most (omega (arith, c.remove.new.self.ok.0)) (apart r);
    }
