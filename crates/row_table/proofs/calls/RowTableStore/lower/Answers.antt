use Rattle.std.proofs.Common.{◌≡◌, true, map, set, vec_items, sym, ap, ◌∙◌, arith, length-set}
use Rattle.orders.specs.Ranges.{with_quantity}
use Rattle.orders.specs.Told.{terms_of}
use Rattle.orders.specs.declared.order.Order.{Order}
use Rattle.book.proofs.General.{given, withheld}
use Rattle.book.proofs.Laws.{distinct_lowered}
use Rattle.book.specs.Lists.{lowered, distinct}
use Rattle.row_table.specs.Rows.{rows_of}
use Rattle.row_table.specs.Kept.{rows_kept, table_kept}
use Rattle.row_table.proofs.Places.{Found, row_placed, row_found, row_lowered, none_found}
use Rattle.row_table.proofs.calls.RowTableStore.lower.Goals as goal
use Rattle.row_table.proofs.calls.RowTableStore.lower.Goals.{After-index}

at_place : (c : After-index) → Found c.args.number (vec_items c.args.self.now.rows) c.in-Some.place c.index.result.now
at_place c = row_placed c.in-Some.ensures c.index.ensures

pub returns-in_default : goal.returns-in_default
returns-in_default c =
    let t = c.args.self.now in
    let none = sym (none_found c.args.number (rows_of t) c.in_default.ensures) in
    record { value = rw none; after = rw none; kept = table_kept t }

-- the rows after the write
written : (i : After-index) (p : Order) → terms_of p ≡ with_quantity (terms_of i.index.result.now) i.args.quantity →
    map terms_of (set (vec_items i.args.self.now.rows) i.in-Some.place p) ≡ lowered i.args.number i.args.quantity (rows_of i.args.self.now)
written i p e = row_lowered i.args.quantity p (at_place i) e

apart : (i : After-index) (p : Order) → terms_of p ≡ with_quantity (terms_of i.index.result.now) i.args.quantity →
    distinct (map terms_of (set (vec_items i.args.self.now.rows) i.in-Some.place p)) ≡ true
apart i p e =
    let t = i.args.self.now in
    ap distinct (written i p e) ∙ distinct_lowered i.args.number i.args.quantity (rows_of t) ∙ t.apart

pub invariant_of-self-clause-apart : goal.invariant_of-self-clause-apart
invariant_of-self-clause-apart c =
    apart (goal.at.invariant_of-self-clause-apart c).After-index c.in-Some-lowered.order (given _ _ _ c.in-Some-lowered.ensures).1

pub returns : goal.returns
returns c =
    let t = c.args.self.now in
    let i = (goal.at.returns c).After-index in
    let some = sym (row_found (at_place i)) in
    let g = given _ _ _ c.in-Some-lowered.ensures in
    let may = g.0 in
    record {
      value = rw (some, may);
      after = rw (some, may) (written i c.in-Some-lowered.order g.1);
      kept = rows_kept (set (vec_items t.rows) c.in-Some.place c.in-Some-lowered.order) t.capacity t.most (simp length-set (omega (arith, t.within, t.rows.ok.0))) (apart i c.in-Some-lowered.order g.1);
    }

pub returns-in_default-lowered : goal.returns-in_default-lowered
returns-in_default-lowered c =
    let some = sym (row_found (at_place (goal.at.returns-in_default-lowered c).After-index)) in
    let may = withheld _ _ c.in_default-lowered.ensures in
    record { value = rw (some, may); after = rw (some, may); kept = table_kept c.args.self.now }
