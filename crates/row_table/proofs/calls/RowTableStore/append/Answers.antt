use Rattle.std.proofs.Common.{◌≡◌, true, false, eqb, [], ◌∷◌, ◌++◌, map, length, vec_items, is_some, sym, ap, ◌∙◌, arith}
use Rattle.std.proofs.lemmas.List.{map_push}
use Rattle.std.proofs.lemmas.Bool.{eq-eqb, ne_eqb}
use Rattle.orders.specs.Told.{terms_of}
use Rattle.book.proofs.Laws.{distinct_push}
use Rattle.book.specs.Lists.{held, distinct}
use Rattle.row_table.specs.Rows.{rows_of, place_of}
use Rattle.row_table.specs.Kept.{rows_kept, table_kept}
use Rattle.row_table.proofs.Places.{held_if, rows_length}
use Rattle.row_table.proofs.calls.RowTableStore.append.Goals as goal
use Rattle.row_table.proofs.calls.RowTableStore.append.Goals.{After-is_some, After-push_reserved}

-- what the search for the number told
told : (c : After-is_some) → held (terms_of c.args.order).number (rows_of c.args.self.now) ≡ c.is_some.result
told c =
    let ts = rows_of c.args.self.now in
    held_if (terms_of c.args.order).number ts ∙ sym (c.is_some.ensures ∙ ap is_some c.place_of.ensures ∙ ap (λ t. is_some (place_of t.number ts)) c.terms.ensures)

pub returns-then-is_some : goal.returns-then-is_some
returns-then-is_some c =
    let h = told (goal.at.returns-then-is_some c).After-is_some ∙ c.if-is_some.true in
    record { value = rw h; after = rw h; kept = table_kept c.args.self.now }

pub returns-then-len-self : goal.returns-then-len-self
returns-then-len-self c =
    let t = c.args.self.now in
    let h = told (goal.at.returns-then-len-self c).After-is_some ∙ c.if-is_some.false in
    let full : eqb (length (rows_of t)) t.capacity ≡ true = eq-eqb _ _ (omega (arith, rows_length t.rows)) in
    record { value = rw (h, full); after = rw (h, full); kept = table_kept t }

-- the rows after the push
pushed : (c : After-push_reserved) → map terms_of (vec_items c.push_reserved.new.self) ≡ rows_of c.args.self.now ++ terms_of c.args.order ∷ []
pushed c = ap (map terms_of) c.push_reserved.ensures.items ∙ map_push terms_of (vec_items c.args.self.now.rows) c.args.order

apart : (c : After-push_reserved) → distinct (map terms_of (vec_items c.push_reserved.new.self)) ≡ true
apart c =
    let t = c.args.self.now in
    let h = told (goal.at.invariant_of-self-clause-apart c).After-is_some ∙ c.if-is_some.false in
    ap distinct (pushed c) ∙ distinct_push (rows_of t) (terms_of c.args.order) t.apart h

pub invariant_of-self-clause-apart : goal.invariant_of-self-clause-apart
invariant_of-self-clause-apart c = apart (goal.at.invariant_of-self-clause-apart c).After-push_reserved

pub returns : goal.returns
returns c =
    let t = c.args.self.now in
    let p = (goal.at.returns c).After-push_reserved in
    let h = told (goal.at.returns c).After-is_some ∙ c.if-is_some.false in
    let long = rows_length t.rows in
    let room : eqb (length (rows_of t)) t.capacity ≡ false = ne_eqb _ _ (omega arith) in
    record { value = rw (h, room); after = rw (h, room) (pushed p); kept = rows_kept (vec_items c.push_reserved.new.self) t.capacity t.most (omega (arith, c.push_reserved.new.self.ok.0)) (apart p) }
