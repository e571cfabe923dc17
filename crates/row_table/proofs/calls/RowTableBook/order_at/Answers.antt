use Rattle.std.proofs.Common.{◌≡◌, ℕ, List, length, get_or, nat_lt, Option, Some, None, is_some, IfSome, option_map, option_copied, slice_get, sym, ap, ◌∙◌}
use Rattle.std.proofs.lemmas.Bool.{ltb-true, ltb-false}
use Rattle.std.proofs.lemmas.Option.{slice_get-map, slice_get-get_or, slice_get_past}
use denote.Ref.{Bor}
use Rattle.orders.specs.Told.{terms_of}
use Rattle.row_table.specs.Kept.{table_kept}
use Rattle.row_table.proofs.calls.RowTableBook.order_at.Goals as goal

-- a copy of what a list has at a place
copied : {X : Type 0} (r : Option (Bor X)) (xs : List X) (i : ℕ) → is_some r ≡ nat_lt i (length xs) → IfSome r (λ x. x.now ≡ get_or xs i x.now) → option_copied r ≡ slice_get xs i
copied None xs i t h = sym (slice_get_past xs i (ltb-false _ _ (sym t)))
copied (Some x) xs i t h = sym (slice_get-get_or xs i x.now (ltb-true _ _ (sym t)) ∙ ap Some (sym h))

pub returns : goal.returns
returns c =
    let t = c.args.self.now in
    let place = c.args.place in
    let read = c.copied.ensures ∙ copied _ _ place c.get.ensures.lookup.0 c.get.ensures.lookup.1 ∙ ap (λ xs. slice_get xs place) c.deref.ensures.value in
    record { value = ap (option_map terms_of) read ∙ sym (slice_get-map terms_of t.rows.items place); sound = (table_kept t).sound }
