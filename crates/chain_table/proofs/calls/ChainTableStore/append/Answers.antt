use Rattle.std.proofs.Common.{◌≡◌, true, false, eqb, [], ◌∷◌, ◌++◌, length, is_some, sym, ap, subst, ◌∙◌, arith}
use Rattle.std.proofs.lemmas.Bool.{eq-eqb, ne_eqb}
use Rattle.orders.specs.Told.{terms_of}
use Rattle.book.specs.Calls.{Kept}
use Rattle.book.specs.Lists.{held}
use Rattle.chain_table.specs.Chains.{terms_at}
use Rattle.chain_table.specs.Rows.{rows_of}
use Rattle.chain_table.specs.Steps.{path_of, row_holding}
use Rattle.chain_table.specs.Kept.{table_kept}
use Rattle.chain_table.proofs.Intact.{rows_length}
use Rattle.chain_table.proofs.Seeks.{held_sought}
use Rattle.chain_table.proofs.calls.ChainTableStore.append.Goals as goal
use Rattle.chain_table.proofs.calls.ChainTableStore.append.Goals.{After-is_some}

-- what the test for the number told
told : (c : After-is_some) → held (terms_of c.args.order).number (rows_of c.args.self.now) ≡ c.is_some.result
told c =
    let t = c.args.self.now in
    held_sought (terms_of c.args.order).number (terms_at t.chain) (path_of t)
    ∙ sym (c.is_some.ensures ∙ ap is_some c.row_of.ensures ∙ ap (λ x. is_some (row_holding x.number t)) c.terms.ensures)

pub returns-then-is_some : goal.returns-then-is_some
returns-then-is_some c =
    let h = told (goal.at.returns-then-is_some c).After-is_some ∙ c.if-is_some.true in
    record { value = rw h; after = rw h; kept = table_kept c.args.self.now }

pub returns-then-self : goal.returns-then-self
returns-then-self c =
    let t = c.args.self.now in
    let h = told (goal.at.returns-then-self c).After-is_some ∙ c.if-is_some.false in
    let full : eqb (length (rows_of t)) t.capacity ≡ true = eq-eqb _ _ (omega (arith, rows_length t)) in
    record { value = rw (h, full); after = rw (h, full); kept = table_kept t }

pub use_free_row-requires-clause-apart : goal.use_free_row-requires-clause-apart
use_free_row-requires-clause-apart c =
    ap (held (terms_of c.args.order).number) c.ensure_free_row.ensures.list ∙ told (goal.at.use_free_row-requires-clause-apart c).After-is_some ∙ c.if-is_some.false

pub returns : goal.returns
returns c =
    let t = c.args.self.now in
    let f = c.ensure_free_row.ensures in
    let u = c.use_free_row.new.self in
    let h = told (goal.at.returns c).After-is_some ∙ c.if-is_some.false in
    let room : eqb (length (rows_of t)) t.capacity ≡ false = ne_eqb _ _ (omega (arith, rows_length t)) in
    let last = c.use_free_row.ensures.list ∙ ap (λ ts. ts ++ terms_of c.args.order ∷ []) f.list in
    record { value = rw (h, room); after = rw (h, room) last; kept = subst (λ room. Kept room u.capacity (rows_of u)) (c.use_free_row.ensures.same ∙ f.same) (table_kept u) }
