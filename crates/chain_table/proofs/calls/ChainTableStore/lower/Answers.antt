use Rattle.std.proofs.Common.{◌≡◌, Some, sym, ap, ◌∙◌, subst}
use Rattle.orders.specs.Ranges.{with_quantity}
use Rattle.orders.specs.Told.{terms_of}
use Rattle.book.proofs.General.{given, withheld}
use Rattle.book.specs.Lists.{found, lowered}
use Rattle.chain_table.specs.Chains.{spot, terms_at, told_by}
use Rattle.chain_table.specs.Rows.{rows_of}
use Rattle.chain_table.specs.Steps.{Holds, Refilled}
use Rattle.chain_table.specs.Kept.{table_kept}
use Rattle.chain_table.proofs.Intact.{Holding, closed, list_is, kept}
use Rattle.chain_table.proofs.Tables.{none_at, seen_at, used_made, rewritten}
use Rattle.chain_table.proofs.Writes.{row_told}
use Rattle.chain_table.proofs.calls.ChainTableStore.lower.Goals as goal
use Rattle.chain_table.proofs.calls.ChainTableStore.lower.Goals.{After-index, After-refill}

pub returns-in_default : goal.returns-in_default
returns-in_default c =
    let t = c.args.self.now in
    let none = none_at t c.args.number c.in_default.ensures in
    record { value = rw none; after = rw none; kept = table_kept t }

pub index-requires : goal.index-requires
index-requires c =
    let h : Holds c.args.self.now c.args.number c.in-Some.at = record { is = c.in-Some.ensures } in
    used_made h

-- the row of the number, and the terms that were read there
at_row : (c : After-index) → Holds c.args.self.now c.args.number c.in-Some.at
at_row c = record { is = c.in-Some.ensures }

read : (c : After-index) → told_by c.index.result.now ≡ terms_at c.args.self.now.chain c.in-Some.at
read c = row_told c.args.self.now.chain c.in-Some.at c.index.result.now (used_made (at_row c)) c.index.ensures

finds : (c : After-index) → found c.args.number (rows_of c.args.self.now) ≡ Some (told_by c.index.result.now)
finds c = (seen_at (at_row c)).finds ∙ ap Some (sym (read c))

pub refill-requires : goal.refill-requires
refill-requires c = used_made (at_row (goal.at.refill-requires c).After-index)

written : (c : After-refill) →
    Holding c.refill.new.self c.args.self.now.count (spot c.args.self.now.free) c.args.self.now.capacity (lowered c.args.number c.args.quantity (rows_of c.args.self.now))
written c =
    let t = c.args.self.now in
    let i = (goal.at.invariant_of-self c).After-index in
    let new : terms_of c.in-Some-lowered.order ≡ with_quantity (terms_at t.chain c.in-Some.at) c.args.quantity = (given _ _ _ c.in-Some-lowered.ensures).1 ∙ ap (λ x. with_quantity x c.args.quantity) (read i) in
    rewritten (at_row i) (subst (λ x. Refilled t.chain c.refill.new.self c.in-Some.at x) new c.refill.ensures)

pub invariant_of-self : goal.invariant_of-self
invariant_of-self c = closed (written c)

pub returns : goal.returns
returns c =
    let some = finds (goal.at.returns c).After-index in
    let may = (given _ _ _ c.in-Some-lowered.ensures).0 in
    let w = written (goal.at.returns c).After-refill in
    record { value = rw (some, may); after = rw (some, may) (list_is w); kept = kept w c.args.self.now.capacity (λ i. c.args.self.now.capacity) }

pub returns-in_default-lowered : goal.returns-in_default-lowered
returns-in_default-lowered c =
    let some = finds (goal.at.returns-in_default-lowered c).After-index in
    let may = withheld _ _ c.in_default-lowered.ensures in
    record { value = rw (some, may); after = rw (some, may); kept = table_kept c.args.self.now }
