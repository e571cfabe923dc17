use Rattle.std.proofs.Common.{Some, option_map, sym, ap, ◌∙◌, subst}
use Rattle.orders.specs.Told.{terms_of}
use Rattle.book.proofs.Laws.{without_none, not_held}
use Rattle.book.specs.Calls.{Kept}
use Rattle.book.specs.Lists.{without}
use Rattle.chain_table.specs.Rows.{rows_of}
use Rattle.chain_table.specs.Steps.{Holds}
use Rattle.chain_table.specs.Kept.{table_kept}
use Rattle.chain_table.proofs.Tables.{none_at, seen_at, used_made}
use Rattle.chain_table.proofs.Writes.{row_told}
use Rattle.chain_table.proofs.calls.ChainTableStore.take_out.Goals as goal
use Rattle.chain_table.proofs.calls.ChainTableStore.take_out.Goals.{In_ok-at}

pub returns-in_err-at : goal.returns-in_err-at
returns-in_err-at c =
    let t = c.args.self.now in
    let n = c.args.number in
    let none = none_at t n c.in_err-at.ensures in
    record { value = ap (option_map terms_of) c.from_residual.ensures ∙ sym none; after = sym (without_none n (rows_of t) (not_held n (rows_of t) none)); kept = table_kept t }

at_row : (c : In_ok-at) → Holds c.args.self.now c.args.number c.in_ok-at.at
at_row c = record { is = c.in_ok-at.ensures }

pub index-requires : goal.index-requires
index-requires c = used_made (at_row (goal.at.index-requires c).In_ok-at)

pub release-requires : goal.release-requires
release-requires c =
    let h = at_row (goal.at.release-requires c).In_ok-at in
    subst (λ n. Holds c.args.self.now n c.in_ok-at.at) (sym (seen_at h).named) h

pub returns : goal.returns
returns c =
    let t = c.args.self.now in
    let h = at_row (goal.at.returns c).In_ok-at in
    record {
      value = sym ((seen_at h).finds ∙ ap Some (sym (row_told t.chain c.in_ok-at.at c.index.result.now (used_made h) c.index.ensures)));
      after = c.release.ensures.list ∙ ap (λ n. without n (rows_of t)) (seen_at h).named;
      kept = subst (λ room. Kept room c.release.new.self.capacity (rows_of c.release.new.self)) c.release.ensures.same (table_kept c.release.new.self);
    }
