use Rattle.std.proofs.Common.{◌≡◌, ◌<◌, Some, false, cond, eqb, length, get_or, refl, sym, ap, ◌∙◌, arith}
use Rattle.std.proofs.lemmas.Bool.{ne_eqb}
use Rattle.chain_table.specs.Chains.{links_of, told_by, no_links, no_terms}
use Rattle.chain_table.specs.declared.chain.Row.{Row}
use Rattle.chain_table.proofs.Spots.{told_row}
use Rattle.chain_table.proofs.Writes.{same_field, new_field, off_field}
use Rattle.chain_table.proofs.chain.Chain.relink.Goals as goal

pub returns-in-Some : goal.returns-in-Some
returns-in-Some c =
    let t = c.args.self.now in
    let rows = t.rows.items in
    let at = c.from.result in
    let row = c.index_mut.result.now in
    let new : Row = record { order = row.order; links = c.args.links } in
    let here = told_row c.args.at at _ (c.in-Some.is ∙ ap Some (sym c.from.ensures)) c.requires in
    let within : at < length rows = omega (arith, t.rows.ok.0, here.1) in
    let other : eqb at 256 ≡ false = ne_eqb _ _ (λ k. omega (arith, here.2)) in
    record {
      here = rw here.0 (rw other (new_field links_of rows at new no_links within));
      off = λ i n. ap (λ z. cond (eqb i 256) t.ends z) (off_field links_of rows at i new no_links (λ k. n (k ∙ sym here.0)));
      same = record {
        told = λ i. ap (λ l. get_or l i no_terms) (same_field told_by rows at row new no_terms within c.index_mut.ensures.value refl);
        len = refl;
        cap = refl;
      };
    }
