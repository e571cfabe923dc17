use Rattle.std.proofs.Common.{◌<◌, cond, eqb, length, get_or, refl, ap, arith}
use Rattle.chain_table.specs.Chains.{links_of, told_by, no_links, no_terms}
use Rattle.chain_table.specs.declared.chain.Row.{Row}
use Rattle.chain_table.proofs.Writes.{same_field, new_field, off_field}
use Rattle.chain_table.proofs.chain.Chain.refill.Goals as goal

pub returns : goal.returns
returns c =
    let t = c.args.self.now in
    let rows = t.rows.items in
    let at = c.args.at in
    let row = c.index_mut.result.now in
    let new : Row = record { order = c.args.order; links = row.links } in
    let within : at < length rows = omega (arith, t.rows.ok.0) in
    record {
      here = new_field told_by rows at new no_terms within;
      off = λ i n. off_field told_by rows at i new no_terms n;
      links = λ i. ap (λ l. cond (eqb i 256) t.ends (get_or l i no_links)) (same_field links_of rows at row new no_links within c.index_mut.ensures.value refl);
      len = refl;
      cap = refl;
    }
