use Rattle.std.proofs.Common.{rules, ◌==◌, ◌∙◌}
use Rattle.std.proofs.lemmas.Iterator.{YieldsList-from_slice}
use Rattle.std.proofs.lemmas.Iterator.Search.{position_from_yields_List}
use borrow.Author.Tests.{tests}
use Rattle.orders.specs.Told.{terms_of}
use Rattle.row_table.proofs.Places.{place_told}
use Rattle.row_table.proofs.table.RowTable.place_of.Goals as goal

pub returns : goal.returns
returns c =
    let rows = c.args.self.now.rows.items in
    position_from_yields_List (λ row. (terms_of row).number == c.args.number) _ _ c.position.result c.position.ensures.ran (YieldsList-from_slice rows (cc)) (λ x b q k. search (rules, tests))
    ∙ place_told c.args.number rows
