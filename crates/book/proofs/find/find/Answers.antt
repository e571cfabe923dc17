use Rattle.std.proofs.Common.{rules, ◌==◌}
use Rattle.std.proofs.lemmas.Iterator.Consumers.{YieldsList-from_first}
use Rattle.std.proofs.lemmas.Iterator.Search.{find_from_yields_List}
use borrow.Author.Tests.{tests}
use Rattle.orders.specs.Told.{terms_of}
use Rattle.book.proofs.find.find.Goals as goal

pub returns : goal.returns
returns g c =
    find_from_yields_List (λ t. t.number == c.args.number) _ _ c.find.result c.find.ensures.ran (YieldsList-from_first terms_of (λ left. left) _ c.orders_of.ensures.all) (λ x b q k. search (rules, tests))
