-- The orders that a book over saved bytes means.
use Rattle.std.specs.Prelude.{List}
use Rattle.orders.specs.Told.{grid_of}
use Rattle.orders.specs.declared.terms.Terms.{Terms}
use Rattle.saved_book.specs.Calls.{orders_in}
use Rattle.saved_book.specs.declared.saved.SavedBook.{SavedBook}

abbrev pub orders_read : SavedBook → List Terms
orders_read b = orders_in (grid_of b.settings) b.layout.bytes.now
