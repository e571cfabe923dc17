-- What the lines of the tool say, as bytes.
use Rattle.std.specs.Prelude.{ℕ, List, ◌++◌, Some, None, codes, decimal, Option}
use Rattle.std.specs.Fmt.{signed_decimal}
use Rattle.saved_book.specs.Texts.{refusal_text, fault_text}
use Rattle.show_book.specs.declared.line.Line.{Line}
use Rattle.show_book.specs.declared.line.Line.TheVariants as line

-- what a line says; of the columns of an order only the eye can judge
abbrev pub line_text : Line → Option (List ℕ)
line_text line.Usage = Some (codes "use: show-book LOT TICK-CLASS BID ASK BID-VOLUME ASK-VOLUME < SAVED-BOOK")
line_text line.Heading = Some (codes "    number  participant  side  kind         quantity       limit        stop")
line_text (line.Order t) = None
line_text (line.Open f) = Some (codes "open: " ++ (decimal f.orders ++ (codes " orders, " ++ (decimal f.shares ++ codes " shares"))))
line_text (line.Price p n) = Some (codes "price: " ++ (decimal p ++ (codes ", for " ++ (decimal n ++ codes " shares"))))
line_text (line.Surplus s) = Some (codes "surplus: " ++ signed_decimal s)
line_text (line.Stops n) = Some (codes "stops triggered: " ++ decimal n)
line_text line.NoTrade = Some (codes "price: none, no share would trade")
line_text line.NoQuote = Some (codes "price: none, the quote is refused")
line_text (line.Refused r) = Some (refusal_text r)
line_text (line.Fault f) = Some (fault_text f)
