-- The refusals in words, as bytes.
use Rattle.std.specs.Prelude.{ℕ, List, codes}
use Rattle.orders.specs.declared.refusal.Refusal.{Refusal}
use Rattle.orders.specs.declared.refusal.Refusal.TheVariants.{Identity, Quantity, Price, NumberHeld, NumberUnknown, OtherParticipant, SideOrKind, BookFull, LockedStockFull, RequestListFull, QuotePrices, QuoteVolumes, WrongPhase, Settings, Capacity, FillEntries, ReceiptEntries, Text, SavedLayout, SavedRecord, StoreUnfit, BufferShort}

-- a refusal in words
abbrev pub words_of : Refusal → List ℕ
words_of Identity = codes "the order number or the participant is 0"
words_of Quantity = codes "the quantity is 0, above 1000000 or off the lot"
words_of Price = codes "a limit or stop limit is out of range, off the tick, missing or not of the kind"
words_of NumberHeld = codes "the number is held already"
words_of NumberUnknown = codes "the number is unknown"
words_of OtherParticipant = codes "the order is another participant's"
words_of SideOrKind = codes "the side or the kind differs"
words_of BookFull = codes "the book is full"
words_of LockedStockFull = codes "the locked stock is full"
words_of RequestListFull = codes "the request list is full"
words_of QuotePrices = codes "the prices of the quote"
words_of QuoteVolumes = codes "the volumes of the quote"
words_of WrongPhase = codes "the line does not belong to the phase"
words_of Settings = codes "the lot or the tick class is out of range"
words_of Capacity = codes "no store or line has this capacity"
words_of FillEntries = codes "fewer fill entries than orders"
words_of ReceiptEntries = codes "fewer receipt entries than places in the locked stock"
words_of Text = codes "the text of the line"
words_of SavedLayout = codes "the count, the record size or the length of the saved book"
words_of SavedRecord = codes "a record of the saved book"
words_of StoreUnfit = codes "the store is not empty or too small"
words_of BufferShort = codes "the buffer is too short"
