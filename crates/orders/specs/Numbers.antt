-- The number of each refusal.
use Rattle.std.specs.Prelude.{ℕ}
use Rattle.orders.specs.declared.refusal.Refusal.{Refusal}
use Rattle.orders.specs.declared.refusal.Refusal.TheVariants.{Identity, Quantity, Price, NumberHeld, NumberUnknown, OtherParticipant, SideOrKind, BookFull, LockedStockFull, RequestListFull, QuotePrices, QuoteVolumes, WrongPhase, Settings, Capacity, FillEntries, ReceiptEntries, Text, SavedLayout, SavedRecord, StoreUnfit, BufferShort}

abbrev pub number_of : Refusal → ℕ
number_of Identity = 1
number_of Quantity = 2
number_of Price = 3
number_of NumberHeld = 4
number_of NumberUnknown = 5
number_of OtherParticipant = 6
number_of SideOrKind = 7
number_of BookFull = 8
number_of LockedStockFull = 9
number_of RequestListFull = 10
number_of QuotePrices = 11
number_of QuoteVolumes = 12
number_of WrongPhase = 13
number_of Settings = 14
number_of Capacity = 15
number_of FillEntries = 16
number_of ReceiptEntries = 17
number_of Text = 18
number_of SavedLayout = 19
number_of SavedRecord = 20
number_of StoreUnfit = 21
number_of BufferShort = 22
