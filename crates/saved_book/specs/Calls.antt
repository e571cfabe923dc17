-- What saving, accepting and loading give.
use Rattle.std.specs.Prelude.{◌≡◌, ℕ, ◌<◌, ◌≤◌, Bool, true, cond, ◌&&◌, List, [], ◌++◌, length, drop, IfOk, IfErr, Ok, Err, Result, ◌==◌, nat_le}
use Rattle.std.specs.List.{AllByRecursion}
use Rattle.orders.specs.Checks.{on_lot, on_tick}
use Rattle.orders.specs.Ticks.{Grid}
use Rattle.orders.specs.declared.refusal.Refusal.{Refusal}
use Rattle.orders.specs.declared.refusal.Refusal.TheVariants.{BufferShort}
use Rattle.orders.specs.declared.terms.Kind.{Kind}
use Rattle.orders.specs.declared.terms.Kind.TheVariants.{Market, Limit, StopMarket, StopLimit}
use Rattle.orders.specs.declared.terms.Terms.{Terms}
use Rattle.saved_book.specs.Decoding.{four_at, decode}
use Rattle.saved_book.specs.Encoding.{encode}
use Rattle.saved_book.specs.Faults.{fault_number}
use Rattle.saved_book.specs.declared.fault.LoadFault.{LoadFault}
use Rattle.saved_book.specs.declared.fault.LoadFault.TheVariants.{Saved, StoreUnfit}
use Rattle.saved_book.specs.declared.fault.SavedFault.{SavedFault}
use Rattle.saved_book.specs.declared.fault.SavedFault.TheVariants.{Layout, Record}

-- each price of a kind is on the tick
abbrev pub prices_on_tick : Grid → Kind → Bool
prices_on_tick g Market = true
prices_on_tick g (Limit l) = on_tick g l
prices_on_tick g (StopMarket s) = on_tick g s
prices_on_tick g (StopLimit l s) = on_tick g l && on_tick g s

-- an order on the lot and the tick
abbrev pub on_grid : Grid → Terms → Bool
on_grid g t = on_lot g t.quantity && prices_on_tick g t.kind

-- loading what was saved: bytes of a book on a grid mean that book
abbrev pub LoadsBack : List Terms → Type 0
LoadsBack ts = (g : Grid) → AllByRecursion (λ t. on_grid g t ≡ true) ts → decode g (encode ts) ≡ Ok ts

-- saving what was loaded: the orders that bytes mean are saved as these bytes
abbrev pub SavesBack : Grid → List ℕ → Type 0
SavesBack g bs = (ts : List Terms) → decode g bs ≡ Ok ts → encode ts ≡ bs

-- the buffer has room for the saved book
abbrev pub has_room : List Terms → List ℕ → Bool
has_room ts out = nat_le (length (encode ts)) (length out)

-- how many bytes a saved book takes, or the refusal of a buffer too short
abbrev pub save_answer : List Terms → List ℕ → Result ℕ Refusal
save_answer ts out = cond (has_room ts out) (Ok (length (encode ts))) (Err BufferShort)

-- the buffer after a save: what lies behind the saved book is as it was
abbrev pub after_save : List Terms → List ℕ → List ℕ
after_save ts out = cond (has_room ts out) (encode ts ++ drop (length (encode ts)) out) out

-- a book saved into a buffer: the answer, and the buffer after it
pub record Save (ts : List Terms) (out : List ℕ) (answer : Result ℕ Refusal) (out_after : List ℕ) : Type 0 where
  pub value : answer ≡ save_answer ts out
  pub after : out_after ≡ after_save ts out
  pub loads_back : IfOk answer (λ _. LoadsBack ts)

-- the orders that bytes mean; none where they have a fault
abbrev pub orders_of : Result (List Terms) SavedFault → List Terms
orders_of (Ok ts) = ts
orders_of (Err f) = []

abbrev pub orders_in : Grid → List ℕ → List Terms
orders_in g bs = orders_of (decode g bs)

-- a fault names one of the records that the head counts, and is numbered from 0 to 4
abbrev pub NamedFault : List ℕ → SavedFault → Type 0
NamedFault bs Layout = Unit {0}
NamedFault bs (Record k f) = (k < four_at bs 0) × (fault_number f ≤ 4)

-- bytes accepted as a book: the orders that it means, or the first fault
pub record Accept (g : Grid) (bs : List ℕ) (answer : Result (List Terms) SavedFault) : Type 0 where
  pub value : answer ≡ decode g bs
  pub fault : IfErr answer (NamedFault bs)
  pub saves_back : SavesBack g bs

-- a store of a capacity and a list takes n orders if it is empty and has the room
abbrev pub takes_up : ℕ → List Terms → ℕ → Bool
takes_up room ts n = length ts == 0 && nat_le n room

-- the answer to a load of what was decoded into a store of a capacity and a list
abbrev pub load_answer : Result (List Terms) SavedFault → ℕ → List Terms → Result (Unit {0}) LoadFault
load_answer (Err f) room ts = Err (Saved f)
load_answer (Ok us) room ts = cond (takes_up room ts (length us)) (Ok tt) (Err StoreUnfit)

-- the list of the store after it
abbrev pub after_load : Result (List Terms) SavedFault → ℕ → List Terms → List Terms
after_load (Err f) room ts = ts
after_load (Ok us) room ts = cond (takes_up room ts (length us)) us ts

-- bytes loaded into a store: the answer, and the capacity and the list after it
pub record Load (g : Grid) (bs : List ℕ) (room : ℕ) (ts : List Terms) (answer : Result (Unit {0}) LoadFault) (room_after : ℕ) (ts_after : List Terms) : Type 0 where
  pub value : answer ≡ load_answer (decode g bs) room ts
  pub after : ts_after ≡ after_load (decode g bs) room ts
  pub same : room_after ≡ room
  pub saves_back : SavesBack g bs
