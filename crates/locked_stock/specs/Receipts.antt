-- Held instructions carried out in the sequence of entry, each with a receipt.
use Rattle.std.specs.Prelude.{◌≡◌, ℕ, ◌+◌, cond, List, [], ◌∷◌, ◌++◌, length, drop, Some, None, sum_by, Option, Result, ◌==◌, nat_lt}
use Rattle.orders.specs.Answers.{answered, left}
use Rattle.orders.specs.declared.instruction.Instruction.{Instruction}
use Rattle.orders.specs.declared.order.Order.{Order}
use Rattle.orders.specs.declared.refusal.Refusal.{Refusal}
use Rattle.orders.specs.declared.refusal.Refusal.TheVariants.{ReceiptEntries}
use Rattle.orders.specs.declared.terms.Terms.{Terms}
use Rattle.waiting_line.specs.Lines.{room_of}
use Rattle.waiting_line.specs.declared.line.WaitingLine.{WaitingLine}
use Rattle.instructions.specs.Conservation.{about, added_by, taken_off_by}
use Rattle.book.specs.Figures.{open_of}
use Rattle.instructions.specs.Effects.{carried_answer, carried_book}
use Rattle.locked_stock.specs.Holding.{held_in}
use Rattle.locked_stock.specs.declared.receipt.Receipt.{Receipt}

-- the receipts of instructions that are carried out one after the other
abbrev pub receipts_of : ℕ → List (Instruction Terms) → List Terms → List Receipt
receipts_of room [] ts = []
receipts_of room (i ∷ is) ts = record { number = about i; answer = carried_answer room i ts } ∷ receipts_of room is (carried_book room i ts)

-- the book after them
abbrev pub book_after : ℕ → List (Instruction Terms) → List Terms → List Terms
book_after room [] ts = ts
book_after room (i ∷ is) ts = book_after room is (carried_book room i ts)

-- why n receipt entries are too few: the stock may hold more
abbrev pub entries_fault : ℕ → ℕ → Option Refusal
entries_fault n stock = cond (nat_lt n stock) (Some ReceiptEntries) None

-- the shares that the receipts of a number add, and those that they take off
abbrev pub receipts_add : ℕ → List Receipt → ℕ
receipts_add n rs = sum_by (λ r. cond (r.number == n) (added_by r.answer) 0) rs

abbrev pub receipts_take_off : ℕ → List Receipt → ℕ
receipts_take_off n rs = sum_by (λ r. cond (r.number == n) (taken_off_by r.answer) 0) rs

-- of each number, open before and added are open after and taken off
abbrev pub ReceiptsBalance : List Receipt → List Terms → List Terms → Type 0
ReceiptsBalance rs before after = (n : ℕ) → open_of n before + receipts_add n rs ≡ open_of n after + receipts_take_off n rs

-- what carrying out all that waits does to the receipt entries: the receipts stand in front, and no entry behind them changes
abbrev pub entries_after : ℕ → List (Instruction Terms) → List Terms → List Receipt → List Receipt
entries_after room is ts entries = receipts_of room is ts ++ drop (length is) entries

-- everything that waits is carried out with a receipt each; with too few entries nothing is
pub record Released (room : ℕ) (l : WaitingLine (Instruction Order)) (ts : List Terms) (entries : List Receipt) (answer : Result ℕ Refusal) (room_after : ℕ) (l_after : WaitingLine (Instruction Order)) (ts_after : List Terms) (entries_left : List Receipt) : Type 0 where
  pub value : answer ≡ answered (entries_fault (length entries) (room_of l.slots.now)) (length (held_in l))
  pub book : ts_after ≡ left (entries_fault (length entries) (room_of l.slots.now)) ts (book_after room (held_in l) ts)
  pub receipts : entries_left ≡ left (entries_fault (length entries) (room_of l.slots.now)) entries (entries_after room (held_in l) ts entries)
  pub held : held_in l_after ≡ left (entries_fault (length entries) (room_of l.slots.now)) (held_in l) []
  pub slots : l_after.slots.now ≡ l.slots.now
  pub lent : l_after.slots.ghost_name ≡ l.slots.ghost_name
  pub same : room_after ≡ room
  pub balance : ReceiptsBalance (receipts_of room (held_in l) ts) ts (book_after room (held_in l) ts)
