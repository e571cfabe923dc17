-- What the steps of the code give.
use Rattle.std.specs.Prelude.{◌≡◌, ℕ, List, [], length}
use Rattle.orders.specs.declared.instruction.Instruction.{Instruction}
use Rattle.orders.specs.declared.order.Order.{Order}
use Rattle.orders.specs.declared.terms.Terms.{Terms}
use Rattle.waiting_line.specs.declared.line.WaitingLine.{WaitingLine}
use Rattle.locked_stock.specs.Holding.{held_in}
use Rattle.locked_stock.specs.Receipts.{book_after, entries_after}
use Rattle.locked_stock.specs.declared.receipt.Receipt.{Receipt}

-- everything that waits is carried out
pub record Emptied (room : ℕ) (l : WaitingLine (Instruction Order)) (ts : List Terms) (entries : List Receipt) (count room_after : ℕ) (l_after : WaitingLine (Instruction Order)) (ts_after : List Terms) (entries_left : List Receipt) : Type 0 where
  pub value : count ≡ length (held_in l)
  pub book : ts_after ≡ book_after room (held_in l) ts
  pub receipts : entries_left ≡ entries_after room (held_in l) ts entries
  pub held : held_in l_after ≡ []
  pub slots : l_after.slots.now ≡ l.slots.now
  pub lent : l_after.slots.ghost_name ≡ l.slots.ghost_name
  pub same : room_after ≡ room
