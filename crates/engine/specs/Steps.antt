-- What the steps of the code give.
use Rattle.std.specs.Prelude.{◌≡◌, ℕ, List, [], length, None, Ok, Result}
use Rattle.orders.specs.declared.instruction.Instruction.{Instruction}
use Rattle.orders.specs.declared.order.Order.{Order}
use Rattle.orders.specs.declared.refusal.Refusal.{Refusal}
use Rattle.orders.specs.declared.terms.Terms.{Terms}
use Rattle.pricing.specs.declared.quote.Quote.{Quote}
use Rattle.settling.specs.declared.fill.Fill.{Fill}
use Rattle.pairing.specs.Answers.{fill_fault, in_front}
use Rattle.auction.specs.Auctions.{auction_under}
use Rattle.auction.specs.Laws.{LawfulAuction}
use Rattle.waiting_line.specs.Lines.{room_of}
use Rattle.waiting_line.specs.declared.line.WaitingLine.{WaitingLine}
use Rattle.locked_stock.specs.Holding.{held_in}
use Rattle.locked_stock.specs.Receipts.{book_after, entries_after, entries_fault}
use Rattle.locked_stock.specs.declared.receipt.Receipt.{Receipt}
use Rattle.engine.specs.Freezes.{matched_as}
use Rattle.engine.specs.declared.matched.Matched.{Matched}

-- the auction and what was held, where there are entries enough
pub record MatchDone (tick : ℕ) (q : Quote) (room : ℕ) (l : WaitingLine (Instruction Order)) (ts : List Terms) (fills : List Fill) (receipts : List Receipt) (answer : Result Matched Refusal) (room_after : ℕ) (l_after : WaitingLine (Instruction Order)) (ts_after : List Terms) (fills_after : List Fill) (receipts_after : List Receipt) : Type 0 where
  pub value : answer ≡ Ok (matched_as (auction_under tick q ts).found (length (auction_under tick q ts).fills) (length (held_in l)))
  pub book : ts_after ≡ book_after room (held_in l) (auction_under tick q ts).book
  pub filled : fills_after ≡ in_front (auction_under tick q ts).fills fills
  pub receipted : receipts_after ≡ entries_after room (held_in l) (auction_under tick q ts).book receipts
  pub held : held_in l_after ≡ []
  pub slots : l_after.slots.now ≡ l.slots.now
  pub lent : l_after.slots.ghost_name ≡ l.slots.ghost_name
  pub same : room_after ≡ room
  pub lawful : LawfulAuction q ts (auction_under tick q ts)

abbrev pub MatchRun : ℕ → Quote → ℕ → WaitingLine (Instruction Order) → List Terms → List Fill → List Receipt → Result Matched Refusal → ℕ → WaitingLine (Instruction Order) → List Terms → List Fill → List Receipt → Type 0
MatchRun tick q room l ts fills receipts answer room_after l_after ts_after fills_after receipts_after =
    fill_fault ts fills ≡ None → entries_fault (length receipts) (room_of l.slots.now) ≡ None → MatchDone tick q room l ts fills receipts answer room_after l_after ts_after fills_after receipts_after
