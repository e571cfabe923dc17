-- What a match and a lift give.
use Rattle.std.specs.Prelude.{◌≡◌, ℕ, List, [], length, None, Option, Result, MatchResult}
use Rattle.std.specs.Result.{result_map_both}
use Rattle.orders.specs.Answers.{answered, left}
use Rattle.orders.specs.Ticks.{Grid}
use Rattle.orders.specs.Told.{grid_of}
use Rattle.orders.specs.declared.instruction.Instruction.{Instruction}
use Rattle.orders.specs.declared.order.Order.{Order}
use Rattle.orders.specs.declared.refusal.Refusal.{Refusal}
use Rattle.orders.specs.declared.terms.Terms.{Terms}
use Rattle.pricing.specs.declared.quote.Quote.{Quote}
use Rattle.settling.specs.declared.fill.Fill.{Fill}
use Rattle.pairing.specs.Answers.{in_front}
use Rattle.auction.specs.Auctions.{auction_under}
use Rattle.auction.specs.Laws.{LawfulAuction}
use Rattle.waiting_line.specs.Lines.{room_of}
use Rattle.waiting_line.specs.declared.line.WaitingLine.{WaitingLine}
use Rattle.locked_stock.specs.Holding.{held_in}
use Rattle.locked_stock.specs.Receipts.{book_after, entries_after}
use Rattle.locked_stock.specs.declared.receipt.Receipt.{Receipt}
use Rattle.engine.specs.Freezes.{match_fault, matched_as}
use Rattle.engine.specs.PreCalls.{grid_under}
use Rattle.engine.specs.declared.frozen.Frozen.{Frozen}
use Rattle.engine.specs.declared.matched.Matched.{Matched}
use Rattle.engine.specs.declared.pre_call.PreCall.{PreCall}

-- the grid of a freeze
abbrev pub grid_frozen : Frozen → Grid
grid_frozen f = grid_of f.settings

-- the answer without the phase that comes with it
abbrev pub without_phase : {A : Type 0} → Result (PreCall × A) (Frozen × Refusal) → Result A Refusal
without_phase r = result_map_both (λ p. p.1) (λ e. e.1) r

-- an ended freeze leads to pre-call, a refusal hands the freeze back, both under the same settings
abbrev pub PhaseKept : {A : Type 0} → Grid → Result (PreCall × A) (Frozen × Refusal) → Type 0
PhaseKept g r = MatchResult r (λ p. grid_under p.0 ≡ g) (λ e. grid_frozen e.0 ≡ g)

-- why a match with these arrays is refused
abbrev pub match_refusal : Grid → Quote → WaitingLine (Instruction Order) → List Terms → List Fill → List Receipt → Option Refusal
match_refusal g q l ts fills receipts = match_fault g (room_of l.slots.now) q (length fills) (length receipts) ts

-- a match holds the auction and then carries out what was held; a refused one changes nothing
pub record MatchHeld (g : Grid) (q : Quote) (room : ℕ) (l : WaitingLine (Instruction Order)) (ts : List Terms) (fills : List Fill) (receipts : List Receipt) (answer : Result Matched Refusal) (room_after : ℕ) (l_after : WaitingLine (Instruction Order)) (ts_after : List Terms) (fills_after : List Fill) (receipts_after : List Receipt) : Type 0 where
  pub value : answer ≡ answered (match_refusal g q l ts fills receipts) (matched_as (auction_under g.tick q ts).found (length (auction_under g.tick q ts).fills) (length (held_in l)))
  pub book : ts_after ≡ left (match_refusal g q l ts fills receipts) ts (book_after room (held_in l) (auction_under g.tick q ts).book)
  pub filled : fills_after ≡ left (match_refusal g q l ts fills receipts) fills (in_front (auction_under g.tick q ts).fills fills)
  pub receipted : receipts_after ≡ left (match_refusal g q l ts fills receipts) receipts (entries_after room (held_in l) (auction_under g.tick q ts).book receipts)
  pub held : held_in l_after ≡ left (match_refusal g q l ts fills receipts) (held_in l) []
  pub slots : l_after.slots.now ≡ l.slots.now
  pub lent : l_after.slots.ghost_name ≡ l.slots.ghost_name
  pub same : room_after ≡ room
  pub lawful : match_refusal g q l ts fills receipts ≡ None → LawfulAuction q ts (auction_under g.tick q ts)
