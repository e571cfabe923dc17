-- A day: calls on phase, book and locked stock, each with what it was answered.
use Rattle.std.specs.Prelude.{ℕ, List, [], ◌∷◌, ◌++◌, length, Some, None, Ok, Err, Option, Result}
use Rattle.orders.specs.Checks.{checked}
use Rattle.orders.specs.Ticks.{Grid}
use Rattle.orders.specs.declared.instruction.Instruction.{Instruction}
use Rattle.orders.specs.declared.refusal.Refusal.{Refusal}
use Rattle.orders.specs.declared.refusal.Refusal.TheVariants.{WrongPhase}
use Rattle.orders.specs.declared.terms.Terms.{Terms}
use Rattle.orders.specs.declared.ticket.Ticket.{Ticket}
use Rattle.settling.specs.declared.fill.Fill.{Fill}
use Rattle.auction.specs.Auctions.{Auction, auction_under}
use Rattle.instructions.specs.declared.effect.Effect.{Effect}
use Rattle.locked_stock.specs.Receipts.{receipts_of, book_after, entries_fault}
use Rattle.locked_stock.specs.declared.receipt.Receipt.{Receipt}
use Rattle.engine.specs.Freezes.{admitted_to, match_fault, matched_as}
use Rattle.engine.specs.PreCalls.{sent_answer, sent_book}
use Rattle.days.specs.declared.answer.Answer.{Answer}
use Rattle.days.specs.declared.answer.Answer.TheVariants.{Done, Held, Frozen, Matched, Lifted, Refused}
use Rattle.days.specs.declared.call.Call.{Call}
use Rattle.days.specs.declared.call.Call.TheVariants.{Send, Freeze, Match, Lift}

-- what days that are compared have in common: the grid, and the capacities of book and locked stock
pub record Rules : Type 0 where
  pub grid : Grid
  pub room : ℕ
  pub stock : ℕ

-- a phase with its book and with what the locked stock holds
pub data State : Type 0 where
  in_pre_call : List Terms → List (Instruction Terms) → State
  in_freeze : List Terms → List (Instruction Terms) → State

abbrev pub book_of : State → List Terms
book_of (in_pre_call ts held) = ts
book_of (in_freeze ts held) = ts

-- a call with its answer, and with the orders that it triggered, its fills and its receipts
pub record Entry : Type 0 where
  pub call : Call
  pub answer : Answer
  pub triggered : List Terms
  pub fills : List Fill
  pub receipts : List Receipt

-- what one call gives: its entry, and the state after it
pub record Turn : Type 0 where
  pub entry : Entry
  pub state : State

-- a call with its answer alone
abbrev pub plain : Call → Answer → Entry
plain c a = record { call = c; answer = a; triggered = []; fills = []; receipts = [] }

abbrev pub answer_of : Result Effect Refusal → Answer
answer_of (Ok e) = Done e
answer_of (Err e) = Refused e

-- in pre-call an instruction is carried out
abbrev pub carried : Rules → List Terms → List (Instruction Terms) → Instruction Ticket → Turn
carried r ts held i = record { entry = plain (Send i) (answer_of (sent_answer r.grid r.room i ts)); state = in_pre_call (sent_book r.grid r.room i ts) held }

-- in a freeze it waits, or is refused
abbrev pub waits : List Terms → List (Instruction Terms) → Instruction Ticket → Result (Instruction Terms) Refusal → Turn
waits ts held i (Ok j) = record { entry = plain (Send i) Held; state = in_freeze ts (held ++ j ∷ []) }
waits ts held i (Err e) = record { entry = plain (Send i) (Refused e); state = in_freeze ts held }

-- a match that is refused, or holds the auction and then carries out what was held
abbrev pub meets : Rules → List (Instruction Terms) → Call → Auction → List Terms → Option Refusal → Turn
meets r held c a ts (Some e) = record { entry = plain c (Refused e); state = in_freeze ts held }
meets r held c a ts None =
    record {
      entry = record {
        call = c;
        answer = Matched (matched_as a.found (length a.fills) (length held));
        triggered = a.triggered;
        fills = a.fills;
        receipts = receipts_of r.room held a.book;
      };
      state = in_pre_call (book_after r.room held a.book) [];
    }

-- a lift that is refused, or carries out what was held
abbrev pub lifts : Rules → List (Instruction Terms) → Call → List Terms → Option Refusal → Turn
lifts r held c ts (Some e) = record { entry = plain c (Refused e); state = in_freeze ts held }
lifts r held c ts None =
    record {
      entry = record { call = c; answer = Lifted (length held); triggered = []; fills = []; receipts = receipts_of r.room held ts };
      state = in_pre_call (book_after r.room held ts) [];
    }

-- one call; a phase that does not admit it refuses it
abbrev pub turn : Rules → State → Call → Turn
turn r (in_pre_call ts held) (Send i) = carried r ts held i
turn r (in_pre_call ts held) Freeze = record { entry = plain Freeze Frozen; state = in_freeze ts held }
turn r (in_pre_call ts held) (Match q f n) = record { entry = plain (Match q f n) (Refused WrongPhase); state = in_pre_call ts held }
turn r (in_pre_call ts held) (Lift n) = record { entry = plain (Lift n) (Refused WrongPhase); state = in_pre_call ts held }
turn r (in_freeze ts held) (Send i) = waits ts held i (admitted_to r.stock held (checked r.grid i))
turn r (in_freeze ts held) Freeze = record { entry = plain Freeze (Refused WrongPhase); state = in_freeze ts held }
turn r (in_freeze ts held) (Match q f n) = meets r held (Match q f n) (auction_under r.grid.tick q ts) ts (match_fault r.grid r.stock q f n ts)
turn r (in_freeze ts held) (Lift n) = lifts r held (Lift n) ts (entries_fault n r.stock)

-- the record of a day that begins in a state, and the state at its end
abbrev pub record_of : Rules → State → List Call → List Entry
record_of r s [] = []
record_of r s (c ∷ cs) = (turn r s c).entry ∷ record_of r (turn r s c).state cs

abbrev pub end_of : Rules → State → List Call → State
end_of r s [] = s
end_of r s (c ∷ cs) = end_of r (turn r s c).state cs
