-- No share is lost or invented in a day.
use Rattle.std.proofs.Common.{◌≡◌, ℕ, ◌+◌, ◌≤◌, Bool, true, false, cond, eqb, List, [], ◌∷◌, Some, None, Ok, Err, sum_by, Option, Result, refl, arith}
use Rattle.std.proofs.lemmas.List.Sums.{sum_by-cons}
use Rattle.orders.specs.Checks.{checked}
use Rattle.orders.specs.declared.instruction.Instruction.{Instruction}
use Rattle.orders.specs.declared.refusal.Refusal.{Refusal}
use Rattle.orders.specs.declared.terms.Terms.{Terms}
use Rattle.orders.specs.declared.ticket.Ticket.{Ticket}
use Rattle.pricing.specs.declared.quote.Quote.{Quote}
use Rattle.settling.specs.Fills.{traded_of}
use Rattle.auction.specs.Auctions.{Auction, auction_under}
use Rattle.book.specs.Lists.{distinct}
use Rattle.instructions.specs.Conservation.{added_by, taken_off_by}
use Rattle.book.specs.Figures.{open_of}
use Rattle.instructions.specs.declared.effect.Effect.{Effect}
use Rattle.locked_stock.proofs.Balancing.{balance_at, receipts_balance, after_distinct}
use Rattle.locked_stock.specs.Receipts.{entries_fault}
use Rattle.engine.proofs.Sending.{sent_conserved, sent_distinct}
use Rattle.engine.specs.Freezes.{admitted_to, match_fault}
use Rattle.engine.specs.PreCalls.{named, sent_answer, sent_book}
use Rattle.days.specs.Conserved.{told_of, added_in, taken_off_in, traded_in}
use Rattle.days.specs.Days.{Rules, State, in_pre_call, in_freeze, book_of, Turn, answer_of, carried, waits, meets, lifts, turn, record_of, end_of}
use Rattle.days.specs.declared.call.Call.{Call}
use Rattle.days.specs.declared.call.Call.TheVariants.{Send, Freeze, Match, Lift}

-- a turn from a book keeps the shares of a number, and leaves different numbers
record Keeps (n : ℕ) (ts : List Terms) (t : Turn) : Type 0 where
  balance : open_of n ts + added_in n t.entry ≡ traded_in n t.entry + taken_off_in n t.entry + open_of n (book_of t.state)
  apart : distinct (book_of t.state) ≡ true

nothing : (b : Bool) → ◌≡◌ {A = ℕ} 0 (cond b 0 0)
nothing true = refl
nothing false = refl

-- the two numbers of an answer, as the record tells them
told_as : (n : ℕ) (i : Instruction Ticket) (y : Result Effect Refusal) →
    (told_of (λ x. x.added) n (Send i) (answer_of y) ≡ cond (eqb (named i) n) (added_by y) 0)
    × (told_of (λ x. x.taken_off) n (Send i) (answer_of y) ≡ cond (eqb (named i) n) (taken_off_by y) 0)
told_as n i (Ok e) = (refl, refl)
told_as n i (Err e) = (nothing (eqb (named i) n), nothing (eqb (named i) n))

module _ (n : ℕ) (some : 1 ≤ n) (r : Rules)
    (auction_balance : (q : Quote) (ts : List Terms) → distinct ts ≡ true → open_of n ts ≡ traded_of n (auction_under r.grid.tick q ts).fills + open_of n (auction_under r.grid.tick q ts).book)
    (auction_distinct : (q : Quote) (ts : List Terms) → distinct ts ≡ true → distinct (auction_under r.grid.tick q ts).book ≡ true) where
  carried_keeps : (ts : List Terms) (held : List (Instruction Terms)) (i : Instruction Ticket) → distinct ts ≡ true → Keeps n ts (carried r ts held i)
  carried_keeps ts held i d =
      let y = sent_answer r.grid r.room i ts in
      let us = sent_book r.grid r.room i ts in
      let one = balance_at n (named i) y ts us (sent_conserved r.grid r.room i ts d) in
      let t = told_as n i y in
      record { balance = omega (arith, t.0, t.1); apart = sent_distinct r.grid r.room i ts d }

  waits_keeps : (ts : List Terms) (held : List (Instruction Terms)) (i : Instruction Ticket) (x : Result (Instruction Terms) Refusal) → distinct ts ≡ true → Keeps n ts (waits ts held i x)
  waits_keeps ts held i (Ok j) d = record { balance = omega arith; apart = d }
  waits_keeps ts held i (Err e) d = record { balance = omega arith; apart = d }

  meets_keeps : (ts : List Terms) (held : List (Instruction Terms)) (q : Quote) (f k : ℕ) (a : Auction) (x : Option Refusal) → distinct ts ≡ true →
      open_of n ts ≡ traded_of n a.fills + open_of n a.book → distinct a.book ≡ true → Keeps n ts (meets r held (Match q f k) a ts x)
  meets_keeps ts held q f k a (Some e) d b ad = record { balance = omega arith; apart = d }
  meets_keeps ts held q f k a None d b ad =
      let rest = receipts_balance r.room held a.book ad n in
      record { balance = omega arith; apart = after_distinct r.room held a.book ad }

  lifts_keeps : (ts : List Terms) (held : List (Instruction Terms)) (k : ℕ) (x : Option Refusal) → distinct ts ≡ true → Keeps n ts (lifts r held (Lift k) ts x)
  lifts_keeps ts held k (Some e) d = record { balance = omega arith; apart = d }
  lifts_keeps ts held k None d =
      let rest = receipts_balance r.room held ts d n in
      record { balance = omega arith; apart = after_distinct r.room held ts d }

  turn_keeps : (s : State) (c : Call) → distinct (book_of s) ≡ true → Keeps n (book_of s) (turn r s c)
  turn_keeps (in_pre_call ts held) (Send i) d = carried_keeps ts held i d
  turn_keeps (in_pre_call ts held) Freeze d = record { balance = omega arith; apart = d }
  turn_keeps (in_pre_call ts held) (Match q f k) d = record { balance = omega arith; apart = d }
  turn_keeps (in_pre_call ts held) (Lift k) d = record { balance = omega arith; apart = d }
  turn_keeps (in_freeze ts held) (Send i) d = waits_keeps ts held i (admitted_to r.stock held (checked r.grid i)) d
  turn_keeps (in_freeze ts held) Freeze d = record { balance = omega arith; apart = d }
  turn_keeps (in_freeze ts held) (Match q f k) d = meets_keeps ts held q f k (auction_under r.grid.tick q ts) (match_fault r.grid r.stock q f k ts) d (auction_balance q ts d) (auction_distinct q ts d)
  turn_keeps (in_freeze ts held) (Lift k) d = lifts_keeps ts held k (entries_fault k r.stock) d

  pub day_keeps : (s : State) (cs : List Call) → distinct (book_of s) ≡ true →
      open_of n (book_of s) + sum_by (added_in n) (record_of r s cs) ≡ sum_by (traded_in n) (record_of r s cs) + sum_by (taken_off_in n) (record_of r s cs) + open_of n (book_of (end_of r s cs))
  day_keeps s [] d = omega arith
  day_keeps s (c ∷ cs) d =
      let one = turn_keeps s c d in
      let b = one.balance in
      let rest = day_keeps (turn r s c).state cs one.apart in
      simp sum_by-cons (omega arith)
