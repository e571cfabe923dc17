-- What filling the orders of a book answers and leaves.
use Rattle.std.specs.Prelude.{◌≡◌, ℕ, cond, List, ◌++◌, length, drop, Some, None, Option, Result, nat_lt}
use Rattle.orders.specs.Answers.{answered, left}
use Rattle.orders.specs.declared.refusal.Refusal.{Refusal}
use Rattle.orders.specs.declared.refusal.Refusal.TheVariants.{FillEntries}
use Rattle.orders.specs.declared.terms.Terms.{Terms}
use Rattle.book.specs.Lists.{Sound}
use Rattle.pricing.specs.declared.quote.Quote.{Quote}
use Rattle.settling.specs.declared.fill.Fill.{Fill}
use Rattle.pairing.specs.Pairs.{fills_at}

-- the array has fewer entries than the book has orders
abbrev pub fill_fault : List Terms → List Fill → Option Refusal
fill_fault ts before = cond (nat_lt (length before) (length ts)) (Some FillEntries) None

-- how many fills there are, or the refusal
abbrev pub fill_answer : Quote → List Terms → ℕ → List Fill → Result ℕ Refusal
fill_answer q ts p before = answered (fill_fault ts before) (length (fills_at q ts p))

-- fills in front, and behind them the entries as they were
abbrev pub in_front : List Fill → List Fill → List Fill
in_front fs before = fs ++ drop (length fs) before

-- the array after the call
abbrev pub after_filling : Quote → List Terms → ℕ → List Fill → List Fill
after_filling q ts p before = left (fill_fault ts before) before (in_front (fills_at q ts p) before)

-- what the call gives: on the book, at a price, the array before it, the answer, and the array after it
pub record Filled (q : Quote) (ts : List Terms) (p : ℕ) (before : List Fill) (answer : Result ℕ Refusal) (fills : List Fill) : Type 0 where
  pub value : answer ≡ fill_answer q ts p before
  pub after : fills ≡ after_filling q ts p before
  pub sound : Sound ts
