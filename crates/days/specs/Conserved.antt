-- No share is lost or invented in a day.
use Rattle.std.specs.Prelude.{◌≡◌, ℕ, ◌+◌, ◌≤◌, cond, List, sum_by, ◌==◌}
use Rattle.orders.specs.declared.terms.Terms.{Terms}
use Rattle.settling.specs.Fills.{traded_of}
use Rattle.book.specs.Figures.{open_of}
use Rattle.instructions.specs.declared.effect.Effect.{Effect}
use Rattle.locked_stock.specs.Receipts.{receipts_add, receipts_take_off}
use Rattle.engine.specs.PreCalls.{named}
use Rattle.days.specs.Days.{Entry}
use Rattle.days.specs.declared.answer.Answer.{Answer}
use Rattle.days.specs.declared.answer.Answer.TheVariants.{Done, Held, Frozen, Matched, Lifted, Refused}
use Rattle.days.specs.declared.call.Call.{Call}
use Rattle.days.specs.declared.call.Call.TheVariants.{Send, Freeze, Match, Lift}

-- one of the two numbers of an accepted answer, if the call named the order
abbrev pub told_of : (Effect → ℕ) → ℕ → Call → Answer → ℕ
told_of m n (Send i) (Done e) = cond (named i == n) (m e) 0
told_of m n (Send i) Held = 0
told_of m n (Send i) Frozen = 0
told_of m n (Send i) (Matched x) = 0
told_of m n (Send i) (Lifted k) = 0
told_of m n (Send i) (Refused x) = 0
told_of m n Freeze a = 0
told_of m n (Match q f k) a = 0
told_of m n (Lift k) a = 0

-- the shares of an order that an entry adds, takes off and trades
abbrev pub added_in : ℕ → Entry → ℕ
added_in n e = told_of (λ x. x.added) n e.call e.answer + receipts_add n e.receipts

abbrev pub taken_off_in : ℕ → Entry → ℕ
taken_off_in n e = told_of (λ x. x.taken_off) n e.call e.answer + receipts_take_off n e.receipts

abbrev pub traded_in : ℕ → Entry → ℕ
traded_in n e = traded_of n e.fills

-- of each order number: what was open first and what was added is what was traded, what was taken off and what is open at the end
abbrev pub ConservedDay : List Terms → List Entry → List Terms → Type 0
ConservedDay first day closing =
    (n : ℕ) → 1 ≤ n →
    open_of n first + sum_by (added_in n) day ≡ sum_by (traded_in n) day + sum_by (taken_off_in n) day + open_of n closing
