-- What is refused in a freeze, and what a match answers.
use Rattle.std.specs.Prelude.{ℕ, cond, List, length, Some, None, Ok, Err, Option, Result, ◌==◌, nat_lt}
use Rattle.std.specs.Option.{option_or}
use Rattle.orders.specs.Ticks.{Grid}
use Rattle.orders.specs.declared.instruction.Instruction.{Instruction}
use Rattle.orders.specs.declared.refusal.Refusal.{Refusal}
use Rattle.orders.specs.declared.refusal.Refusal.TheVariants.{LockedStockFull, FillEntries}
use Rattle.orders.specs.declared.terms.Terms.{Terms}
use Rattle.pricing.specs.Quotes.{quote_fault}
use Rattle.pricing.specs.declared.quote.Quote.{Quote}
use Rattle.pricing.specs.declared.trial.TrialPrice.{TrialPrice}
use Rattle.pricing.specs.declared.trial.TrialPrice.TheVariants as found
use Rattle.locked_stock.specs.Receipts.{entries_fault}
use Rattle.engine.specs.declared.matched.Matched.{Matched}
use Rattle.engine.specs.declared.matched.Matched.TheVariants.{Priced, Unpriced}

-- an instruction that may wait behind those that are held, or why it may not
abbrev pub admitted_to : ℕ → List (Instruction Terms) → Result (Instruction Terms) Refusal → Result (Instruction Terms) Refusal
admitted_to stock held (Err e) = Err e
admitted_to stock held (Ok i) = cond (length held == stock) (Err LockedStockFull) (Ok i)

-- why n fill entries are too few: each order may have one
abbrev pub fills_fault : ℕ → List Terms → Option Refusal
fills_fault n ts = cond (nat_lt n (length ts)) (Some FillEntries) None

-- why a match is refused: by its quote, its fill entries, its receipt entries, in this order
abbrev pub match_fault : Grid → ℕ → Quote → ℕ → ℕ → List Terms → Option Refusal
match_fault g stock q fills receipts ts = option_or (quote_fault g q) (option_or (fills_fault fills ts) (entries_fault receipts stock))

-- the answer of a match: what was found, and how many fills and receipts were written
abbrev pub matched_as : TrialPrice → ℕ → ℕ → Matched
matched_as (found.Priced p n z stops) fills receipts = Priced p n z stops fills receipts
matched_as (found.Unpriced stops) fills receipts = Unpriced stops fills receipts
