-- What a quote request must be, and what entering one gives.
use Rattle.std.specs.Prelude.{◌≡◌, cond, ◌||◌, Some, None, Err, Option, Result, ◌==◌, nat_le}
use Rattle.orders.specs.Checks.{on_lot}
use Rattle.orders.specs.Ticks.{Grid}
use Rattle.orders.specs.declared.refusal.Refusal.{Refusal}
use Rattle.orders.specs.declared.refusal.Refusal.TheVariants.{Identity, Quantity, RequestListFull}
use Rattle.waiting_line.specs.Lines.{Put}
use Rattle.waiting_line.specs.declared.line.WaitingLine.{WaitingLine}
use Rattle.requests.specs.declared.request.QuoteRequest.{QuoteRequest}

-- why a request is refused, whatever waits
abbrev pub request_fault : Grid → QuoteRequest → Option Refusal
request_fault g r =
    cond (nat_le 1 r.participant)
    (cond (r.quantity == 0 || on_lot g r.quantity) None (Some Quantity))
    (Some Identity)

-- a request with a fault is refused and changes nothing; any other joins the line, which answers for itself if it is full
abbrev pub Entered : Option Refusal → WaitingLine QuoteRequest → QuoteRequest → Result (Unit {0}) Refusal → WaitingLine QuoteRequest → Type 0
Entered (Some e) l r answer after = (answer ≡ Err e) × (after ≡ l)
Entered None l r answer after = Put l r RequestListFull answer after
