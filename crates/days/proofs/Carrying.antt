-- A call that is carried out writes in front of longer arrays.
use Rattle.std.proofs.Common.{◌≡◌, ℕ, List, [], ◌∷◌, ◌++◌, take, ap, ◌∙◌, arith, length-append}
use Rattle.std.proofs.lemmas.List.{take-append-le}
use Rattle.orders.specs.Ticks.{Grid}
use Rattle.orders.specs.declared.instruction.Instruction.{Instruction}
use Rattle.orders.specs.declared.order.Order.{Order}
use Rattle.orders.specs.declared.terms.Terms.{Terms}
use Rattle.settling.specs.declared.fill.Fill.{Fill}
use Rattle.waiting_line.specs.declared.line.WaitingLine.{WaitingLine}
use Rattle.locked_stock.specs.declared.receipt.Receipt.{Receipt}
use Rattle.days.specs.Counts.{stops_in, fills_in, receipts_in}
use Rattle.days.specs.Days.{State, Entry, book_of}
use Rattle.days.specs.Journals.{entry_with}
use Rattle.days.specs.Steps.{Bare, CarriedOut, Passed, stops_for}
use Rattle.days.specs.declared.answer.Answer.{Answer}
use Rattle.days.specs.declared.call.Call.{Call}
use Rattle.days.specs.declared.note.Note.{Note}

module _ {g g' : Grid} {room room' : ℕ} {l l' : WaitingLine (Instruction Order)} {s t : State} {c : Call} {a : Answer} {fs : List Fill} {rs : List Receipt} where
  pub more_fills : (more : List Fill) → CarriedOut g room l s c a fs rs g' room' l' t → CarriedOut g room l s c a (fs ++ more) rs g' room' l' t
  more_fills more d =
      let same : take (fills_in a) (fs ++ more) ≡ take (fills_in a) fs = take-append-le (fills_in a) fs more d.fills in
      record {
        entry = (λ i. record { call = c; answer = a; triggered = take (stops_in a) (stops_for c (book_of s)); fills = same i; receipts = take (receipts_in a) rs }) ∙ d.entry;
        state = d.state;
        stops = d.stops;
        fills = omega (arith, d.fills, length-append fs more);
        receipts = d.receipts;
        grid = d.grid;
        kept = d.kept;
        same = d.same;
      }

  pub more_receipts : (more : List Receipt) → CarriedOut g room l s c a fs rs g' room' l' t → CarriedOut g room l s c a fs (rs ++ more) g' room' l' t
  more_receipts more d =
      let same : take (receipts_in a) (rs ++ more) ≡ take (receipts_in a) rs = take-append-le (receipts_in a) rs more d.receipts in
      record {
        entry = (λ i. record { call = c; answer = a; triggered = take (stops_in a) (stops_for c (book_of s)); fills = take (fills_in a) fs; receipts = same i }) ∙ d.entry;
        state = d.state;
        stops = d.stops;
        fills = d.fills;
        receipts = omega (arith, d.receipts, length-append rs more);
        grid = d.grid;
        kept = d.kept;
        same = d.same;
      }

  -- carried out and noted
  pub passed : {before after : List Entry} → CarriedOut g room l s c a fs rs g' room' l' t → after ≡ before ++ entry_with (record { call = c; answer = a }) (stops_for c (book_of s)) fs rs ∷ [] → Passed g room l s c before after g' room' l' t
  passed {before} d h = record { turned = record { told = h ∙ ap (λ e. before ++ e ∷ []) d.entry; state = d.state }; grid = d.grid; kept = d.kept; same = d.same }

-- a bare answer is noted with no lists as with any
pub bare_entry : (n : Note) (ts : List Terms) → Bare n.answer → entry_with n [] [] [] ≡ entry_with n ts [] []
bare_entry n ts b = rw b.stops
