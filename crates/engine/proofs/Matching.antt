-- A match by its fault.
use Rattle.std.proofs.Common.{◌≡◌, ℕ, ◌<◌, ◌≤◌, List, length, Some, None, Err, Result, sym, refl, subst}
use Rattle.std.proofs.lemmas.Bool.{lt-ltb, le-ltb}
use Rattle.orders.specs.Ticks.{Grid}
use Rattle.orders.specs.declared.instruction.Instruction.{Instruction}
use Rattle.orders.specs.declared.order.Order.{Order}
use Rattle.orders.specs.declared.refusal.Refusal.{Refusal}
use Rattle.orders.specs.declared.refusal.Refusal.TheVariants.{FillEntries, ReceiptEntries}
use Rattle.orders.specs.declared.terms.Terms.{Terms}
use Rattle.pricing.specs.Quotes.{quote_fault}
use Rattle.pricing.specs.declared.quote.Quote.{Quote}
use Rattle.settling.specs.declared.fill.Fill.{Fill}
use Rattle.waiting_line.specs.Lines.{room_of}
use Rattle.waiting_line.specs.declared.line.WaitingLine.{WaitingLine}
use Rattle.locked_stock.specs.declared.receipt.Receipt.{Receipt}
use Rattle.engine.specs.Matches.{match_refusal, MatchHeld}
use Rattle.engine.specs.Steps.{MatchRun}
use Rattle.engine.specs.declared.matched.Matched.{Matched}

module _ (g : Grid) (q : Quote) (room : ℕ) (l : WaitingLine (Instruction Order)) (ts : List Terms) (fills : List Fill) (receipts : List Receipt) where
  -- a refused match leaves everything
  refused : (e : Refusal) → match_refusal g q l ts fills receipts ≡ Some e → MatchHeld g q room l ts fills receipts (Err e) room l ts fills receipts
  refused e h =
      record {
        value = rw h;
        book = rw h;
        filled = rw h;
        receipted = rw h;
        held = rw h;
        slots = refl;
        lent = refl;
        same = refl;
        lawful = λ n. cc;
      }

  pub by_quote : (r : Result Matched Refusal) (e : Refusal) → r ≡ Err e → quote_fault g q ≡ Some e → MatchHeld g q room l ts fills receipts r room l ts fills receipts
  by_quote r e same h = subst (λ x. MatchHeld g q room l ts fills receipts x room l ts fills receipts) (sym same) (refused e (rw h))

  pub by_fills : {n : ℕ} → quote_fault g q ≡ None → n ≡ length ts → length fills < n → MatchHeld g q room l ts fills receipts (Err FillEntries) room l ts fills receipts
  by_fills h e lt = let short = lt-ltb (length fills) (length ts) (subst (λ k. length fills < k) e lt) in refused FillEntries (rw (h, short))

  pub by_receipts : {n m : ℕ} → quote_fault g q ≡ None → n ≡ length ts → n ≤ length fills → m ≡ room_of l.slots.now → length receipts < m → MatchHeld g q room l ts fills receipts (Err ReceiptEntries) room l ts fills receipts
  by_receipts h e le f lt =
      let long = le-ltb (length fills) (length ts) (subst (λ k. k ≤ length fills) e le) in
      let short = lt-ltb (length receipts) (room_of l.slots.now) (subst (λ k. length receipts < k) f lt) in
      refused ReceiptEntries (rw (h, long, short))

  -- a match with no fault
  pub met : {n m : ℕ} (q' : Quote) {r : Result Matched Refusal} {room' : ℕ} {l' : WaitingLine (Instruction Order)} {ts' : List Terms} {fills' : List Fill} {receipts' : List Receipt} →
      quote_fault g q ≡ None → n ≡ length ts → n ≤ length fills → m ≡ room_of l.slots.now → m ≤ length receipts → q' ≡ q →
      MatchRun g.tick q' room l ts fills receipts r room' l' ts' fills' receipts' → MatchHeld g q room l ts fills receipts r room' l' ts' fills' receipts'
  met q' {r} {room'} {l'} {ts'} {fills'} {receipts'} h e le f le' same run' =
      let run = subst (λ x. MatchRun g.tick x room l ts fills receipts r room' l' ts' fills' receipts') same run' in
      let long = le-ltb (length fills) (length ts) (subst (λ k. k ≤ length fills) e le) in
      let long' = le-ltb (length receipts) (room_of l.slots.now) (subst (λ k. k ≤ length receipts) f le') in
      let none : match_refusal g q l ts fills receipts ≡ None = rw (h, long, long') in
      let d = run (rw long) (rw long') in
      record {
        value = rw none d.value;
        book = rw none d.book;
        filled = rw none d.filled;
        receipted = rw none d.receipted;
        held = rw none d.held;
        slots = d.slots;
        lent = d.lent;
        same = d.same;
        lawful = λ n. d.lawful;
      }
