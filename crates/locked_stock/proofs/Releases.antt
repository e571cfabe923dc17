-- A release by its receipt entries: too few, or enough.
use Rattle.std.proofs.Common.{◌≡◌, ℕ, ◌<◌, ◌≤◌, List, length, Ok, Err, refl, ap, subst}
use Rattle.std.proofs.lemmas.Bool.{lt-ltb, le-ltb}
use Rattle.orders.specs.declared.instruction.Instruction.{Instruction}
use Rattle.orders.specs.declared.order.Order.{Order}
use Rattle.orders.specs.declared.refusal.Refusal.TheVariants.{ReceiptEntries}
use Rattle.orders.specs.declared.terms.Terms.{Terms}
use Rattle.book.specs.Lists.{Sound}
use Rattle.waiting_line.specs.Lines.{room_of}
use Rattle.waiting_line.specs.declared.line.WaitingLine.{WaitingLine}
use Rattle.locked_stock.proofs.Balancing.{receipts_balance}
use Rattle.locked_stock.specs.Holding.{held_in}
use Rattle.locked_stock.specs.Receipts.{Released}
use Rattle.locked_stock.specs.Steps.{Emptied}
use Rattle.locked_stock.specs.declared.receipt.Receipt.{Receipt}

pub kept : (room : ℕ) (l : WaitingLine (Instruction Order)) (ts : List Terms) (rs : List Receipt) {slots : ℕ} → Sound ts → length rs < slots → slots ≡ room_of l.slots.now →
    Released room l ts rs (Err ReceiptEntries) room l ts rs
kept room l ts rs s lt e =
    let short = lt-ltb (length rs) (room_of l.slots.now) (subst (λ n. length rs < n) e lt) in
    record { value = rw short; book = rw short; receipts = rw short; held = rw short; slots = refl; lent = refl; same = refl; balance = receipts_balance room (held_in l) ts s.apart }

pub emptied : (room room' n : ℕ) (l l' : WaitingLine (Instruction Order)) (ts ts' : List Terms) (rs rs' : List Receipt) {slots : ℕ} → Sound ts → slots ≤ length rs → slots ≡ room_of l.slots.now →
    Emptied room l ts rs n room' l' ts' rs' → Released room l ts rs (Ok n) room' l' ts' rs'
emptied room room' n l l' ts ts' rs rs' s le e d =
    let long = le-ltb (length rs) (room_of l.slots.now) (subst (λ k. k ≤ length rs) e le) in
    record { value = rw long (ap Ok d.value); book = rw long d.book; receipts = rw long d.receipts; held = rw long d.held; slots = d.slots; lent = d.lent; same = d.same; balance = receipts_balance room (held_in l) ts s.apart }
