-- An instruction sent in pre-call conserves shares and leaves different numbers.
use Rattle.std.proofs.Common.{◌≡◌, ℕ, true, List, Ok, Err, Result, refl, subst}
use Rattle.orders.specs.Checks.{checked}
use Rattle.orders.specs.Ticks.{Grid}
use Rattle.orders.specs.declared.instruction.Instruction.{Instruction}
use Rattle.orders.specs.declared.refusal.Refusal.{Refusal}
use Rattle.orders.specs.declared.terms.Terms.{Terms}
use Rattle.orders.specs.declared.ticket.Ticket.{Ticket}
use Rattle.book.specs.Lists.{distinct}
use Rattle.instructions.proofs.Conserving.{conserves}
use Rattle.instructions.specs.Conservation.{Conserved}
use Rattle.instructions.specs.Effects.{carried_answer, carried_book}
use Rattle.locked_stock.proofs.Balancing.{carried_distinct}
use Rattle.engine.proofs.Naming.{same_number}
use Rattle.engine.specs.PreCalls.{named, answer_once, book_once, sent_answer, sent_book}

by_check : (g : Grid) (room : ℕ) (i : Instruction Ticket) (ts : List Terms) (x : Result (Instruction Terms) Refusal) → distinct ts ≡ true → x ≡ checked g i → Conserved (named i) (answer_once x room ts) ts (book_once x room ts)
by_check g room i ts (Ok j) d e = subst (λ n. Conserved n (carried_answer room j ts) ts (carried_book room j ts)) (same_number g i j e) (conserves room j ts d)
by_check g room i ts (Err e) d h = record { here = refl; elsewhere = λ n ne. refl }

pub sent_conserved : (g : Grid) (room : ℕ) (i : Instruction Ticket) (ts : List Terms) → distinct ts ≡ true → Conserved (named i) (sent_answer g room i ts) ts (sent_book g room i ts)
sent_conserved g room i ts d = by_check g room i ts (checked g i) d refl

apart_after : (room : ℕ) (ts : List Terms) (x : Result (Instruction Terms) Refusal) → distinct ts ≡ true → distinct (book_once x room ts) ≡ true
apart_after room ts (Ok j) d = carried_distinct room j ts d
apart_after room ts (Err e) d = d

pub sent_distinct : (g : Grid) (room : ℕ) (i : Instruction Ticket) (ts : List Terms) → distinct ts ≡ true → distinct (sent_book g room i ts) ≡ true
sent_distinct g room i ts d = apart_after room ts (checked g i) d
