-- A lift, by its fault.
use Rattle.std.proofs.Common.{◌≡◌, ℕ, List, [], ◌++◌, length, take, drop, Some, None, Ok, Err, sym, ap, ◌∙◌, arith, length-append}
use Rattle.std.proofs.lemmas.List.{take_at}
use Rattle.orders.proofs.Answering.{refused_by, not_refused, answered_as}
use Rattle.orders.specs.Ticks.{Grid}
use Rattle.orders.specs.declared.instruction.Instruction.{Instruction}
use Rattle.orders.specs.declared.order.Order.{Order}
use Rattle.orders.specs.declared.refusal.Refusal.{Refusal}
use Rattle.orders.specs.declared.terms.Terms.{Terms}
use Rattle.waiting_line.specs.Lines.{room_of}
use Rattle.waiting_line.specs.declared.line.WaitingLine.{WaitingLine}
use Rattle.settling.specs.declared.fill.Fill.{Fill}
use Rattle.locked_stock.specs.Holding.{held_in}
use Rattle.locked_stock.specs.Receipts.{receipts_of, entries_fault, Released}
use Rattle.locked_stock.specs.declared.receipt.Receipt.{Receipt}
use Rattle.days.proofs.Meeting.{length_receipts}
use Rattle.days.specs.Days.{in_pre_call, in_freeze, lifts}
use Rattle.days.specs.Phases.{rules_of}
use Rattle.days.specs.Steps.{CarriedOut}
use Rattle.days.specs.declared.answer.Answer.TheVariants.{Lifted, Refused}
use Rattle.days.specs.declared.call.Call.TheVariants.{Lift}

module _ (g : Grid) (room : ℕ) (l : WaitingLine (Instruction Order)) (ts : List Terms) (n : ℕ) (rs rs' : List Receipt) (room' : ℕ) (l' : WaitingLine (Instruction Order)) (ts' : List Terms)
    (same : entries_fault (length rs) (room_of l.slots.now) ≡ entries_fault n (room_of l.slots.now)) where
  -- a refused lift
  pub carried_refused : (g' : Grid) (fs : List Fill) (e : Refusal) → g' ≡ g → Released room l ts rs (Err e) room' l' ts' rs' →
      CarriedOut g room l (in_freeze ts (held_in l)) (Lift n) (Refused e) fs rs' g' room' l' (in_freeze ts' (held_in l'))
  carried_refused g' fs e p h =
      let some = refused_by (entries_fault (length rs) (room_of l.slots.now)) _ e h.value in
      let fault : Some e ≡ entries_fault n (room_of l.slots.now) = sym some ∙ same in
      record {
        entry = ap (λ x. (lifts (rules_of g room l) (held_in l) (Lift n) ts x).entry) fault;
        state = (λ i. in_freeze ((rw some at h.book) i) ((rw some at h.held) i)) ∙ ap (λ x. (lifts (rules_of g room l) (held_in l) (Lift n) ts x).state) fault;
        stops = omega arith;
        fills = omega arith;
        receipts = omega arith;
        grid = p;
        kept = record { room = ap room_of h.slots; lent = h.lent };
        same = h.same;
      }

  -- a lift that ends the freeze
  module _ (k : ℕ) (h : Released room l ts rs (Ok k) room' l' ts' rs') where
    none : entries_fault (length rs) (room_of l.slots.now) ≡ None
    none = not_refused (entries_fault (length rs) (room_of l.slots.now)) _ k h.value

    counted : k ≡ length (held_in l)
    counted = answered_as (entries_fault (length rs) (room_of l.slots.now)) _ k h.value

    written : rs' ≡ receipts_of room (held_in l) ts ++ drop (length (held_in l)) rs
    written = rw none at h.receipts

    pub carried_lifted : (g' : Grid) (fs : List Fill) → g' ≡ g → CarriedOut g room l (in_freeze ts (held_in l)) (Lift n) (Lifted k) fs rs' g' room' l' (in_pre_call ts' (held_in l'))
    carried_lifted g' fs p =
        let fault : None ≡ entries_fault n (room_of l.slots.now) = sym none ∙ same in
        let long : length (receipts_of room (held_in l) ts) ≡ k = length_receipts room (held_in l) ts ∙ sym counted in
        let front : take k rs' ≡ receipts_of room (held_in l) ts = ap (take k) written ∙ take_at (receipts_of room (held_in l) ts) (drop (length (held_in l)) rs) k long in
        record {
          entry =
              (λ i. record { call = Lift n; answer = Lifted (counted i); triggered = []; fills = []; receipts = front i })
              ∙ ap (λ x. (lifts (rules_of g room l) (held_in l) (Lift n) ts x).entry) fault;
          state = (λ i. in_pre_call ((rw none at h.book) i) ((rw none at h.held) i)) ∙ ap (λ x. (lifts (rules_of g room l) (held_in l) (Lift n) ts x).state) fault;
          stops = omega arith;
          fills = omega arith;
          receipts = omega (arith, counted, length_receipts room (held_in l) ts, ap length written, length-append (receipts_of room (held_in l) ts) (drop (length (held_in l)) rs));
          grid = p;
          kept = record { room = ap room_of h.slots; lent = h.lent };
          same = h.same;
        }
