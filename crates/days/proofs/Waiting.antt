-- An instruction in a freeze, by what the locked stock answers.
use Rattle.std.proofs.Common.{◌≡◌, ℕ, min, Bool, true, false, cond, eqb, List, [], ◌∷◌, ◌++◌, length, set, Ok, Err, Result, sym, refl, ap, ◌∙◌, subst, arith, length-set}
use Rattle.std.proofs.lemmas.List.{length-map}
use Rattle.orders.specs.Checks.{checked}
use Rattle.orders.specs.Ticks.{Grid}
use Rattle.orders.specs.Told.{told}
use Rattle.orders.specs.declared.instruction.Instruction.{Instruction}
use Rattle.orders.specs.declared.order.Order.{Order}
use Rattle.orders.specs.declared.refusal.Refusal.{Refusal}
use Rattle.orders.specs.declared.refusal.Refusal.TheVariants.{LockedStockFull}
use Rattle.orders.specs.declared.terms.Terms.{Terms}
use Rattle.orders.specs.declared.ticket.Ticket.{Ticket}
use Rattle.waiting_line.specs.Lines.{waiting, room_of, slot_at, is_full}
use Rattle.waiting_line.specs.declared.line.WaitingLine.{WaitingLine}
use Rattle.instructions.specs.declared.effect.Effect.{Effect}
use Rattle.locked_stock.specs.Holding.{held_in, slots_of, Joined, HeldBy}
use Rattle.engine.specs.Freezes.{admitted_to}
use Rattle.days.specs.Counts.{stops_in, fills_in, receipts_in}
use Rattle.days.specs.Days.{answer_of, in_freeze, waits}
use Rattle.days.specs.Steps.{Bare, StockKept, told_waiting, CarriedOut}
use Rattle.days.specs.Journals.{entry_with}
use Rattle.settling.specs.declared.fill.Fill.{Fill}
use Rattle.locked_stock.specs.declared.receipt.Receipt.{Receipt}
use Rattle.days.specs.declared.answer.Answer.{Answer}
use Rattle.days.specs.declared.answer.Answer.TheVariants.{Held, Refused}
use Rattle.days.specs.declared.call.Call.TheVariants.{Send}

-- the answer to an instruction in a freeze, and what is held then, if it may wait or not
abbrev waited : Result (Instruction Terms) Refusal → Answer
waited (Ok i) = Held
waited (Err e) = Refused e

abbrev held_with : List (Instruction Terms) → Result (Instruction Terms) Refusal → List (Instruction Terms)
held_with held (Ok i) = held ++ i ∷ []
held_with held (Err e) = held

-- an instruction in a freeze waits, or is refused
record Waits (g : Grid) (i : Instruction Ticket) (l : WaitingLine (Instruction Order)) (answer : Answer) (after : WaitingLine (Instruction Order)) : Type 0 where
  value : answer ≡ waited (admitted_to (room_of l.slots.now) (held_in l) (checked g i))
  held : held_in after ≡ held_with (held_in l) (admitted_to (room_of l.slots.now) (held_in l) (checked g i))
  kept : StockKept l after

-- a full stock answers its refusal, another lets the instruction in
by_room : (b : Bool) (i : Instruction Terms) → told_waiting (cond b (Err LockedStockFull) (Ok tt)) ≡ waited (cond b (Err LockedStockFull) (Ok i))
by_room true i = refl
by_room false i = refl

holds : (b : Bool) (held : List (Instruction Terms)) (i : Instruction Terms) → cond b held (held ++ i ∷ []) ≡ held_with held (cond b (Err LockedStockFull) (Ok i))
holds true held i = refl
holds false held i = refl

-- as many slots as before
long : (b : Bool) (ss : List (Instruction Terms)) (k : ℕ) (i : Instruction Terms) → length (cond b ss (set ss k i)) ≡ length ss
long true ss k i = refl
long false ss k i = length-set ss k i

-- the line tells the number of those that wait by its records, the rules by their terms
full_as : (l : WaitingLine (Instruction Order)) → is_full l ≡ eqb (length (held_in l)) (room_of l.slots.now)
full_as l = ap (λ n. eqb n (room_of l.slots.now)) (sym (length-map (waiting l) told))

joined_waits : (g : Grid) (t : Instruction Ticket) (i : Instruction Terms) (l after : WaitingLine (Instruction Order)) (r : Result (Unit {0}) Refusal) → Ok i ≡ checked g t → Joined i l r after → Waits g t l (told_waiting r) after
joined_waits g t i l after r e j =
    let x : cond (is_full l) (Err LockedStockFull) (Ok i) ≡ admitted_to (room_of l.slots.now) (held_in l) (checked g t) =
    ap (λ b. cond b (Err LockedStockFull) (Ok i)) (full_as l) ∙ ap (admitted_to (room_of l.slots.now) (held_in l)) e in
    let slots : length after.slots.now ≡ length l.slots.now =
    sym (length-map after.slots.now told) ∙ ap length j.slots ∙ long (is_full l) (slots_of l) (slot_at l (length (waiting l))) i ∙ length-map l.slots.now told in
    record {
      value = ap told_waiting j.value ∙ by_room (is_full l) i ∙ ap waited x;
      held = j.held ∙ holds (is_full l) (held_in l) i ∙ ap (held_with (held_in l)) x;
      kept = record { room = ap (λ n. min n 256) slots; lent = j.lent };
    }

refused_waits : (g : Grid) (t : Instruction Ticket) (e : Refusal) (l after : WaitingLine (Instruction Order)) (r : Result (Unit {0}) Refusal) → Err e ≡ checked g t → r ≡ Err e → after ≡ l → Waits g t l (told_waiting r) after
refused_waits g t e l after r h same kept =
    let x : Err e ≡ admitted_to (room_of l.slots.now) (held_in l) (checked g t) = ap (admitted_to (room_of l.slots.now) (held_in l)) h in
    record {
      value = ap told_waiting same ∙ ap waited x;
      held = ap held_in kept ∙ ap (held_with (held_in l)) x;
      kept = record { room = ap (λ k. room_of k.slots.now) kept; lent = ap (λ k. k.slots.ghost_name) kept };
    }

by_check : (g : Grid) (t : Instruction Ticket) (x : Result (Instruction Terms) Refusal) (l after : WaitingLine (Instruction Order)) (r : Result (Unit {0}) Refusal) → x ≡ checked g t → HeldBy x l r after → Waits g t l (told_waiting r) after
by_check g t (Ok i) l after r e h = joined_waits g t i l after r e h
by_check g t (Err d) l after r e h = refused_waits g t d l after r e h.0 h.1

waits_by : (g : Grid) (t : Instruction Ticket) (l after : WaitingLine (Instruction Order)) (r : Result (Unit {0}) Refusal) (a : Answer) → a ≡ told_waiting r → HeldBy (checked g t) l r after → Waits g t l a after
waits_by g t l after r a e h = subst (λ x. Waits g t l x after) (sym e) (by_check g t (checked g t) l after r refl h)

-- an answer to an instruction tells of nothing triggered, filled or receipted
pub bare_answer : (y : Result Effect Refusal) → Bare (answer_of y)
bare_answer (Ok e) = record { stops = refl; fills = refl; receipts = refl }
bare_answer (Err d) = record { stops = refl; fills = refl; receipts = refl }

bare_waited : (a : Answer) (x : Result (Instruction Terms) Refusal) → a ≡ waited x → Bare a
bare_waited a (Ok i) e = record { stops = ap stops_in e; fills = ap fills_in e; receipts = ap receipts_in e }
bare_waited a (Err d) e = record { stops = ap stops_in e; fills = ap fills_in e; receipts = ap receipts_in e }

-- an instruction in a freeze as the rules have it
waited_entry : (ts : List Terms) (held : List (Instruction Terms)) (i : Instruction Ticket) (x : Result (Instruction Terms) Refusal) (fs : List Fill) (rs : List Receipt) → entry_with (record { call = Send i; answer = waited x }) [] fs rs ≡ (waits ts held i x).entry
waited_entry ts held i (Ok j) fs rs = refl
waited_entry ts held i (Err e) fs rs = refl

waited_state : (ts : List Terms) (held : List (Instruction Terms)) (i : Instruction Ticket) (x : Result (Instruction Terms) Refusal) → in_freeze ts (held_with held x) ≡ (waits ts held i x).state
waited_state ts held i (Ok j) = refl
waited_state ts held i (Err e) = refl

pub carried_waits : (g : Grid) (room : ℕ) (ts : List Terms) (fs : List Fill) (rs : List Receipt) (t : Instruction Ticket) (l : WaitingLine (Instruction Order)) (r : Result (Unit {0}) Refusal) (a : Answer) (after : WaitingLine (Instruction Order)) → a ≡ told_waiting r → HeldBy (checked g t) l r after →
    CarriedOut g room l (in_freeze ts (held_in l)) (Send t) a fs rs g room after (in_freeze ts (held_in after))
carried_waits g room ts fs rs t l r a after e h =
    let w = waits_by g t l after r a e h in
    let x = admitted_to (room_of l.slots.now) (held_in l) (checked g t) in
    let b = bare_waited a x w.value in
    record {
      entry = ap (λ y. entry_with (record { call = Send t; answer = y }) [] fs rs) w.value ∙ waited_entry ts (held_in l) t x fs rs;
      state = ap (in_freeze ts) w.held ∙ waited_state ts (held_in l) t x;
      stops = omega (arith, b.stops);
      fills = omega (arith, b.fills);
      receipts = omega (arith, b.receipts);
      grid = refl;
      kept = w.kept;
      same = refl;
    }
