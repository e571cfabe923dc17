-- The laws of two days that went by the rules.
use Rattle.std.proofs.Common.{◌≡◌, ℕ, ◌+◌, ◌<◌, true, List, [], ◌∷◌, ◌++◌, length, get_or, take, drop, sym, refl, ap, ◌∙◌, subst}
use Rattle.std.proofs.lemmas.List.{append_assoc, append-nil, take_more, drop_at}
use Rattle.orders.specs.Ticks.{Grid}
use Rattle.orders.specs.declared.instruction.Instruction.{Instruction}
use Rattle.orders.specs.declared.order.Order.{Order}
use Rattle.orders.specs.declared.terms.Terms.{Terms}
use Rattle.waiting_line.specs.declared.line.WaitingLine.{WaitingLine}
use Rattle.book.specs.Lists.{distinct}
use Rattle.locked_stock.specs.Holding.{held_in}
use Rattle.auction.proofs.Balancing.{auction_balance, auction_distinct}
use Rattle.days.proofs.Conserving.{day_keeps}
use Rattle.days.proofs.Delaying.{delayed}
use Rattle.days.proofs.Records.{lawful, calls_record, record-++, end-++}
use Rattle.days.proofs.Sealing.{sealed}
use Rattle.days.specs.Conserved.{ConservedDay}
use Rattle.days.specs.Days.{Rules, State, in_pre_call, book_of, Entry, turn, record_of, end_of}
use Rattle.days.specs.Delayed.{outside, retold, DelayedTwin}
use Rattle.days.specs.Phases.{rules_of}
use Rattle.days.specs.Sealed.{calls}
use Rattle.days.specs.Steps.{StockKept, Turned}
use Rattle.days.specs.Twins.{HeldDay, day_held, ByTheRules, SameStart, SideBySide}
use Rattle.days.specs.declared.call.Call.{Call}

-- a day that starts as another does, by the other's rules
as_of : (d e : HeldDay) → SameStart d e → ByTheRules e →
    (e.told ≡ record_of d.rules (in_pre_call d.first d.waiting) e.calls_made) × (e.end ≡ end_of d.rules (in_pre_call d.first d.waiting) e.calls_made)
as_of d e s b = (
  b.told_right ∙ sym (λ i. record_of (s.rules i) (in_pre_call (s.first i) (s.waiting i)) e.calls_made),
  b.end_right ∙ sym (λ i. end_of (s.rules i) (in_pre_call (s.first i) (s.waiting i)) e.calls_made),
)

put_off : (r : Rules) (ts : List Terms) (cs ds : List Call) (one two : List Entry) (y z : State) →
    one ≡ record_of r (in_pre_call ts []) cs → y ≡ end_of r (in_pre_call ts []) cs → two ≡ record_of r (in_pre_call ts []) ds → z ≡ end_of r (in_pre_call ts []) ds →
    DelayedTwin one (book_of y) two (book_of z)
put_off r ts cs ds one two y z e f g h same =
    let sent : ds ≡ calls (retold outside (record_of r (in_pre_call ts []) cs)) =
    sym (calls_record r (in_pre_call ts []) ds) ∙ sym (ap calls g) ∙ same ∙ ap (λ x. calls (retold outside x)) e in
    let t = delayed r ts cs ds sent in
    (g ∙ t.0 ∙ sym (ap (retold outside) e), ap book_of h ∙ t.1 ∙ sym (ap book_of f))

delays : (d e : HeldDay) → ByTheRules d → ByTheRules e → SameStart d e → d.waiting ≡ [] → DelayedTwin d.told (book_of d.end) e.told (book_of e.end)
delays d e b c s none =
    let c' = as_of d e s c in
    let w : (cs : List Call) → record_of d.rules (in_pre_call d.first d.waiting) cs ≡ record_of d.rules (in_pre_call d.first []) cs = λ cs. ap (λ x. record_of d.rules (in_pre_call d.first x) cs) none in
    let v : (cs : List Call) → end_of d.rules (in_pre_call d.first d.waiting) cs ≡ end_of d.rules (in_pre_call d.first []) cs = λ cs. ap (λ x. end_of d.rules (in_pre_call d.first x) cs) none in
    put_off d.rules d.first d.calls_made e.calls_made d.told e.told d.end e.end
    (b.told_right ∙ w d.calls_made) (b.end_right ∙ v d.calls_made) (c'.0 ∙ w e.calls_made) (c'.1 ∙ v e.calls_made)

conserves : (d : HeldDay) → distinct d.first ≡ true → ByTheRules d → ConservedDay d.first d.told (book_of d.end)
conserves d apart b n some =
    let P : List Entry → State → Type 0 = λ l z. ConservedDay d.first l (book_of z) in
    let r = d.rules in
    let s = in_pre_call d.first d.waiting in
    let all : ConservedDay d.first (record_of r s d.calls_made) (book_of (end_of r s d.calls_made)) =
    λ m h. day_keeps m h r (λ q ts. auction_balance m h r.grid.tick q ts) (λ q ts. auction_distinct r.grid.tick q ts) s d.calls_made apart in
    subst (λ l. P l d.end) (sym b.told_right) (subst (λ z. P (record_of r s d.calls_made) z) (sym b.end_right) all) n some

pub side_by_side : (d e : HeldDay) → distinct d.first ≡ true → distinct e.first ≡ true → ByTheRules d → ByTheRules e → SideBySide d e
side_by_side d e x y b c =
    let s = in_pre_call d.first d.waiting in
    record {
      rules_first = b;
      rules_second = c;
      sealed = λ same. sealed d.rules s d.told e.told (lawful d.rules s d.told d.calls_made b.told_right) (lawful d.rules s e.told e.calls_made (as_of d e same c).0);
      delayed = delays d e b c;
      conserved_first = conserves d x b;
      conserved_second = conserves e y c;
    }

-- one call more of a day
pub record Running (r : Rules) (s : State) (cs : List Call) (k : ℕ) (before now_told : List Entry) (t : State) : Type 0 where
  pub told : now_told ≡ before ++ record_of r s (take k cs)
  pub state : t ≡ end_of r s (take k cs)

pub begun : (r : Rules) (s : State) (cs : List Call) (before : List Entry) → Running r s cs 0 before before s
begun r s cs before = record { told = sym (append-nil before); state = refl }

pub one_more : (r r' : Rules) (s : State) (cs : List Call) (k : ℕ) (d : Call) (before told told' : List Entry) (t t' : State) → k < length cs → r' ≡ r →
    Running r s cs k before told t → Turned r' t (get_or cs k d) told told' t' → Running r s cs (k + 1) before told' t'
one_more r r' s cs k d before told told' t t' h same run step' =
    let step : Turned r t (get_or cs k d) told told' t' = subst (λ x. Turned x t (get_or cs k d) told told' t') same step' in
    let more : take (k + 1) cs ≡ take k cs ++ get_or cs k d ∷ [] = take_more cs k d h in
    let c = get_or cs k d in
    let here : turn r t c ≡ turn r (end_of r s (take k cs)) c = ap (λ x. turn r x c) run.state in
    record {
      told =
          step.told
          ∙ (λ i. run.told i ++ (here i).entry ∷ [])
          ∙ append_assoc before (record_of r s (take k cs)) ((turn r (end_of r s (take k cs)) c).entry ∷ [])
          ∙ ap (λ l. before ++ l) (sym (record-++ r s (take k cs) (c ∷ [])) ∙ ap (record_of r s) (sym more));
      state = step.state ∙ ap (λ x. x.state) here ∙ sym (end-++ r s (take k cs) (c ∷ [])) ∙ ap (end_of r s) (sym more);
    }

-- what was carried out so far
pub ran : {r : Rules} {s : State} {cs : List Call} {k k' : ℕ} {before told : List Entry} {t : State} → k' ≡ k → Running r s cs k before told t →
    (told ≡ before ++ record_of r s (take k' cs)) × (t ≡ end_of r s (take k' cs))
ran {r} {s} {cs} {k} {k'} {before} {told} {t} e run =
    (run.told ∙ ap (λ n. before ++ record_of r s (take n cs)) (sym e), run.state ∙ ap (λ n. end_of r s (take n cs)) (sym e))

-- the same slots after two steps
pub kept_on : (l m n : WaitingLine (Instruction Order)) → StockKept l m → StockKept m n → StockKept l n
kept_on l m n a b = record { room = b.room ∙ a.room; lent = b.lent ∙ a.lent }

-- what a journal tells since a day's start
pub by_rules : (g : Grid) (room : ℕ) (l : WaitingLine (Instruction Order)) (ts : List Terms) (calls : List Call) (n : ℕ) (before after : List Entry) (end : State) →
    after ≡ before ++ record_of (rules_of g room l) (in_pre_call ts (held_in l)) (take n calls) → end ≡ end_of (rules_of g room l) (in_pre_call ts (held_in l)) (take n calls) →
    ByTheRules (day_held g room l ts calls n before after end)
by_rules g room l ts calls n before after end e f =
    record { told_right = ap (drop (length before)) e ∙ drop_at before _ (length before) refl; end_right = f }
