-- A match in a freeze, by its fault.
use Rattle.std.proofs.Common.{◌≡◌, ℕ, ◌≤◌, min, Bool, true, false, cond, ltb, List, [], ◌∷◌, length, take, drop, Some, None, Ok, Err, filter, Option, Result, sym, refl, ap, ◌∙◌, arith, length-append}
use Rattle.std.proofs.lemmas.List.{take_at, take_all, length-map}
use Rattle.std.proofs.lemmas.List.Sums.{length-filter}
use Rattle.std.proofs.lemmas.Bool.Decides.{nat_tests}
use Rattle.orders.proofs.Answering.{refused_by, not_refused, answered_as}
use Rattle.orders.specs.Ticks.{Grid}
use Rattle.orders.specs.declared.instruction.Instruction.{Instruction}
use Rattle.orders.specs.declared.order.Order.{Order}
use Rattle.orders.specs.declared.refusal.Refusal.{Refusal}
use Rattle.orders.specs.declared.terms.Terms.{Terms}
use Rattle.pricing.specs.Answers.{trial_of}
use Rattle.pricing.specs.Price.{none_trades}
use Rattle.pricing.specs.Stops.{after_stops, triggered_by, made_ready, triggered_orders, stop_count}
use Rattle.pricing.specs.declared.quote.Quote.{Quote}
use Rattle.pricing.specs.declared.trial.TrialPrice.{TrialPrice}
use Rattle.pricing.specs.declared.trial.TrialPrice.TheVariants as found
use Rattle.settling.specs.declared.fill.Fill.{Fill}
use Rattle.pairing.specs.Answers.{in_front}
use Rattle.auction.specs.Auctions.{Auction, auction_under}
use Rattle.waiting_line.specs.Lines.{room_of}
use Rattle.waiting_line.specs.declared.line.WaitingLine.{WaitingLine}
use Rattle.instructions.specs.Effects.{carried_book}
use Rattle.locked_stock.specs.Holding.{held_in}
use Rattle.locked_stock.specs.Receipts.{receipts_of, book_after, entries_after, entries_fault}
use Rattle.locked_stock.specs.declared.receipt.Receipt.{Receipt}
use Rattle.engine.specs.Freezes.{match_fault, matched_as}
use Rattle.engine.specs.Matches.{match_refusal, MatchHeld}
use Rattle.engine.specs.declared.matched.Matched.{Matched}
use Rattle.days.specs.Counts.{stops_in, fills_in, receipts_in}
use Rattle.days.specs.Days.{State, in_pre_call, in_freeze, Turn, meets, turn}
use Rattle.days.specs.Phases.{rules_of}
use Rattle.days.specs.Steps.{SameFault, CarriedOut}
use Rattle.days.specs.Journals.{entry_with}
use Rattle.days.specs.declared.answer.Answer.TheVariants as answer
use Rattle.days.specs.declared.answer.Answer.{Answer}
use Rattle.days.specs.declared.call.Call.TheVariants.{Match}

-- what the answer of a match counts
counts : (t : TrialPrice) (f n : ℕ) → (fills_in (answer.Matched (matched_as t f n)) ≡ f) × (receipts_in (answer.Matched (matched_as t f n)) ≡ n)
counts (found.Priced p k z stops) f n = (refl, refl)
counts (found.Unpriced stops) f n = (refl, refl)

stops_by : (b : Bool) (p k : ℕ) (z : lib.IntN.ℤ) (n f r : ℕ) → stops_in (answer.Matched (matched_as (cond b (found.Unpriced n) (found.Priced p k z n)) f r)) ≡ n
stops_by true p k z n f r = refl
stops_by false p k z n f r = refl

-- as many orders are triggered as are counted
triggered_counted : (q : Quote) (ts : List Terms) → length (triggered_orders q ts) ≡ stop_count q ts
triggered_counted q ts = length-map (filter (triggered_by q) ts) made_ready ∙ length-filter (triggered_by q) ts

counted_stops : (tick : ℕ) (q : Quote) (ts : List Terms) (f n : ℕ) → stops_in (answer.Matched (matched_as (trial_of tick q ts) f n)) ≡ length (triggered_orders q ts)
counted_stops tick q ts f n = stops_by (none_trades q (after_stops q ts)) _ _ _ (stop_count q ts) f n ∙ sym (triggered_counted q ts)

pub length_receipts : (room : ℕ) (is : List (Instruction Terms)) (ts : List Terms) → length (receipts_of room is ts) ≡ length is
length_receipts room [] ts = refl
length_receipts room (i ∷ is) ts = omega (arith, length_receipts room is (carried_book room i ts))

-- a match as the rules have it: its entry read off the arrays, and the state after it
record MatchTold (g : Grid) (room : ℕ) (l : WaitingLine (Instruction Order)) (ts : List Terms) (q : Quote) (f n : ℕ) (a : Answer) (filled : List Fill) (told : List Receipt) (t : State) : Type 0 where
  entry : entry_with (record { call = Match q f n; answer = a }) (triggered_orders q ts) filled told ≡ (turn (rules_of g room l) (in_freeze ts (held_in l)) (Match q f n)).entry
  state : t ≡ (turn (rules_of g room l) (in_freeze ts (held_in l)) (Match q f n)).state
  stops : stops_in a ≤ length (triggered_orders q ts)
  fills : fills_in a ≤ length filled
  receipts : receipts_in a ≤ length told

module _ (g : Grid) (room : ℕ) (l : WaitingLine (Instruction Order)) (ts : List Terms) (q : Quote) (lent_fills lent_receipts : ℕ) where
  abbrev held : List (Instruction Terms)
  held = held_in l

  abbrev auctioned : Auction
  auctioned = auction_under g.tick q ts

  abbrev by_fault : Option Refusal → Turn
  by_fault x = meets (rules_of g room l) held (Match q lent_fills lent_receipts) auctioned ts x

  -- a refused match
  refused : (e : Refusal) (filled : List Fill) (told : List Receipt) (t : State) → match_fault g (rules_of g room l).stock q lent_fills lent_receipts ts ≡ Some e → t ≡ in_freeze ts held → MatchTold g room l ts q lent_fills lent_receipts (answer.Refused e) filled told t
  refused e filled told t h s =
      record {
        entry = ap (λ x. (by_fault x).entry) (sym h);
        state = s ∙ ap (λ x. (by_fault x).state) (sym h);
        stops = omega arith;
        fills = omega arith;
        receipts = omega arith;
      }

  -- a match that is held
  met : (x : Matched) (filled : List Fill) (fills₀ : List Fill) (told : List Receipt) (told₀ : List Receipt) (t : State) → match_fault g (rules_of g room l).stock q lent_fills lent_receipts ts ≡ None →
      x ≡ matched_as auctioned.found (length auctioned.fills) (length held) → filled ≡ in_front auctioned.fills fills₀ → told ≡ entries_after room held auctioned.book told₀ →
      t ≡ in_pre_call (book_after room held auctioned.book) [] → MatchTold g room l ts q lent_fills lent_receipts (answer.Matched x) filled told t
  met x filled fills₀ told told₀ t h e f r s =
      let a = answer.Matched x in
      let c = counts auctioned.found (length auctioned.fills) (length held) in
      let n : stops_in a ≡ length (triggered_orders q ts) = ap (λ y. stops_in (answer.Matched y)) e ∙ counted_stops g.tick q ts (length auctioned.fills) (length held) in
      let k : fills_in a ≡ length auctioned.fills = ap (λ y. fills_in (answer.Matched y)) e ∙ c.0 in
      let j : receipts_in a ≡ length held = ap (λ y. receipts_in (answer.Matched y)) e ∙ c.1 in
      let rs = receipts_of room held auctioned.book in
      let long : length rs ≡ receipts_in a = length_receipts room held auctioned.book ∙ sym j in
      let ts_told : take (stops_in a) (triggered_orders q ts) ≡ auctioned.triggered = take_all (stops_in a) (triggered_orders q ts) (omega arith) in
      let fs_told : take (fills_in a) filled ≡ auctioned.fills = ap (take (fills_in a)) f ∙ take_at auctioned.fills (drop (length auctioned.fills) fills₀) (fills_in a) (sym k) in
      let rs_told : take (receipts_in a) told ≡ rs = ap (take (receipts_in a)) r ∙ take_at rs (drop (length held) told₀) (receipts_in a) long in
      record {
        entry =
            (λ i. record { call = Match q lent_fills lent_receipts; answer = answer.Matched (e i); triggered = ts_told i; fills = fs_told i; receipts = rs_told i })
            ∙ ap (λ y. (by_fault y).entry) (sym h);
        state = s ∙ ap (λ y. (by_fault y).state) (sym h);
        stops = omega arith;
        fills = omega (arith, ap length f, length-append auctioned.fills (drop (length auctioned.fills) fills₀));
        receipts = omega (arith, ap length r, length-append rs (drop (length held) told₀));
      }

  module _ (fills fills' : List Fill) (receipts receipts' : List Receipt) (room' : ℕ) (l' : WaitingLine (Instruction Order)) (ts' : List Terms) (same : SameFault g l ts q (length fills) (length receipts) lent_fills lent_receipts) where
    -- over any arrays that are refused as these are
    carried : (g' : Grid) (a : Answer) (t : State) (r : Result Matched Refusal) → g' ≡ g → MatchHeld g q room l ts fills receipts r room' l' ts' fills' receipts' → MatchTold g room l ts q lent_fills lent_receipts a fills' receipts' t →
        CarriedOut g room l (in_freeze ts (held_in l)) (Match q lent_fills lent_receipts) a fills' receipts' g' room' l' t
    carried g' a t r e h m =
        record { entry = m.entry; state = m.state; stops = m.stops; fills = m.fills; receipts = m.receipts; grid = e; kept = record { room = ap room_of h.slots; lent = h.lent }; same = h.same }

    pub carried_refused : (g' : Grid) (e : Refusal) → g' ≡ g → MatchHeld g q room l ts fills receipts (Err e) room' l' ts' fills' receipts' →
        CarriedOut g room l (in_freeze ts (held_in l)) (Match q lent_fills lent_receipts) (answer.Refused e) fills' receipts' g' room' l' (in_freeze ts' (held_in l'))
    carried_refused g' e p h =
        let some = refused_by (match_refusal g q l ts fills receipts) _ e h.value in
        carried g' _ _ (Err e) p h (refused e fills' receipts' (in_freeze ts' (held_in l')) (sym same ∙ some) (λ i. in_freeze ((rw some at h.book) i) ((rw some at h.held) i)))

    pub carried_matched : (g' : Grid) (x : Matched) → g' ≡ g → MatchHeld g q room l ts fills receipts (Ok x) room' l' ts' fills' receipts' →
        CarriedOut g room l (in_freeze ts (held_in l)) (Match q lent_fills lent_receipts) (answer.Matched x) fills' receipts' g' room' l' (in_pre_call ts' (held_in l'))
    carried_matched g' x p h =
        let none = not_refused (match_refusal g q l ts fills receipts) _ x h.value in
        carried g' _ _ (Ok x) p h (met x fills' fills receipts' receipts (in_pre_call ts' (held_in l')) (sym same ∙ none)
        (answered_as (match_refusal g q l ts fills receipts) _ x h.value) (rw none at h.filled) (rw none at h.receipted)
        (λ i. in_pre_call ((rw none at h.book) i) ((rw none at h.held) i)))

-- arrays of at most 256 entries are refused as longer ones are
capped : (n k : ℕ) → k ≤ 256 → ltb (min n 256) k ≡ ltb n k
capped n k h = grind (arith, nat_tests)

pub capped_fault : (g : Grid) (stock : ℕ) (q : Quote) (f n : ℕ) (ts : List Terms) → stock ≤ 256 → length ts ≤ 256 → match_fault g stock q (min f 256) (min n 256) ts ≡ match_fault g stock q f n ts
capped_fault g stock q f n ts h k = rw (capped f (length ts) k, capped n stock h)

pub capped_entries : (n stock : ℕ) → stock ≤ 256 → entries_fault (min n 256) stock ≡ entries_fault n stock
capped_entries n stock h = rw (capped n stock h)
