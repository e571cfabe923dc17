-- A day and its delayed twin.
use Rattle.std.proofs.Common.{◌≡◌, ℕ, Bool, true, false, cond, eqb, List, [], ◌∷◌, ◌++◌, length, Some, None, Ok, Err, Option, Result, sym, refl, ap, ◌∙◌, subst}
use Rattle.orders.specs.Checks.{checked}
use Rattle.orders.specs.Ticks.{Grid}
use Rattle.orders.specs.declared.instruction.Instruction.{Instruction}
use Rattle.orders.specs.declared.refusal.Refusal.{Refusal}
use Rattle.orders.specs.declared.refusal.Refusal.TheVariants.{LockedStockFull}
use Rattle.orders.specs.declared.terms.Terms.{Terms}
use Rattle.orders.specs.declared.ticket.Ticket.{Ticket}
use Rattle.pricing.specs.declared.quote.Quote.{Quote}
use Rattle.pricing.specs.declared.trial.TrialPrice.{TrialPrice}
use Rattle.pricing.specs.declared.trial.TrialPrice.TheVariants as found
use Rattle.auction.specs.Auctions.{Auction, auction_under}
use Rattle.instructions.specs.Effects.{carried_answer, carried_book}
use Rattle.instructions.specs.declared.effect.Effect.{Effect}
use Rattle.locked_stock.specs.Receipts.{receipts_of, book_after, entries_fault}
use Rattle.engine.specs.Freezes.{admitted_to, match_fault, matched_as}
use Rattle.engine.specs.PreCalls.{answer_once, book_once, sent_answer, sent_book}
use Rattle.days.specs.Days.{Rules, State, in_pre_call, in_freeze, book_of, Entry, Turn, plain, answer_of, waits, meets, lifts, turn, record_of, end_of}
use Rattle.days.specs.Delayed.{Where, outside, inside, moved_on, sent_later, retold}
use Rattle.days.specs.Sealed.{calls, but_receipts}
use Rattle.days.specs.declared.answer.Answer.TheVariants as answer
use Rattle.days.specs.declared.call.Call.{Call}
use Rattle.days.specs.declared.call.Call.TheVariants.{Send, Freeze, Match, Lift}
use Rattle.days.proofs.Turning.{call_same}

-- l is the record of its calls from s, and k the book at their end
abbrev Goes : Rules → State → List Entry → List Terms → Type 0
Goes r s l k = (record_of r s (calls l) ≡ l) × (book_of (end_of r s (calls l)) ≡ k)

-- one call first
goes_cons : (r : Rules) (s : State) (c : Call) (t : Turn) (l : List Entry) (k : List Terms) → turn r s c ≡ t → Goes r t.state l k → Goes r s (t.entry ∷ l) k
goes_cons r s c t l k e =
    let P : Turn → Type 0 = λ x. Goes r x.state l k → Goes r s (x.entry ∷ l) k in
    let Q : Call → Type 0 = λ x. (record_of r s (x ∷ calls l) ≡ (turn r s c).entry ∷ l) × (book_of (end_of r s (x ∷ calls l)) ≡ k) in
    subst P e (λ g. subst Q (sym (call_same r s c)) (ap (λ m. (turn r s c).entry ∷ m) g.0, g.1))

-- the instructions of a freeze as they were sent, and as they wait
abbrev Pending : Grid → List (Instruction Ticket) → List (Instruction Terms) → Type 0
Pending g [] [] = Unit {0}
Pending g [] (j ∷ js) = ⊥
Pending g (i ∷ is) [] = ⊥
Pending g (i ∷ is) (j ∷ js) = (checked g i ≡ Ok j) × Pending g is js

pending_push : (g : Grid) (is : List (Instruction Ticket)) (js : List (Instruction Terms)) (i : Instruction Ticket) (j : Instruction Terms) → Pending g is js → checked g i ≡ Ok j → Pending g (is ++ i ∷ []) (js ++ j ∷ [])
pending_push g [] [] i j p e = (e, tt)
pending_push g [] (x ∷ js) i j p e = absurd p
pending_push g (x ∷ is) [] i j p e = absurd p
pending_push g (x ∷ is) (y ∷ js) i j p e = (p.0, pending_push g is js i j p.1 e)

not_full : (b : Bool) (x : Result (Instruction Terms) Refusal) (j : Instruction Terms) → cond b (Err LockedStockFull) x ≡ Ok j → x ≡ Ok j
not_full true x j h = cc
not_full false x j h = h

-- what is admitted to the locked stock is what was checked
admitted_checked : (stock : ℕ) (held : List (Instruction Terms)) (x : Result (Instruction Terms) Refusal) (j : Instruction Terms) → admitted_to stock held x ≡ Ok j → x ≡ Ok j
admitted_checked stock held (Err e) j h = cc
admitted_checked stock held (Ok i) j h = not_full (eqb (length held) stock) (Ok i) j h

-- what was held, sent on its own: each answer is the one that the receipt tells
one_sent : (r : Rules) (ts : List Terms) (i : Instruction Ticket) (j : Instruction Terms) → checked r.grid i ≡ Ok j →
    turn r (in_pre_call ts []) (Send i) ≡ record { entry = plain (Send i) (answer_of (carried_answer r.room j ts)); state = in_pre_call (carried_book r.room j ts) [] }
one_sent r ts i j e = ap (λ x. record { entry = plain (Send i) (answer_of (answer_once x r.room ts)); state = in_pre_call (book_once x r.room ts) [] }) e

sent_goes : (r : Rules) (ts : List Terms) (is : List (Instruction Ticket)) (js : List (Instruction Terms)) (l : List Entry) (k : List Terms) → Pending r.grid is js →
    Goes r (in_pre_call (book_after r.room js ts) []) l k → Goes r (in_pre_call ts []) (sent_later is (receipts_of r.room js ts) ++ l) k
sent_goes r ts [] [] l k p g = g
sent_goes r ts [] (j ∷ js) l k p g = absurd p
sent_goes r ts (i ∷ is) [] l k p g = absurd p
sent_goes r ts (i ∷ is) (j ∷ js) l k p g =
    goes_cons r (in_pre_call ts []) (Send i) _ _ k (one_sent r ts i j p.0) (sent_goes r (carried_book r.room j ts) is js l k p.1 g)

-- what is to be shown of the calls that follow: from outside a freeze, and from inside one
record Twin (r : Rules) (cs : List Call) : Type 0 where
  out : (ts : List Terms) → Goes r (in_pre_call ts []) (retold outside (record_of r (in_pre_call ts []) cs)) (book_of (end_of r (in_pre_call ts []) cs))
  within : (ts : List Terms) (is : List (Instruction Ticket)) (js : List (Instruction Terms)) → Pending r.grid is js →
      Goes r (in_freeze ts []) (retold (inside is) (record_of r (in_freeze ts js) cs)) (book_of (end_of r (in_freeze ts js) cs))

-- the twin's record from a turn of the first day in a freeze, and the rest
abbrev Rest : Rules → List Terms → List (Instruction Ticket) → List Call → Turn → Type 0
Rest r ts is cs t = Goes r (in_freeze ts []) (retold (inside is) (t.entry ∷ record_of r t.state cs)) (book_of (end_of r t.state cs))

send_delayed : (r : Rules) (cs : List Call) → Twin r cs → (ts : List Terms) (is : List (Instruction Ticket)) (js : List (Instruction Terms)) → Pending r.grid is js →
    (i : Instruction Ticket) (x : Result (Instruction Terms) Refusal) → admitted_to r.stock js (checked r.grid i) ≡ x → Rest r ts is cs (waits ts js i x)
send_delayed r cs w ts is js p i (Ok j) e = w.within ts (is ++ i ∷ []) (js ++ j ∷ []) (pending_push r.grid is js i j p (admitted_checked r.stock js (checked r.grid i) j e))
send_delayed r cs w ts is js p i (Err e) h = w.within ts is js p

unreceipted : (t : TrialPrice) (fills n : ℕ) → matched_as t fills 0 ≡ but_receipts (matched_as t fills n)
unreceipted (found.Priced p k z stops) fills n = refl
unreceipted (found.Unpriced stops) fills n = refl

match_delayed : (r : Rules) (cs : List Call) → Twin r cs → (ts : List Terms) (is : List (Instruction Ticket)) (js : List (Instruction Terms)) → Pending r.grid is js →
    (q : Quote) (f n : ℕ) (a : Auction) → a ≡ auction_under r.grid.tick q ts → (x : Option Refusal) → match_fault r.grid r.stock q f n ts ≡ x → Rest r ts is cs (meets r js (Match q f n) a ts x)
match_delayed r cs w ts is js p q f n a s (Some e) h =
    goes_cons r (in_freeze ts []) (Match q f n) _ _ _ (ap (meets r [] (Match q f n) (auction_under r.grid.tick q ts) ts) h) (w.within ts is js p)
match_delayed r cs w ts is js p q f n a s None h =
    goes_cons r (in_freeze ts []) (Match q f n) (record { entry = record { call = Match q f n; answer = answer.Matched (but_receipts (matched_as a.found (length a.fills) (length js))); triggered = a.triggered; fills = a.fills; receipts = [] }; state = in_pre_call a.book [] }) _ _
    (ap (meets r [] (Match q f n) (auction_under r.grid.tick q ts) ts) h
    ∙ ap (λ b. meets r [] (Match q f n) b ts None) (sym s)
    ∙ ap (λ m. record { entry = record { call = Match q f n; answer = answer.Matched m; triggered = a.triggered; fills = a.fills; receipts = [] }; state = in_pre_call a.book [] }) (unreceipted a.found (length a.fills) (length js)))
    (sent_goes r a.book is js _ _ p (w.out (book_after r.room js a.book)))

lift_delayed : (r : Rules) (cs : List Call) → Twin r cs → (ts : List Terms) (is : List (Instruction Ticket)) (js : List (Instruction Terms)) → Pending r.grid is js →
    (n : ℕ) (x : Option Refusal) → entries_fault n r.stock ≡ x → Rest r ts is cs (lifts r js (Lift n) ts x)
lift_delayed r cs w ts is js p n (Some e) h =
    goes_cons r (in_freeze ts []) (Lift n) _ _ _ (ap (lifts r [] (Lift n) ts) h) (w.within ts is js p)
lift_delayed r cs w ts is js p n None h =
    goes_cons r (in_freeze ts []) (Lift n) _ _ _ (ap (lifts r [] (Lift n) ts) h) (sent_goes r ts is js _ _ p (w.out (book_after r.room js ts)))

-- an instruction's answer leaves a day outside a freeze
still_outside : (c : Call) (y : Result Effect Refusal) → moved_on outside c (answer_of y) ≡ outside
still_outside c (Ok e) = refl
still_outside c (Err e) = refl

from_outside : (r : Rules) (c : Call) (cs : List Call) → Twin r cs → (ts : List Terms) → Goes r (in_pre_call ts []) (retold outside (record_of r (in_pre_call ts []) (c ∷ cs))) (book_of (end_of r (in_pre_call ts []) (c ∷ cs)))
from_outside r (Send i) cs w ts =
    let y = sent_answer r.grid r.room i ts in
    let us = sent_book r.grid r.room i ts in
    let day = record_of r (in_pre_call us []) cs in
    let k = book_of (end_of r (in_pre_call us []) cs) in
    let P : Where → Type 0 = λ x. Goes r (in_pre_call us []) (retold x day) k in
    goes_cons r (in_pre_call ts []) (Send i) _ _ k refl (subst P (sym (still_outside (Send i) y)) (w.out us))
from_outside r Freeze cs w ts = goes_cons r (in_pre_call ts []) Freeze _ _ _ refl (w.within ts [] [] tt)
from_outside r (Match q f n) cs w ts = goes_cons r (in_pre_call ts []) (Match q f n) _ _ _ refl (w.out ts)
from_outside r (Lift n) cs w ts = goes_cons r (in_pre_call ts []) (Lift n) _ _ _ refl (w.out ts)

from_inside : (r : Rules) (c : Call) (cs : List Call) → Twin r cs → (ts : List Terms) (is : List (Instruction Ticket)) (js : List (Instruction Terms)) → Pending r.grid is js →
    Goes r (in_freeze ts []) (retold (inside is) (record_of r (in_freeze ts js) (c ∷ cs))) (book_of (end_of r (in_freeze ts js) (c ∷ cs)))
from_inside r (Send i) cs w ts is js p = send_delayed r cs w ts is js p i (admitted_to r.stock js (checked r.grid i)) refl
from_inside r Freeze cs w ts is js p = goes_cons r (in_freeze ts []) Freeze _ _ _ refl (w.within ts is js p)
from_inside r (Match q f n) cs w ts is js p = match_delayed r cs w ts is js p q f n (auction_under r.grid.tick q ts) refl (match_fault r.grid r.stock q f n ts) refl
from_inside r (Lift n) cs w ts is js p = lift_delayed r cs w ts is js p n (entries_fault n r.stock) refl

twin : (r : Rules) (cs : List Call) → Twin r cs
twin r [] = record { out = λ ts. (refl, refl); within = λ ts is js p. (refl, refl) }
twin r (c ∷ cs) = let w = twin r cs in record { out = from_outside r c cs w; within = from_inside r c cs w }

-- a day from a pre-call with nothing held, and one that makes the calls of its record retold
pub delayed : (r : Rules) (ts : List Terms) (cs ds : List Call) →
    ds ≡ calls (retold outside (record_of r (in_pre_call ts []) cs)) →
    (record_of r (in_pre_call ts []) ds ≡ retold outside (record_of r (in_pre_call ts []) cs)) × (book_of (end_of r (in_pre_call ts []) ds) ≡ book_of (end_of r (in_pre_call ts []) cs))
delayed r ts cs ds e =
    let P : List Call → Type 0 = λ x. (record_of r (in_pre_call ts []) x ≡ retold outside (record_of r (in_pre_call ts []) cs)) × (book_of (end_of r (in_pre_call ts []) x) ≡ book_of (end_of r (in_pre_call ts []) cs)) in
    subst P (sym e) ((twin r cs).out ts)
