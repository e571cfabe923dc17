-- What is sent in a freeze does not reach its matches.
use Rattle.std.proofs.Common.{◌≡◌, ℕ, List, [], ◌∷◌, ◌++◌, length, Some, None, Ok, Err, Option, Result, sym, refl, ap, ◌∙◌, subst}
use Rattle.orders.specs.Checks.{checked}
use Rattle.orders.specs.declared.instruction.Instruction.{Instruction}
use Rattle.orders.specs.declared.refusal.Refusal.{Refusal}
use Rattle.orders.specs.declared.terms.Terms.{Terms}
use Rattle.orders.specs.declared.ticket.Ticket.{Ticket}
use Rattle.pricing.specs.declared.trial.TrialPrice.{TrialPrice}
use Rattle.pricing.specs.declared.trial.TrialPrice.TheVariants as found
use Rattle.auction.specs.Auctions.{Auction, auction_under}
use Rattle.locked_stock.specs.Receipts.{entries_fault}
use Rattle.engine.specs.Freezes.{admitted_to, match_fault, matched_as}
use Rattle.days.specs.Days.{Rules, State, in_pre_call, in_freeze, Entry, Turn, waits, meets, lifts, turn, record_of, end_of}
use Rattle.days.specs.Sealed.{calls, other_calls, but_receipts, MatchTold, freeze_matches, SealedFreeze}
use Rattle.days.specs.declared.answer.Answer.TheVariants as answer
use Rattle.days.specs.declared.call.Call.{Call}
use Rattle.days.specs.declared.call.Call.TheVariants.{Send, Freeze, Match, Lift}
use Rattle.days.proofs.Records.{Lawful, later, earlier}

-- the number of receipts is all that a match's answer tells of what was held
uncounted_same : (t : TrialPrice) (fills m n : ℕ) → but_receipts (matched_as t fills m) ≡ but_receipts (matched_as t fills n)
uncounted_same (found.Priced p k z stops) fills m n = refl
uncounted_same (found.Unpriced stops) fills m n = refl

-- the matches of a freeze in which these calls follow
abbrev matches_from : Rules → List Terms → List (Instruction Terms) → List Call → List MatchTold
matches_from r ts held cs = freeze_matches (record_of r (in_freeze ts held) cs)

-- the same, after one turn
abbrev matches_after : Rules → Turn → List Call → List MatchTold
matches_after r t cs = freeze_matches (t.entry ∷ record_of r t.state cs)

send_unheard : (r : Rules) (ts : List Terms) (cs : List Call) (held : List (Instruction Terms)) (i : Instruction Ticket) (x : Result (Instruction Terms) Refusal) →
    ((hs : List (Instruction Terms)) → matches_from r ts hs cs ≡ matches_from r ts [] (other_calls cs)) →
    matches_after r (waits ts held i x) cs ≡ matches_from r ts [] (other_calls cs)
send_unheard r ts cs held i (Ok j) ih = ih (held ++ j ∷ [])
send_unheard r ts cs held i (Err e) ih = ih held

meet_unheard : (r : Rules) (ts : List Terms) (cs ds : List Call) (held : List (Instruction Terms)) (q : Rattle.pricing.specs.declared.quote.Quote.Quote) (f n : ℕ) (a : Auction) (x : Option Refusal) →
    matches_from r ts held cs ≡ matches_from r ts [] ds →
    matches_after r (meets r held (Match q f n) a ts x) cs ≡ matches_after r (meets r [] (Match q f n) a ts x) ds
meet_unheard r ts cs ds held q f n a (Some e) ih = ap (λ l. record { answer = answer.Refused e; triggered = []; fills = [] } ∷ l) ih
meet_unheard r ts cs ds held q f n a None ih =
    ap (λ m. record { answer = answer.Matched m; triggered = a.triggered; fills = a.fills } ∷ []) (uncounted_same a.found (length a.fills) (length held) 0)

lift_unheard : (r : Rules) (ts : List Terms) (cs ds : List Call) (held : List (Instruction Terms)) (n : ℕ) (x : Option Refusal) →
    matches_from r ts held cs ≡ matches_from r ts [] ds →
    matches_after r (lifts r held (Lift n) ts x) cs ≡ matches_after r (lifts r [] (Lift n) ts x) ds
lift_unheard r ts cs ds held n (Some e) ih = ih
lift_unheard r ts cs ds held n None ih = refl

-- the matches of a freeze are those of the same freeze with nothing sent in it
unheard : (r : Rules) (ts : List Terms) (cs : List Call) (held : List (Instruction Terms)) → matches_from r ts held cs ≡ matches_from r ts [] (other_calls cs)
unheard r ts [] held = refl
unheard r ts (Send i ∷ cs) held = send_unheard r ts cs held i (admitted_to r.stock held (checked r.grid i)) (unheard r ts cs)
unheard r ts (Freeze ∷ cs) held = unheard r ts cs held
unheard r ts (Match q f n ∷ cs) held = meet_unheard r ts cs (other_calls cs) held q f n (auction_under r.grid.tick q ts) (match_fault r.grid r.stock q f n ts) (unheard r ts cs held)
unheard r ts (Lift n ∷ cs) held = lift_unheard r ts cs (other_calls cs) held n (entries_fault n r.stock) (unheard r ts cs held)

-- after a freeze, begun now or open already, the matches depend on nothing that is sent in it
after_freeze : (r : Rules) (s : State) (xs ys : List Call) → other_calls xs ≡ other_calls ys →
    freeze_matches (record_of r (turn r s Freeze).state xs) ≡ freeze_matches (record_of r (turn r s Freeze).state ys)
after_freeze r (in_pre_call ts held) xs ys e = unheard r ts xs held ∙ ap (matches_from r ts []) e ∙ sym (unheard r ts ys held)
after_freeze r (in_freeze ts held) xs ys e = unheard r ts xs held ∙ ap (matches_from r ts []) e ∙ sym (unheard r ts ys held)

-- the entries of a freeze are the record of its calls
freeze_part : (r : Rules) (s : State) (day before inside rest : List Entry) (f : Entry) → Lawful r s day → day ≡ before ++ f ∷ (inside ++ rest) → f.call ≡ Freeze →
    inside ≡ record_of r (turn r (end_of r s (calls before)) Freeze).state (calls inside)
freeze_part r s day before inside rest f l e c =
    let begun : Lawful r (end_of r s (calls before)) (f ∷ (inside ++ rest)) = later r s before (f ∷ (inside ++ rest)) (subst (Lawful r s) e l) in
    let from : Lawful r (turn r (end_of r s (calls before)) f.call).state (inside ++ rest) = later r (end_of r s (calls before)) (f ∷ []) (inside ++ rest) begun in
    let P : Call → Type 0 = λ x. Lawful r (turn r (end_of r s (calls before)) x).state inside in
    subst P c (earlier r (turn r (end_of r s (calls before)) f.call).state inside rest from)

pub sealed : (r : Rules) (s : State) (one two : List Entry) → Lawful r s one → Lawful r s two → SealedFreeze one two
sealed r s one two l l' before before' inside inside' rest rest' f f' e e' c c' same but =
    ap freeze_matches (freeze_part r s one before inside rest f l e c)
    ∙ ap (λ cs. freeze_matches (record_of r (turn r (end_of r s cs) Freeze).state (calls inside))) same
    ∙ after_freeze r (end_of r s (calls before')) (calls inside) (calls inside') but
    ∙ sym (ap freeze_matches (freeze_part r s two before' inside' rest' f' l' e' c'))
