-- The notes of a journal give the calls of the record that it tells.
use Rattle.std.proofs.Common.{◌≡◌, ℕ, ◌+◌, ◌<◌, ◌≤◌, List, [], ◌∷◌, ◌++◌, map, length, get_or, take, drop, sum_by, sym, refl, ap, ◌∙◌, arith, length-drop}
use Rattle.std.proofs.lemmas.List.{append_assoc, append-nil, length-take-le, at_drop_more, at_drop_all}
use Rattle.std.proofs.lemmas.List.Sums.{sum_by-cons}
use Rattle.orders.specs.declared.instruction.Instruction.{Instruction}
use Rattle.orders.specs.declared.terms.Terms.{Terms}
use Rattle.orders.specs.declared.ticket.Ticket.{Ticket}
use Rattle.settling.specs.declared.fill.Fill.{Fill}
use Rattle.locked_stock.specs.declared.receipt.Receipt.{Receipt}
use Rattle.days.specs.Counts.{stops_in, fills_in, receipts_in}
use Rattle.days.specs.Days.{Entry}
use Rattle.days.specs.Delayed.{Where, outside, inside, moved_on, sent_later, retold, retold_entry, kept_call}
use Rattle.days.specs.Journals.{entry_with, entries_of}
use Rattle.days.specs.Sealed.{calls}
use Rattle.days.specs.declared.answer.Answer.{Answer}
use Rattle.days.specs.declared.answer.Answer.TheVariants.{Done, Held, Frozen, Matched, Lifted, Refused}
use Rattle.days.specs.declared.call.Call.{Call}
use Rattle.days.specs.declared.call.Call.TheVariants.{Send, Freeze, Match, Lift}
use Rattle.days.specs.declared.note.Note.{Note}
use Rattle.twin_calls.specs.Steps.{kept, twin_of, twin_from, Noted}

calls-++ : (xs ys : List Entry) → calls (xs ++ ys) ≡ calls xs ++ calls ys
calls-++ [] ys = refl
calls-++ (x ∷ xs) ys = ap (λ l. x.call ∷ l) (calls-++ xs ys)

calls_later : (is : List (Instruction Ticket)) (rs : List Receipt) → calls (sent_later is rs) ≡ map Send (take (length rs) is)
calls_later [] [] = refl
calls_later [] (r ∷ rs) = refl
calls_later (i ∷ is) [] = refl
calls_later (i ∷ is) (r ∷ rs) = ap (λ l. Send i ∷ l) (calls_later is rs)

calls_kept : (e : Entry) (c : Call) → e.call ≡ c → calls (kept_call e c) ≡ kept c
calls_kept e (Send i) h = refl
calls_kept e Freeze h = ap (λ x. x ∷ []) h
calls_kept e (Match q f n) h = ap (λ x. x ∷ []) h
calls_kept e (Lift n) h = ap (λ x. x ∷ []) h

-- as many are sent as there are receipts
sent : (c : Call) (held : List (Instruction Ticket)) (k : ℕ) (rs : List Receipt) → k ≤ length rs →
    c ∷ calls (sent_later held (take k rs)) ≡ c ∷ map Send (take k held)
sent c held k rs h = ap (λ l. c ∷ l) (calls_later held (take k rs) ∙ ap (λ j. map Send (take j held)) (length-take-le k rs h))

calls_retold : (w : Where) (e : Entry) (a : Answer) (rs : List Receipt) → e.receipts ≡ take (receipts_in a) rs → receipts_in a ≤ length rs →
    calls (retold_entry w e a) ≡ twin_of w e.call a
calls_retold outside e a rs p h = refl
calls_retold (inside held) e (Done x) rs p h = calls_kept e e.call refl
calls_retold (inside held) e Held rs p h = refl
calls_retold (inside held) e Frozen rs p h = calls_kept e e.call refl
calls_retold (inside held) e (Matched m) rs p h = ap (λ l. e.call ∷ calls (sent_later held l)) p ∙ sent e.call held (receipts_in (Matched m)) rs h
calls_retold (inside held) e (Lifted n) rs p h = ap (λ l. e.call ∷ calls (sent_later held l)) p ∙ sent e.call held n rs h
calls_retold (inside held) e (Refused x) rs p h = calls_kept e e.call refl

pub notes_retold : (w : Where) (ns : List Note) (ts : List Terms) (fs : List Fill) (rs : List Receipt) → sum_by (λ n. receipts_in n.answer) ns ≡ length rs →
    calls (retold w (entries_of ns ts fs rs)) ≡ twin_from w ns
notes_retold w [] ts fs rs h = refl
notes_retold w (n ∷ ns) ts fs rs h =
    let k = receipts_in n.answer in
    let counted : receipts_in n.answer + sum_by (λ m. receipts_in m.answer) ns ≡ length rs = sym (sum_by-cons (λ m. receipts_in m.answer) n ns) ∙ h in
    let left : sum_by (λ m. receipts_in m.answer) ns ≡ length (drop (receipts_in n.answer) rs) = simp length-drop (omega (arith, counted)) in
    let few : receipts_in n.answer ≤ length rs = omega (arith, counted) in
    let w' = moved_on w n.call n.answer in
    let rest = notes_retold w' ns (drop (stops_in n.answer) ts) (drop (fills_in n.answer) fs) (drop (receipts_in n.answer) rs) left in
    calls-++ (retold_entry w (entry_with n ts fs rs) n.answer) _
    ∙ (λ i. calls_retold w (entry_with n ts fs rs) n.answer rs refl few i ++ rest i)

-- one note more is retold
pub retold_more : (notes : List Note) (i : ℕ) (d : Note) (w w' : Where) (before after all : List Call) → i < length notes →
    before ++ twin_from w (drop i notes) ≡ all → Noted w (get_or notes i d) before after w' → after ++ twin_from w' (drop (i + 1) notes) ≡ all
retold_more notes i d w w' before after all h inv noted =
    let n = get_or notes i d in
    let rest = twin_from (moved_on w n.call n.answer) (drop (i + 1) notes) in
    let split : twin_from w (drop i notes) ≡ twin_of w n.call n.answer ++ rest = at_drop_more (twin_from w) notes i d h in
    (λ j. noted.told j ++ twin_from (noted.place j) (drop (i + 1) notes))
    ∙ append_assoc before (twin_of w n.call n.answer) rest ∙ ap (λ l. before ++ l) (sym split) ∙ inv

pub retold_all : (notes : List Note) (i : ℕ) (w : Where) (twin all : List Call) → length notes ≤ i → twin ++ twin_from w (drop i notes) ≡ all → twin ≡ all
retold_all notes i w twin all h inv = sym (append-nil twin) ∙ ap (λ l. twin ++ l) (sym (at_drop_all (twin_from w) notes i h)) ∙ inv
