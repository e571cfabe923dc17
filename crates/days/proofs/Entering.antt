-- One more note at the end of a journal.
use Rattle.std.proofs.Common.{◌≡◌, ℕ, ◌+◌, ◌-◌, List, [], ◌∷◌, ◌++◌, length, take, drop, sum_by, sym, refl, ap, ◌∙◌, arith, length-drop}
use Rattle.std.proofs.lemmas.List.{take-append-le, drop-append-le, take-take}
use Rattle.std.proofs.lemmas.List.Sums.{sum_by-cons}
use Rattle.orders.specs.declared.terms.Terms.{Terms}
use Rattle.settling.specs.declared.fill.Fill.{Fill}
use Rattle.locked_stock.specs.declared.receipt.Receipt.{Receipt}
use Rattle.days.specs.Counts.{stops_in, fills_in, receipts_in}
use Rattle.days.specs.Journals.{entry_with, entries_of}
use Rattle.days.specs.declared.answer.Answer.{Answer}
use Rattle.days.specs.declared.note.Note.{Note}

-- a list that has as many elements as the notes count
abbrev Counts : {X : Type 0} → (Answer → ℕ) → List Note → List X → Type 0
Counts m ns xs = sum_by (λ n. m n.answer) ns ≡ length xs

none_left : {X : Type 0} (xs : List X) → 0 ≡ length xs → xs ≡ []
none_left [] h = refl
none_left (x ∷ xs) h = absurd (omega arith)

module _ {X : Type 0} (m : Answer → ℕ) (n : Note) (ns : List Note) (xs ys : List X) (h : Counts m (n ∷ ns) xs) where
  counted : m n.answer + sum_by (λ k. m k.answer) ns ≡ length xs
  counted = sym (sum_by-cons (λ k. m k.answer) n ns) ∙ h

  -- what the first note takes is there, and what it leaves is counted by the rest
  front : take (m n.answer) (xs ++ ys) ≡ take (m n.answer) xs
  front = take-append-le (m n.answer) xs ys (omega (arith, counted))

  behind : drop (m n.answer) (xs ++ ys) ≡ drop (m n.answer) xs ++ ys
  behind = drop-append-le (m n.answer) xs ys (omega (arith, counted))

  left_over : Counts m ns (drop (m n.answer) xs)
  left_over = let k = counted in simp length-drop (omega arith)

pub noted : (ns : List Note) (ts ts' : List Terms) (fs fs' : List Fill) (rs rs' : List Receipt) (n : Note) → Counts stops_in ns ts → Counts fills_in ns fs → Counts receipts_in ns rs →
    entries_of (ns ++ n ∷ []) (ts ++ ts') (fs ++ fs') (rs ++ rs') ≡ entries_of ns ts fs rs ++ entry_with n ts' fs' rs' ∷ []
noted [] ts ts' fs fs' rs rs' n a b c =
    (λ i. entry_with n (none_left ts a i ++ ts') (none_left fs b i ++ fs') (none_left rs c i ++ rs') ∷ [])
noted (m ∷ ns) ts ts' fs fs' rs rs' n a b c =
    let rest = noted ns (drop (stops_in m.answer) ts) ts' (drop (fills_in m.answer) fs) fs' (drop (receipts_in m.answer) rs) rs' n (left_over stops_in m ns ts ts' a) (left_over fills_in m ns fs fs' b) (left_over receipts_in m ns rs rs' c) in
    (λ i. record { call = m.call; answer = m.answer; triggered = front stops_in m ns ts ts' a i; fills = front fills_in m ns fs fs' b i; receipts = front receipts_in m ns rs rs' c i }
    ∷ entries_of (ns ++ n ∷ []) (behind stops_in m ns ts ts' a i) (behind fills_in m ns fs fs' b i) (behind receipts_in m ns rs rs' c i))
    ∙ ap (λ l. entry_with m ts fs rs ∷ l) rest

-- a note takes as much of the lists as its answer says, whatever stands behind
again : {X : Type 0} (n k : ℕ) (xs : List X) → k ≡ n → take n (take (k - 0) xs) ≡ take n xs
again n k xs e = take-take n (k - 0) xs (omega arith)

pub as_much : (n : Note) (ts : List Terms) (fs : List Fill) (rs : List Receipt) {i j k : ℕ} → i ≡ stops_in n.answer → j ≡ fills_in n.answer → k ≡ receipts_in n.answer →
    entry_with n (take (i - 0) ts) (take (j - 0) fs) (take (k - 0) rs) ≡ entry_with n ts fs rs
as_much n ts fs rs {i} {j} {k} a b c =
    (λ x. record { call = n.call; answer = n.answer; triggered = again (stops_in n.answer) i ts a x; fills = again (fills_in n.answer) j fs b x; receipts = again (receipts_in n.answer) k rs c x })
