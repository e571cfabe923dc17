-- One held instruction after the other is carried out.
use Rattle.std.proofs.Common.{◌≡◌, ℕ, ◌+◌, ◌<◌, ◌≤◌, List, [], ◌∷◌, ◌++◌, map, length, take, drop, set, Some, None, sym, refl, ap, ◌∙◌, subst, append_assoc, append-nil, arith}
use Rattle.std.proofs.lemmas.List.{take_more_set, drop-set-lt, take-append-drop, drop-drop, length-map}
use Rattle.std.specs.List.{slice_get}
use Rattle.orders.specs.Told.{told}
use Rattle.orders.specs.declared.instruction.Instruction.{Instruction}
use Rattle.orders.specs.declared.order.Order.{Order}
use Rattle.orders.specs.declared.terms.Terms.{Terms}
use Rattle.book.proofs.Reading.{stands}
use Rattle.waiting_line.proofs.Rounds.{length_waiting}
use Rattle.waiting_line.specs.Lines.{waiting, room_of}
use Rattle.waiting_line.specs.declared.line.WaitingLine.{WaitingLine}
use Rattle.instructions.specs.Conservation.{about}
use Rattle.instructions.specs.Effects.{carried_answer, carried_book}
use Rattle.locked_stock.specs.Holding.{held_in}
use Rattle.locked_stock.specs.Receipts.{receipts_of, book_after, entries_after}
use Rattle.locked_stock.specs.declared.receipt.Receipt.{Receipt}

-- what is written so far, and what is still to come, is what all that was held gives
pub record Releasing (room : ℕ) (all : List (Instruction Terms)) (ts₀ : List Terms) (rs₀ : List Receipt) (k : ℕ) (held : List (Instruction Terms)) (ts : List Terms) (rs : List Receipt) : Type 0 where
  pub written : take k rs ++ receipts_of room held ts ≡ receipts_of room all ts₀
  pub untouched : drop k rs ≡ drop k rs₀
  pub book : book_after room held ts ≡ book_after room all ts₀
  pub count : k + length held ≡ length all

pub begun : (room : ℕ) (all : List (Instruction Terms)) (ts : List Terms) (rs : List Receipt) → Releasing room all ts rs 0 all ts rs
begun room all ts rs = record { written = refl; untouched = refl; book = refl; count = omega arith }

-- no more wait than there are slots in use
pub few : (l : WaitingLine (Instruction Order)) → length (held_in l) ≤ room_of l.slots.now
few l =
    let long = length_waiting l.first l.count l.slots.now (omega (arith, l.inside)) l.within in
    omega (arith, length-map (waiting l) told, l.within)

-- the oldest that waits, and those behind it
pub oldest : (ws us : List (Instruction Order)) (x : Instruction Order) → Some x ≡ slice_get ws 0 → us ≡ drop 1 ws → map told ws ≡ told x ∷ map told us
oldest ws us x e d = ap (map told) (stands ws 0 x e).first ∙ ap (λ l. told x ∷ map told l) (sym d)

pub none_wait : (ws : List (Instruction Order)) → None ≡ slice_get ws 0 → map told ws ≡ []
none_wait [] e = refl
none_wait (x ∷ ws) e = cc

pub none_left : (ws us : List (Instruction Order)) → None ≡ slice_get ws 0 → us ≡ drop 1 ws → map told us ≡ []
none_left [] us e d = ap (map told) d
none_left (x ∷ ws) us e d = cc

-- one more receipt
one_more : (room : ℕ) (all : List (Instruction Terms)) (ts₀ : List Terms) (rs₀ : List Receipt) (k : ℕ) (i : Instruction Terms) (is : List (Instruction Terms)) (ts : List Terms) (rs : List Receipt) →
    k < length rs → Releasing room all ts₀ rs₀ k (i ∷ is) ts rs →
    Releasing room all ts₀ rs₀ (k + 1) is (carried_book room i ts) (set rs k (record { number = about i; answer = carried_answer room i ts }))
one_more room all ts₀ rs₀ k i is ts rs h s =
    let y : Receipt = record { number = about i; answer = carried_answer room i ts } in
    record {
      written = ap (λ l. l ++ receipts_of room is (carried_book room i ts)) (take_more_set rs k y h) ∙ append_assoc (take k rs) (y ∷ []) _ ∙ s.written;
      untouched = drop-set-lt (k + 1) rs k y (omega arith) ∙ sym (drop-drop 1 k rs) ∙ ap (drop 1) s.untouched ∙ drop-drop 1 k rs₀;
      book = s.book;
      count = omega (arith, s.count);
    }

-- the same as the code has it: the oldest leaves the line, and its receipt is written
pub more : {room room₁ : ℕ} {all : List (Instruction Terms)} {ts₀ : List Terms} {rs₀ : List Receipt} {k : ℕ} {held held' : List (Instruction Terms)} {ts ts' : List Terms} {rs : List Receipt} {y : Receipt} (i : Instruction Terms) →
    room₁ ≡ room → held ≡ i ∷ held' → k < length rs →
    y.number ≡ about i → y.answer ≡ carried_answer room₁ i ts → ts' ≡ carried_book room₁ i ts →
    Releasing room all ts₀ rs₀ k held ts rs → Releasing room all ts₀ rs₀ (k + 1) held' ts' (set rs k y)
more {room} {room₁} {all} {ts₀} {rs₀} {k} {held} {held'} {ts} {ts'} {rs} {y} i same front h n a b s =
    let s₁ = one_more room all ts₀ rs₀ k i held' ts rs h (subst (λ l. Releasing room all ts₀ rs₀ k l ts rs) front s) in
    let a₁ : carried_answer room i ts ≡ y.answer = sym (a ∙ ap (λ x. carried_answer x i ts) same) in
    let b₁ : carried_book room i ts ≡ ts' = sym (b ∙ ap (λ x. carried_book x i ts) same) in
    let P : Receipt → Type 0 = λ x. Releasing room all ts₀ rs₀ (k + 1) held' (carried_book room i ts) (set rs k x) in
    subst (λ us. Releasing room all ts₀ rs₀ (k + 1) held' us (set rs k y)) b₁ (subst P (λ j. record { number = sym n j; answer = a₁ j }) s₁)

-- when nothing waits any more, all is done
pub record Done (room : ℕ) (all : List (Instruction Terms)) (ts₀ : List Terms) (rs₀ : List Receipt) (k : ℕ) (ts : List Terms) (rs : List Receipt) : Type 0 where
  pub count : k ≡ length all
  pub receipts : rs ≡ entries_after room all ts₀ rs₀
  pub book : ts ≡ book_after room all ts₀

pub done : {room : ℕ} {all : List (Instruction Terms)} {ts₀ : List Terms} {rs₀ : List Receipt} {k : ℕ} {held : List (Instruction Terms)} {ts : List Terms} {rs : List Receipt} →
    held ≡ [] → Releasing room all ts₀ rs₀ k held ts rs → Done room all ts₀ rs₀ k ts rs
done {room} {all} {ts₀} {rs₀} {k} {held} {ts} {rs} e s₀ =
    let s = subst (λ l. Releasing room all ts₀ rs₀ k l ts rs) e s₀ in
    let n : k ≡ length all = omega (arith, s.count) in
    record {
      count = n;
      receipts = sym (take-append-drop k rs) ∙ ap (λ l. l ++ drop k rs) (sym (append-nil (take k rs)) ∙ s.written) ∙ ap (λ l. receipts_of room all ts₀ ++ l) (s.untouched ∙ ap (λ x. drop x rs₀) n);
      book = s.book;
    }
