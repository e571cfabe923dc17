-- Reading and writing slots round and round.
use Rattle.std.proofs.Common.{◌≡◌, ℕ, zero, suc, ◌+◌, ◌-◌, ◌<◌, ◌≤◌, min, cond, ltb, List, [], ◌∷◌, ◌++◌, length, get_or, take, drop, set, Some, sym, refl, ap, ◌∙◌, ⊎_elim, append_assoc, append-nil, arith, length-append, length-drop, length-set, length-take}
use Rattle.std.proofs.lemmas.List.{get_or-take, get_or-drop, get_or_append_left, get_or-append_right, drop-set-add, drop-set-lt, take-set-le, set-append_left, set-append_right, take_more_set, take_more, drop_more, take_all, drop_all, take-append-le}
use Rattle.std.proofs.lemmas.Option.{slice_get-get_or}
use Rattle.std.proofs.lemmas.Bool.{cases_lt, lt-ltb, le-ltb}
use Rattle.std.proofs.lemmas.Bool.Decides.{nat_tests}
use Rattle.std.specs.List.{slice_get}
use Rattle.waiting_line.specs.Lines.{room_of, round_from}

-- the list read round from f
abbrev pub rotated : {T : Type 0} → ℕ → List T → List T
rotated f xs = drop f xs ++ take f xs

-- i, counted round a list of length n
abbrev pub wrapped : ℕ → ℕ → ℕ
wrapped n i = cond (ltb i n) i (i - n)

wrapped_below : (n i : ℕ) → i < n + n → wrapped n i < n
wrapped_below n i h = grind (arith, nat_tests)

module _ {T : Type 0} where
  pub length_rotated : (f : ℕ) (xs : List T) → f ≤ length xs → length (rotated f xs) ≡ length xs
  length_rotated f xs h = simp (length-append, length-drop, length-take) (omega arith)

  take_set_in : (n : ℕ) (xs : List T) (i : ℕ) (x : T) → i < n → take n (set xs i x) ≡ set (take n xs) i x
  take_set_in zero xs i x h = absurd (omega arith)
  take_set_in (suc n) [] i x h = refl
  take_set_in (suc n) (y ∷ xs) zero x h = refl
  take_set_in (suc n) (y ∷ xs) (suc i) x h = ap (λ l. y ∷ l) (take_set_in n xs i x (omega arith))

  -- what stands at a place of the rotated list
  pub rotated_at : (f k : ℕ) (xs : List T) (x : T) → f < length xs → k < length xs → get_or (rotated f xs) k x ≡ get_or xs (wrapped (length xs) (f + k)) x
  rotated_at f k xs x hf hk =
      let d : length (drop f xs) ≡ length xs - f = length-drop f xs in
      ⊎_elim
      (λ h. let w = lt-ltb (f + k) (length xs) h in
      rw w (get_or_append_left (drop f xs) (take f xs) x k (omega arith) ∙ get_or-drop f xs k x))
      (λ h. let w = le-ltb (f + k) (length xs) h in
      let same : k - (length xs - f) ≡ f + k - length xs = omega arith in
      rw w (get_or-append_right (drop f xs) (take f xs) (length xs - f) k x d (omega arith)
      ∙ get_or-take f xs (k - (length xs - f)) x (omega arith)
      ∙ ap (λ i. get_or xs i x) same))
      (cases_lt (f + k) (length xs))

  -- a write is a write at the same place of the rotated list
  pub rotated_set : (f k : ℕ) (xs : List T) (x : T) → f < length xs → k < length xs → rotated f (set xs (wrapped (length xs) (f + k)) x) ≡ set (rotated f xs) k x
  rotated_set f k xs x hf hk =
      let d : length (drop f xs) ≡ length xs - f = length-drop f xs in
      ⊎_elim
      (λ h. let w = lt-ltb (f + k) (length xs) h in
      rw w (ap (λ l. l ++ take f (set xs (f + k) x)) (drop-set-add f xs k x)
      ∙ ap (λ l. set (drop f xs) k x ++ l) (take-set-le f xs (f + k) x (omega arith))
      ∙ sym (set-append_left (drop f xs) (take f xs) k x (omega arith))))
      (λ h. let w = le-ltb (f + k) (length xs) h in
      let i = f + k - length xs in
      let same : k - (length xs - f) ≡ f + k - length xs = omega arith in
      rw w (ap (λ l. l ++ take f (set xs i x)) (drop-set-lt f xs i x (omega arith))
      ∙ ap (λ l. drop f xs ++ l) (take_set_in f xs i x (omega arith) ∙ ap (λ j. set (take f xs) j x) (sym same))
      ∙ sym (set-append_right (drop f xs) (take f xs) (length xs - f) k x d (omega arith))))
      (cases_lt (f + k) (length xs))

  -- the slots of a line that are in use
  abbrev front : List T → List T
  front slots = take (room_of slots) slots

  length_front : (slots : List T) → length (front slots) ≡ room_of slots
  length_front slots = simp length-take (omega arith)

  pub length_waiting : (f c : ℕ) (slots : List T) → f ≤ room_of slots → c ≤ room_of slots → length (take c (round_from f slots)) ≡ c
  length_waiting f c slots hf hc =
      let l = length_rotated f (front slots) (omega (arith, length_front slots)) in
      omega (arith, length-take c (rotated f (front slots)), length_front slots)

  -- what waits at a place stands in its slot
  pub waiting_at : (f c k : ℕ) (slots : List T) (x : T) → f ≤ room_of slots - 1 → c ≤ room_of slots → k < c → x ≡ get_or slots (wrapped (room_of slots) (f + k)) x → Some x ≡ slice_get (take c (round_from f slots)) k
  waiting_at f c k slots x hf hc hk e =
      let n = length_front slots in
      let within : k < length (take c (rotated f (front slots))) = omega (arith, length_waiting f c slots (omega arith) hc) in
      let in_front = wrapped_below (room_of slots) (f + k) (omega arith) in
      sym (slice_get-get_or (take c (rotated f (front slots))) k x within
      ∙ ap Some (get_or-take c (rotated f (front slots)) k x hk
      ∙ rotated_at f k (front slots) x (omega arith) (omega arith)
      ∙ ap (λ m. get_or (front slots) (wrapped m (f + k)) x) n
      ∙ get_or-take (room_of slots) slots (wrapped (room_of slots) (f + k)) x in_front
      ∙ sym e))

  -- a record put into the slot behind the others waits behind them
  pub waiting_push : (f c : ℕ) (slots : List T) (x : T) → f ≤ room_of slots - 1 → c < room_of slots →
      take (c + 1) (round_from f (set slots (wrapped (room_of slots) (f + c)) x)) ≡ take c (round_from f slots) ++ x ∷ []
  waiting_push f c slots x hf hc =
      let n = length_front slots in
      let i = wrapped (room_of slots) (f + c) in
      let in_front = wrapped_below (room_of slots) (f + c) (omega arith) in
      let same : front (set slots i x) ≡ set (front slots) (wrapped (length (front slots)) (f + c)) x =
      ap (λ m. take (min m 256) (set slots i x)) (length-set slots i x)
      ∙ take_set_in (room_of slots) slots i x in_front
      ∙ ap (λ m. set (front slots) (wrapped m (f + c)) x) (sym n) in
      ap (λ xs. take (c + 1) (rotated f xs)) same
      ∙ ap (take (c + 1)) (rotated_set f c (front slots) x (omega arith) (omega arith))
      ∙ take_more_set (rotated f (front slots)) c x (omega (arith, length_rotated f (front slots) (omega arith)))

  -- a list read round from f, and from the place behind it
  pub record Turned (f : ℕ) (xs : List T) : Type 0 where
    pub oldest : T
    pub others : List T
    pub long : length others + 1 ≡ length xs
    pub here : rotated f xs ≡ oldest ∷ others
    pub next : rotated (f + 1) xs ≡ others ++ oldest ∷ []

  turned : (f : ℕ) (xs : List T) → f < length xs → Turned f xs
  turned f [] h = absurd (omega arith)
  turned f (y ∷ ys) h =
      let xs = y ∷ ys in
      let x = get_or xs f y in
      let others = drop (f + 1) xs ++ take f xs in
      let here : rotated f xs ≡ x ∷ others = ap (λ l. l ++ take f xs) (drop_more xs f y h) in
      record {
        oldest = x;
        others = others;
        long = omega (arith, ap length here, length_rotated f xs (omega arith));
        here = here;
        next = ap (λ l. drop (f + 1) xs ++ l) (take_more xs f y h) ∙ sym (append_assoc (drop (f + 1) xs) (take f xs) (x ∷ []));
      }

  -- round from the end is round from the start
  rotated_all : (xs : List T) → rotated 0 xs ≡ rotated (length xs) xs
  rotated_all xs = append-nil xs ∙ sym (ap (λ l. l ++ take (length xs) xs) (drop_all (length xs) xs (omega arith)) ∙ take_all (length xs) xs (omega arith))

  next_place : (f : ℕ) (xs : List T) → f < length xs → rotated (wrapped (length xs) (f + 1)) xs ≡ rotated (f + 1) xs
  next_place f xs h =
      ⊎_elim
      (λ k. let w = lt-ltb (f + 1) (length xs) k in rw w)
      (λ k. let w = le-ltb (f + 1) (length xs) k in
      let start : f + 1 - length xs ≡ 0 = omega arith in
      let end : length xs ≡ f + 1 = omega arith in
      rw w (ap (λ m. rotated m xs) start ∙ rotated_all xs ∙ ap (λ m. rotated m xs) end))
      (cases_lt (f + 1) (length xs))

  shorter : (c : ℕ) (x : T) (ys : List T) → 0 < c → c ≤ length ys + 1 → take (c - 1) (ys ++ x ∷ []) ≡ drop 1 (take c (x ∷ ys))
  shorter zero x ys h k = absurd (omega arith)
  shorter (suc c) x ys h k =
      let one : suc c - 1 ≡ c = omega arith in
      ap (λ m. take m (ys ++ x ∷ [])) one ∙ take-append-le c ys (x ∷ []) (omega arith)

  -- without the oldest, the line begins a slot further on
  pub waiting_next : (f c : ℕ) (slots : List T) → f ≤ room_of slots - 1 → 0 < c → c ≤ room_of slots →
      take (c - 1) (round_from (wrapped (room_of slots) (f + 1)) slots) ≡ drop 1 (take c (round_from f slots))
  waiting_next f c slots hf hc hn =
      let n = length_front slots in
      let t = turned f (front slots) (omega arith) in
      ap (λ m. take (c - 1) (rotated (wrapped m (f + 1)) (front slots))) (sym n)
      ∙ ap (take (c - 1)) (next_place f (front slots) (omega arith) ∙ t.next)
      ∙ shorter c t.oldest t.others hc (omega (arith, t.long))
      ∙ ap (λ l. drop 1 (take c l)) (sym t.here)
