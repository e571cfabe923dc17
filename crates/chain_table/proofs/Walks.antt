-- Chains of indices, by the functions from an index to the next and to the one before.
use Rattle.std.specs.Prelude.{◌≡◌, ℕ, zero, suc, ◌<◌, true, false, ◌&&◌, List, [], ◌∷◌, ◌++◌, map, length, ◌==◌, ◌≢◌, slice_index_or, refl}
use Rattle.std.proofs.Common.{sym, ap, subst, ◌∙◌, arith}
use Rattle.std.proofs.lemmas.List.{append-nil}
use Rattle.std.proofs.lemmas.Bool.{and_parts, and_from, or_left, or_right, eq-eqb, eqb-true, both_ways}
use Rattle.std.specs.List.{AllByRecursion}
use Rattle.book.proofs.General.{all_of}
use Rattle.chain_table.specs.Chains.{walk, linked_through, among, no_row_twice}
use Rattle.chain_table.specs.Steps.{Led}
use Rattle.chain_table.proofs.Indices.{other, among_parts, once_parts, once_front, once_out, once_sides}

-- what `linked_through` tests
abbrev pub Linked : (ℕ → ℕ) → (ℕ → ℕ) → ℕ → List ℕ → ℕ → Type 0
Linked f g a [] b = (f a ≡ b) × (g b ≡ a)
Linked f g a (x ∷ xs) b = (f a ≡ x) × (g x ≡ a) × Linked f g x xs b

pub from_linked : (f g : ℕ → ℕ) (a : ℕ) (xs : List ℕ) (b : ℕ) → linked_through f g a xs b ≡ true → Linked f g a xs b
from_linked f g a [] b h = let p = and_parts (f a == b) (g b == a) h in (eqb-true _ _ p.0, eqb-true _ _ p.1)
from_linked f g a (x ∷ xs) b h =
    let p = and_parts (f a == x && g x == a) (linked_through f g x xs b) h in
    let q = and_parts (f a == x) (g x == a) p.0 in
    (eqb-true _ _ q.0, eqb-true _ _ q.1, from_linked f g x xs b p.1)

pub to_linked : (f g : ℕ → ℕ) (a : ℕ) (xs : List ℕ) (b : ℕ) → Linked f g a xs b → linked_through f g a xs b ≡ true
to_linked f g a [] b h = and_from _ _ (eq-eqb _ _ h.0) (eq-eqb _ _ h.1)
to_linked f g a (x ∷ xs) b h = and_from _ _ (and_from _ _ (eq-eqb _ _ h.0) (eq-eqb _ _ h.1)) (to_linked f g x xs b h.2)

-- a walk, and the list that it gives
pub walk_linked : (f g : ℕ → ℕ) (a : ℕ) (xs : List ℕ) (b : ℕ) → Linked f g a xs b → walk f (length xs) (f a) ≡ xs
walk_linked f g a [] b h = refl
walk_linked f g a (x ∷ xs) b h = ap (λ i. i ∷ walk f (length xs) (f i)) h.0 ∙ ap (λ l. x ∷ l) (walk_linked f g x xs b h.2)

-- along the chain: its first, the next of each, and its last
pub first_of : (f g : ℕ → ℕ) (a : ℕ) (xs : List ℕ) (b : ℕ) → Linked f g a xs b → f a ≡ slice_index_or xs 0 b
first_of f g a [] b h = h.0
first_of f g a (x ∷ xs) b h = h.0

pub step_of : (f g : ℕ → ℕ) (a : ℕ) (xs : List ℕ) (b : ℕ) (k : ℕ) → k < length xs → Linked f g a xs b → f (slice_index_or xs k b) ≡ slice_index_or xs (suc k) b
step_of f g a [] b k l h = absurd (omega arith)
step_of f g a (x ∷ xs) b zero l h = first_of f g x xs b h.2
step_of f g a (x ∷ xs) b (suc k) l h = step_of f g x xs b k (omega arith) h.2

pub first_among : (f g : ℕ → ℕ) (a : ℕ) (xs : List ℕ) (b : ℕ) → Linked f g a xs b → among (f a) (b ∷ xs) ≡ true
first_among f g a [] b h = or_left _ _ (eq-eqb _ _ (sym h.0))
first_among f g a (x ∷ xs) b h = or_right _ _ (or_left _ _ (eq-eqb _ _ (sym h.0)))

pub last_among : (f g : ℕ → ℕ) (a : ℕ) (xs : List ℕ) (b : ℕ) → Linked f g a xs b → among (g b) (a ∷ xs) ≡ true
last_among f g a [] b h = or_left _ _ (eq-eqb _ _ (sym h.1))
last_among f g a (x ∷ xs) b h = or_right _ _ (last_among f g x xs b h.2)

-- two chains in one, and one in two
pub linked_split : (f g : ℕ → ℕ) (a : ℕ) (xs : List ℕ) (i : ℕ) (ys : List ℕ) (b : ℕ) → Linked f g a (xs ++ i ∷ ys) b → Linked f g a xs i × Linked f g i ys b
linked_split f g a [] i ys b h = ((h.0, h.1), h.2)
linked_split f g a (x ∷ xs) i ys b h = let r = linked_split f g x xs i ys b h.2 in ((h.0, h.1, r.0), r.1)

pub linked_append : (f g : ℕ → ℕ) (a : ℕ) (xs : List ℕ) (i : ℕ) (ys : List ℕ) (b : ℕ) → Linked f g a xs i → Linked f g i ys b → Linked f g a (xs ++ i ∷ ys) b
linked_append f g a [] i ys b h k = (h.0, h.1, k)
linked_append f g a (x ∷ xs) i ys b h k = (h.0, h.1, linked_append f g x xs i ys b h.2 k)

-- functions that are alike on a list
abbrev pub Alike : {Y : Type 0} → (ℕ → Y) → (ℕ → Y) → List ℕ → Type 0
Alike f f' xs = AllByRecursion (λ j. f' j ≡ f j) xs

pub alike_all : {Y : Type 0} (f f' : ℕ → Y) → ((j : ℕ) → f' j ≡ f j) → (xs : List ℕ) → Alike f f' xs
alike_all f f' k = all_of (λ j. f' j ≡ f j) k

pub alike_off : {Y : Type 0} (f f' : ℕ → Y) (p : ℕ) → ((j : ℕ) → (j ≢ p) → f' j ≡ f j) → (xs : List ℕ) → among p xs ≡ false → Alike f f' xs
alike_off f f' p k [] h = tt
alike_off f f' p k (x ∷ xs) h = let o = other p x xs h in (k x o.0, alike_off f f' p k xs o.1)

pub map_alike : {Y : Type 0} (f f' : ℕ → Y) (xs : List ℕ) → Alike f f' xs → map f' xs ≡ map f xs
map_alike f f' [] k = refl
map_alike f f' (x ∷ xs) k = ap (λ y. y ∷ map f' xs) k.0 ∙ ap (λ l. f x ∷ l) (map_alike f f' xs k.1)

pub walk_alike : (f f' : ℕ → ℕ) (n i : ℕ) → Alike f f' (walk f n i) → walk f' n i ≡ walk f n i
walk_alike f f' zero i k = refl
walk_alike f f' (suc n) i k = ap (λ j. i ∷ walk f' n j) k.0 ∙ ap (λ l. i ∷ l) (walk_alike f f' n (f i) k.1)

pub linked_alike : (f f' g g' : ℕ → ℕ) (a : ℕ) (xs : List ℕ) (b : ℕ) → Alike f f' (a ∷ xs) → Alike g g' (b ∷ xs) → Linked f g a xs b → Linked f' g' a xs b
linked_alike f f' g g' a [] b k m h = (k.0 ∙ h.0, m.0 ∙ h.1)
linked_alike f f' g g' a (x ∷ xs) b k m h =
    (k.0 ∙ h.0, m.1.0 ∙ h.1, linked_alike f f' g g' x xs b k.1 (m.0, m.1.1) h.2)

-- the end of a chain leads to c in place of b
redirect : {f f' g g' : ℕ → ℕ} (a : ℕ) (xs : List ℕ) (b c : ℕ) → Led f f' g g' (g b) c → no_row_twice (a ∷ xs) ≡ true → among c xs ≡ false → Linked f g a xs b → Linked f' g' a xs c
redirect {f} {f'} {g} {g'} a [] b c j once off h = (ap f' (sym h.1) ∙ j.ahead, j.back ∙ h.1)
redirect {f} {f'} {g} {g'} a (x ∷ xs) b c j once off h =
    let o = other c x xs off in
    let q = once_parts a (x ∷ xs) once in
    let ne : a ≡ g b → ⊥ = λ e. both_ways (among a (x ∷ xs)) q.0 (ap (λ z. among z (x ∷ xs)) e ∙ last_among f g x xs b h.2) in
    (j.ahead_off a ne ∙ h.0, j.back_off x o.0 ∙ h.1, redirect x xs b c j q.1 o.1 h.2)

-- i leaves the chain: what stood before it leads to what followed it
pub bypass : {f f' g g' : ℕ → ℕ} (a : ℕ) (xs : List ℕ) (i : ℕ) (ys : List ℕ) (b : ℕ) → Led f f' g g' (g i) (f i)
    → no_row_twice (a ∷ (xs ++ ys)) ≡ true → among b (xs ++ ys) ≡ false → Linked f g a (xs ++ i ∷ ys) b → Linked f' g' a (xs ++ ys) b
bypass {f} {f'} {g} {g'} a xs i [] b j once off h =
    let l = linked_split f g a xs i [] b h in
    let nil = append-nil xs in
    let led : Led f f' g g' (g i) b = subst (λ z. Led f f' g g' (g i) z) l.1.0 j in
    subst (λ z. Linked f' g' a z b) (sym nil) (redirect a xs i b led (subst (λ z. no_row_twice (a ∷ z) ≡ true) nil once) (subst (λ z. among b z ≡ false) nil off) l.0)
bypass {f} {f'} {g} {g'} a xs i (y ∷ ys) b j once off h =
    let l = linked_split f g a xs i (y ∷ ys) b h in
    let led : Led f f' g g' (g i) y = subst (λ z. Led f f' g g' (g i) z) l.1.0 j in
    let out = among_parts y xs ys (once_out xs y ys (once_parts a (xs ++ y ∷ ys) once).1).0 in
    let front = redirect a xs i y led (once_front (a ∷ xs) (y ∷ ys) once) out.0 l.0 in
    let ahead = alike_off f f' (g i) led.ahead_off (y ∷ ys) (once_sides (g i) (a ∷ xs) (y ∷ ys) once (last_among f g a xs i l.0)) in
    let end = other b y ys (among_parts b xs (y ∷ ys) off).1 in
    let back = alike_off g g' y led.back_off ys out.1 in
    linked_append f' g' a xs y ys b front (linked_alike f f' g g' y ys b ahead (led.back_off b (λ e. end.0 (sym e)), back) l.1.2)

-- i comes to the end of the chain from a to b
pub attach : {f f1 f2 g g1 g2 : ℕ → ℕ} (a : ℕ) (xs : List ℕ) (b i : ℕ) → Led f f1 g g1 (g b) i → Led f1 f2 g1 g2 i b
    → no_row_twice (a ∷ xs) ≡ true → among i (a ∷ xs) ≡ false → among b (i ∷ xs) ≡ false → Linked f g a xs b → Linked f2 g2 a (xs ++ i ∷ []) b
attach {f} {f1} {f2} {g} {g1} {g2} a xs b i j k once off end h =
    let front = redirect a xs b i j once (other i a xs off).1 h in
    linked_append f2 g2 a xs i [] b
    (linked_alike f1 f2 g1 g2 a xs i (alike_off f1 f2 i k.ahead_off (a ∷ xs) off) (alike_off g1 g2 b k.back_off (i ∷ xs) end) front)
    (k.ahead, k.back)
