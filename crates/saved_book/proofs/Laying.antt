-- Parts laid over a list.
use Rattle.std.proofs.Common.{◌≡◌, ℕ, ◌+◌, ◌≤◌, List, ◌++◌, length, take, drop, sym, ap, ◌∙◌, append_assoc, zero-add, arith, length-append}
use Rattle.std.proofs.lemmas.List.{length-take-le, take_at, drop_at, drop-drop}
use Rattle.saved_book.specs.Steps.{laid}

-- a part behind another is one part
pub laid_next : (at m : ℕ) (p q xs : List ℕ) → at + length p ≡ m → m ≤ length xs → laid m q (laid at p xs) ≡ laid at (p ++ q) xs
laid_next at m p q xs e h =
    let n : length (take at xs ++ p) ≡ m = length-append (take at xs) p ∙ ap (λ k. k + length p) (length-take-le at xs (omega arith)) ∙ e in
    let whole : laid at p xs ≡ (take at xs ++ p) ++ drop m xs = ap (λ k. take at xs ++ (p ++ drop k xs)) e ∙ sym (append_assoc (take at xs) p (drop m xs)) in
    let front : take m (laid at p xs) ≡ take at xs ++ p = ap (take m) whole ∙ take_at (take at xs ++ p) (drop m xs) m n in
    let far : m + length q ≡ at + length (p ++ q) = omega (arith, length-append p q) in
    let back : drop (m + length q) (laid at p xs) ≡ drop (at + length (p ++ q)) xs =
    sym (drop-drop (length q) m (laid at p xs))
    ∙ ap (drop (length q)) (ap (drop m) whole ∙ drop_at (take at xs ++ p) (drop m xs) m n)
    ∙ drop-drop (length q) m xs
    ∙ ap (λ k. drop k xs) far in
    (λ i. front i ++ (q ++ back i))
    ∙ append_assoc (take at xs) p (q ++ drop (at + length (p ++ q)) xs)
    ∙ ap (λ l. take at xs ++ l) (sym (append_assoc p q (drop (at + length (p ++ q)) xs)))

-- a part in front
pub laid_front : (p xs : List ℕ) → laid 0 p xs ≡ p ++ drop (length p) xs
laid_front p xs = ap (λ k. p ++ drop k xs) (zero-add (length p))
