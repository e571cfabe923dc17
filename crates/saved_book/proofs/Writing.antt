-- The orders of a book written one behind another.
use Rattle.std.proofs.Common.{sym, mul-suc, ◌∷◌, ◌≡◌, ℕ, ◌+◌, ◌*◌, ◌≤◌, List, ◌++◌, length, drop, refl, ap, ◌∙◌, append_assoc, arith}
use Rattle.std.specs.List.{flat_map}
use Rattle.orders.specs.declared.terms.Terms.{Terms}
use Rattle.saved_book.specs.Encoding.{four, number_bytes, record_bytes, encode}
use Rattle.saved_book.specs.Steps.{laid}
use Rattle.saved_book.proofs.Laying.{laid_next, laid_front}
use Rattle.saved_book.proofs.Loading.{numbers_long}

-- one more part is written, and the rest goes behind it
pub put_next : (f : Terms → List ℕ) (at size : ℕ) (ts rest : List Terms) (t : Terms) (part out after all : List ℕ) → ts ≡ t ∷ rest → part ≡ f t → length part ≡ size → at + size * length ts ≤ length out → after ≡ laid at part out → length after ≡ length out → laid at (flat_map f ts) out ≡ all → (at + size + size * length rest ≤ length after) × (laid (at + size) (flat_map f rest) after ≡ all)
put_next f at size ts rest t part out after all first is s h e same before =
    let count : size * length ts ≡ size * length rest + size = ap (λ l. size * length l) first ∙ mul-suc size (length rest) in (
      omega (arith, count),
      ap (laid (at + size) (flat_map f rest)) e
          ∙ laid_next at (at + size) part (flat_map f rest) out (ap (λ n. at + n) s) (omega (arith, count))
          ∙ (λ i. laid at (is i ++ flat_map f rest) out)
          ∙ ap (λ l. laid at (flat_map f l) out) (sym first)
          ∙ before,
    )

-- the head, the numbers and the records, one behind another
pub wrote_book : (ts : List Terms) (n : ℕ) (was a b c : List ℕ) → n ≡ length ts → 8 + 20 * n ≤ length was → a ≡ laid 0 (four n ++ four 16) was → b ≡ laid 8 (flat_map number_bytes ts) a → c ≡ laid (8 + 4 * n) (flat_map record_bytes ts) b → c ≡ encode ts ++ drop (length (encode ts)) was
wrote_book ts n was a b c count long ea eb ec =
    let numbers : length ((four n ++ four 16) ++ flat_map number_bytes ts) ≡ 8 + 4 * n = omega (arith, numbers_long ts) in
    let two : b ≡ laid 0 ((four n ++ four 16) ++ flat_map number_bytes ts) was = eb ∙ ap (laid 8 (flat_map number_bytes ts)) ea ∙ laid_next 0 8 (four n ++ four 16) (flat_map number_bytes ts) was refl (omega arith) in
    let three : c ≡ laid 0 (((four n ++ four 16) ++ flat_map number_bytes ts) ++ flat_map record_bytes ts) was =
    ec ∙ ap (laid (8 + 4 * n) (flat_map record_bytes ts)) two ∙ laid_next 0 (8 + 4 * n) ((four n ++ four 16) ++ flat_map number_bytes ts) (flat_map record_bytes ts) was (omega (arith, numbers)) (omega arith) in
    let whole : ((four n ++ four 16) ++ flat_map number_bytes ts) ++ flat_map record_bytes ts ≡ encode ts =
    append_assoc (four n ++ four 16) (flat_map number_bytes ts) (flat_map record_bytes ts) ∙ ap (λ m. four m ++ (four 16 ++ (flat_map number_bytes ts ++ flat_map record_bytes ts))) count in
    three ∙ ap (λ l. laid 0 l was) whole ∙ laid_front (encode ts) was
