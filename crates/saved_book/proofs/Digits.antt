-- Numbers and their bytes.
use Rattle.std.proofs.Common.{◌≡◌, ℕ, ◌+◌, ◌*◌, ◌/◌, ◌%◌, ◌^◌, ◌<◌, ◌≤◌, List, [], ◌∷◌, length, get_or, take, drop, sym, ap, ◌∙◌, add_assoc, arith, get_or-drop}
use Rattle.std.proofs.lemmas.Nat.{from_le_bytes-to_le_bytes_2, from_le_bytes-to_le_bytes_4}
use Rattle.std.proofs.lemmas.List.{drop_more}
use Rattle.saved_book.specs.Decoding.{two_at, four_at}
use Rattle.saved_book.specs.Encoding.{two, four}

-- the bytes of a number that fits say the number
pub two_back : (n : ℕ) → n < 2 ^ 16 → n % 256 + n / 256 % 256 * 256 ≡ n
two_back n h = from_le_bytes-to_le_bytes_2 n h

pub four_back : (n : ℕ) → n < 2 ^ 32 → n % 256 + n / 256 % 256 * 256 + n / 65536 % 256 * 65536 + n / 16777216 % 256 * 16777216 ≡ n
four_back n h = from_le_bytes-to_le_bytes_4 n h

-- bytes are those of the number that they say
two_same : (a b : ℕ) → a < 256 → b < 256 → ((a + b * 256) % 256 ≡ a) × ((a + b * 256) / 256 % 256 ≡ b)
two_same a b p q = (omega arith, omega arith)

four_same : (a b c d : ℕ) → a < 256 → b < 256 → c < 256 → d < 256 → let n = a + b * 256 + c * 65536 + d * 16777216 in (n % 256 ≡ a) × (n / 256 % 256 ≡ b) × (n / 65536 % 256 ≡ c) × (n / 16777216 % 256 ≡ d)
four_same a b c d p q r s = (omega arith, omega arith, omega arith, omega arith)

-- the first of what is left of a list
pub first : (bs : List ℕ) (i : ℕ) → i < length bs → drop i bs ≡ get_or bs i 0 ∷ drop (i + 1) bs
first bs i h = drop_more bs i 0 h

-- every number of a list is a byte
abbrev pub Bytes : List ℕ → Type 0
Bytes bs = (i : ℕ) → get_or bs i 0 < 256

pub two_written : (bs : List ℕ) (i : ℕ) → i + 2 ≤ length bs → Bytes bs → take 2 (drop i bs) ≡ two (two_at bs i)
two_written bs i h b =
    let w = two_same (get_or bs i 0) (get_or bs (i + 1) 0) (b i) (b (i + 1)) in
    ap (take 2) (first bs i (omega arith) ∙ ap (λ l. get_or bs i 0 ∷ l) (first bs (i + 1) (omega arith)))
    ∙ sym (λ j. w.0 j ∷ w.1 j ∷ [])

pub four_written : (bs : List ℕ) (i : ℕ) → i + 4 ≤ length bs → Bytes bs → take 4 (drop i bs) ≡ four (four_at bs i)
four_written bs i h b =
    let w = four_same (get_or bs i 0) (get_or bs (i + 1) 0) (get_or bs (i + 2) 0) (get_or bs (i + 3) 0) (b i) (b (i + 1)) (b (i + 2)) (b (i + 3)) in
    let at : (j k : ℕ) → j < length bs → j + 1 ≡ k → drop j bs ≡ get_or bs j 0 ∷ drop k bs = λ j k l e. first bs j l ∙ ap (λ m. get_or bs j 0 ∷ drop m bs) e in
    ap (take 4)
    (at i (i + 1) (omega arith) (omega arith)
    ∙ ap (λ l. get_or bs i 0 ∷ l)
    (at (i + 1) (i + 2) (omega arith) (omega arith)
    ∙ ap (λ l. get_or bs (i + 1) 0 ∷ l)
    (at (i + 2) (i + 3) (omega arith) (omega arith)
    ∙ ap (λ l. get_or bs (i + 2) 0 ∷ l) (at (i + 3) (i + 4) (omega arith) (omega arith)))))
    ∙ sym (λ j. w.0 j ∷ w.1 j ∷ w.2 j ∷ w.3 j ∷ [])

-- reading from a place on
pub get_or_from : (bs : List ℕ) (at j : ℕ) → get_or bs (at + j) 0 ≡ get_or (drop at bs) j 0
get_or_from bs at j = sym (get_or-drop at bs j 0)

pub two_from : (bs : List ℕ) (at j : ℕ) → two_at bs (at + j) ≡ two_at (drop at bs) j
two_from bs at j =
    let b = ap (λ m. get_or bs m 0) (add_assoc at j 1) ∙ get_or_from bs at (j + 1) in
    (λ i. get_or_from bs at j i + b i * 256)

pub four_from : (bs : List ℕ) (at j : ℕ) → four_at bs (at + j) ≡ four_at (drop at bs) j
four_from bs at j =
    let b = ap (λ m. get_or bs m 0) (add_assoc at j 1) ∙ get_or_from bs at (j + 1) in
    let c = ap (λ m. get_or bs m 0) (add_assoc at j 2) ∙ get_or_from bs at (j + 2) in
    let d = ap (λ m. get_or bs m 0) (add_assoc at j 3) ∙ get_or_from bs at (j + 3) in
    (λ i. get_or_from bs at j i + b i * 256 + c i * 65536 + d i * 16777216)
