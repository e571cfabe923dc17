-- The token in front of a text, and the part of the line that it takes.
use Rattle.std.proofs.Common.{◌≡◌, ℕ, ◌+◌, ◌-◌, ◌<◌, ◌≤◌, true, ◌&&◌, refl, List, [], ◌∷◌, length, take, drop, sym, ap, ◌∙◌, subst, one-add, arith, length-drop, length-take}
use Rattle.std.proofs.lemmas.List.{take_rest}
use Rattle.std.proofs.lemmas.Bool.{cond-true, cond_both}
use Rattle.std.proofs.lemmas.Bool.Decides.{nat_tests}
use Rattle.std.specs.Str.Parse.{AllDigits}
use Rattle.std.specs.Char.{is_ascii_digit, digit_value as digitValue}
use Rattle.std.specs.List.{list_all, prefix_len}
use Rattle.day_lines.specs.Fields.{Token, digit_run, other_byte, first_token, token_length, token_after}

digit_value : (b : ℕ) → is_ascii_digit b ≡ true → digitValue b < 10
digit_value b h = grind (arith, nat_tests)

-- the digits in front are digits, by their tests
pub ascii_digits : (bs : List ℕ) → list_all is_ascii_digit (take (prefix_len is_ascii_digit bs) bs) ≡ true
ascii_digits [] = refl
ascii_digits (b ∷ bs) =
    cond_both (is_ascii_digit b) (1 + prefix_len is_ascii_digit bs) 0 (λ n. list_all is_ascii_digit (take n (b ∷ bs)) ≡ true)
    (λ e. subst (λ n. list_all is_ascii_digit (take n (b ∷ bs)) ≡ true) (sym (one-add (prefix_len is_ascii_digit bs))) (ap (λ t. t && list_all is_ascii_digit (take (prefix_len is_ascii_digit bs) bs)) e ∙ ascii_digits bs))
    (λ e. refl)

-- the digits in front are digits, by their values
run_digits : (bs : List ℕ) → AllDigits 10 (take (prefix_len is_ascii_digit bs) bs)
run_digits [] = tt
run_digits (b ∷ bs) =
    cond_both (is_ascii_digit b) (1 + prefix_len is_ascii_digit bs) 0 (λ n. AllDigits 10 (take n (b ∷ bs)))
    (λ e. subst (λ n. AllDigits 10 (take n (b ∷ bs))) (sym (one-add (prefix_len is_ascii_digit bs))) (digit_value b e, run_digits bs))
    (λ e. tt)

-- the digits in front are the token, if there are any
pub run_is_token : (bs : List ℕ) (n : ℕ) → n ≡ prefix_len is_ascii_digit bs → 0 < n → digit_run (take n bs) ≡ first_token bs
run_is_token [] n e h = absurd (omega arith)
run_is_token (b ∷ bs) n e h =
    let all = digit_run (take (prefix_len is_ascii_digit (b ∷ bs)) (b ∷ bs)) in
    let first : is_ascii_digit b ≡ true = grind arith in
    ap (λ m. digit_run (take m (b ∷ bs))) e ∙ sym (cond-true (is_ascii_digit b) all (other_byte b) first)

pub run_token : (bs : List ℕ) (n : ℕ) → n ≡ prefix_len is_ascii_digit bs → 0 < n → (digit_run (take n bs) ≡ first_token bs) × AllDigits 10 (take n bs)
run_token bs n e h = (run_is_token bs n e h, subst (λ m. AllDigits 10 (take m bs)) (sym e) (run_digits bs))

token_within : (bs : List ℕ) → token_length (first_token bs) ≤ length bs
token_within [] = omega arith
token_within (b ∷ bs) =
    cond_both (is_ascii_digit b) (digit_run (take (prefix_len is_ascii_digit (b ∷ bs)) (b ∷ bs))) (other_byte b) (λ t. token_length t ≤ length (b ∷ bs))
    (λ e. simp length-take (omega arith))
    (λ e. omega arith)

pub token_fits : (line : List ℕ) (p : ℕ) → p ≤ length line → p + token_length (token_after line p) ≤ length line
token_fits line p h = let within : token_length (token_after line p) ≤ length line - p = rw length-drop at (token_within (drop p line)) in omega arith

-- the token after p bytes, as it stands in front of `&line[p..]`
pub token_at : (line : List ℕ) (p : ℕ) (t : Token) → p ≤ length line → t ≡ first_token (take (length line - p) (drop p line)) → (t ≡ token_after line p) × (p + token_length t ≤ length line)
token_at line p t h e =
    let same : t ≡ token_after line p = e ∙ ap first_token (take_rest line p) in
    (same, omega (arith, token_fits line p h, ap token_length same))
