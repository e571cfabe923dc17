use Rattle.std.proofs.Common.{◌≡◌, true, ◌-◌, take, subst, arith}
use Rattle.std.specs.Char.{is_ascii_digit}
use Rattle.std.specs.List.{list_all, prefix_len}
use Rattle.day_lines.proofs.Tokens.{ascii_digits}
use Rattle.day_lines.proofs.digits.Digits.in_front.Goals as goal

pub invariant_of-result : goal.invariant_of-result
invariant_of-result c =
    let all : prefix_len is_ascii_digit c.args.text.now ≡ c.digits_in_front-n.result - 0 = omega (arith, c.digits_in_front-n.ensures.count) in
    record { decimal = subst (λ n. list_all is_ascii_digit (take n c.args.text.now) ≡ true) all (ascii_digits c.args.text.now) }
