use Rattle.std.proofs.Common.{◌≡◌, ap, ◌∙◌, arith}
use Rattle.std.proofs.lemmas.List.{take_all}
use Rattle.std.specs.Str.Parse.{digits_value}
use Rattle.day_lines.proofs.Values.{all_digits, one_more}
use Rattle.day_lines.proofs.digits.Digits.value.Goals as goal

pub overflow_mul-sum : goal.overflow_mul-sum
overflow_mul-sum c = let turn = one_more _ _ _ (omega arith) (all_digits _ c.args.self.decimal) c.loop-digit-test.true c.loop-digit.invariant in omega arith

pub overflow_sub-digit : goal.overflow_sub-digit
overflow_sub-digit c = let turn = one_more _ _ _ (omega arith) (all_digits _ c.args.self.decimal) c.loop-digit-test.true c.loop-digit.invariant in omega arith

pub overflow_add-sum : goal.overflow_add-sum
overflow_add-sum c = let turn = one_more _ _ _ (omega arith) (all_digits _ c.args.self.decimal) c.loop-digit-test.true c.loop-digit.invariant in omega arith

pub loop-digit-preserved : goal.loop-digit-preserved
loop-digit-preserved c = let turn = one_more _ _ _ (omega arith) (all_digits _ c.args.self.decimal) c.loop-digit-test.true c.loop-digit.invariant in omega arith

pub returns : goal.returns
returns c =
    let value : c.loop-digit.sum ≡ digits_value 10 c.args.self.bytes.now = c.loop-digit.invariant ∙ ap (digits_value 10) (take_all c.loop-digit.digit-index c.args.self.bytes.now (omega arith)) in
    grind (arith, value)
