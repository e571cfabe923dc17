use Rattle.std.proofs.Common.{◌≡◌, ℕ, List, sym, refl, subst, arith}
use Rattle.std.proofs.lemmas.List.{nil_from_length}
use Rattle.std.proofs.lemmas.Bool.{ltb-true}
use Rattle.day_lines.specs.Texts.{newline_cut}
use Rattle.day_lines.proofs.reading.without_newline.Goals as goal

pub returns-in_default : goal.returns-in_default
returns-in_default c = subst (λ (l : List ℕ). l ≡ newline_cut l) (sym (nil_from_length c.args.line.now (omega (arith, ltb-true)))) refl
