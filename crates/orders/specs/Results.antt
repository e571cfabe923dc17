-- Results seen through a function.
use Rattle.std.specs.Result.{result_map_both}
use Rattle.std.specs.Prelude.{Result}

-- a result with the value seen through f
abbrev pub seen : {A B E : Type 0} → (A → B) → Result A E → Result B E
seen f r = result_map_both f (λ e. e) r
