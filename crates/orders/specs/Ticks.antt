-- The settings of a market: the lot and the tick of its class.
use Rattle.std.specs.Prelude.{ℕ, ◌*◌, ◌/◌, ◌%◌, ◌^◌, Bool, cond, ◌&&◌, [], ◌∷◌, Ok, Err, Result, nat_le, slice_index}
use Rattle.orders.specs.declared.refusal.Refusal.{Refusal}
use Rattle.orders.specs.declared.refusal.Refusal.TheVariants.{Settings}

-- 1, 2, 5, 10, 20, 50, 100 and so on, by the class from 0
abbrev pub tick_of : ℕ → ℕ
tick_of class = slice_index (1 ∷ 2 ∷ 5 ∷ []) (class % 3) * 10 ^ (class / 3)

-- a lot from 1 to 1,000, and a tick class from 0 to 17
abbrev pub valid_settings : ℕ → ℕ → Bool
valid_settings lot class = nat_le 1 lot && nat_le lot 1000 && nat_le class 17

-- what settings say: quantities are multiples of the lot, and prices of the tick
pub record Grid : Type 0 where
  pub lot : ℕ
  pub tick : ℕ

abbrev pub grid : ℕ → ℕ → Grid
grid lot class = record { lot = lot; tick = tick_of class }

-- the grid of a lot and a tick class, or the refusal
abbrev pub settings_answer : ℕ → ℕ → Result Grid Refusal
settings_answer lot class = cond (valid_settings lot class) (Ok (grid lot class)) (Err Settings)
