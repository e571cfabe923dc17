-- The codes of sides and types, read.
use Rattle.std.specs.Prelude.{◌≡◌, ℕ, if◌then◌else◌, Some, None, Option, Result, ◌==◌}
use Rattle.std.specs.Option.{ok_or}
use Rattle.orders.specs.declared.terms.OrderType.{OrderType}
use Rattle.orders.specs.declared.terms.OrderType.TheVariants.{Market, Limit, StopMarket, StopLimit}
use Rattle.orders.specs.declared.terms.Side.{Side}
use Rattle.orders.specs.declared.terms.Side.TheVariants.{Buy, Sell}
use Rattle.orders.specs.declared.terms.UnknownCode.{UnknownCode}

-- the side of a code, if it names one
abbrev pub side_named : ℕ → Option Side
side_named b = if b == 0 then Some Buy else if b == 1 then Some Sell else None

-- the type of a code, if it names one
abbrev pub type_named : ℕ → Option OrderType
type_named b = if b == 0 then Some Market else if b == 1 then Some Limit else if b == 2 then Some StopMarket else if b == 3 then Some StopLimit else None

-- the answer to a code is the side that it names, or the code
abbrev pub IsSideOf : ℕ → Result Side UnknownCode → Type 0
IsSideOf n r = r ≡ ok_or (side_named n) (record { 0 = n })

abbrev pub IsTypeOf : ℕ → Result OrderType UnknownCode → Type 0
IsTypeOf n r = r ≡ ok_or (type_named n) (record { 0 = n })
