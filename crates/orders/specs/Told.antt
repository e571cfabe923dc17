-- Orders by their terms and settings by their grid: definitions speak of these, and the code hands about values that are in range.
use Rattle.orders.specs.declared.instruction.Instruction.{Instruction}
use Rattle.orders.specs.declared.instruction.Instruction.TheVariants.{Enter, Change, Delete}
use Rattle.orders.specs.Ticks.{Grid, grid}
use Rattle.orders.specs.declared.order.Order.{Order}
use Rattle.orders.specs.declared.settings.Settings.{Settings}
use Rattle.orders.specs.declared.terms.Terms.{Terms}

abbrev pub terms_of : Order → Terms
terms_of o = o.terms

-- an instruction by the terms of its order
abbrev pub told : Instruction Order → Instruction Terms
told (Enter o) = Enter (terms_of o)
told (Change o) = Change (terms_of o)
told (Delete n p) = Delete n p

abbrev pub grid_of : Settings → Grid
grid_of s = grid s.lot s.tick_class
