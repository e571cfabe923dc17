-- The terms of an order for tests.
use Rattle.std.specs.Prelude.{ℕ}
use Rattle.orders.specs.declared.terms.Kind.{Kind}
use Rattle.orders.specs.declared.terms.Side.{Side}
use Rattle.orders.specs.declared.terms.Terms.{Terms}

-- the order is participant 7's
abbrev pub made : ℕ → Side → Kind → ℕ → Terms
made number side kind quantity = record { number = number; participant = 7; side = side; kind = kind; quantity = quantity }
