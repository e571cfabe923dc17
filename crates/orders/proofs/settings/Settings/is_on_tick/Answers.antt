use Rattle.std.proofs.Common.{arith}
use Rattle.orders.proofs.Stepping.{tick_some}
use Rattle.orders.proofs.settings.Settings.is_on_tick.Goals as goal

pub nonzero_rem-result : goal.nonzero_rem-result
nonzero_rem-result c = omega (arith, tick_some c.args.self.tick_class)
