use Rattle.std.proofs.Common.{sym, ◌∙◌}
use Rattle.orders.specs.Told.{grid_of}
use Rattle.orders.proofs.Checking.{checked_in_range}
use Rattle.orders.proofs.settings.Settings.order.Goals as goal

pub invariant_of-result : goal.invariant_of-result
invariant_of-result c = record {
  ranged = checked_in_range (grid_of c.args.self) c.args.ticket c.in_ok-kind.kind
      (sym c.if-not-is_identified.ensures) (sym c.if-not-is_on_lot.ensures) (sym c.kind.ensures ∙ c.in_ok-kind.ensures.ok_part);
}
