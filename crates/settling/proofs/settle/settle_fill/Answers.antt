use Rattle.std.proofs.Common.{[], ◌∷◌, ap, ◌∙◌}
use Rattle.settling.proofs.Filling.{both_sides}
use Rattle.settling.specs.Fills.{after_fills}
use Rattle.settling.specs.Steps.{lone_fill}
use Rattle.settling.proofs.settle.settle_fill.Goals as goal

pub returns-then-fill : goal.returns-then-fill
returns-then-fill g c =
    let fill = c.args.fill in
    let both = ap (after_fills (lone_fill fill.seller fill.quantity ∷ [])) c.take_off.ensures.after ∙ both_sides fill (g.S.Book.orders c.args.store.now) c.if-fill.true in
    record { after = c.take_off-then-fill.ensures.after ∙ both; same = c.take_off-then-fill.ensures.same ∙ c.take_off.ensures.same }
