use Rattle.days.proofs.Lifting.{carried_lifted}
use Rattle.days.proofs.turn.lift_over.Goals as goal

pub returns-in-Ok : goal.returns-in-Ok
returns-in-Ok g c = λ receipts fills same. carried_lifted _ _ _ _ receipts _ _ _ _ _ same _ c.in-Ok.ensures.released _ fills c.in-Ok.ensures.phase
