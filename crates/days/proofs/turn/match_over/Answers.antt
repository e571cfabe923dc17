use Rattle.days.proofs.Meeting.{carried_refused, carried_matched}
use Rattle.days.proofs.turn.match_over.Goals as goal

pub returns-in-Ok : goal.returns-in-Ok
returns-in-Ok g c = λ fills receipts same. carried_matched _ _ _ _ _ fills receipts _ _ _ _ _ _ _ same _ _ c.in-Ok.ensures.phase c.in-Ok.ensures.held

pub returns-in-Err : goal.returns-in-Err
returns-in-Err g c = λ fills receipts same. carried_refused _ _ _ _ _ fills receipts _ _ _ _ _ _ _ same _ _ c.in-Err.ensures.phase c.in-Err.ensures.held
