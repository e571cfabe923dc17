use Rattle.std.proofs.Common.{[]}
use Rattle.days.proofs.Carrying.{passed}
use Rattle.days.proofs.Waiting.{carried_waits}
use Rattle.days.proofs.turn.turn_in_freeze.Goals as goal

pub returns-in-Send : goal.returns-in-Send
returns-in-Send g c =
    rw c.in-Send.is (passed (carried_waits _ _ _ [] [] _ _ c.send.result _ _ c.into-answer.ensures c.send.ensures) c.note.ensures)
