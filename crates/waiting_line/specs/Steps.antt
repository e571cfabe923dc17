-- What the steps of the code give.
use Rattle.std.specs.Prelude.{◌≡◌, [], ◌∷◌, ◌++◌, length, drop, slice_set}
use Rattle.waiting_line.specs.Lines.{waiting, slot_at}
use Rattle.waiting_line.specs.declared.line.WaitingLine.{WaitingLine}

pub record Pushed {T : Type 0} (l : WaitingLine T) (x : T) (after : WaitingLine T) : Type 0 where
  pub waits : waiting after ≡ waiting l ++ x ∷ []
  pub slots : after.slots.now ≡ slice_set l.slots.now (slot_at l (length (waiting l))) x
  pub lent : after.slots.ghost_name ≡ l.slots.ghost_name

pub record Advanced {T : Type 0} (l after : WaitingLine T) : Type 0 where
  pub waits : waiting after ≡ drop 1 (waiting l)
  pub slots : after.slots.now ≡ l.slots.now
  pub lent : after.slots.ghost_name ≡ l.slots.ghost_name
