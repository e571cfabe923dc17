use Rattle.std.proofs.Common.{◌≡◌, ◌++◌, drop, vec_items}
use Rattle.days.specs.Delayed.{outside}
use Rattle.twin_calls.specs.Steps.{where_of, twin_from}
use Rattle.twin_calls.proofs.twin_calls.Given as goal

abbrev pub invariant-loop-note : goal.invariant-loop-note
invariant-loop-note l = vec_items l.twin ++ twin_from (where_of l.place) (drop l.note-index l.note-items) ≡ twin_from outside l.note-items
