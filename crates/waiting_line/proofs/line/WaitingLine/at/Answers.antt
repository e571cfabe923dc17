use Rattle.std.proofs.Common.{get_or, sym, ap, ◌∙◌, arith}
use Rattle.std.proofs.lemmas.Option.{slice_get_past}
use Rattle.waiting_line.specs.Lines.{waiting}
use Rattle.waiting_line.proofs.Rounds.{length_waiting, waiting_at}
use Rattle.waiting_line.proofs.line.WaitingLine.at.Goals as goal

pub returns-then-place-self : goal.returns-then-place-self
returns-then-place-self g c =
    let l = c.args.self.now in
    let long = length_waiting l.first l.count l.slots.now (omega (arith, l.inside)) l.within in
    sym (slice_get_past (waiting l) c.args.place (omega arith))

pub returns : goal.returns
returns g c =
    let l = c.args.self.now in
    let x = c.index-slots-slot.result in
    waiting_at l.first l.count c.args.place l.slots.now x l.inside l.within c.if-place-self.false
    (c.index-slots-slot.is ∙ ap (λ i. get_or l.slots.now i x) c.slot-slot.ensures.value)
