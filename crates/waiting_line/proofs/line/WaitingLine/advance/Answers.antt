use Rattle.std.proofs.Common.{◌-◌, take, refl, ap, ◌∙◌, arith}
use Rattle.waiting_line.specs.Lines.{round_from}
use Rattle.waiting_line.proofs.Rounds.{waiting_next}
use Rattle.waiting_line.proofs.line.WaitingLine.advance.Goals as goal

pub returns : goal.returns
returns g c =
    let l = c.args.self.now in
    record {
      waits = ap (λ i. take (l.count - 1) (round_from i l.slots.now)) c.slot-self.ensures.value ∙ waiting_next l.first l.count l.slots.now l.inside (omega arith) l.within;
      slots = refl;
      lent = refl;
    }
