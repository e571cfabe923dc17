use Rattle.std.proofs.Common.{sym, arith}
use Rattle.waiting_line.proofs.Rounds.{length_waiting}
use Rattle.waiting_line.proofs.line.WaitingLine.len.Goals as goal

pub returns : goal.returns
returns g c =
    let l = c.args.self.now in
    record { value = sym (length_waiting l.first l.count l.slots.now (omega (arith, l.inside)) l.within); within = l.within }
