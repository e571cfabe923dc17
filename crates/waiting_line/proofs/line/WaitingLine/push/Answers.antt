use Rattle.std.proofs.Common.{◌+◌, take, set, sym, refl, ap, ◌∙◌, arith, length-set}
use Rattle.waiting_line.specs.Lines.{round_from, slot_at}
use Rattle.waiting_line.proofs.Rounds.{length_waiting, waiting_push}
use Rattle.waiting_line.proofs.line.WaitingLine.push.Goals as goal

pub slot-slot-requires : goal.slot-slot-requires
slot-slot-requires g c =
    let l = c.args.self.now in
    let long = length_waiting l.first l.count l.slots.now (omega (arith, l.inside)) l.within in
    record { some = omega (arith, c.requires); near = l.within }

pub invariant_of-self : goal.invariant_of-self
invariant_of-self g c =
    let l = c.args.self.now in
    let long = length_waiting l.first l.count l.slots.now (omega (arith, l.inside)) l.within in
    let same = length-set l.slots.now c.slot-slot.result c.args.record in
    record { within = omega (arith, c.requires); inside = omega (arith, l.inside) }

pub returns : goal.returns
returns g c =
    let l = c.args.self.now in
    let x = c.args.record in
    let long = length_waiting l.first l.count l.slots.now (omega (arith, l.inside)) l.within in
    record {
      waits = ap (λ i. take (l.count + 1) (round_from l.first (set l.slots.now i x))) c.slot-slot.ensures.value ∙ waiting_push l.first l.count l.slots.now x l.inside (omega (arith, c.requires));
      slots = ap (λ i. set l.slots.now i x) (c.slot-slot.ensures.value ∙ ap (slot_at l) (sym long));
      lent = refl;
    }
