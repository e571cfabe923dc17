use Rattle.std.proofs.Common.{fold, length, sym, ap, ◌∙◌, subst}
use Rattle.settling.proofs.Keeping.{stops_conserve}
use Rattle.settling.proofs.Moving.{all_moved}
use Rattle.settling.proofs.Noting.{as_many}
use Rattle.settling.specs.Conservation.{OpenAsBefore}
use Rattle.settling.specs.Steps.{stop_moved}
use Rattle.settling.proofs.stops.trigger_stops.Goals as goal

pub returns : goal.returns
returns g c =
    let q = c.args.quote in
    let s = c.args.store.now in
    let ts = g.S.Book.orders s in
    let apart = (g.met.S.Store.sound s).apart in
    let noted = c.note_stops-numbers.ensures in
    let after =
    c.move_stops.ensures.after
    ∙ ap (λ ns. fold (stop_moved q) ts ns) (c.deref.ensures.0 ∙ noted)
    ∙ all_moved q ts apart in
    record {
      value = c.len.ensures.value ∙ ap length noted ∙ as_many q ts;
      after = after;
      same = c.move_stops.ensures.same;
      sound = g.met.S.Store.sound c.move_stops.new.store;
      conserves = subst (OpenAsBefore ts) (sym after) (stops_conserve q ts apart);
    }
