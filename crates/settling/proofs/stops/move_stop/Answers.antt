use Rattle.std.proofs.Common.{ap, ◌∙◌}
use Rattle.orders.specs.Told.{terms_of}
use Rattle.book.specs.Calls.{after_append}
use Rattle.settling.proofs.Moving.{stop_appended}
use Rattle.settling.proofs.stops.move_stop.Goals as goal

pub returns : goal.returns
returns g c =
    let s = c.args.store.now in
    let us = g.S.Book.orders c.take_out.new.self in
    let same = c.take_out.ensures.kept.same in
    let moved = ap (λ room. after_append room (terms_of c.in-Some.order) us) same ∙ stop_appended c.args.quote _ _ _ us _ c.in-Some.ensures (g.met.S.Store.sound s) (g.met.S.Store.within s) c.take_out.ensures.after in
    record { after = c.append.ensures.after ∙ moved; same = c.append.ensures.kept.same ∙ same }
