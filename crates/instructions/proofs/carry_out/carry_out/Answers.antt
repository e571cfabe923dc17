use Rattle.std.proofs.Common.{ap}
use Rattle.orders.specs.Told.{told}
use Rattle.instructions.proofs.Conserving.{carried}
use Rattle.instructions.proofs.carry_out.carry_out.Goals as goal

pub returns-in-Enter : goal.returns-in-Enter
returns-in-Enter g c =
    let s = c.args.store.now in
    let e = c.enter.ensures in
    let k = carried (g.S.Store.room s) _ (told c.args.instruction) c.enter.result (g.S.Book.orders s) (g.S.Book.orders c.enter.new.store) (g.met.S.Store.sound s) (ap told c.in-Enter.is) e.value e.after in
    record { value = k.value; after = k.after; same = e.same; conserves = k.conserved }

pub returns-in-Change : goal.returns-in-Change
returns-in-Change g c =
    let s = c.args.store.now in
    let e = c.change.ensures in
    let k = carried (g.S.Store.room s) _ (told c.args.instruction) c.change.result (g.S.Book.orders s) (g.S.Book.orders c.change.new.store) (g.met.S.Store.sound s) (ap told c.in-Change.is) e.value e.after in
    record { value = k.value; after = k.after; same = e.same; conserves = k.conserved }

pub returns-in-Delete : goal.returns-in-Delete
returns-in-Delete g c =
    let s = c.args.store.now in
    let e = c.delete.ensures in
    let k = carried (g.S.Store.room s) _ (told c.args.instruction) c.delete.result (g.S.Book.orders s) (g.S.Book.orders c.delete.new.store) (g.met.S.Store.sound s) (ap told c.in-Delete.is) e.value e.after in
    record { value = k.value; after = k.after; same = e.same; conserves = k.conserved }
