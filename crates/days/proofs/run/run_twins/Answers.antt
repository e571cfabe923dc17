use Rattle.orders.specs.Told.{grid_of}
use Rattle.days.specs.Journals.{told_by}
use Rattle.days.proofs.Siding.{side_by_side, by_rules}
use Rattle.days.proofs.run.run_twins.Goals as goal

pub returns : goal.returns
returns g c =
    let one = c.run_day-first.ensures.run in
    let two = c.run_day-second.ensures.run in
    let s = c.args.store.now in
    let t = c.args.other_store.now in
    let grid = grid_of c.args.settings in
    record {
      laws =
          side_by_side _ _ (g.met.A.Store.sound s).apart (g.met.B.Store.sound t).apart
          (by_rules grid (g.A.Store.room s) c.args.stock.now (g.A.Book.orders s) c.args.calls.now c.run_day-first.result.calls (told_by c.args.journal.now) _ _ one.told one.ended)
          (by_rules grid (g.B.Store.room t) c.args.other_stock.now (g.B.Book.orders t) c.args.other_calls.now c.run_day-second.result.calls (told_by c.args.other_journal.now) _ _ two.told two.ended);
      first_carried = one.carried;
      second_carried = two.carried;
    }
