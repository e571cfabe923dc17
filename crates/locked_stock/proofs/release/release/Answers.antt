use Rattle.locked_stock.proofs.Releases.{kept, emptied}
use Rattle.locked_stock.proofs.release.release.Goals as goal

pub returns-then-receipts-capacity : goal.returns-then-receipts-capacity
returns-then-receipts-capacity g c = kept _ _ _ _ (g.met.S.Store.sound c.args.store.now) c.if-receipts-capacity.true c.capacity.ensures

pub returns : goal.returns
returns g c = emptied _ _ _ _ _ _ _ _ _ (g.met.S.Store.sound c.args.store.now) c.if-receipts-capacity.false c.capacity.ensures c.carry_out_all.ensures
