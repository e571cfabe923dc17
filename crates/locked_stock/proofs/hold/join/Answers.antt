use Rattle.locked_stock.proofs.Joining.{joined}
use Rattle.locked_stock.proofs.hold.join.Goals as goal

pub returns : goal.returns
returns c = joined c.args.stock.now c.put.new.self c.args.instruction c.put.result c.put.ensures
