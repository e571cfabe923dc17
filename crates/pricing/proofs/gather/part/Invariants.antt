use Rattle.pricing.proofs.Parting.{Parting}
use Rattle.pricing.proofs.gather.part.Given as goal

abbrev pub invariant-loop-order : goal.invariant-loop-order
invariant-loop-order g l = Parting l.quote (g.B.Book.orders l.book) l.order-iterator l.parted
