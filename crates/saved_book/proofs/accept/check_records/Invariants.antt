use Rattle.std.proofs.Common.{◌≡◌, true, is_ok}
use Rattle.orders.specs.Told.{grid_of}
use Rattle.saved_book.specs.Decoding.{orders_upto}
use Rattle.saved_book.proofs.accept.check_records.Given as goal

abbrev pub invariant-loop-place : goal.invariant-loop-place
invariant-loop-place l = is_ok (orders_upto (grid_of l.settings) l.layout.bytes.now l.layout.count l.place) ≡ true
