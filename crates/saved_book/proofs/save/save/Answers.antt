use Rattle.std.proofs.Common.{◌≡◌, true, false, Ok, ap, arith}
use Rattle.std.proofs.lemmas.Bool.{le-leb, lt-leb}
use Rattle.saved_book.specs.Calls.{has_room}
use Rattle.saved_book.proofs.Loading.{length_encode, loads_back}
use Rattle.saved_book.proofs.Writing.{wrote_book}
use Rattle.saved_book.proofs.save.save.Goals as goal

pub returns-then-out-size : goal.returns-then-out-size
returns-then-out-size g c =
    let ts = g.B.Book.orders c.args.book.now in
    let short : has_room (g.B.Book.orders c.args.book.now) c.args.out.now ≡ false = lt-leb _ _ (omega (arith, length_encode ts, c.count-count.ensures.value)) in
    record { value = rw short; after = rw short; loads_back = tt }

pub returns : goal.returns
returns g c =
    let ts = g.B.Book.orders c.args.book.now in
    let n = c.count-count.result in
    let room : has_room (g.B.Book.orders c.args.book.now) c.args.out.now ≡ true = le-leb _ _ (omega (arith, length_encode ts, c.count-count.ensures.value)) in
    record {
      value = rw room (ap (λ m. Ok m) (omega (arith, length_encode ts, c.count-count.ensures.value)));
      after = rw room (wrote_book ts n c.args.out.now c.put_head.new.out c.put_each.new.out c.put_each-2.new.out c.count-count.ensures.value (omega arith) c.put_head.ensures c.put_each.ensures.after c.put_each-2.ensures.after);
      loads_back = loads_back ts c.count-count.ensures.sound c.put_each.ensures.fit;
    }
