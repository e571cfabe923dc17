use Rattle.std.proofs.Common.{sym, ap, ◌∙◌, arith}
use Rattle.std.proofs.lemmas.Option.{slice_get_past}
use Rattle.std.specs.Option.{option_map}
use Rattle.std.specs.Result.{result_ok}
use Rattle.orders.specs.Told.{terms_of, grid_of}
use Rattle.saved_book.specs.Calls.{orders_in}
use Rattle.saved_book.proofs.Opening.{sound_in, nth_in, ok_seen}
use Rattle.saved_book.proofs.saved.SavedBook.order.Goals as goal

pub returns-then-place-self : goal.returns-then-place-self
returns-then-place-self c =
    let b = c.args.self.now in
    let ts = orders_in (grid_of b.settings) b.layout.bytes.now in
    record { value = sym (slice_get_past ts c.args.place (omega (arith, b.counted))); sound = sound_in (grid_of b.settings) b.layout.bytes.now }

pub returns : goal.returns
returns c =
    let b = c.args.self.now in
    record {
      value = ap (option_map terms_of) c.ok.ensures.value ∙ ok_seen terms_of c.order.result ∙ ap result_ok c.order.ensures ∙ sym (nth_in (grid_of b.settings) b.layout.bytes.now b.layout.count c.args.place b.counted c.if-place-self.false);
      sound = sound_in (grid_of b.settings) b.layout.bytes.now;
    }
