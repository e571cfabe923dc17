use Rattle.orders.specs.Told.{grid_of}
use Rattle.saved_book.proofs.Opening.{sound_in}
use Rattle.saved_book.proofs.reading.SavedBookBook.count.Goals as goal

pub returns : goal.returns
returns c =
    let b = c.args.self.now in
    record { value = b.counted; sound = sound_in (grid_of b.settings) b.layout.bytes.now }
