use Rattle.std.proofs.Common.{◌+◌, ◌*◌, ap, ◌∙◌}
use Rattle.std.specs.Option.{ok_or}
use Rattle.saved_book.specs.Decoding.{ticket_at}
use Rattle.saved_book.specs.declared.fault.RecordFault.TheVariants.{Code}
use Rattle.saved_book.proofs.Tickets.{ticket_alone}
use Rattle.saved_book.proofs.layout.Layout.ticket.Goals as goal

pub returns : goal.returns
returns c =
    let l = c.args.self.now in
    c.ticket_of.ensures
    ∙ (λ i. ok_or (ticket_at (c.array_at.ensures i) (c.number.ensures i) 0) Code)
    ∙ ap (λ t. ok_or t Code) (ticket_alone l.bytes.now _ (8 + 4 * l.count + 16 * c.args.place))
