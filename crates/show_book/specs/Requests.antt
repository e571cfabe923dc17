-- What the arguments of the tool ask for.
use Rattle.std.specs.Prelude.{ℕ, cond, ◌&&◌, List, length, Some, None, Option, ◌==◌, nat_le, slice_index}
use Rattle.show_book.specs.declared.request.Request.{Request}

-- lot, tick class, bid, ask, bid volume and ask volume, and nothing else; a lot has 16 bits
abbrev pub asked : List ℕ → Option Request
asked ns =
    cond (length ns == 6 && nat_le (slice_index ns 0) 65535)
    (Some (record {
      lot = slice_index ns 0;
      tick_class = slice_index ns 1;
      quote = record { bid = slice_index ns 2; ask = slice_index ns 3; bid_volume = slice_index ns 4; ask_volume = slice_index ns 5 };
    }))
    None
