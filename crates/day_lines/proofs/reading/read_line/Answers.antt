use Rattle.std.proofs.Common.{sym, subst}
use Rattle.day_lines.proofs.Backs.{reads_back}
use Rattle.day_lines.proofs.Places.{placed}
use Rattle.day_lines.specs.Laws.{Placed}
use Rattle.day_lines.proofs.reading.read_line.Goals as goal

pub returns : goal.returns
returns c =
    let line = c.args.line.now in
    record {
      value = c.place.ensures;
      placed = subst (Placed line) (sym c.place.ensures) (placed c.args.stage line);
      read_back = reads_back;
    }
