use Rattle.day_lines.proofs.Tokens.{token_at}
use Rattle.day_lines.proofs.cursor.Cursor.field.Goals as goal

pub returns : goal.returns
returns c =
    let cursor = c.args.self.now in
    let here = token_at cursor.line.now cursor.at _ cursor.inside c.first.ensures.token in
    record { token = here.0; place = c.first.ensures.place; within = here.1 }
