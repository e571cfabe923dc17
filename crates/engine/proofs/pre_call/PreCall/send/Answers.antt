use Rattle.std.proofs.Common.{ap, ◌∙◌, subst}
use Rattle.orders.specs.Told.{grid_of}
use Rattle.instructions.specs.Conservation.{Conserved}
use Rattle.engine.proofs.Naming.{same_number}
use Rattle.engine.specs.PreCalls.{answer_once, book_once}
use Rattle.engine.proofs.pre_call.PreCall.send.Goals as goal

pub returns : goal.returns
returns g c =
    let room = g.S.Store.room c.args.store.now in
    let before = g.S.Book.orders c.args.store.now in
    let done = c.carry_out.ensures in
    let checked = c.in_ok-check.ensures in
    record {
      value = done.value ∙ ap (λ r. answer_once r room before) checked;
      book = done.after ∙ ap (λ r. book_once r room before) checked;
      same = done.same;
      conserves = subst (λ n. Conserved n c.carry_out.result before (g.S.Book.orders c.carry_out.new.store)) (same_number (grid_of c.args.self.now.settings) c.args.instruction _ checked) done.conserves;
    }
