use Rattle.std.proofs.Common.{sym, ap, ◌∙◌}
use Rattle.day.specs.Days.{opening, pre_call, state_of}
use Rattle.day_lines.specs.Grammar.{day_line}
use Rattle.day_lines.specs.declared.stage.Stage.TheVariants as stage
use Rattle.engine.specs.PreCalls.{grid_under}
use Rattle.day.proofs.Keeping.{stepped, opened_book, carried_state}
use Rattle.day.proofs.day.Day.line.Goals as goal

pub returns-in-Opening : goal.returns-in-Opening
returns-in-Opening g c =
    let s = c.args.self.now.store in
    let done = c.open.ensures in
    stepped (g.S.Store.room s) _ opening (g.S.Book.orders s) c.args.line.now _ _ _ _
    (ap state_of c.in-Opening.is)
    done.value
    done.state
    (ap g.S.Book.orders done.same ∙ sym (opened_book _ _))
    (ap g.S.Store.room done.same)

pub returns-in-PreCall : goal.returns-in-PreCall
returns-in-PreCall g c =
    let s = c.args.self.now.store in
    let done = c.carry_out.ensures in
    let is = ap state_of c.in-PreCall.is in
    stepped (g.S.Store.room s) _ (pre_call (grid_under c.in-PreCall.pre_call)) (g.S.Book.orders s) c.args.line.now _ _ _ _
    is
    done.value
    (is ∙ sym (carried_state (grid_under c.in-PreCall.pre_call) (g.S.Store.room s) (day_line stage.PreCall c.args.line.now) (g.S.Book.orders s)))
    done.book
    done.same
