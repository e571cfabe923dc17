use Rattle.std.proofs.Common.{[], ◌∷◌, ◌++◌, vec_items, ap, ◌∙◌}
use Rattle.days.specs.Journals.{told_by, entries_of}
use Rattle.days.proofs.Entering.{noted, as_much}
use Rattle.days.proofs.journal.Journal.note.Goals as goal

pub returns : goal.returns
returns c =
    let j = c.args.self.now in
    let k = c.counts-counts.ensures in
    (λ i. entries_of (c.push_reserved.ensures.items i) (c.extend.ensures i) (c.extend-2.ensures i) (c.extend-3.ensures i))
    ∙ noted (vec_items j.notes) (vec_items j.triggered) _ (vec_items j.fills) _ (vec_items j.receipts) _ c.args.note (j.stops_told ∙ j.triggered.ok.0) (j.fills_told ∙ j.fills.ok.0) (j.receipts_told ∙ j.receipts.ok.0)
    ∙ ap (λ e. told_by j ++ e ∷ []) (as_much c.args.note _ _ _ (ap (λ x. x.stops) k) (ap (λ x. x.fills) k) (ap (λ x. x.receipts) k))
