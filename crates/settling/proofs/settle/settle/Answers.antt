use Rattle.std.proofs.Common.{refl, sym, ap, ◌∙◌, subst}
use Rattle.std.proofs.lemmas.List.{take_all}
use Rattle.settling.proofs.Filling.{settled_none, settled_more}
use Rattle.settling.proofs.Keeping.{fills_conserve}
use Rattle.settling.specs.Conservation.{TradedOrOpen}
use Rattle.settling.specs.Fills.{after_fills}
use Rattle.settling.proofs.settle.settle.Goals as goal

pub loop-fill-init : goal.loop-fill-init
loop-fill-init g c = (settled_none (g.S.Book.orders c.args.store.now) (g.met.S.Store.sound c.args.store.now), refl)

pub loop-fill-preserved : goal.loop-fill-preserved
loop-fill-preserved g c = (
  settled_more c.args.fills.now c.loop-fill.fill-index _ c.loop-fill-test.true _ _ _ c.loop-fill.invariant.0 c.settle_fill.ensures.after,
  c.settle_fill.ensures.same ∙ c.loop-fill.invariant.1,
)

pub returns-clause-conserves : goal.returns-clause-conserves
returns-clause-conserves g c =
    let s = c.args.store.now in
    let ts = g.S.Book.orders s in
    let fs = c.args.fills.now in
    let after = c.loop-fill.invariant.0 ∙ ap (λ l. after_fills l ts) (take_all c.loop-fill.fill-index fs c.loop-fill-test.false) in
    subst (TradedOrOpen fs ts) (sym after) (fills_conserve fs ts (g.met.S.Store.sound s).apart)
