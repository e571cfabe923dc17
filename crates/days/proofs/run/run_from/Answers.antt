use Rattle.std.proofs.Common.{◌≡◌, length, sym, refl, ◌∙◌, arith}
use Rattle.days.proofs.Siding.{begun, one_more, ran, kept_on}
use Rattle.days.proofs.run.run_from.Goals as goal

pub loop-carried-init : goal.loop-carried-init
loop-carried-init g c = (begun _ _ _ _, refl, record { room = refl; lent = refl }, refl)

pub loop-carried-preserved : goal.loop-carried-preserved
loop-carried-preserved g c =
    let inv = c.loop-carried.invariant in
    let e = c.turn-phase.ensures in (
      one_more _ _ _ _ _ _ _ _ _ _ _ c.loop-carried-test.true (λ i. record { grid = inv.1 i; room = inv.3 i; stock = inv.2.room i }) inv.0 e.turned,
      e.grid ∙ inv.1,
      kept_on _ _ _ inv.2 e.kept,
      e.same ∙ inv.3,
    )

pub returns-then-not-has_room : goal.returns-then-not-has_room
returns-then-not-has_room g c =
    let inv = c.loop-carried.invariant in
    record {
      run = record { told = inv.0.told; ended = inv.0.state; carried = λ h. sym c.if-not-has_room.ensures; within = omega (arith, c.loop-carried-test.true); kept = inv.2; same = inv.3 };
      grid = inv.1;
    }

pub returns : goal.returns
returns g c =
    let inv = c.loop-carried.invariant in
    let all : length c.args.calls.now ≡ c.loop-carried.carried = omega (arith, c.loop-carried-test.false, c.loop-carried.auto.carried-end) in
    let done = ran all inv.0 in
    record {
      run = record { told = done.0; ended = done.1; carried = λ h. absurd (omega (arith, h)); within = omega arith; kept = inv.2; same = inv.3 };
      grid = inv.1;
    }
