use Rattle.std.proofs.Common.{◌≡◌, ℕ, ◌<◌, ◌∷◌, length, refl, ap, ◌∙◌, arith}
use Rattle.orders.specs.Told.{told}
use Rattle.waiting_line.specs.Lines.{waiting}
use Rattle.locked_stock.specs.Holding.{held_in}
use Rattle.locked_stock.proofs.Turns.{begun, few, oldest, none_wait, none_left, more, done}
use Rattle.locked_stock.proofs.release.carry_out_all.Given as given
use Rattle.locked_stock.proofs.release.carry_out_all.Goals as goal
use Rattle.locked_stock.proofs.release.carry_out_all.Goals.{After-carry_out}

pub loop-instruction-init : goal.loop-instruction-init
loop-instruction-init g c = (begun _ _ _ _, refl, refl, refl)

front : (g : given.Over) (c : After-carry_out g) → held_in c.loop-instruction.stock ≡ told c.in-Some.instruction ∷ held_in c.take.new.self
front g c = oldest (waiting c.loop-instruction.stock) (waiting c.take.new.self) c.in-Some.instruction c.in-Some.ensures.value c.take.ensures.waits

-- there is an entry for one more, and no more than 256
record Room (k n : ℕ) : Type 0 where
  inside : k < n
  small : k < 256

room : (g : given.Over) (c : After-carry_out g) → Room c.loop-instruction.count (length c.loop-instruction.receipts)
room g c =
    let most = few c.args.stock.now in
    let left = ap length (front g c) in
    let counted = c.loop-instruction.invariant.0.count in
    record { inside = omega (arith, c.requires); small = omega arith }

pub bounds-receipts-count : goal.bounds-receipts-count
bounds-receipts-count g c = (room g c).inside

pub offset_bounds-receipts-count : goal.offset_bounds-receipts-count
offset_bounds-receipts-count g c = omega (arith, (room g c).small)

pub overflow_add-count : goal.overflow_add-count
overflow_add-count g c = omega (arith, (room g c).small)

pub loop-instruction-smaller : goal.loop-instruction-smaller
loop-instruction-smaller g c = omega (arith, ap length (front g c))

pub loop-instruction-preserved : goal.loop-instruction-preserved
loop-instruction-preserved g c =
    let inv = c.loop-instruction.invariant in
    let deed = c.carry_out.ensures in (
      more (told c.in-Some.instruction) inv.1 (front g c) (room g c).inside c.number_of.ensures deed.value deed.after inv.0,
      deed.same ∙ inv.1,
      c.take.ensures.slots ∙ inv.2,
      c.take.ensures.lent ∙ inv.3,
    )

pub returns : goal.returns
returns g c =
    let inv = c.loop-instruction.invariant in
    let all = done (none_wait (waiting c.loop-instruction.stock) c.in_default.ensures.value) inv.0 in
    record {
      value = all.count;
      book = all.book;
      receipts = all.receipts;
      held = none_left (waiting c.loop-instruction.stock) (waiting c.take.new.self) c.in_default.ensures.value c.take.ensures.waits;
      slots = c.take.ensures.slots ∙ inv.2;
      lent = c.take.ensures.lent ∙ inv.3;
      same = inv.1;
    }
