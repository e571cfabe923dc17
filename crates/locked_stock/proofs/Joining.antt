-- A checked instruction joins the line as its terms tell.
use Rattle.std.proofs.Common.{◌≡◌, ℕ, Bool, true, false, cond, List, [], ◌∷◌, ◌++◌, map, length, set, Result, refl, ap, ◌∙◌}
use Rattle.std.proofs.lemmas.List.{map_push, map-set}
use Rattle.orders.specs.Told.{told}
use Rattle.orders.specs.declared.instruction.Instruction.{Instruction}
use Rattle.orders.specs.declared.order.Order.{Order}
use Rattle.orders.specs.declared.refusal.Refusal.{Refusal}
use Rattle.orders.specs.declared.refusal.Refusal.TheVariants.{LockedStockFull}
use Rattle.waiting_line.specs.Lines.{waiting, slot_at, is_full, Put}
use Rattle.waiting_line.specs.declared.line.WaitingLine.{WaitingLine}
use Rattle.locked_stock.specs.Holding.{Joined}

pushed : (b : Bool) (ws : List (Instruction Order)) (x : Instruction Order) → map told (cond b ws (ws ++ x ∷ [])) ≡ cond b (map told ws) (map told ws ++ told x ∷ [])
pushed true ws x = refl
pushed false ws x = map_push told ws x

written : (b : Bool) (ss : List (Instruction Order)) (k : ℕ) (x : Instruction Order) → map told (cond b ss (set ss k x)) ≡ cond b (map told ss) (set (map told ss) k (told x))
written true ss k x = refl
written false ss k x = map-set told ss k x

pub joined : (l after : WaitingLine (Instruction Order)) (x : Instruction Order) (r : Result (Unit {0}) Refusal) → Put l x LockedStockFull r after → Joined (told x) l r after
joined l after x r p =
    record {
      value = p.value;
      held = ap (map told) p.waits ∙ pushed (is_full l) (waiting l) x;
      slots = ap (map told) p.slots ∙ written (is_full l) l.slots.now (slot_at l (length (waiting l))) x;
      lent = p.lent;
    }
