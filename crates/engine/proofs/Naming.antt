-- A checked instruction is about the number that was named.
use Rattle.std.proofs.Common.{◌≡◌, Bool, true, false, cond, Some, None, Ok, Err, Option, Result, refl, ap, ◌∙◌}
use Rattle.std.specs.Option.{ok_or}
use Rattle.orders.specs.Checks.{checked, checked_ticket, terms_under, identified, on_lot}
use Rattle.orders.specs.Results.{seen}
use Rattle.orders.specs.Ticks.{Grid}
use Rattle.orders.specs.declared.instruction.Instruction.{Instruction}
use Rattle.orders.specs.declared.instruction.Instruction.TheVariants.{Enter, Change, Delete}
use Rattle.orders.specs.declared.refusal.Refusal.{Refusal}
use Rattle.orders.specs.declared.terms.Kind.{Kind}
use Rattle.orders.specs.declared.terms.Terms.{Terms}
use Rattle.orders.specs.declared.ticket.Ticket.{Ticket}
use Rattle.instructions.specs.Conservation.{about}
use Rattle.engine.specs.PreCalls.{named}

-- a result that passed a test
passed : {A : Type 0} (b : Bool) (r : Result A Refusal) (e : Refusal) (x : A) → Ok x ≡ cond b r (Err e) → Ok x ≡ r
passed true r e x h = h
passed false r e x h = cc

under : (t : Ticket) (k : Option Kind) (e : Refusal) (u : Terms) → Ok u ≡ seen (terms_under t) (ok_or k e) → u.number ≡ t.number
under t None e u h = cc
under t (Some k) e u h = let same : u ≡ terms_under t k = cc in ap (λ x. x.number) same

ticket_number : (g : Grid) (t : Ticket) (u : Terms) → Ok u ≡ checked_ticket g t → u.number ≡ t.number
ticket_number g t u h = under t _ _ u (passed (on_lot g t.quantity) _ _ u (passed (identified t.number t.participant) _ _ u h))

-- the instruction that a checked ticket makes
made : (g : Grid) (t : Ticket) (make : Terms → Instruction Terms) (r : Result Terms Refusal) (j : Instruction Terms) → ((u : Terms) → about (make u) ≡ u.number) → ((u : Terms) → Ok u ≡ r → u.number ≡ t.number) → Ok j ≡ seen make r → about j ≡ t.number
made g t make (Ok u) j m n h = let same : j ≡ make u = cc in ap about same ∙ m u ∙ n u refl
made g t make (Err e) j m n h = cc

pub same_number : (g : Grid) (i : Instruction Ticket) (j : Instruction Terms) → Ok j ≡ checked g i → about j ≡ named i
same_number g (Enter t) j h = made g t Enter (checked_ticket g t) j (λ u. refl) (ticket_number g t) h
same_number g (Change t) j h = made g t Change (checked_ticket g t) j (λ u. refl) (ticket_number g t) h
same_number g (Delete n p) j h = let same : j ≡ Delete n p = cc (passed (identified n p) (Ok (Delete n p)) _ j h) in ap about same
