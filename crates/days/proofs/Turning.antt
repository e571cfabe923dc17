-- The entry of a call names the call.
use Rattle.std.proofs.Common.{◌≡◌, List, Some, None, Ok, Err, Option, Result, refl}
use Rattle.orders.specs.Checks.{checked}
use Rattle.orders.specs.declared.instruction.Instruction.{Instruction}
use Rattle.orders.specs.declared.refusal.Refusal.{Refusal}
use Rattle.orders.specs.declared.terms.Terms.{Terms}
use Rattle.orders.specs.declared.ticket.Ticket.{Ticket}
use Rattle.auction.specs.Auctions.{Auction, auction_under}
use Rattle.locked_stock.specs.Receipts.{entries_fault}
use Rattle.engine.specs.Freezes.{admitted_to, match_fault}
use Rattle.days.specs.Days.{Rules, State, in_pre_call, in_freeze, waits, meets, lifts, turn}
use Rattle.days.specs.declared.call.Call.{Call}
use Rattle.days.specs.declared.call.Call.TheVariants.{Send, Freeze, Match, Lift}

waits_call : (ts : List Terms) (held : List (Instruction Terms)) (i : Instruction Ticket) (x : Result (Instruction Terms) Refusal) → (waits ts held i x).entry.call ≡ Send i
waits_call ts held i (Ok j) = refl
waits_call ts held i (Err e) = refl

meets_call : (r : Rules) (held : List (Instruction Terms)) (c : Call) (a : Auction) (ts : List Terms) (x : Option Refusal) → (meets r held c a ts x).entry.call ≡ c
meets_call r held c a ts (Some e) = refl
meets_call r held c a ts None = refl

lifts_call : (r : Rules) (held : List (Instruction Terms)) (c : Call) (ts : List Terms) (x : Option Refusal) → (lifts r held c ts x).entry.call ≡ c
lifts_call r held c ts (Some e) = refl
lifts_call r held c ts None = refl

pub call_same : (r : Rules) (s : State) (c : Call) → (turn r s c).entry.call ≡ c
call_same r (in_pre_call ts held) (Send i) = refl
call_same r (in_pre_call ts held) Freeze = refl
call_same r (in_pre_call ts held) (Match q f n) = refl
call_same r (in_pre_call ts held) (Lift n) = refl
call_same r (in_freeze ts held) (Send i) = waits_call ts held i (admitted_to r.stock held (checked r.grid i))
call_same r (in_freeze ts held) Freeze = refl
call_same r (in_freeze ts held) (Match q f n) = meets_call r held (Match q f n) (auction_under r.grid.tick q ts) ts (match_fault r.grid r.stock q f n ts)
call_same r (in_freeze ts held) (Lift n) = lifts_call r held (Lift n) ts (entries_fault n r.stock)
