-- A day and its delayed twin, which sends after each freeze what the day sent in it.
use Rattle.std.specs.Prelude.{◌≡◌, List, [], ◌∷◌, ◌++◌}
use Rattle.orders.specs.declared.instruction.Instruction.{Instruction}
use Rattle.orders.specs.declared.terms.Terms.{Terms}
use Rattle.orders.specs.declared.ticket.Ticket.{Ticket}
use Rattle.locked_stock.specs.declared.receipt.Receipt.{Receipt}
use Rattle.days.specs.Days.{Entry, plain, answer_of}
use Rattle.days.specs.Sealed.{calls, uncounted}
use Rattle.days.specs.declared.answer.Answer.{Answer}
use Rattle.days.specs.declared.answer.Answer.TheVariants.{Done, Held, Frozen, Matched, Lifted, Refused}
use Rattle.days.specs.declared.call.Call.{Call}
use Rattle.days.specs.declared.call.Call.TheVariants.{Send, Freeze, Match, Lift}

-- where a day is: outside a freeze, or in one with what was answered "held" so far
pub data Where : Type 0 where
  outside : Where
  inside : List (Instruction Ticket) → Where

-- the instruction that a call sends, if it sends one
abbrev pub sent_by : Call → List (Instruction Ticket)
sent_by (Send i) = i ∷ []
sent_by Freeze = []
sent_by (Match q f n) = []
sent_by (Lift n) = []

-- where the day is after an entry, by its call and its answer
abbrev pub moved_on : Where → Call → Answer → Where
moved_on outside c (Done e) = outside
moved_on outside c Held = outside
moved_on outside c Frozen = inside []
moved_on outside c (Matched m) = outside
moved_on outside c (Lifted n) = outside
moved_on outside c (Refused e) = outside
moved_on (inside held) c (Done e) = inside held
moved_on (inside held) c Held = inside (held ++ sent_by c)
moved_on (inside held) c Frozen = inside held
moved_on (inside held) c (Matched m) = outside
moved_on (inside held) c (Lifted n) = outside
moved_on (inside held) c (Refused e) = inside held

-- instructions sent one after the other, each answered as its receipt tells
abbrev pub sent_later : List (Instruction Ticket) → List Receipt → List Entry
sent_later [] rs = []
sent_later (i ∷ is) [] = []
sent_later (i ∷ is) (r ∷ rs) = plain (Send i) (answer_of r.answer) ∷ sent_later is rs

-- a match or a lift with nothing held
abbrev pub unburdened : Entry → Entry
unburdened e = record { call = e.call; answer = uncounted e.answer; triggered = e.triggered; fills = e.fills; receipts = [] }

-- a call of a freeze, if it is no instruction
abbrev pub kept_call : Entry → Call → List Entry
kept_call e (Send i) = []
kept_call e Freeze = e ∷ []
kept_call e (Match q f n) = e ∷ []
kept_call e (Lift n) = e ∷ []

-- what the twin has in the place of an entry
abbrev pub retold_entry : Where → Entry → Answer → List Entry
retold_entry outside e a = e ∷ []
retold_entry (inside held) e (Done x) = kept_call e e.call
retold_entry (inside held) e Held = []
retold_entry (inside held) e Frozen = kept_call e e.call
retold_entry (inside held) e (Matched m) = unburdened e ∷ sent_later held e.receipts
retold_entry (inside held) e (Lifted n) = unburdened e ∷ sent_later held e.receipts
retold_entry (inside held) e (Refused x) = kept_call e e.call

-- the record of a day, told as if what was held had been sent straight after its freeze
abbrev pub retold : Where → List Entry → List Entry
retold w [] = []
retold w (e ∷ day) = retold_entry w e e.answer ++ retold (moved_on w e.call e.answer) day

-- a day that makes the twin's calls has the twin's record, and both close with the same book
abbrev pub DelayedTwin : List Entry → List Terms → List Entry → List Terms → Type 0
DelayedTwin one closing two closing' =
    calls two ≡ calls (retold outside one) → (two ≡ retold outside one) × (closing' ≡ closing)
