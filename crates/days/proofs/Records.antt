-- Records of days: one day after another, and parts of a record.
use Rattle.std.proofs.Common.{◌≡◌, List, [], ◌∷◌, ◌++◌, sym, refl, ap, ◌∙◌}
use Rattle.days.specs.Days.{Rules, State, Entry, turn, record_of, end_of}
use Rattle.days.specs.Sealed.{calls}
use Rattle.days.specs.declared.call.Call.{Call}
use Rattle.days.proofs.Turning.{call_same}

-- a list of entries that is the record of a day from s
abbrev pub Lawful : Rules → State → List Entry → Type 0
Lawful r s day = day ≡ record_of r s (calls day)

pub record-++ : (r : Rules) (s : State) (xs ys : List Call) → record_of r s (xs ++ ys) ≡ record_of r s xs ++ record_of r (end_of r s xs) ys
record-++ r s [] ys = refl
record-++ r s (c ∷ xs) ys = ap (λ l. (turn r s c).entry ∷ l) (record-++ r (turn r s c).state xs ys)

pub end-++ : (r : Rules) (s : State) (xs ys : List Call) → end_of r s (xs ++ ys) ≡ end_of r (end_of r s xs) ys
end-++ r s [] ys = refl
end-++ r s (c ∷ xs) ys = end-++ r (turn r s c).state xs ys

pub calls_record : (r : Rules) (s : State) (cs : List Call) → calls (record_of r s cs) ≡ cs
calls_record r s [] = refl
calls_record r s (c ∷ cs) = (λ i. call_same r s c i ∷ calls_record r (turn r s c).state cs i)

pub lawful : (r : Rules) (s : State) (day : List Entry) (cs : List Call) → day ≡ record_of r s cs → Lawful r s day
lawful r s day cs e = e ∙ ap (record_of r s) (sym (ap calls e ∙ calls_record r s cs))

-- what stands in a record is a record, from the state at its place
pub later : (r : Rules) (s : State) (xs ys : List Entry) → Lawful r s (xs ++ ys) → Lawful r (end_of r s (calls xs)) ys
later r s [] ys e = e
later r s (x ∷ xs) ys e = later r (turn r s x.call).state xs ys (cc)

pub earlier : (r : Rules) (s : State) (xs ys : List Entry) → Lawful r s (xs ++ ys) → Lawful r s xs
earlier r s [] ys e = refl
earlier r s (x ∷ xs) ys e =
    let rest : xs ++ ys ≡ record_of r (turn r s x.call).state (calls (xs ++ ys)) = cc in
    let front : xs ≡ record_of r (turn r s x.call).state (calls xs) = earlier r (turn r s x.call).state xs ys rest in
    let here : x ≡ (turn r s x.call).entry = cc in
    cc
