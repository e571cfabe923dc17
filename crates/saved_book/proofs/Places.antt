-- The order at a place of a list.
use Rattle.std.proofs.Common.{◌≡◌, ℕ, ◌≤◌, true, false, not, eqb, List, [], ◌∷◌, ◌++◌, length, sym, refl, ap, ◌∙◌, append_assoc, arith, length-append}
use Rattle.std.proofs.lemmas.Bool.{and_parts, or_parts, or_from, not-true, ne_eqb}
use Rattle.orders.specs.declared.terms.Terms.{Terms}
use Rattle.book.proofs.Laws.{eqb_flip}
use Rattle.book.specs.Calls.{after_append}
use Rattle.book.specs.Lists.{held, distinct}

-- an order behind others, which may not have its number
apart_there : (m : ℕ) (before rest : List Terms) (t : Terms) → held m (before ++ t ∷ rest) ≡ false → eqb t.number m ≡ false
apart_there m [] rest t h = (or_parts (eqb t.number m) (held m rest) h).0
apart_there m (x ∷ before) rest t h = apart_there m before rest t (or_parts (eqb x.number m) (held m (before ++ t ∷ rest)) h).1

pub apart_in : (before rest : List Terms) (t : Terms) → distinct (before ++ t ∷ rest) ≡ true → held t.number before ≡ false
apart_in [] rest t d = refl
apart_in (x ∷ before) rest t d =
    let p = and_parts (not (held x.number (before ++ t ∷ rest))) (distinct (before ++ t ∷ rest)) d in
    or_from _ _ (eqb_flip _ _ (apart_there x.number before rest t (not-true _ p.0))) (apart_in before rest t p.1)

-- an order of the list that is appended to those before it
pub append_there : (room : ℕ) (before rest ts : List Terms) (t : Terms) → before ++ t ∷ rest ≡ ts → distinct ts ≡ true → length ts ≤ room → after_append room t before ++ rest ≡ ts
append_there room before rest ts t e d r =
    let free = apart_in before rest t (ap distinct e ∙ d) in
    let size = ap length (sym e) ∙ length-append before (t ∷ rest) in
    let roomy : eqb (length before) room ≡ false = ne_eqb _ _ (omega (arith, size)) in
    rw (free, roomy) (append_assoc before (t ∷ []) rest ∙ e)
