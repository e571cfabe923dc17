-- What is read of the rows, and what a write of one leaves of the others.
use Rattle.std.proofs.Common.{◌≡◌, ℕ, ◌<◌, Option, List, map, length, get_or, set, vec_items, vec_len, sym, ap, ◌∙◌, ⊎_elim, arith}
use Rattle.std.proofs.lemmas.List.{map-set, get_or-map, set-get_or, get_or-set_same, get_or-set_other, length-map}
use Rattle.std.proofs.lemmas.Bool.{cases_eq, ne_eqb}
use Rattle.chain_table.specs.Chains.{spot, links_of, told_by, links_at, next, prev, terms_at, no_links, no_terms}
use Rattle.chain_table.specs.declared.chain.Chain.{Chain}
use Rattle.chain_table.specs.Steps.{Relinked, Joined}
use Rattle.chain_table.specs.declared.chain.Links.{Links}
use Rattle.chain_table.specs.declared.chain.Row.{Row}

-- a row that is read
pub row_links : (c : Chain) (i : ℕ) (r : Row) → (i ≡ 256 → ⊥) → i < vec_len c.rows → r ≡ get_or (vec_items c.rows) i r → r.links ≡ links_at c i
row_links c i r n h e = rw (ne_eqb i 256 n) (sym (get_or-map links_of (vec_items c.rows) i r no_links (omega (arith, c.rows.ok.0)) ∙ ap links_of (sym e)))

pub row_told : (c : Chain) (i : ℕ) (r : Row) → i < vec_len c.rows → r ≡ get_or (vec_items c.rows) i r → told_by r ≡ terms_at c i
row_told c i r h e = sym (get_or-map told_by (vec_items c.rows) i r no_terms (omega (arith, c.rows.ok.0)) ∙ ap told_by (sym e))

-- a field of the rows after the row x at i became w: where it is the same, there, and elsewhere
pub same_field : {Y : Type 0} (f : Row → Y) (xs : List Row) (i : ℕ) (x w : Row) (d : Y) → i < length xs → x ≡ get_or xs i x → f w ≡ f x → map f (set xs i w) ≡ map f xs
same_field f xs i x w d h r e =
    let g : get_or (map f xs) i d ≡ f x = get_or-map f xs i x d h ∙ ap f (sym r) in
    map-set f xs i w ∙ ap (set (map f xs) i) (e ∙ sym g) ∙ set-get_or (map f xs) i d

pub new_field : {Y : Type 0} (f : Row → Y) (xs : List Row) (i : ℕ) (w : Row) (d : Y) → i < length xs → get_or (map f (set xs i w)) i d ≡ f w
new_field f xs i w d h =
    let l : i < length (map f xs) = rw length-map h in
    ap (λ l. get_or l i d) (map-set f xs i w) ∙ get_or-set_same (map f xs) i (f w) d l

pub off_field : {Y : Type 0} (f : Row → Y) (xs : List Row) (i j : ℕ) (w : Row) (d : Y) → (j ≡ i → ⊥) → get_or (map f (set xs i w)) j d ≡ get_or (map f xs) j d
off_field f xs i j w d h = ap (λ l. get_or l j d) (map-set f xs i w) ∙ get_or-set_other (map f xs) i j (f w) d h

-- b comes to follow a when first the links of a are written, and then those of b
pub joined : {c c1 d : Chain} {a b : Option ℕ} {la lb : Links} → la ≡ links_at c (spot a) → Relinked c c1 (spot a) (record { before = la.before; after = b })
    → lb ≡ links_at c1 (spot b) → Relinked c1 d (spot b) (record { before = a; after = lb.after }) → Joined c d (spot a) (spot b)
joined {c} {c1} {d} {a} {b} e r f s =
    let ahead : (i : ℕ) → next d i ≡ next c1 i = λ i. ⊎_elim (λ k. ap (next d) k ∙ ap (λ l. spot l.after) s.here ∙ ap (λ l. spot l.after) f ∙ ap (next c1) (sym k)) (λ n. ap (λ l. spot l.after) (s.off i n)) (cases_eq i (spot b)) in
    let back : (i : ℕ) → prev c1 i ≡ prev c i = λ i. ⊎_elim (λ k. ap (prev c1) k ∙ ap (λ l. spot l.before) r.here ∙ ap (λ l. spot l.before) e ∙ ap (prev c) (sym k)) (λ n. ap (λ l. spot l.before) (r.off i n)) (cases_eq i (spot a)) in
    record {
      led = record {
        ahead = ahead (spot a) ∙ ap (λ l. spot l.after) r.here;
        back = ap (λ l. spot l.before) s.here;
        ahead_off = λ i n. ahead i ∙ ap (λ l. spot l.after) (r.off i n);
        back_off = λ i n. ap (λ l. spot l.before) (s.off i n) ∙ back i;
      };
      same = record { told = λ i. s.same.told i ∙ r.same.told i; len = s.same.len ∙ r.same.len; cap = s.same.cap ∙ r.same.cap };
    }
