-- A row leaves the chain, a row is added, a row comes to the end of the chain, and a row's order is written anew.
use Rattle.std.proofs.Common.{◌≡◌, ℕ, ◌+◌, ◌-◌, ◌<◌, ◌≤◌, true, false, List, [], ◌∷◌, ◌++◌, map, length, vec_len, vec_capacity, sym, refl, ap, ◌∙◌, subst, arith}
use Rattle.std.proofs.ByRecursion.{All-append, All-weaker}
use Rattle.std.proofs.lemmas.List.{append_assoc, append-nil, length-append, map_push}
use Rattle.std.proofs.lemmas.Bool.{or_from, ne_eqb}
use Rattle.orders.specs.declared.terms.Terms.{Terms}
use Rattle.book.specs.Lists.{distinct}
use Rattle.chain_table.specs.Chains.{spot, links_at, next, prev, terms_at, walk, among, no_row_twice}
use Rattle.chain_table.specs.Steps.{Node, Led, Relinked, Joined, Refilled, Pushed}
use Rattle.chain_table.specs.declared.chain.Chain.{Chain}
use Rattle.chain_table.specs.declared.chain.Links.{Links}
use Rattle.chain_table.proofs.Indices.{other, among_parts, once_from, once_front, once_out, once_in, once_sides, all_parts, past_off, Below}
use Rattle.chain_table.proofs.Intact.{Intact, on_spot}
use Rattle.chain_table.proofs.Walks.{Alike, Linked, first_among, last_among, linked_split, alike_all, alike_off, map_alike, walk_alike, linked_alike, bypass, attach}

-- chains whose links are alike, one link of each, and both
link_alike : (h : Links → ℕ) (c d : Chain) (xs : List ℕ) → Alike (links_at c) (links_at d) xs → Alike (λ i. h (links_at c i)) (λ i. h (links_at d i)) xs
link_alike h c d = All-weaker (λ i. links_at d i ≡ links_at c i) (λ i. h (links_at d i) ≡ h (links_at c i)) (λ i e. ap h e)

chain_alike : (c d : Chain) (xs : List ℕ) → Alike (links_at c) (links_at d) (256 ∷ xs) → Linked (next c) (prev c) 256 xs 256 → Linked (next d) (prev d) 256 xs 256
chain_alike c d xs e = linked_alike (next c) (next d) (prev c) (prev d) 256 xs 256 (link_alike (λ l. spot l.after) c d (256 ∷ xs) e) (link_alike (λ l. spot l.before) c d (256 ∷ xs) e)

-- a walk that gives sp still does
walk_kept : (f f' : ℕ → ℕ) (sp : List ℕ) (i : ℕ) → Alike f f' sp → walk f (length sp) i ≡ sp → walk f' (length sp) i ≡ sp
walk_kept f f' sp i k e = walk_alike f f' (length sp) i (subst (λ z. Alike f f' z) (sym e) k) ∙ e

off_end : (i : ℕ) (xs : List ℕ) → i < 256 → among i xs ≡ false → among i (256 ∷ xs) ≡ false
off_end i xs h k = or_from _ _ (ne_eqb 256 i (omega arith)) k

-- the row i is in use, between xs and ys
module _ {c : Chain} {count free capacity : ℕ} (xs : List ℕ) (i : ℕ) (ys sp : List ℕ) {ts : List Terms} (s : Intact c count free capacity (xs ++ i ∷ ys) sp ts) where
  split : Below (vec_len c.rows) xs × Below (vec_len c.rows) (i ∷ (ys ++ sp))
  split = all_parts (λ x. x < vec_len c.rows) xs (i ∷ (ys ++ sp)) (subst (λ l. Below (vec_len c.rows) l) (append_assoc xs (i ∷ ys) sp) s.present)

  pub row_made : i < vec_len c.rows
  row_made = split.1.0

  pub before_spot : Node c (prev c i)
  before_spot = on_spot c (prev c i) xs (omega (arith, s.most, s.within)) split.0 (last_among (next c) (prev c) 256 xs i (linked_split (next c) (prev c) 256 xs i ys 256 s.link).0)

  pub after_spot : Node c (next c i)
  after_spot = on_spot c (next c i) ys (omega (arith, s.most, s.within)) (all_parts (λ x. x < vec_len c.rows) ys sp split.1.1).0 (first_among (next c) (prev c) i ys 256 (linked_split (next c) (prev c) 256 xs i ys 256 s.link).1)

  -- it leaves the chain, and is the first free row
  pub leave : {c1 c2 : Chain} {l : Links} → spot l.after ≡ free → Joined c c1 (prev c i) (next c i) → Relinked c1 c2 i l
      → distinct (map (terms_at c) (xs ++ ys)) ≡ true → Intact c2 (count - 1) i capacity (xs ++ ys) (i ∷ sp) (map (terms_at c) (xs ++ ys))
  leave {c1} {c2} {l} e j a d =
      let n = vec_len c.rows in
      let few : n ≤ 256 = omega (arith, s.most, s.within) in
      let asc = append_assoc xs ys sp in
      let out = once_out xs i (ys ++ sp) (subst (λ z. no_row_twice z ≡ true) (append_assoc xs (i ∷ ys) sp) s.once) in
      let once : no_row_twice ((xs ++ ys) ++ sp) ≡ true = ap no_row_twice asc ∙ out.1 in
      let off : among i ((xs ++ ys) ++ sp) ≡ false = ap (among i) asc ∙ out.0 in
      let made : Below n ((xs ++ ys) ++ sp) = subst (λ z. Below n z) (sym asc) (All-append (λ x. x < n) xs (ys ++ sp) split.0 split.1.1) in
      let end : among 256 ((xs ++ ys) ++ sp) ≡ false = past_off n 256 ((xs ++ ys) ++ sp) few made in
      let whole = once_from 256 ((xs ++ ys) ++ sp) end once in
      let o = among_parts i (xs ++ ys) sp off in
      let apart = off_end i (xs ++ ys) (omega (arith, row_made)) o.0 in
      let link1 : Linked (next c1) (prev c1) 256 (xs ++ ys) 256 = bypass 256 xs i ys 256 j.led (once_front (256 ∷ (xs ++ ys)) sp whole) (among_parts 256 (xs ++ ys) sp end).0 s.link in
      let link2 = chain_alike c1 c2 (xs ++ ys) (alike_off (links_at c1) (links_at c2) i a.off (256 ∷ (xs ++ ys)) apart) link1 in
      let last = last_among (next c) (prev c) 256 xs i (linked_split (next c) (prev c) 256 xs i ys 256 s.link).0 in
      let past = (among_parts (prev c i) ys sp (once_sides (prev c i) (256 ∷ xs) (ys ++ sp) (subst (λ z. no_row_twice (256 ∷ z) ≡ true) asc whole) last)).1 in
      let free1 = walk_kept (next c) (next c1) sp free (alike_off (next c) (next c1) (prev c i) j.led.ahead_off sp past) s.frees in
      let free2 = walk_kept (next c1) (next c2) sp free (link_alike (λ z. spot z.after) c1 c2 sp (alike_off (links_at c1) (links_at c2) i a.off sp o.1)) free1 in
      let len : vec_len c2.rows ≡ n = a.same.len ∙ j.same.len in
      let cap : vec_capacity c2.rows ≡ vec_capacity c.rows = a.same.cap ∙ j.same.cap in
      let lx = length-append xs (i ∷ ys) in
      let ly = length-append xs ys in
      let m = all_parts (λ x. x < n) (xs ++ ys) sp made in
      record {
        most = s.most;
        within = omega (arith, s.within);
        reserved = omega (arith, s.reserved);
        long = omega (arith, s.long);
        total = omega (arith, s.long, s.total);
        link = link2;
        frees = ap (λ z. i ∷ walk (next c2) (length sp) z) (ap (λ z. spot z.after) a.here ∙ e) ∙ ap (λ z. i ∷ z) free2;
        once = once_in (xs ++ ys) i sp off once;
        present = subst (λ z. Below z ((xs ++ ys) ++ i ∷ sp)) (sym len) (All-append (λ x. x < n) (xs ++ ys) (i ∷ sp) m.0 (row_made, m.1));
        told = map_alike (terms_at c) (terms_at c2) (xs ++ ys) (alike_all (terms_at c) (terms_at c2) (λ k. a.same.told k ∙ j.same.told k) (xs ++ ys));
        apart = d;
      }

-- no row is free, and one is added
pub grow : {c d : Chain} {count free capacity : ℕ} {xs : List ℕ} {ts : List Terms} → Intact c count free capacity xs [] ts → count < capacity → Pushed c d
    → Intact d count count capacity xs (count ∷ []) ts
grow {c} {d} {count} {free} {capacity} {xs} {ts} s h p =
    let n = vec_len c.rows in
    let same : count ≡ n = omega (arith, s.total) in
    let nil = append-nil xs in
    let made : Below n xs = subst (λ z. Below n z) nil s.present in
    let off : among n xs ≡ false = past_off n n xs (omega arith) made in
    let out = off_end n xs (omega (arith, s.most)) off in
    let wider : Below (vec_len d.rows) xs = All-weaker (λ x. x < n) (λ x. x < vec_len d.rows) (λ x k. omega (arith, p.len)) xs made in
    record {
      most = s.most;
      within = omega (arith, p.len);
      reserved = omega (arith, p.cap, s.reserved);
      long = s.long;
      total = omega (arith, p.len);
      link = chain_alike c d xs (alike_off (links_at c) (links_at d) n p.links (256 ∷ xs) out) s.link;
      frees = refl;
      once = once_in xs count [] (ap (among count) nil ∙ ap (λ z. among z xs) same ∙ off) s.once;
      present = All-append (λ x. x < vec_len d.rows) xs (count ∷ []) wider (omega (arith, p.len), tt);
      told = map_alike (terms_at c) (terms_at d) xs (alike_off (terms_at c) (terms_at d) n p.told xs off) ∙ s.told;
      apart = s.apart;
    }

-- the first free row comes to the end of the chain, with the terms t
pub enter : {c c0 c1 c2 : Chain} {count capacity : ℕ} (xs : List ℕ) (i : ℕ) (sp : List ℕ) {ts : List Terms} {t : Terms} → Intact c count i capacity xs (i ∷ sp) ts
    → Refilled c c0 i t → Joined c0 c1 (prev c 256) i → Joined c1 c2 i 256
    → distinct (ts ++ t ∷ []) ≡ true → Intact c2 (count + 1) (next c i) capacity (xs ++ i ∷ []) sp (ts ++ t ∷ [])
enter {c} {c0} {c1} {c2} {count} {capacity} xs i sp {ts} {t} s r j k d =
    let n = vec_len c.rows in
    let few : n ≤ 256 = omega (arith, s.most, s.within) in
    let row : i < n = (all_parts (λ x. x < n) xs (i ∷ sp) s.present).1.0 in
    let o = among_parts i xs sp (once_out xs i sp s.once).0 in
    let end = past_off n 256 (xs ++ i ∷ sp) few s.present in
    let whole = once_from 256 (xs ++ i ∷ sp) end s.once in
    let last0 : prev c0 256 ≡ prev c 256 = ap (λ l. spot l.before) (r.links 256) in
    let led = subst (λ z. Led (next c0) (next c1) (prev c0) (prev c1) z i) (sym last0) j.led in
    let apart = or_from _ _ (ne_eqb i 256 (omega arith)) (among_parts 256 xs (i ∷ sp) end).0 in
    let link0 = chain_alike c c0 xs (alike_all (links_at c) (links_at c0) r.links (256 ∷ xs)) s.link in
    let last = last_among (next c) (prev c) 256 xs 256 s.link in
    let past = (other (prev c 256) i sp (once_sides (prev c 256) (256 ∷ xs) (i ∷ sp) whole last)).1 in
    let frees : walk (next c) (length sp) (next c i) ≡ sp = cc s.frees in
    let free0 = walk_kept (next c) (next c0) sp (next c i) (link_alike (λ l. spot l.after) c c0 sp (alike_all (links_at c) (links_at c0) r.links sp)) frees in
    let free1 = walk_kept (next c0) (next c1) sp (next c i) (alike_off (next c0) (next c1) (prev c 256) j.led.ahead_off sp past) free0 in
    let len : vec_len c2.rows ≡ n = k.same.len ∙ j.same.len ∙ r.len in
    let cap : vec_capacity c2.rows ≡ vec_capacity c.rows = k.same.cap ∙ j.same.cap ∙ r.cap in
    let asc : (xs ++ i ∷ []) ++ sp ≡ xs ++ i ∷ sp = append_assoc xs (i ∷ []) sp in
    let lx = length-append xs (i ∷ []) in
    record {
      most = s.most;
      within = omega (arith, s.within);
      reserved = omega (arith, s.reserved);
      long = omega (arith, s.long);
      total = omega (arith, s.total);
      link = attach 256 xs 256 i led k.led (once_front (256 ∷ xs) (i ∷ sp) whole) (off_end i xs (omega arith) o.0) apart link0;
      frees = walk_kept (next c1) (next c2) sp (next c i) (alike_off (next c1) (next c2) i k.led.ahead_off sp o.1) free1;
      once = ap no_row_twice asc ∙ s.once;
      present = subst (λ z. Below z ((xs ++ i ∷ []) ++ sp)) (sym len) (subst (λ z. Below n z) (sym asc) s.present);
      told =
          map_alike (terms_at c0) (terms_at c2) (xs ++ i ∷ []) (alike_all (terms_at c0) (terms_at c2) (λ m. k.same.told m ∙ j.same.told m) (xs ++ i ∷ []))
          ∙ map_push (terms_at c0) xs i
          ∙ ap (λ z. z ++ terms_at c0 i ∷ []) (map_alike (terms_at c) (terms_at c0) xs (alike_off (terms_at c) (terms_at c0) i r.off xs o.0) ∙ s.told)
          ∙ ap (λ z. ts ++ z ∷ []) r.here;
      apart = d;
    }

-- the terms in a row are written anew, and the rows in use then tell us
pub rewrite : {c d : Chain} {count free capacity : ℕ} {xs sp : List ℕ} {ts us : List Terms} {i : ℕ} {t : Terms} → Intact c count free capacity xs sp ts
    → Refilled c d i t → map (terms_at d) xs ≡ us → distinct us ≡ true → Intact d count free capacity xs sp us
rewrite {c} {d} {count} {free} {capacity} {xs} {sp} s r told apart =
    record {
      most = s.most;
      within = omega (arith, s.within, r.len);
      reserved = omega (arith, s.reserved, r.cap);
      long = s.long;
      total = omega (arith, s.total, r.len);
      link = chain_alike c d xs (alike_all (links_at c) (links_at d) r.links (256 ∷ xs)) s.link;
      frees = walk_kept (next c) (next d) sp free (link_alike (λ l. spot l.after) c d sp (alike_all (links_at c) (links_at d) r.links sp)) s.frees;
      once = s.once;
      present = subst (λ z. Below z (xs ++ sp)) (sym r.len) s.present;
      told = told;
      apart = apart;
    }
