use Rattle.std.proofs.Common.{◌≡◌, [], ◌∷◌, ◌++◌, None, sym, refl, ap, ◌∙◌}
use Rattle.orders.specs.Forms.{same_form}
use Rattle.orders.specs.Told.{terms_of}
use Rattle.book.specs.Calls.{append_fault}
use Rattle.book.specs.Lists.{without}
use Rattle.instructions.proofs.Changing.{Own, own, other_form, no_fault, room_again, not_refused}
use Rattle.instructions.proofs.carry_out.change.Given as given
use Rattle.instructions.proofs.carry_out.change.Goals as goal
use Rattle.instructions.proofs.carry_out.change.Goals.{After-has_form_of, After-take_out}

found_own : (g : given.Over) (c : After-has_form_of g) → Own (terms_of c.args.order) (g.S.Book.orders c.args.store.now) c.in_ok-old.old
found_own g c = own _ _ _ _ c.terms-new.ensures c.in_ok-old.ensures

form : (g : given.Over) (c : After-has_form_of g) → same_form c.in_ok-old.old (terms_of c.args.order) ≡ c.has_form_of.result
form g c = sym (c.has_form_of.ensures ∙ ap (same_form c.in_ok-old.old) c.terms-new.ensures)

pub returns-then-not-has_form_of : goal.returns-then-not-has_form_of
returns-then-not-has_form_of g c =
    let h = (goal.at.returns-then-not-has_form_of g c).After-has_form_of in
    let f = other_form (g.S.Store.room c.args.store.now) (found_own g h) (form g h ∙ c.if-not-has_form_of.true) in
    record { value = rw f; after = rw f; same = refl }

taken : (g : given.Over) (c : After-take_out g) → g.S.Book.orders c.take_out.new.self ≡ without (terms_of c.args.order).number (g.S.Book.orders c.args.store.now)
taken g c = c.take_out.ensures.after ∙ ap (λ t. without t.number (g.S.Book.orders c.args.store.now)) c.terms-new.ensures

-- the new order finds the room of the old one
free : (g : given.Over) (c : After-take_out g) → Own (terms_of c.args.order) (g.S.Book.orders c.args.store.now) c.in_ok-old.old →
    append_fault (g.S.Store.room c.take_out.new.self) (terms_of c.args.order) (g.S.Book.orders c.take_out.new.self) ≡ None
free g c o =
    let s = c.args.store.now in
    let x = terms_of c.args.order in
    ap (λ r. append_fault r x (g.S.Book.orders c.take_out.new.self)) c.take_out.ensures.kept.same
    ∙ ap (append_fault (g.S.Store.room s) x) (taken g c)
    ∙ room_again (g.S.Store.room s) o (g.met.S.Store.sound s) (g.met.S.Store.within s)

pub returns-in_err-append : goal.returns-in_err-append
returns-in_err-append g c =
    let o = found_own g (goal.at.returns-in_err-append g c).After-has_form_of in
    absurd (not_refused _ _ _ (free g (goal.at.returns-in_err-append g c).After-take_out o) c.in_err-append.ensures.value)

pub returns : goal.returns
returns g c =
    let x = terms_of c.args.order in
    let h = (goal.at.returns g c).After-has_form_of in
    let t = (goal.at.returns g c).After-take_out in
    let o = found_own g h in
    let n = no_fault (g.S.Store.room c.args.store.now) o (form g h ∙ c.if-not-has_form_of.false) in
    let f = free g t o in
    record {
      value = rw (n, o.is) cc;
      after = rw n (c.append.ensures.after ∙ rw f (ap (λ ts. ts ++ x ∷ []) (taken g t)));
      same = c.append.ensures.kept.same ∙ c.take_out.ensures.kept.same;
    }
