use Rattle.std.proofs.Common.{◌≡◌, ap, sym, ◌∙◌, subst, ℕ, [], ◌∷◌, ◌++◌, refl}
use Rattle.apt_base.specs.Asked.{counts_of, with_name}
use Rattle.apt_base.specs.Faults.{ByName}
use Rattle.apt_base.specs.declared.asked.Entry.{Entry}
use Rattle.apt_base.proofs.Names.{entered_before, entered_now}
use Rattle.apt_base.proofs.asked.Asked.enter.Goals as goal

pub returns-then-is_some-clause-ok : goal.returns-then-is_some-clause-ok
returns-then-is_some-clause-ok c =
    let e = entered_before c.args.name.now c.as_slice.result.now c.place_of.result c.place_of.ensures (sym c.if-is_some.ensures) in
    let base = ap counts_of c.as_slice.ensures.value ∙ c.self.view_is in
    let P : ByName ℕ → Type 0 = λ l. l ≡ with_name l c.args.name.now in
    subst P base e

pub returns-clause-ok : goal.returns-clause-ok
returns-clause-ok c =
    let entry : Entry = record { name = c.in_ok-name.name; faults = 0 } in
    let e = entered_now c.args.name.now c.as_slice.result.now c.place_of.result entry c.place_of.ensures (sym c.if-is_some.ensures) c.in_ok-name.ensures.ok refl in
    let base = ap counts_of c.as_slice.ensures.value ∙ c.self.view_is in
    let items = c.in_ok-push.ensures.items in
    ap counts_of items ∙ ap (λ l. counts_of (l ++ entry ∷ [])) (sym c.as_slice.ensures.value) ∙ e ∙ ap (λ l. with_name l c.args.name.now) base
