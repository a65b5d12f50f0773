use Rattle.std.proofs.Common.{◌≡◌, ap, sym, ◌∙◌, subst, ℕ, refl, set, get_or}
use Rattle.apt_base.specs.Asked.{counts_of, with_fault}
use Rattle.apt_base.specs.Faults.{ByName}
use Rattle.apt_base.specs.declared.asked.Entry.{Entry}
use Rattle.apt_base.proofs.Names.{raised_at, not_raised}
use Rattle.apt_base.proofs.asked.Asked.raise.Goals as goal

pub returns-in-Some : goal.returns-in-Some
returns-in-Some c =
    let old = c.index_mut-entry.result.now in
    let new : Entry = record { name = old.name; faults = c.one_more-entry.result } in
    let v = c.as_slice.ensures.value in
    let read : old ≡ get_or c.as_slice.result.now c.in-Some.place old = c.index_mut-entry.ensures.value ∙ ap (λ l. get_or l c.in-Some.place old) (sym v) in
    let e = raised_at c.args.name.now c.as_slice.result.now c.in-Some.place old new c.in-Some.ensures read refl c.one_more-entry.ensures in
    ap (λ l. counts_of (set l c.in-Some.place new)) (sym v) ∙ e ∙ ap (λ l. with_fault l c.args.name.now) (ap counts_of v ∙ c.self.view_is)

pub returns-in-None : goal.returns-in-None
returns-in-None c =
    let e = not_raised c.args.name.now c.as_slice.result.now c.in-None.ensures in
    let base = ap counts_of c.as_slice.ensures.value ∙ c.self.view_is in
    let P : ByName ℕ → Type 0 = λ l. l ≡ with_fault l c.args.name.now in
    subst P base e
