-- A version goes to the end where no equal one is there.
use Rattle.std.proofs.Common.{◌≡◌, List, map, not, refl, sym, ap, ◌∙◌, ◌++◌, ◌∷◌, [], Bool, true, false}
use Rattle.std.proofs.lemmas.List.{map_push}
use Rattle.universe_model.specs.Reading.{ReadStanza}
use Rattle.universe_parts.specs.Listed.{stanza_read}
use Rattle.version_list.specs.declared.given.Release.{Release}
use Rattle.version_list.specs.Releases.{release_stanza, has_equal}
use Rattle.version_list.proofs.OnePackage.{equal-there, with_release-equal, with_release-new}
use Rattle.version_list.proofs.releases.add_release.Goals as goal

not-back : (a b v : Bool) → a ≡ not b → a ≡ v → b ≡ not v
not-back a true v e f = ap not (sym e ∙ f)
not-back a false v e f = ap not (sym e ∙ f)

pub returns-then-not-branch-clause-added : goal.returns-then-not-branch-clause-added
returns-then-not-branch-clause-added c =
    let read : ReadStanza = stanza_read c.args.read.now in
    let found : Bool = has_equal c.as_slice.result.now c.in-Some.release in
    ap (map release_stanza) c.reserve.ensures.items
    ∙ with_release-equal (map release_stanza c.args.releases.now.items) read c.in-Some.ensures.0
    (equal-there release_stanza c.args.releases.now.items c.as_slice.result.now read (release_stanza c.in-Some.release) found true
    c.in-Some.ensures.1 (c.as_slice.ensures.value ∙ c.reserve.ensures.items) refl
    (not-back c.in_ok-is_new.field-0 found false c.in_ok-is_new.ensures.answer c.if-not-branch.true))

pub returns-clause-added : goal.returns-clause-added
returns-clause-added c =
    let read : ReadStanza = stanza_read c.args.read.now in
    let found : Bool = has_equal c.as_slice.result.now c.in-Some.release in
    ap (map release_stanza) (c.push_reserved.ensures.items ∙ ap (λ (rs : List Release). rs ++ c.in-Some.release ∷ []) c.reserve.ensures.items)
    ∙ map_push release_stanza c.args.releases.now.items c.in-Some.release
    ∙ ap (λ (r : ReadStanza). map release_stanza c.args.releases.now.items ++ r ∷ []) c.in-Some.ensures.1
    ∙ with_release-new (map release_stanza c.args.releases.now.items) read c.in-Some.ensures.0
    (equal-there release_stanza c.args.releases.now.items c.as_slice.result.now read (release_stanza c.in-Some.release) found false
    c.in-Some.ensures.1 (c.as_slice.ensures.value ∙ c.reserve.ensures.items) refl
    (not-back c.in_ok-is_new.field-0 found true c.in_ok-is_new.ensures.answer c.if-not-branch.false))
