use Rattle.std.proofs.Common.{◌≡◌, ◌∙◌, List, ℕ, Some, None, inl, inr, sym, ap, subst}
use Rattle.std.specs.Option.{option_map}
use Rattle.resolve_words.specs.Given.{Given, given_by}
use Rattle.sources.specs.Sources.{Sources, sources_of}
use Rattle.universe_model.specs.Limits.{build_refusal}
use Rattle.universe_model.specs.Reading.{Texts}
use Rattle.universe_model.specs.Universes.{universe}
use Rattle.grounds.specs.Grounds.{status_of_build, texts_of}
use Rattle.grounds.proofs.reading.read_universe.Goals as goal

abbrev texts : List ℕ → List ℕ → List ℕ → Texts
texts status packages native = record { status = status; packages = packages; native = native }

same_texts : (g : Given) (s : Sources) (status packages native : List ℕ) → status ≡ s.status → packages ≡ s.packages → native ≡ g.arch
    → record { status = status; packages = packages; native = native } ≡ texts_of g s
same_texts g s status packages native a b c =
    ap (λ (x : List ℕ). texts x packages native) a ∙ ap (λ (x : List ℕ). texts s.status x native) b ∙ ap (texts s.status s.packages) c

pub returns-in-Ok : goal.returns-in-Ok
returns-in-Ok c =
    let same = same_texts (given_by c.args.settings.now) (sources_of c.args.sources.now) c.as_slice.result.now c.as_slice-2.result.now c.as_bytes.result.now
    c.as_slice.ensures.value c.as_slice-2.ensures.value c.as_bytes.ensures.value in (
      ap (option_map status_of_build) (subst (λ (t : Texts). build_refusal t ≡ None) same c.in-Ok.ensures.1),
      subst (λ (t : Texts). c.in-Ok.universe ≡ universe t) same c.in-Ok.ensures.0,
    )

pub returns-in-Err : goal.returns-in-Err
returns-in-Err c =
    let same = same_texts (given_by c.args.settings.now) (sources_of c.args.sources.now) c.as_slice.result.now c.as_slice-2.result.now c.as_bytes.result.now
    c.as_slice.ensures.value c.as_slice-2.ensures.value c.as_bytes.ensures.value in
    elim c.in-Err.ensures [
      | inl memory ↦ inl (c.status_of_build.ensures ∙ ap status_of_build memory)
      | inr first ↦ inr (ap (option_map status_of_build) (subst (λ (t : Texts). build_refusal t ≡ Some c.in-Err.end) same first) ∙ ap Some (sym c.status_of_build.ensures))
    ]
