-- The universe of two texts is that of their stanzas, where the texts have no fault.
use Rattle.std.proofs.Common.{◌≡◌, ◌⊎◌, inl, inr, List, Some, None, option_map, sym, ap, ◌∙◌}
use Rattle.std.specs.Option.{option_or}
use Rattle.control_file.specs.Text.{reading}
use Rattle.stanza.specs.Stanzas.{package_stanza, status_stanza}
use Rattle.universe_model.specs.Faults.{build_end}
use Rattle.universe_model.specs.Limits.{build_refusal, limit_past}
use Rattle.universe_model.specs.Reading.{Texts, ReadStanza, Stanzas, stanzas_of, text_fault}
use Rattle.universe_model.specs.Universes.{Universe, universe, universe_of, problem_of}
use Rattle.universe_model.specs.declared.BuildEnd.{BuildEnd}
use Rattle.universe_model.specs.declared.FileKind.TheVariants.{Status, Packages}
use Rattle.universe.specs.Building.{IsOfStanzas}

pub stanzas-same : (texts : Texts) (s p : List ReadStanza) → s ≡ (stanzas_of texts).status → p ≡ (stanzas_of texts).packages → record { status = s; packages = p } ≡ stanzas_of texts
stanzas-same texts s p first second =
    let pair : List ReadStanza → List ReadStanza → Stanzas = λ a b. record { status = a; packages = b } in
    ap (λ a. pair a p) first ∙ ap (λ b. pair (stanzas_of texts).status b) second

module _ (texts : Texts) (stanzas : Stanzas) (same : stanzas ≡ stanzas_of texts)
    (first : text_fault Status status_stanza (reading texts.status) ≡ None) (second : text_fault Packages package_stanza (reading texts.packages) ≡ None) where
  universe-is : universe_of texts.native stanzas ≡ universe texts
  universe-is = ap (universe_of texts.native) same

  refusal-is : build_refusal texts ≡ option_map build_end (limit_past (problem_of (universe_of texts.native stanzas)))
  refusal-is =
      ap (λ o. option_or (option_or o (text_fault Packages package_stanza (reading texts.packages))) (option_map build_end (limit_past (problem_of (universe texts))))) first
      ∙ ap (λ o. option_or o (option_map build_end (limit_past (problem_of (universe texts))))) second
      ∙ sym (ap (λ u. option_map build_end (limit_past (problem_of u))) universe-is)

  pub whole-made : (u : Universe) → IsOfStanzas texts.native stanzas u → (u ≡ universe texts) × (build_refusal texts ≡ None)
  whole-made u is = (is.same ∙ universe-is, refusal-is ∙ ap (option_map build_end) is.within)

  pub whole-end : (end want : BuildEnd) → (end ≡ want) ⊎ (option_map build_end (limit_past (problem_of (universe_of texts.native stanzas))) ≡ Some end)
      → (end ≡ want) ⊎ (build_refusal texts ≡ Some end)
  whole-end end want (inl e) = inl e
  whole-end end want (inr e) = inr (refusal-is ∙ e)
