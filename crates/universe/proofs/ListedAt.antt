-- What is known of the listed version with a number.
use Rattle.std.proofs.Common.{◌≡◌, ◌<◌, ◌≤◌, ℕ, List, length, get_or, map, sym, ap, ◌∙◌, arith}
use Rattle.std.proofs.lemmas.List.{get_or-map, get_or_past, length-map}
use Rattle.universe_model.specs.Universes.{known, nothing_known}
use Rattle.universe_parts.specs.Listed.{version_listed}
use Rattle.universe_parts.specs.declared.listed.ListedVersion.{ListedVersion}

module _ (vs : List ListedVersion) (i : ℕ) where
  pub listed-at : (v : ListedVersion) → i < length vs → v ≡ get_or vs i v → known (version_listed v) ≡ get_or (map known (map version_listed vs)) i nothing_known
  listed-at v less here =
      let within : i < length (map version_listed vs) = omega (arith, length-map vs version_listed) in
      ap (λ (w : ListedVersion). known (version_listed w)) here
      ∙ ap known (sym (get_or-map version_listed vs i v (version_listed v) less))
      ∙ sym (get_or-map known (map version_listed vs) i (version_listed v) nothing_known within)

  pub listed-past : length vs ≤ i → nothing_known ≡ get_or (map known (map version_listed vs)) i nothing_known
  listed-past past = sym (get_or_past (map known (map version_listed vs)) i nothing_known (omega (arith, length-map vs version_listed, length-map (map version_listed vs) known)))
