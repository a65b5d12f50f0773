use Rattle.std.proofs.Common.{◌∙◌, sym, ap, List, map, length, subst}
use Rattle.std.proofs.lemmas.List.{length-map}
use Rattle.std.proofs.lemmas.Result.{err_from_is_err_and}
use Rattle.universe_model.specs.Versions as model
use Rattle.universe_model.specs.declared.BuildEnd.TheVariants as build_end
use Rattle.universe_model.specs.Universes.{known}
use Rattle.universe_parts.specs.Listed.{version_listed}
use Rattle.universe_parts.specs.declared.listed.ListedVersion.{ListedVersion}
use Rattle.version_list.specs.Listings.{stanzas_read}
use Rattle.universe.specs.Order.{AreInOrder}
use Rattle.universe.specs.Views.{known_version, requirements_of}
use Rattle.universe.proofs.Making.{universe-same, requirements-ordered, versions-apart, candidates-own, owners-same, count-of-packages, count-of-dependencies, first-end, last-end, no-end}
use Rattle.universe.proofs.Zips.{group_in, conflict_in}
use Rattle.universe.proofs.Universe.of_stanzas.Goals as goal

pub returns-in_err-names : goal.returns-in_err-names
returns-in_err-names c =
    let p = err_from_is_err_and c.from_residual.result c.from_residual.ensures.1 in
    rw (p.1, p.2) (first-end c.args.native.now (stanzas_read c.args.status.now c.args.packages.now) c.in_err-names.field-0.0 build_end.NoMemory c.in_err-names.ensures)

pub returns-in_err-list : goal.returns-in_err-list
returns-in_err-list c =
    let p = err_from_is_err_and c.from_residual-in_err-list.result c.from_residual-in_err-list.ensures.1 in
    rw (p.1, p.2) (last-end c.args.native.now (stanzas_read c.args.status.now c.args.packages.now) (map version_listed c.as_slice.result.now) c.in_ok-names.field-0.builder
    (ap (map version_listed) c.as_slice.ensures.value ∙ c.in_ok-names.ensures.versions) c.in_ok-names.ensures.problem
    c.in_err-list.field-0.0 build_end.NoMemory c.in_ok-names.ensures.within c.in_err-list.ensures)

pub invariant_of-result : goal.invariant_of-result
invariant_of-result c = record {
  names = ap length c.in_ok-names.ensures.names ∙ sym (count-of-packages c.args.native.now (stanzas_read c.args.status.now c.args.packages.now) (map version_listed c.as_slice.result.now) c.in_ok-names.field-0.builder
      (ap (map version_listed) c.as_slice.ensures.value ∙ c.in_ok-names.ensures.versions) c.in_ok-names.ensures.problem c.in_ok-list.list.problem c.in_ok-list.ensures.problem);
  held = ap length c.in_ok-names.ensures.held ∙ length-map (model.names (stanzas_read c.args.status.now c.args.packages.now)) (model.is_held (stanzas_read c.args.status.now c.args.packages.now).status)
      ∙ sym (count-of-packages c.args.native.now (stanzas_read c.args.status.now c.args.packages.now) (map version_listed c.as_slice.result.now) c.in_ok-names.field-0.builder
      (ap (map version_listed) c.as_slice.ensures.value ∙ c.in_ok-names.ensures.versions) c.in_ok-names.ensures.problem c.in_ok-list.list.problem c.in_ok-list.ensures.problem);
  candidates = candidates-own c.args.native.now (stanzas_read c.args.status.now c.args.packages.now) (map version_listed c.as_slice.result.now) c.in_ok-names.field-0.builder
      (ap (map version_listed) c.as_slice.ensures.value ∙ c.in_ok-names.ensures.versions) c.in_ok-names.ensures.problem c.in_ok-list.list.problem c.in_ok-names.field-0.candidates.items
      c.in_ok-list.ensures.problem c.in_ok-names.ensures.candidates (c.candidates_are_versions.ensures (stanzas_read c.args.status.now c.args.packages.now) c.args.native.now);
  owners = owners-same c.args.native.now (stanzas_read c.args.status.now c.args.packages.now) (map version_listed c.as_slice.result.now) c.in_ok-names.field-0.builder
      (ap (map version_listed) c.as_slice.ensures.value ∙ c.in_ok-names.ensures.versions) c.in_ok-names.ensures.problem c.in_ok-list.list.problem (map known_version c.in_ok-known.known.items)
      c.in_ok-list.ensures.problem (c.in_ok-known.ensures.known ∙ ap (λ (vs : List ListedVersion). map known (map version_listed vs)) (c.as_slice-versions.ensures.value ∙ sym c.as_slice.ensures.value));
  groups = count-of-dependencies c.args.native.now (stanzas_read c.args.status.now c.args.packages.now) (map version_listed c.as_slice.result.now) c.in_ok-names.field-0.builder
      (ap (map version_listed) c.as_slice.ensures.value ∙ c.in_ok-names.ensures.versions) c.in_ok-names.ensures.problem c.in_ok-list.list.problem group_in c.in_ok-list.list.groups.items
      c.in_ok-list.ensures.problem c.in_ok-list.ensures.groups;
  conflicts = count-of-dependencies c.args.native.now (stanzas_read c.args.status.now c.args.packages.now) (map version_listed c.as_slice.result.now) c.in_ok-names.field-0.builder
      (ap (map version_listed) c.as_slice.ensures.value ∙ c.in_ok-names.ensures.versions) c.in_ok-names.ensures.problem c.in_ok-list.list.problem conflict_in c.in_ok-list.list.conflicts.items
      c.in_ok-list.ensures.problem c.in_ok-list.ensures.conflicts;
  dependencies = requirements-ordered c.args.native.now (stanzas_read c.args.status.now c.args.packages.now) (map version_listed c.as_slice.result.now) c.in_ok-names.field-0.builder
      (ap (map version_listed) c.as_slice.ensures.value ∙ c.in_ok-names.ensures.versions) c.in_ok-names.ensures.problem c.in_ok-list.list.problem c.in_ok-list.list.groups.items c.in_ok-list.list.conflicts.items
      c.in_ok-list.ensures.problem c.in_ok-list.ensures.groups c.in_ok-list.ensures.conflicts
      (c.dependencies_stand_in_order.ensures (stanzas_read c.args.status.now c.args.packages.now) c.args.native.now);
  apart = versions-apart c.args.native.now (stanzas_read c.args.status.now c.args.packages.now) (map version_listed c.as_slice.result.now) c.in_ok-names.field-0.builder
      (ap (map version_listed) c.as_slice.ensures.value ∙ c.in_ok-names.ensures.versions) c.in_ok-names.ensures.problem
      (map known_version c.in_ok-known.known.items) (c.in_ok-known.ensures.known ∙ ap (λ (vs : List ListedVersion). map known (map version_listed vs)) (c.as_slice-versions.ensures.value ∙ sym c.as_slice.ensures.value)) (c.versions_stand_apart.ensures (stanzas_read c.args.status.now c.args.packages.now) c.args.native.now);
  order = subst (λ vs. AreInOrder vs c.in_ok-order.order.items) (sym c.in_ok-known.ensures.known) c.in_ok-order.ensures;
  texts = c.in_ok-known.ensures.sound;
}

pub returns : goal.returns
returns c = record {
  same = ap (λ native. record {
    native = native;
    names = c.in_ok-names.field-0.names;
    installed = c.in_ok-list.list.problem.starts;
    candidates = c.in_ok-names.field-0.candidates.items;
    held = c.in_ok-names.field-0.held.items;
    versions = map known_version c.in_ok-known.known.items;
    requirements = requirements_of c.in_ok-list.list.problem.dependencies c.in_ok-list.list.groups.items c.in_ok-list.list.conflicts.items;
  }) c.in_ok-native.ensures.items
      ∙ universe-same c.args.native.now (stanzas_read c.args.status.now c.args.packages.now) (map version_listed c.as_slice.result.now) c.in_ok-names.field-0.builder
      (ap (map version_listed) c.as_slice.ensures.value ∙ c.in_ok-names.ensures.versions) c.in_ok-names.ensures.problem
      c.in_ok-names.field-0.names c.in_ok-names.field-0.candidates.items c.in_ok-names.field-0.held.items (map known_version c.in_ok-known.known.items) c.in_ok-list.list.problem c.in_ok-list.list.groups.items c.in_ok-list.list.conflicts.items
      c.in_ok-names.ensures.names c.in_ok-names.ensures.candidates c.in_ok-names.ensures.held (c.in_ok-known.ensures.known ∙ ap (λ (vs : List ListedVersion). map known (map version_listed vs)) (c.as_slice-versions.ensures.value ∙ sym c.as_slice.ensures.value)) c.in_ok-list.ensures.problem
      c.in_ok-list.ensures.groups c.in_ok-list.ensures.conflicts;
  within = no-end c.args.native.now (stanzas_read c.args.status.now c.args.packages.now) (map version_listed c.as_slice.result.now) c.in_ok-names.field-0.builder
      (ap (map version_listed) c.as_slice.ensures.value ∙ c.in_ok-names.ensures.versions) c.in_ok-names.ensures.problem c.in_ok-names.ensures.within c.in_ok-list.ensures.within;
}
