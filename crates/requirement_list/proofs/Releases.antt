-- The dependencies of the fields of a version, in a setting.
use Rattle.std.proofs.Common.{ℕ, List, map, ◌++◌}
use Rattle.dep_fields.specs.declared.checked.AlternativesField.{AlternativesField}
use Rattle.dep_fields.specs.declared.checked.SingleField.{SingleField}
use Rattle.dep_fields.specs.Checked.{alternatives_groups, single_groups}
use Rattle.universe_model.specs.Dependencies.{Setting, Requirement, of_group, of_recommends, of_conflicts}
use Rattle.stanza.specs.declared.relations.Relations.{Relations}

abbrev pub needed : ℕ → AlternativesField → Setting → List Requirement
needed source field s = map (of_group s source) (alternatives_groups field)

abbrev pub wished : ℕ → AlternativesField → Setting → List Requirement
wished source field s = of_recommends s source (alternatives_groups field)

abbrev pub opposed : ℕ → ℕ → SingleField → Setting → List Requirement
opposed source own field s = of_conflicts s source own (single_groups field)

-- those of Breaks, and those of the fields from Conflicts on, and so on
abbrev pub from_conflicts : ℕ → ℕ → Relations → Setting → List Requirement
from_conflicts source own relations s = opposed source own relations.conflicts s ++ opposed source own relations.breaks s

abbrev pub from_recommends : ℕ → ℕ → Relations → Setting → List Requirement
from_recommends source own relations s = wished source relations.recommends s ++ from_conflicts source own relations s

abbrev pub from_depends : ℕ → ℕ → Relations → Setting → List Requirement
from_depends source own relations s = needed source relations.depends s ++ from_recommends source own relations s

abbrev pub of_relations : ℕ → ℕ → Relations → Setting → List Requirement
of_relations source own relations s = needed source relations.pre_depends s ++ from_depends source own relations s
