-- The operators of version bounds (Debian Policy 7.1).
use Rattle.std.specs.Prelude.{Bool, true, false}
use Rattle.std.specs.declared.cmp.Ordering.{Ordering}
use Rattle.std.specs.declared.cmp.Ordering.TheVariants as order
use Rattle.dep_fields.specs.declared.Op.{Op}
use Rattle.dep_fields.specs.declared.Op.TheVariants as op

-- whether a version that compares so to the version of an item meets the operator
abbrev pub holds : Op → Ordering → Bool
holds op.Less order.Less = true
holds op.Less order.Equal = false
holds op.Less order.Greater = false
holds op.AtMost order.Less = true
holds op.AtMost order.Equal = true
holds op.AtMost order.Greater = false
holds op.Equal order.Less = false
holds op.Equal order.Equal = true
holds op.Equal order.Greater = false
holds op.AtLeast order.Less = false
holds op.AtLeast order.Equal = true
holds op.AtLeast order.Greater = true
holds op.More order.Less = false
holds op.More order.Equal = false
holds op.More order.Greater = true
