use Rattle.std.proofs.Common.{◌≡◌, ◌<◌, drop}
use Rattle.std.specs.Str.{str_to_ascii_lowercase}
use Rattle.control_file.specs.Tags.{tag_behind, tag_of}
use Rattle.control_file.proofs.tag.Given as goal

-- what is left leads to the tag of the name
abbrev pub invariant-loop-byte : goal.invariant-loop-byte
invariant-loop-byte l = record {
  range : l.tag < 17592186044416;
  left : tag_behind l.tag (str_to_ascii_lowercase (drop l.byte-index l.name)) ≡ tag_of l.name;
}
