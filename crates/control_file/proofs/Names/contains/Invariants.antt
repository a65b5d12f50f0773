use Rattle.std.proofs.Common.{◌≡◌, length, map, take}
use Rattle.control_file.specs.Tags.{AreTagged}
use Rattle.control_file.proofs.Names.contains.Given as goal

-- the names up to here have their tags, and nothing else is changed
abbrev pub invariant-loop-place : goal.invariant-loop-place
invariant-loop-place l = record {
  tagged : AreTagged l.self-inside.tags l.place (map (λ name. name.now) (take l.place l.self-inside.items));
  room : length l.self-inside.tags ≡ 1024;
  items : l.self-inside.items ≡ l.initial.self-inside.items;
  len : l.self-inside.len ≡ l.initial.self-inside.len;
  marks : l.self-inside.marks ≡ l.initial.self-inside.marks;
  mark : l.self-inside.mark ≡ l.initial.self-inside.mark;
}
