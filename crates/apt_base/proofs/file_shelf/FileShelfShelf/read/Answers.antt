use Rattle.std.proofs.Common.{◌∙◌, ap, refl}
use Rattle.std.specs.Prelude.{string_bytes}
use Rattle.std.specs.Option.{option_map}
use Rattle.apt_base.specs.Asked.{with_fault}
use Rattle.apt_base.proofs.Shelves.{faulted, asked_for, asked_for_still, read_failed}
use Rattle.apt_base.proofs.file_shelf.FileShelfShelf.read.Goals as goal

pub invariant_of-self-in-Some-name : goal.invariant_of-self-in-Some-name
invariant_of-self-in-Some-name g c =
    let s = c.args.self.now in
    record { entered = rw c.raise.ensures (asked_for_still (option_map string_bytes s.name) c.as_str.result.now s.asked _ (faulted s.asked c.as_str.result.now) s.entered) }

pub returns-in-Some-name : goal.returns-in-Some-name
returns-in-Some-name g c =
    let s = c.args.self.now in
    let at = ap (option_map string_bytes) c.in-Some-name.is in
    let raised = c.raise.ensures ∙ ap (with_fault s.asked) c.as_str.ensures.value in
    read_failed _ _ _ _ _ refl refl at (asked_for _ _ s.asked at s.entered) raised refl refl
