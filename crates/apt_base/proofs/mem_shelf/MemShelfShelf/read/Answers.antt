use Rattle.std.proofs.Common.{◌≡◌, ◌∙◌, ◌+◌, min, ap, sym, refl, List, ℕ, [], Option, drop, take, length, arith}
use Rattle.std.specs.Prelude.{◌&&◌, string_bytes}
use Rattle.std.specs.List.{slice_get}
use Rattle.std.specs.Option.{option_map, option_and_then, unwrap_or}
use Rattle.apt_base.specs.Asked.{with_fault}
use Rattle.apt_base.specs.Plan.{fails_never, planned}
use Rattle.apt_base.specs.Memory.{files_of, none_failed}
use Rattle.apt_base.specs.MemShelf.{bytes_left}
use Rattle.apt_base.specs.declared.mem_shelf.Opened.{Opened}
use Rattle.apt_base.proofs.Planned.{planned_count, takes_front}
use Rattle.apt_base.proofs.Shelves.{got_file, takes_of, is_there, read_ok, read_failed, faulted, opened_still, sure_planned, gives_up, fails_step}
use Rattle.apt_base.proofs.mem_shelf.MemShelfShelf.read.Goals as goal

pub invariant_of-self-in-Err : goal.invariant_of-self-in-Err
invariant_of-self-in-Err c =
    let s = c.args.self.now in
    record {
      some = rw c.call.ensures.next s.some;
      entered = rw c.raise.ensures (opened_still s.files.items s.opened c.as_str.result.now s.asked _ (faulted s.asked c.as_str.result.now) s.entered);
    }

pub returns-in-Ok-clause-read : goal.returns-in-Ok-clause-read
returns-in-Ok-clause-read c =
    let s = c.args.self.now in
    let o = c.in-Some.opened in
    let file = c.in-Some-get.file.now in
    let at = c.in-Some.is in
    let get = got_file s.files.items c.as_slice.result.now o.file file c.as_slice.ensures.value c.in-Some-get.ensures.lookup.3.0 c.in-Some-get.ensures.lookup.1 in
    let name_of : Option Opened → Option (List ℕ) = λ v. option_map (λ f. string_bytes f.0) (option_and_then (λ w. slice_get s.files.items w.file) v) in
    let before = ap (option_and_then (bytes_left s.files.items)) at ∙ ap (option_map (λ f. drop o.taken f.1.items)) get in
    let after = ap (option_map (λ f. drop (o.taken + c.in-Ok.count) f.1.items)) get in
    let left = c.from_place-left.ensures ∙ ap (drop o.taken) c.as_slice-2.ensures.value in
    let size = ap length left in
    let e : c.min.result ≡ min (length c.copy_front.new.to) (length (drop o.taken file.1.items)) = omega (arith, size, c.min.ensures) in
    let count = planned_count _ _ _ _ c.in-Ok.ensures.answer ∙ ap (min s.plan.piece) e in
    let takes = takes_front file.1.items c.copy_front.new.to o.taken s.plan.piece c.in-Ok.count s.some count (c.copy_front.ensures ∙ ap (take c.in-Ok.count) left) in
    read_ok _ _ c.in-Ok.count c.copy_front.new.to (ap (λ p. fails_never p && none_failed s.asked (files_of s.files.items)) c.call.ensures.next) refl refl (sym (ap name_of at)) (takes_of _ _ _ _ _ _ before after takes)

pub returns-in-Ok-clause-answer : goal.returns-in-Ok-clause-answer
returns-in-Ok-clause-answer c =
    let s = c.args.self.now in
    let o = c.in-Some.opened in
    let file = c.in-Some-get.file.now in
    let get = got_file s.files.items c.as_slice.result.now o.file file c.as_slice.ensures.value c.in-Some-get.ensures.lookup.3.0 c.in-Some-get.ensures.lookup.1 in
    let before = ap (option_and_then (bytes_left s.files.items)) c.in-Some.is ∙ ap (option_map (λ f. drop o.taken f.1.items)) get in
    let left = c.from_place-left.ensures ∙ ap (drop o.taken) c.as_slice-2.ensures.value in
    let size = ap length left ∙ sym (ap (λ r. length (unwrap_or r [])) before) in
    let e : c.min.result ≡ min (length c.copy_front.new.to) (length (unwrap_or (option_and_then (bytes_left s.files.items) s.opened) [])) = omega (arith, size, c.min.ensures) in
    c.in-Ok.ensures.answer ∙ ap (planned s.plan) e

pub returns-in-Err-clause-read : goal.returns-in-Err-clause-read
returns-in-Err-clause-read c =
    let s = c.args.self.now in
    let o = c.in-Some.opened in
    let file = c.in-Some-get.file.now in
    let get = got_file s.files.items c.as_slice.result.now o.file file c.as_slice.ensures.value c.in-Some-get.ensures.lookup.3.0 c.in-Some-get.ensures.lookup.1 in
    let name_of : Option Opened → Option (List ℕ) = λ v. option_map (λ f. string_bytes f.0) (option_and_then (λ w. slice_get s.files.items w.file) v) in
    let named = ap name_of c.in-Some.is ∙ ap (option_map (λ f. string_bytes f.0)) get in
    let fails = fails_step s.plan.failing.items s.plan.calls (gives_up _ _ _ _ c.in-Err.ensures.answer) in
    let there = is_there s.files.items s.opened o file s.asked c.in-Some.is get s.entered in
    let raised = c.raise.ensures ∙ ap (with_fault s.asked) c.as_str.ensures.value in
    read_failed _ _ _ (string_bytes file.0) _ (sure_planned (fails_never s.plan) (fails_never c.call.new.self) _ _ (ap fails_never c.call.ensures.next) fails) refl named there raised refl refl
