use Rattle.std.proofs.Common.{◌∙◌, ap, refl, is_some, Some, drop}
use Rattle.std.specs.Prelude.{string_bytes}
use Rattle.std.specs.Option.{option_map}
use Rattle.apt_base.specs.Asked.{with_fault}
use Rattle.apt_base.specs.Plan.{fails_never}
use Rattle.apt_base.specs.Memory.{files_of}
use Rattle.apt_base.proofs.Shelves.{two_steps, open_ok, open_failed, sure_entered, sure_missing, sure_planned, file_on_shelf, no_file, entered_open, opened_still, answer_ok, answer_missing, goes_on, gives_up, fails_step}
use Rattle.apt_base.proofs.mem_shelf.MemShelfShelf.open.Goals as goal

pub invariant_of-self-in-Ok : goal.invariant_of-self-in-Ok
invariant_of-self-in-Ok c =
    let s = c.args.self.now in
    let found = file_on_shelf s.files.items c.as_slice.result.now c.args.name.now c.in-Some.file c.as_slice.ensures.value c.in-Some.ensures in
    let is = c.in_ok-enter.ensures.ok in
    record {
      some = rw c.call.ensures.next s.some;
      entered = entered_open s.files.items c.in-Some.file found.0 s.asked c.enter.new.self c.args.name.now found.1 found.2 is;
    }

pub invariant_of-self-in-Err : goal.invariant_of-self-in-Err
invariant_of-self-in-Err c =
    let s = c.args.self.now in
    let is = c.raise.ensures ∙ ap (λ a. with_fault a c.args.name.now) (c.in_ok-enter.ensures.ok) in
    record {
      some = rw c.call.ensures.next s.some;
      entered = rw is (opened_still s.files.items s.opened c.args.name.now s.asked _ (two_steps s.asked c.args.name.now) s.entered);
    }

pub invariant_of-self-in-None : goal.invariant_of-self-in-None
invariant_of-self-in-None c =
    let s = c.args.self.now in
    let is = c.raise-in-None.ensures ∙ ap (λ a. with_fault a c.args.name.now) (c.in_ok-enter.ensures.ok) in
    record {
      some = rw c.call-in-None.ensures.next s.some;
      entered = rw is (opened_still s.files.items s.opened c.args.name.now s.asked _ (two_steps s.asked c.args.name.now) s.entered);
    }

pub returns-in-Ok-clause-open : goal.returns-in-Ok-clause-open
returns-in-Ok-clause-open c =
    let s = c.args.self.now in
    let found = file_on_shelf s.files.items c.as_slice.result.now c.args.name.now c.in-Some.file c.as_slice.ensures.value c.in-Some.ensures in
    let is = c.in_ok-enter.ensures.ok in
    let sure = sure_entered (fails_never s.plan) (fails_never c.call.new.self) s.asked c.enter.new.self c.args.name.now (files_of s.files.items) (ap fails_never c.call.ensures.next) is in
    open_ok _ _ c.args.name.now found.0.1.items (files_of s.files.items) refl found.3 sure refl is (ap (option_map (λ file. string_bytes file.0)) found.1 ∙ ap Some found.2) (ap (option_map (λ file. drop 0 file.1.items)) found.1)

pub returns-in-Ok-clause-answer : goal.returns-in-Ok-clause-answer
returns-in-Ok-clause-answer c =
    let s = c.args.self.now in
    let found = file_on_shelf s.files.items c.as_slice.result.now c.args.name.now c.in-Some.file c.as_slice.ensures.value c.in-Some.ensures in
    λ _. (answer_ok _ _ _ _ (ap is_some found.3) (goes_on _ _ _ _ c.in-Ok.ensures.answer), c.call.ensures.next)

pub returns-in-Err-clause-open : goal.returns-in-Err-clause-open
returns-in-Err-clause-open c =
    let s = c.args.self.now in
    let is = c.raise.ensures ∙ ap (λ a. with_fault a c.args.name.now) (c.in_ok-enter.ensures.ok) in
    let fails = fails_step s.plan.failing.items s.plan.calls (gives_up _ _ _ _ c.in-Err.ensures.answer) in
    open_failed _ _ c.args.name.now (sure_planned (fails_never s.plan) (fails_never c.call.new.self) _ _ (ap fails_never c.call.ensures.next) fails) refl is refl refl

pub returns-in-None-clause-open : goal.returns-in-None-clause-open
returns-in-None-clause-open c =
    let s = c.args.self.now in
    let missing = no_file s.files.items c.as_slice.result.now c.args.name.now c.as_slice.ensures.value c.in-None.ensures in
    let is = c.raise-in-None.ensures ∙ ap (λ a. with_fault a c.args.name.now) (c.in_ok-enter.ensures.ok) in
    open_failed _ _ c.args.name.now (sure_missing (fails_never s.plan) (fails_never c.call-in-None.new.self) s.asked c.raise-in-None.new.self c.args.name.now (files_of s.files.items) (ap fails_never c.call-in-None.ensures.next) is missing) refl is refl refl

pub returns-in-None-clause-answer : goal.returns-in-None-clause-answer
returns-in-None-clause-answer c =
    let s = c.args.self.now in
    let missing = no_file s.files.items c.as_slice.result.now c.args.name.now c.as_slice.ensures.value c.in-None.ensures in
    λ _. (answer_missing _ _ _ _ (ap is_some missing), c.call-in-None.ensures.next)
