use Rattle.std.proofs.Common.{◌∙◌, ap, refl}
use Rattle.std.specs.Prelude.{string_bytes}
use Rattle.std.specs.Option.{option_map}
use Rattle.apt_base.specs.Asked.{with_fault}
use Rattle.apt_base.proofs.Shelves.{two_steps, named_entered, asked_for_still, open_untold, open_failed}
use Rattle.apt_base.proofs.file_shelf.FileShelfShelf.open.Goals as goal

pub invariant_of-self-in-Ok : goal.invariant_of-self-in-Ok
invariant_of-self-in-Ok g c =
    let is = c.in_ok-enter.ensures.ok in
    record { entered = named_entered c.args.self.now.asked c.enter.new.self c.args.name.now _ is c.in_ok-copy.ensures.ok }

pub invariant_of-self-in-Err : goal.invariant_of-self-in-Err
invariant_of-self-in-Err g c =
    let s = c.args.self.now in
    let is = c.raise.ensures ∙ ap (λ a. with_fault a c.args.name.now) (c.in_ok-enter.ensures.ok) in
    record { entered = rw is (asked_for_still (option_map string_bytes s.name) c.args.name.now s.asked _ (two_steps s.asked c.args.name.now) s.entered) }

pub returns-in-Ok : goal.returns-in-Ok
returns-in-Ok g c =
    let s = c.args.self.now in
    let is = c.in_ok-enter.ensures.ok in
    open_untold s.asked c.enter.new.self (option_map string_bytes s.name) c.args.name.now _ is c.in_ok-copy.ensures.ok

pub returns-in-Err : goal.returns-in-Err
returns-in-Err g c =
    let is = c.raise.ensures ∙ ap (λ a. with_fault a c.args.name.now) (c.in_ok-enter.ensures.ok) in
    open_failed _ _ c.args.name.now refl refl is refl refl
