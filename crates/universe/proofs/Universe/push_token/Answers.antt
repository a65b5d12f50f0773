-- What stood before a token stays, also where its number is cut off.
use Rattle.std.proofs.Common.{◌≡◌, ◌≤◌, ◌++◌, ◌∙◌, ℕ, List, length, take, sym, ap, arith, append_assoc, length-append}
use Rattle.std.proofs.lemmas.List.{take-take}
use Rattle.std.proofs.Math.Seq.{take-append_seam}
use Rattle.universe.specs.Said.{IsKept}
use Rattle.universe.proofs.Universe.push_token.Goals as goal

kept-behind : (old more last start mid new' : List ℕ) → start ≡ old ++ more → mid ≡ start ++ last → take (length mid) new' ≡ mid → IsKept old new'
kept-behind old more last start mid new' a b kept =
    let whole : mid ≡ old ++ (more ++ last) = b ∙ ap (λ (xs : List ℕ). xs ++ last) a ∙ append_assoc old more last in
    let longer : length old ≤ length mid = omega (arith, ap length whole, length-append old (more ++ last)) in
    sym (take-take (length old) (length mid) new' longer) ∙ ap (take (length old)) (kept ∙ whole) ∙ take-append_seam old (more ++ last)

pub returns-in_err-append_number-in-Leave-clause-kept : goal.returns-in_err-append_number-in-Leave-clause-kept
returns-in_err-append_number-in-Leave-clause-kept c =
    kept-behind c.args.out.now.items _ _ c.push_install-in-Leave.new.out.items c.extend_from_slice.new.self.items c.append_number.new.out.items
    c.in_ok-push_install-in-Leave.ensures.ok c.in_ok-extend_from_slice-in-Leave.ensures.items c.in_err-append_number-in-Leave.ensures.kept
