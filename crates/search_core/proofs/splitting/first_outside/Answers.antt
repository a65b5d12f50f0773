use Rattle.std.proofs.Common.{◌≡◌, ◌∙◌, ◌-◌, ap, sym, ℕ, List, length, take, drop}
use Rattle.std.proofs.lemmas.List.{take_rest}
use Rattle.search_core.specs.Ways.{first_outside}
use Rattle.search_core.proofs.Fronts.{behind_front}
use Rattle.search_core.proofs.splitting.first_outside.Goals as goal

pub returns : goal.returns
returns c =
    let set : List ℕ = c.args.set.now in
    let other : List ℕ = c.args.other.now in
    let n : ℕ = c.common_front-front.result in
    let same : take n set ≡ take n other =
    ap (λ (xs : List ℕ). take n xs) (sym c.as_slice.ensures.items) ∙ (c.common_front-front.ensures.same ∙ ap (λ (xs : List ℕ). take n xs) c.as_slice-2.ensures.items) in
    c.outside.ensures
    ∙ (ap (λ (xs : List ℕ). first_outside (take (length xs - n) (drop n xs)) other) c.as_slice-3.ensures.items
    ∙ (ap (λ (xs : List ℕ). first_outside xs other) (take_rest set n)
    ∙ behind_front n set other same))
