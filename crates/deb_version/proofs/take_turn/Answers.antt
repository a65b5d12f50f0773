use Rattle.std.proofs.Common.{◌≡◌, List, ℕ, true, take, sym, subst, ap, ◌∙◌}
use Rattle.std.specs.List.{list_all, prefix_len}
use Rattle.std.specs.Char.{is_ascii_digit}
use Rattle.lists.proofs.Tests.{list_all-prefix}
use Rattle.deb_version.proofs.take_turn.Goals as goal

pub invariant_of-result : goal.invariant_of-result
invariant_of-result c =
    let rest = c.split_at.result.1.now in
    let e : c.split_at-2.result.0.now ≡ take (prefix_len is_ascii_digit rest) rest = c.split_at-2.ensures.front ∙ ap (λ n. take n rest) c.digits_length.ensures.length in
    let P : List ℕ → Type 0 = λ d. list_all is_ascii_digit d ≡ true in
    record { digits_only = subst P (sym e) (list_all-prefix is_ascii_digit rest) }
