use Rattle.std.proofs.Common.{◌≡◌, length, rules, ◌∙◌}
use Rattle.std.specs.Cmp.Lexicographic.{slice_cmp}
use Rattle.std.specs.Ordering.{nat_cmp, ordering_then}
use Rattle.deb_version.proofs.Numbers.{numbers_cmp, without_zeros}
use Rattle.deb_version.proofs.compare_numbers.Goals as goal

pub returns : goal.returns
returns c =
    let a = c.args.a.now in
    let b = c.args.b.now in
    let e : c.then.result ≡ ordering_then (nat_cmp (length (without_zeros a)) (length (without_zeros b))) (slice_cmp nat_cmp (without_zeros a) (without_zeros b)) = search rules in
    e ∙ numbers_cmp a b c.requires.first c.requires.second
