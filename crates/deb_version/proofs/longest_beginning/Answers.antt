use Rattle.std.proofs.Common.{◌≡◌, ◌+◌, ◌≤◌, ℕ, true, false, length, rules, subst, sym}
use Rattle.std.specs.List.{prefix_len}
use Rattle.std.specs.Char.{is_ascii_digit}
use Rattle.deb_version.specs.Versions.{is_upstream_byte, is_some_of, epoch_of, rest_of, IsLongestBeginning}
use Rattle.deb_version.proofs.Beginnings.{longest-epoch, longest-plain}
use Rattle.deb_version.proofs.longest_beginning.Goals as goal

pub overflow_add-result-then-is_number : goal.overflow_add-result-then-is_number
overflow_add-result-then-is_number c =
    let num : is_some_of is_ascii_digit (epoch_of c.args.text.now) ≡ true = search rules in
    let size : length c.epoch_at-epoch.result.now + 1 + c.upstream_run.result ≡ length (epoch_of c.args.text.now) + 1 + prefix_len (is_upstream_byte true) (rest_of c.args.text.now) = search rules in
    let within : length c.epoch_at-epoch.result.now + 1 + c.upstream_run.result ≤ length c.args.text.now = rw size (longest-epoch c.args.text.now num).within in
    search (rules, within)

pub returns-then-is_number : goal.returns-then-is_number
returns-then-is_number c =
    let num : is_some_of is_ascii_digit (epoch_of c.args.text.now) ≡ true = search rules in
    let size : length c.epoch_at-epoch.result.now + 1 + c.upstream_run.result ≡ length (epoch_of c.args.text.now) + 1 + prefix_len (is_upstream_byte true) (rest_of c.args.text.now) = search rules in
    let P : ℕ → Type 0 = λ n. IsLongestBeginning c.args.text.now n in
    subst P (sym size) (longest-epoch c.args.text.now num)

pub returns-else-is_number : goal.returns-else-is_number
returns-else-is_number c =
    let num : is_some_of is_ascii_digit (epoch_of c.args.text.now) ≡ false = search rules in
    let P : ℕ → Type 0 = λ n. IsLongestBeginning c.args.text.now n in
    subst P (sym c.upstream_run-else-is_number.ensures) (longest-plain c.args.text.now num)
