use Rattle.std.proofs.Common.{◌<◌, ◌≤◌, length, arith, rules, sym}
use Rattle.deb_version.proofs.Turns.{rank_at-within, rank_at-past}
use Rattle.deb_version.proofs.rank_at.Goals as goal

pub returns-then-place-word : goal.returns-then-place-word
returns-then-place-word c =
    let lt : c.args.place < length c.args.word.now = omega arith in
    rw (rank_at-within c.args.word.now c.args.place lt) (search rules)

pub returns-else-place-word : goal.returns-else-place-word
returns-else-place-word c =
    let le : length c.args.word.now ≤ c.args.place = omega arith in
    sym (rank_at-past c.args.word.now c.args.place le)
