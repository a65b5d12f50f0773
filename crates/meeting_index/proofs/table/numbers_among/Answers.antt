-- The numbers of the run of a name.
use Rattle.std.proofs.Common.{◌≡◌, ◌∙◌, ◌+◌, ◌-◌, arith, refl, sym, ap, map, take, drop}
use Rattle.std.proofs.lemmas.List.{drop-map, take-map}
use Rattle.meeting_index.specs.Named.{named_number}
use Rattle.meeting_index.proofs.NamedRuns.{run-of}
use Rattle.meeting_index.proofs.table.numbers_among.Goals as goal

pub returns : goal.returns
returns c =
    let names = c.args.names.now in
    let first = c.first_of-first.result in
    let count = c.count_of-count.result in
    let long : first + count - first ≡ count = omega arith in
    ap (λ n. take n (drop first c.args.numbers.now)) long
    ∙ ap (λ numbers. take count (drop first numbers)) c.requires.numbers
    ∙ ap (take count) (drop-map named_number first names)
    ∙ take-map named_number count (drop first names)
    ∙ ap (map named_number)
    (sym (run-of c.args.sought.now names names names first count refl refl c.first_of-first.ensures.bound c.first_of-first.ensures.point c.count_of-count.ensures.point))
