use Rattle.std.proofs.Common.{ℕ, List, Some, MatchResult, subst}
use Rattle.std.proofs.lemmas.Result.{MatchResult-weaker}
use Rattle.sources.specs.Sources.{IsReadIf, listed, IsCut}
use Rattle.sources.proofs.Asked.{cut_one}
use Rattle.sources.proofs.reading.read_if.Goals as goal

pub returns-in-Some-clause-read : goal.returns-in-Some-clause-read
returns-in-Some-clause-read g c =
    let old = g.F.Shelf.state c.args.shelf.now in
    let new = g.F.Shelf.state c.read_file.new.shelf in
    let N : List ℕ → Type 0 = λ n. MatchResult c.read_file.result (λ bytes. IsReadIf old.files (Some n) bytes.items) (IsCut old.files old.asked new.asked (listed (Some n))) in
    rw c.in-Some.is
    (subst N c.as_str.ensures.value
    (MatchResult-weaker c.read_file.result c.read_file.ensures.read (λ bytes read. read) (λ status why. cut_one old.files old.asked new.asked c.as_str.result.now status c.read_file.ensures.counts why)))
