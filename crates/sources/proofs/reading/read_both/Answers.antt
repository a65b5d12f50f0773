use Rattle.std.proofs.Common.{ℕ, List, Option, subst}
use Rattle.apt_base.specs.Faults.{ByName}
use Rattle.resolve_words.specs.Given.{given_by}
use Rattle.sources.specs.Sources.{listed, IsCut}
use Rattle.sources.proofs.Asked.{told_if, cut_behind}
use Rattle.sources.proofs.reading.read_both.Goals as goal

pub returns-in-Err-read_if-clause-read : goal.returns-in-Err-read_if-clause-read
returns-in-Err-read_if-clause-read g c =
    let shelf = g.F.Shelf.state in
    let old = shelf c.args.shelf.now in
    let middle = shelf c.read_if.new.shelf in
    let new = shelf c.read_if-2.new.shelf in
    let s = given_by c.args.settings.now in
    let end = c.in-Err-read_if.status in
    let C : Option (ByName (List ℕ)) → Type 0 = λ files. IsCut files middle.asked new.asked (listed s.packages) end in
    cut_behind old.files old.asked middle.asked new.asked (listed s.status) (listed s.packages) end
    (told_if old.files s.status c.in-Ok.text.items c.in-Ok.ensures.read)
    c.in-Ok.ensures.counts
    (subst C c.in-Ok.ensures.kept.files c.in-Err-read_if.ensures.read)
