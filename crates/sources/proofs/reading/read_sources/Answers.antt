use Rattle.std.proofs.Common.{inr, ℕ, List, Option, subst}
use Rattle.apt_base.specs.Faults.{ByName}
use Rattle.resolve_words.specs.Given.{given_by}
use Rattle.sources.specs.Sources.{listed, universe_names, IsCut}
use Rattle.sources.proofs.Asked.{among_both, told_universe, cut_behind}
use Rattle.sources.proofs.Sizes.{universe_short}
use Rattle.sources.proofs.reading.read_sources.Goals as goal

pub returns-in-Ok-read_if-clause-counts : goal.returns-in-Ok-read_if-clause-counts
returns-in-Ok-read_if-clause-counts g c =
    let s = given_by c.args.settings.now in
    among_both (universe_names s s.sample) (listed s.hints) _ _ _ c.in-Ok.ensures.counts c.in-Ok-read_if.ensures.counts

pub returns-in-Ok-read_if-clause-status : goal.returns-in-Ok-read_if-clause-status
returns-in-Ok-read_if-clause-status g c =
    let s = given_by c.args.settings.now in
    (universe_short (g.F.Shelf.state c.args.shelf.now).files s c.in-Ok.texts.0.items c.in-Ok.texts.1.items s.sample c.requires.few c.in-Ok.ensures.read).0

pub returns-in-Ok-read_if-clause-packages : goal.returns-in-Ok-read_if-clause-packages
returns-in-Ok-read_if-clause-packages g c =
    let s = given_by c.args.settings.now in
    (universe_short (g.F.Shelf.state c.args.shelf.now).files s c.in-Ok.texts.0.items c.in-Ok.texts.1.items s.sample c.requires.few c.in-Ok.ensures.read).1

pub returns-in-Err-read_if-clause-counts : goal.returns-in-Err-read_if-clause-counts
returns-in-Err-read_if-clause-counts g c =
    let s = given_by c.args.settings.now in
    among_both (universe_names s s.sample) (listed s.hints) _ _ _ c.in-Ok.ensures.counts c.in-Err-read_if.ensures.counts

pub returns-in-Err-read_if-clause-read : goal.returns-in-Err-read_if-clause-read
returns-in-Err-read_if-clause-read g c =
    let shelf = g.F.Shelf.state in
    let old = shelf c.args.shelf.now in
    let middle = shelf c.read_universe.new.shelf in
    let new = shelf c.read_if.new.shelf in
    let s = given_by c.args.settings.now in
    let end = c.in-Err-read_if.status in
    let C : Option (ByName (List ℕ)) → Type 0 = λ files. IsCut files middle.asked new.asked (listed s.hints) end in
    inr (cut_behind old.files old.asked middle.asked new.asked (universe_names s s.sample) (listed s.hints) end
    (told_universe old.files s c.in-Ok.texts.0.items c.in-Ok.texts.1.items s.sample c.in-Ok.ensures.read)
    c.in-Ok.ensures.counts
    (subst C c.in-Ok.ensures.kept.files c.in-Err-read_if.ensures.read))
