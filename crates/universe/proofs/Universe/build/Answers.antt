use Rattle.std.proofs.Common.{◌∙◌, ap, map}
use Rattle.std.proofs.lemmas.Result.{MatchResult-weaker}
use Rattle.universe_model.specs.Reading.{Texts}
use Rattle.universe_model.specs.declared.BuildEnd.TheVariants as build_end
use Rattle.universe_parts.specs.Listed.{stanza_read}
use Rattle.version_list.specs.Listings.{stanzas_read}
use Rattle.universe.proofs.Whole.{whole-made, whole-end, stanzas-same}
use Rattle.universe.proofs.Universe.build.Goals as goal

pub returns : goal.returns
returns c =
    let texts : Texts = record { status = c.args.status.now; packages = c.args.packages.now; native = c.args.arch.now } in
    let stanzas = stanzas_read c.as_slice.result.now c.as_slice-2.result.now in
    MatchResult-weaker c.of_stanzas.result c.of_stanzas.ensures
    (λ u is. whole-made texts stanzas (stanzas-same texts (map stanza_read c.as_slice.result.now) (map stanza_read c.as_slice-2.result.now)
    (ap (map stanza_read) c.as_slice.ensures.value ∙ c.in_ok-status.ensures.counted) (ap (map stanza_read) c.as_slice-2.ensures.value ∙ c.in_ok-packages.ensures.counted)) c.in_ok-status.ensures.sound c.in_ok-packages.ensures.sound u is)
    (λ end is. whole-end texts stanzas (stanzas-same texts (map stanza_read c.as_slice.result.now) (map stanza_read c.as_slice-2.result.now)
    (ap (map stanza_read) c.as_slice.ensures.value ∙ c.in_ok-status.ensures.counted) (ap (map stanza_read) c.as_slice-2.ensures.value ∙ c.in_ok-packages.ensures.counted)) c.in_ok-status.ensures.sound c.in_ok-packages.ensures.sound end build_end.NoMemory is)
