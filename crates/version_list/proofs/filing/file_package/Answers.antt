-- The row of the stanza's package changes, and the others stay.
use Rattle.std.proofs.Common.{◌≡◌, [], ◌∷◌, ◌++◌, sym, ap, ◌∙◌, append_assoc}
use Rattle.universe_model.specs.Reading as reading
use Rattle.universe_model.specs.Reading.{Stanzas, all_of}
use Rattle.universe_parts.specs.Listed.{stanza_read}
use Rattle.version_list.specs.Rows.{with_package_stanza}
use Rattle.version_list.proofs.OneName.{filed, named-more, rows-found, place-of}
use Rattle.version_list.proofs.OneStanza.{package-changes}
use Rattle.version_list.proofs.filing.file_package.Goals as goal

pub returns-clause-filed : goal.returns-clause-filed
returns-clause-filed c = λ status packages are.
    let read : reading.ReadStanza = stanza_read c.args.read.now in
    let old : Stanzas = record { status = status; packages = packages } in
    let all : Stanzas = record { status = status; packages = packages ++ read ∷ [] } in
    let more : all_of all ≡ all_of old ++ read ∷ [] = sym (append_assoc status packages (read ∷ [])) in
    record {
      named = c.in_ok-place.ensures.names ∙ named-more old all read c.args.names.now are.named more;
      kept = filed old all read (λ row. with_package_stanza row read) (package-changes status packages read) more
          c.place_of.new.rows.items c.in_ok-place.place c.index_mut-row.result.now c.add_package.new.self
          (rows-found old c.args.names.now c.args.rows.now.items read are c.place_of.new.rows.items c.in_ok-place.ensures.rows)
          (c.in_ok-place.ensures.place ∙ ap (place-of read) are.named)
          c.in_ok-place.ensures.inside
          c.index_mut-row.ensures.value
          c.in_ok-add_package.ensures;
    }
