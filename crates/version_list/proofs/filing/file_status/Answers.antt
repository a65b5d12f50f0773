-- The row of the stanza's package changes, and the others stay.
use Rattle.std.proofs.Common.{◌≡◌, List, [], ◌∷◌, ◌++◌, sym, ap, ◌∙◌}
use Rattle.std.proofs.lemmas.List.{append-nil}
use Rattle.universe_model.specs.Reading as reading
use Rattle.universe_model.specs.Reading.{Stanzas, all_of}
use Rattle.universe_parts.specs.Listed.{stanza_read}
use Rattle.version_list.specs.Rows.{of_status, with_status_stanza}
use Rattle.version_list.proofs.OneName.{filed, named-more, rows-found, place-of}
use Rattle.version_list.proofs.OneStanza.{status-changes}
use Rattle.version_list.proofs.filing.file_status.Goals as goal

pub returns : goal.returns
returns c = λ status are.
    let read : reading.ReadStanza = stanza_read c.args.read.now in
    let old : Stanzas = of_status status in
    let more : all_of (of_status (status ++ read ∷ [])) ≡ all_of old ++ read ∷ [] =
    append-nil (status ++ read ∷ []) ∙ ap (λ (reads : List reading.ReadStanza). reads ++ read ∷ []) (sym (append-nil status)) in
    record {
      named = c.in_ok-place.ensures.names ∙ named-more old (of_status (status ++ read ∷ [])) read c.args.names.now are.named more;
      kept = filed old (of_status (status ++ read ∷ [])) read (λ row. with_status_stanza row read) (status-changes status read) more
          c.place_of.new.rows.items c.in_ok-place.place c.index_mut-row.result.now c.add_status.new.self
          (rows-found old c.args.names.now c.args.rows.now.items read are c.place_of.new.rows.items c.in_ok-place.ensures.rows)
          (c.in_ok-place.ensures.place ∙ ap (place-of read) are.named)
          c.in_ok-place.ensures.inside
          c.index_mut-row.ensures.value
          c.in_ok-add_status.ensures;
    }
