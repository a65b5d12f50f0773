use Rattle.std.proofs.Common.{◌∙◌, ℕ, List, [], Option, unwrap_or, map, ap, string_bytes, codes}
use Rattle.std.proofs.lemmas.Result.{IfOk-weaker}
use Rattle.clap.specs.Words.{found_of}
use Rattle.clap.proofs.WalkLemmas.{raw_values-rows}
use Rattle.resolve_words.proofs.reading.copy_actions.Goals as goal

pub returns-in-Some : goal.returns-in-Some
returns-in-Some c =
    let given = c.in-Some.ensures ∙ raw_values-rows (found_of c.args.matches.now) (codes "ACTION") in
    IfOk-weaker c.copy_texts.result _ _ (λ actions is. is ∙ ap (λ (o : Option (List (List ℕ))). unwrap_or o []) given) c.copy_texts.ensures

pub returns-in-None : goal.returns-in-None
returns-in-None c =
    let given = c.in-None.ensures ∙ raw_values-rows (found_of c.args.matches.now) (codes "ACTION") in
    ap (map string_bytes) c.new.ensures.items ∙ ap (λ (o : Option (List (List ℕ))). unwrap_or o []) given
