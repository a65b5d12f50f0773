use Rattle.std.proofs.Common.{inl, refl, take, drop, sym}
use Rattle.std.proofs.lemmas.List.{take-append-drop}
use Rattle.talk.proofs.saying.say.Goals as goal

pub returns-in-Err-clause-said : goal.returns-in-Err-clause-said
returns-in-Err-clause-said g c =
    let prefix = c.in-Err.ensures.prefix in
    record {
      part = take prefix.0 c.args.text.now;
      told = prefix.2;
      front = (drop prefix.0 c.args.text.now, sym (take-append-drop prefix.0 c.args.text.now));
      cut = inl (refl, c.in-Err.ensures.cause.failed);
    }
