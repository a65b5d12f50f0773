use Rattle.std.proofs.Common.{append_assoc}
use Rattle.std.proofs.lemmas.Result.{IfOk-equal}
use Rattle.sample_maker.proofs.add_archived.Goals as goal

pub returns : goal.returns
returns c =
    IfOk-equal c.end_stanza.result _ _ _ c.end_stanza.ensures
    (rw (c.in_ok-add_relation-2.ensures, c.in_ok-add_relation.ensures, c.in_ok-add-2.ensures, c.in_ok-add_number.ensures, c.in_ok-add.ensures) (simp append_assoc))
