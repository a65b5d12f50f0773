use Rattle.requirement_list.proofs.Rows.{rows_kept}
use Rattle.requirement_list.proofs.answers.Answers.keep.Goals as goal

pub returns : goal.returns
returns c = λ s item k is h. rows_kept s item c.args.self.now _ _ c.args.listed.now c.in_ok-push.ensures.items c.in_ok-append.ensures c.len-first.ensures c.len-end.ensures k is h
