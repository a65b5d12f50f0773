-- The entries before one of a legal history are legal.
use Rattle.std.proofs.Common.{◌≡◌, ◌∷◌, ◌++◌, ap, ◌∙◌, append_assoc}
use Rattle.resolver_model.specs.Answers.{Setting}
use Rattle.resolver_model.specs.Histories.{History}
use Rattle.resolver_model.specs.Legal.{IsLegal}
use Rattle.resolver_model.specs.declared.history.Entry.{Entry}

pub legal_before : (s : Setting) (history before : History) (entry : Entry) (after : History) → IsLegal s history → history ≡ before ++ entry ∷ after → IsLegal s before
legal_before s history before entry after legal is front one back cut = legal front one (back ++ entry ∷ after) (is ∙ ap (λ (h : History). h ++ entry ∷ after) cut ∙ append_assoc front (one ∷ back) (entry ∷ after))
