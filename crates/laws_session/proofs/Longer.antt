-- Histories with one more entry: legality, and induction over legal histories.
use Rattle.std.proofs.Common.{inl, inr, ◌≡◌, [], ◌∷◌, ◌++◌, refl, ap, sym, subst, ◌∙◌, append_assoc, append-nil}
use Rattle.lists.proofs.Cuts.{not_cut, cases_last}
use Rattle.resolver_model.specs.declared.history.Entry.{Entry}
use Rattle.resolver_model.specs.Histories.{History}
use Rattle.resolver_model.specs.Answers.{Setting}
use Rattle.resolver_model.specs.Legal.{Follows, IsLegal}

-- the empty history is legal
pub IsLegal-none : (s : Setting) → IsLegal s []
IsLegal-none s before entry after e = absurd (not_cut before entry after e)

-- a legal history with one more entry that may stand there
pub IsLegal-more : (s : Setting) (history : History) (entry : Entry) → IsLegal s history → Follows s history entry → IsLegal s (history ++ entry ∷ [])
IsLegal-more s history entry legal next before x after e =
    elim (cases_last history entry before x after e) as (λ _. Follows s before x) [
      | inl same ↦
          let P : History × Entry → Type 0 = λ q. Follows s q.0 q.1 in
          let pair : (history, entry) ≡ (before, x) = cc (same.0, same.1) in
          subst P pair next
      | inr more ↦ legal before x more.0 more.1
    ]

-- the front of a legal history
pub IsLegal-front : (s : Setting) (history more : History) → IsLegal s (history ++ more) → IsLegal s history
IsLegal-front s history more legal before entry after e = legal before entry (after ++ more) (ap (λ h. h ++ more) e ∙ append_assoc before (entry ∷ after) more)

-- an entry of a legal history may stand after the entries before it
pub Follows-at : (s : Setting) (history : History) (entry : Entry) (after : History) → IsLegal s (history ++ entry ∷ after) → Follows s history entry
Follows-at s history entry after legal = legal history entry after refl

-- what holds at first, and after each entry that may stand, holds of each legal history
pub legal_induction : (s : Setting) (P : History → Type 0) → P [] → ((history : History) (entry : Entry) → IsLegal s history → Follows s history entry → P history → P (history ++ entry ∷ [])) → (history : History) → IsLegal s history → P history
legal_induction s P none more history legal = go [] history none legal
  where
    go : (before rest : History) → P before → IsLegal s (before ++ rest) → P (before ++ rest)
    go before [] p all = subst P (sym (append-nil before)) p
    go before (entry ∷ rest) p all =
        let e : (before ++ entry ∷ []) ++ rest ≡ before ++ entry ∷ rest = append_assoc before (entry ∷ []) rest in
        let next = more before entry (IsLegal-front s before (entry ∷ rest) all) (Follows-at s before entry rest all) p in
        let L : History → Type 0 = λ h. IsLegal s h in
        subst P e (go (before ++ entry ∷ []) rest next (subst L (sym e) all))
