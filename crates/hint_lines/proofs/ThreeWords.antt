-- What is said by a first word with three words behind it.
use Rattle.std.proofs.Common.{◌≡◌, ℕ, Bool, true, List, [], ◌∷◌, Result, Err, codes, if◌then◌else◌, refl, sym, ap, ◌∙◌}
use Rattle.ascii.specs.Texts.{is_same}
use Rattle.universe_model.specs.declared.HintKind.{HintKind}
use Rattle.universe_model.specs.declared.HintKind.TheVariants.{BadHint}
use Rattle.hint_lines.specs.Counted.{counted}
use Rattle.hint_lines.specs.HintTexts.{HintText, addition, hint_of}

all-three : (words : List (List ℕ)) (a b c : List ℕ) → a ∷ b ∷ c ∷ [] ≡ counted words → words ≡ a ∷ b ∷ c ∷ []
all-three [] a b c e = cc
all-three (x ∷ []) a b c e = cc
all-three (x ∷ y ∷ []) a b c e = cc
all-three (x ∷ y ∷ z ∷ []) a b c e = sym e
all-three (x ∷ y ∷ z ∷ w ∷ words) a b c e = cc

when : (b : Bool) (r : Result HintText HintKind) → b ≡ true → r ≡ (if b then r else Err BadHint)
when true r e = refl
when _ r e = cc

pub three-said : (verb : List ℕ) (words : List (List ℕ)) (a b c : List ℕ) (r : Result HintText HintKind) → r ≡ addition a b c → a ∷ b ∷ c ∷ [] ≡ counted words
    → is_same verb (codes "add") ≡ true → r ≡ hint_of (verb ∷ words)
three-said verb words a b c r is counts add =
    is ∙ when (is_same verb (codes "add")) (addition a b c) add ∙ ap (λ ws. hint_of (verb ∷ ws)) (sym (all-three words a b c counts))
