-- Blanks, commas and groups at the front of a text.
use Rattle.std.proofs.Common.{◌≡◌, ℕ, Bool, true, false, cond, not, ◌&&◌, ◌==◌, List, [], ◌∷◌, ◌++◌, refl, ap, ◌∙◌}
use Rattle.std.specs.List.{list_all}
use Rattle.std.proofs.lemmas.Bool.{and_parts}
use Rattle.ascii.specs.Texts.{behind}
use Rattle.ascii.proofs.Texts.{behind-cons}
use Rattle.dep_fields.specs.Tokens.{is_blank}
use Rattle.dep_fields.specs.Fields.{is_separator, comma, has_none, behind_comma, behind_group}

-- blanks are separators
pub blank-separator : (xs : List ℕ) → list_all is_blank xs ≡ true → list_all is_separator xs ≡ true
blank-separator [] h = refl
blank-separator (x ∷ xs) h =
    let parts = and_parts (is_blank x) (list_all is_blank xs) h in
    let rest = blank-separator xs parts.1 in
    rw (parts.0, rest) refl

-- what stands behind the first comma
behind_comma-append : (xs ys : List ℕ) → has_none comma xs ≡ true → behind_comma (xs ++ ys) ≡ behind_comma ys
behind_comma-append [] ys h = refl
behind_comma-append (x ∷ xs) ys h =
    let parts = and_parts (not (x == 44)) (has_none comma xs) h in
    by (x == 44) refl parts.0 (behind_comma-append xs ys parts.1)
  where
    by : (b : Bool) → (x == 44) ≡ b → not (x == 44) ≡ true → behind_comma (xs ++ ys) ≡ behind_comma ys → cond (x == 44) (xs ++ ys) (behind_comma (xs ++ ys)) ≡ behind_comma ys
    by true e n h = cc
    by false e n h = rw e h

-- what stands behind a group without commas, at the front of a text
pub behind_group-append : (xs ys : List ℕ) → has_none comma xs ≡ true → list_all is_blank xs ≡ false → behind_group (xs ++ ys) ≡ behind_comma ys
behind_group-append [] ys h f = cc
behind_group-append (x ∷ xs) ys h f =
    let parts = and_parts (not (x == 44)) (has_none comma xs) h in
    by (is_blank x) (x == 44) refl refl parts.0 f (λ left. behind_group-append xs ys parts.1 left)
  where
    by : (b c : Bool) → is_blank x ≡ b → (x == 44) ≡ c → not (x == 44) ≡ true → (is_blank x && list_all is_blank xs) ≡ false
        → (list_all is_blank xs ≡ false → behind_group (xs ++ ys) ≡ behind_comma ys) → behind_group (x ∷ (xs ++ ys)) ≡ behind_comma ys
    by b true e d n left more = cc
    by true false e d n left more =
        let sep : is_separator x ≡ true = rw e refl in
        ap behind_comma (behind-cons is_separator x (xs ++ ys) ∙ ap (λ b. cond b (behind is_separator (xs ++ ys)) (x ∷ (xs ++ ys))) sep) ∙ more (rw e at left)
    by false false e d n left more =
        let sep : is_separator x ≡ false = rw (e, d) refl in
        ap behind_comma (behind-cons is_separator x (xs ++ ys) ∙ ap (λ b. cond b (behind is_separator (xs ++ ys)) (x ∷ (xs ++ ys))) sep) ∙ behind_comma-append (x ∷ xs) ys h
