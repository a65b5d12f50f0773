-- Names that have tags.
use Rattle.std.proofs.Common.{◌≡◌, ◌==◌, ℕ, ap, refl, List, [], ◌∷◌, Bool, true, false, ◌||◌, map, arith}
use Rattle.std.specs.List.{list_any}
use Rattle.std.specs.Str.{str_eq_ignore_ascii_case, str_to_ascii_lowercase}
use Rattle.std.proofs.lemmas.Bool.Decides.{nat_tests}
use Rattle.std.proofs.lemmas.Slice.Eq.{bytes_eq-Decides}
use Rattle.control_file.specs.Tags.{tag_of, tag_behind}
use Rattle.control_file.specs.Text.{is_among}

-- names that differ only in ASCII case have one tag
pub same-tag : (a b : List ℕ) → str_eq_ignore_ascii_case a b ≡ true → tag_of a ≡ tag_of b
same-tag a b e = ap (tag_behind 0) ((bytes_eq-Decides (str_to_ascii_lowercase a) (str_to_ascii_lowercase b)).0 e)

either-false : (a b : Bool) → (a || b) ≡ false → (a ≡ false) × (b ≡ false)
either-false true b e = absurd (cc)
either-false false b e = (refl, e)

-- a name whose tag none of them has is none of them
pub none-tagged : (name : List ℕ) (names : List (List ℕ)) → list_any (λ tag. tag == tag_of name) (map tag_of names) ≡ false → is_among name names ≡ false
none-tagged name [] e = refl
none-tagged name (n ∷ ns) e =
    let both = either-false (tag_of n == tag_of name) (list_any (λ tag. tag == tag_of name) (map tag_of ns)) e in
    apart (str_eq_ignore_ascii_case n name) refl both.0 (none-tagged name ns both.1)
  where
    apart : (same : Bool) → str_eq_ignore_ascii_case n name ≡ same → (tag_of n == tag_of name) ≡ false → is_among name ns ≡ false → (same || is_among name ns) ≡ false
    apart true is none rest =
        let one : tag_of n ≡ tag_of name = same-tag n name is in
        let equal : (tag_of n == tag_of name) ≡ true = grind (arith, nat_tests, one) in
        absurd (cc)
    apart false is none rest = rest
