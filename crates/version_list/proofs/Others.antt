-- A package's versions, and the set of all but the first.
use Rattle.std.proofs.Common.{◌≡◌, ◌<◌, List, [], ◌∷◌, ◌++◌, Bool, true, false, not, cond, if◌then◌else◌, ◌||◌, length, get_or, drop, refl, sym, ap, ◌∙◌, arith}
use Rattle.std.proofs.lemmas.List.Folds.{list_any-append}
use Rattle.std.specs.Bool.{OnFalse}
use Rattle.std.specs.BTreeMap.{is_at}
use Rattle.std.specs.BTreeSet.{BTreeSet, contains}
use Rattle.std.specs.Cmp.{eq_by_cmp_equiv}
use Rattle.std.specs.List.{list_any}
use Rattle.std.specs.Ordering.{is_eq}
use Rattle.version_list.specs.declared.given.Release.{Release}
use Rattle.version_list.specs.ReleaseLaws.{release_order-total}
use Rattle.version_list.specs.Releases.{AreOthers, has_equal, release_order}

pub equal-first : (rs : List Release) (first release : Release) → 0 < length rs → first ≡ get_or rs 0 first → is_eq (release_order release first) ≡ true
    → has_equal rs release ≡ true
equal-first [] first release h is e = absurd (omega arith)
equal-first (x ∷ xs) first release h is e =
    ap (λ b. b || has_equal xs release) (ap (λ (f : Release). is_eq (release_order release f)) (sym is) ∙ e)

pub other-first : (rs : List Release) (first release : Release) → 0 < length rs → first ≡ get_or rs 0 first → is_eq (release_order release first) ≡ false
    → has_equal rs release ≡ has_equal (drop 1 rs) release
other-first [] first release h is e = absurd (omega arith)
other-first (x ∷ xs) first release h is e =
    ap (λ b. b || has_equal xs release) (ap (λ (f : Release). is_eq (release_order release f)) (sym is) ∙ e)

pub AreOthers-same : (rs : List Release) (old new' : BTreeSet Release) → new'.keys ≡ old.keys → AreOthers rs old → AreOthers rs new'
AreOthers-same rs old new' e are = record {
  each = λ q. ap (λ (ks : List Release). list_any (is_at (release_order q)) ks) e ∙ are.each q;
}

pub AreOthers-first : (rs : List Release) (release : Release) (others : BTreeSet Release) → length rs ≡ 0 → AreOthers rs others → AreOthers (rs ++ release ∷ []) others
AreOthers-first [] release others e are = record { each = are.each }
AreOthers-first (x ∷ xs) release others e are = absurd (omega arith)

more-cases : (t b : Bool) → cond t true b ≡ (b || (t || false))
more-cases true true = refl
more-cases true false = refl
more-cases false true = refl
more-cases false false = refl

pub AreOthers-more : (rs : List Release) (release : Release) (old new' : BTreeSet Release) → 0 < length rs → AreOthers rs old
    → ((q : Release) → contains release_order new' q ≡ cond (is_at (release_order release) q) true (contains release_order old q))
    → AreOthers (rs ++ release ∷ []) new'
AreOthers-more [] release old new' h are more = absurd (omega arith)
AreOthers-more (x ∷ xs) release old new' h are more = record {
  each = λ q.
      more q
      ∙ ap (λ b. cond (is_at (release_order release) q) true b) (are.each q)
      ∙ ap (λ t. cond t true (has_equal xs q)) ((eq_by_cmp_equiv release_order-total).symm release q)
      ∙ more-cases (is_eq (release_order q release)) (has_equal xs q)
      ∙ sym (list_any-append (λ other. is_eq (release_order q other)) xs (release ∷ []));
}

pub has_equal-nothing : (rs : List Release) (release : Release) → length rs ≡ 0 → true ≡ not (has_equal rs release)
has_equal-nothing [] release e = refl
has_equal-nothing (x ∷ xs) release e = absurd (omega arith)

pub others-added : (added : Bool) (rs : List Release) (release : Release) (old new' : BTreeSet Release) → 0 < length rs → AreOthers rs old
    → OnFalse added (new'.keys ≡ old.keys)
    → ((q : Release) → contains release_order new' q ≡ cond (is_at (release_order release) q) true (contains release_order old q))
    → AreOthers (if added then rs ++ release ∷ [] else rs) new'
others-added true rs release old new' h are same more = AreOthers-more rs release old new' h are more
others-added false rs release old new' h are same more = AreOthers-same rs old new' same are
