-- How the installed versions are kept, one after another.
use Rattle.std.proofs.Common.{◌≡◌, ◌<◌, ◌≤◌, ◌+◌, ◌∙◌, ℕ, List, [], ◌∷◌, ◌++◌, Bool, true, false, ◌&&◌, ◌||◌, cond, map, length, get_or, take, refl, sym, ap, subst, arith, not, Option, Some, None}
use Rattle.std.specs.List.{filter, list_any, list_all}
use Rattle.std.specs.Option.{is_some}
use Rattle.std.proofs.Math.Bool.{or-false}
use Rattle.std.proofs.lemmas.List.{take_all, take_more, map_push, length-map, length-take-le}
use Rattle.std.proofs.lemmas.List.Folds.{list_any-append, list_all-append}
use Rattle.lists.specs.Sets.{has}
use Rattle.universe_model.specs.Lists.{number_in, numbers_of}
use Rattle.universe_model.specs.Versions.{Version, is_release_with}
use Rattle.universe_model.specs.Meeting.{meets, meets_any, meets_by_name, meets_by_provides, is_plain}
use Rattle.universe_model.specs.Dependencies.{Setting, Requirement, recommended, is_broken_now}
use Rattle.dep_fields.specs.Relationships.{Relationship}
use Rattle.meeting_index.specs.Indexes.{Indexed}
use Rattle.meeting_index.specs.Numbers.{numbers_from}
use Rattle.meeting_index.proofs.Numbers.{numbers_from-append}
use Rattle.requirement_list.specs.Installed.{is_read, PassesNoAbsent, AreInstalled, HasInstalled}
use Rattle.requirement_list.specs.declared.Indexes.{Indexes}

one_number : {A : Type 0} (h : ℕ → Bool) (n : ℕ) (test : A → Bool) (x : A) → list_any h (numbers_from n test (x ∷ [])) ≡ (test x && h n)
one_number {A} h n test x =
    elim (test x) as (λ b. list_any h (map (number_in {A = A}) (cond b ((n, x) ∷ []) [])) ≡ (b && h n)) [ true ↦ or-false (h n) | false ↦ refl ]

-- one more at the end
any_end : {A : Type 0} (h : ℕ → Bool) (test : A → Bool) (xs : List A) (x : A)
    → list_any h (numbers_of test (xs ++ x ∷ [])) ≡ (list_any h (numbers_of test xs) || (test x && h (length xs)))
any_end h test xs x =
    ap (list_any h) (numbers_from-append 0 test xs (x ∷ []))
    ∙ list_any-append h (numbers_of test xs) (numbers_from (0 + length xs) test (x ∷ []))
    ∙ ap (λ n. list_any h (numbers_of test xs) || list_any h (numbers_from n test (x ∷ []))) (let e : 0 + length xs ≡ length xs = omega arith in e)
    ∙ ap (λ b. list_any h (numbers_of test xs) || b) (one_number h (length xs) test x)

-- the first ones with the next one
next_mapped : {A : Type 0} (f : A → Version) (xs : List A) (n : ℕ) (x : A) → n < length xs → x ≡ get_or xs n x → map f (take (n + 1) xs) ≡ map f (take n xs) ++ f x ∷ []
next_mapped f xs n x lt e = ap (map f) (take_more xs n x lt ∙ ap (λ y. take n xs ++ y ∷ []) (sym e)) ∙ map_push f (take n xs) x

size_before : {A : Type 0} (f : A → Version) (xs : List A) (n : ℕ) → n < length xs → length (map f (take n xs)) ≡ n
size_before f xs n lt = length-map (take n xs) f ∙ length-take-le n xs (omega arith)

any_next : {A : Type 0} (h : ℕ → Bool) (test : Version → Bool) (f : A → Version) (xs : List A) (n : ℕ) (x : A) → n < length xs → x ≡ get_or xs n x
    → list_any h (numbers_of test (map f (take (n + 1) xs))) ≡ (list_any h (numbers_of test (map f (take n xs))) || (test (f x) && h n))
any_next h test f xs n x lt e =
    ap (λ vs. list_any h (numbers_of test vs)) (next_mapped f xs n x lt e)
    ∙ any_end h test (map f (take n xs)) (f x)
    ∙ ap (λ k. list_any h (numbers_of test (map f (take n xs))) || (test (f x) && h k)) (size_before f xs n lt)

and-true : (b : Bool) → (b && true) ≡ b
and-true true = refl
and-true false = refl

and-false : (b : Bool) → (b && false) ≡ false
and-false true = refl
and-false false = refl

none_read : {A : Type 0} (o : Option A) → is_some o ≡ false → o ≡ None
none_read None h = refl
none_read (Some x) h = absurd (cc)

both-true : (a b : Bool) → (a && b) ≡ true → (a ≡ true) × (b ≡ true)
both-true true true h = (refl, refl)
both-true true false h = absurd (cc)
both-true false b h = absurd (cc)

-- a version that is not kept adds nothing
nothing_added : (test : Version → Bool) → PassesNoAbsent test → (v : Version) (b : Bool) → (is_read v && b) ≡ false → (test v && b) ≡ false
nothing_added test none v b out =
    elim (is_some v.release) as (λ r. is_some v.release ≡ r → (r && b) ≡ false → (test v && b) ≡ false) [
      | true ↦ λ _ h. ap (λ k. test v && k) h ∙ and-false (test v)
      | false ↦ λ e _. ap (λ k. k && b) (none v (none_read v.release e))
    ] refl out

-- an installed version is kept
pub kept_more : {A : Type 0} (starts : List ℕ) (f : A → Version) (xs ks : List A) (n : ℕ) (x : A) → n < length xs → x ≡ get_or xs n x → (is_read (f x) && has starts n) ≡ true
    → AreInstalled starts (map f (take n xs)) (map f ks) → AreInstalled starts (map f (take (n + 1) xs)) (map f (ks ++ x ∷ []))
kept_more starts f xs ks n x lt e both h =
    let parts = both-true (is_read (f x)) (has starts n) both in
    record {
      there = ap (list_all is_read) (map_push f ks x)
          ∙ list_all-append is_read (map f ks) (f x ∷ [])
          ∙ ap (λ b. b && (is_read (f x) && true)) h.there
          ∙ ap (λ b. b && true) parts.0;
      passes = λ test none.
          ap (list_any test) (map_push f ks x)
          ∙ list_any-append test (map f ks) (f x ∷ [])
          ∙ ap (λ b. list_any test (map f ks) || b) (or-false (test (f x)))
          ∙ ap (λ b. b || test (f x)) (h.passes test none)
          ∙ ap (λ b. list_any (has starts) (numbers_of test (map f (take n xs))) || b) (sym (ap (λ b. test (f x) && b) parts.1 ∙ and-true (test (f x))))
          ∙ sym (any_next (has starts) test f xs n x lt e);
    }

-- another is not
pub kept_same : {A : Type 0} (starts : List ℕ) (f : A → Version) (xs ks : List A) (n : ℕ) (x : A) → n < length xs → x ≡ get_or xs n x → (is_read (f x) && has starts n) ≡ false
    → AreInstalled starts (map f (take n xs)) (map f ks) → AreInstalled starts (map f (take (n + 1) xs)) (map f ks)
kept_same starts f xs ks n x lt e out h = record {
  there = h.there;
  passes = λ test none.
      h.passes test none
      ∙ sym (or-false (list_any (has starts) (numbers_of test (map f (take n xs)))))
      ∙ ap (λ b. list_any (has starts) (numbers_of test (map f (take n xs))) || b) (sym (nothing_added test none (f x) (has starts n) out))
      ∙ sym (any_next (has starts) test f xs n x lt e);
}

-- at the end all versions were passed
pub kept_whole : {A : Type 0} (starts : List ℕ) (f : A → Version) (xs ks : List A) (n : ℕ) → length xs ≤ n
    → AreInstalled starts (map f (take n xs)) (map f ks) → AreInstalled starts (map f xs) (map f ks)
kept_whole starts f xs ks n le h = let P : List Version → Type 0 = λ vs. AreInstalled starts vs (map f ks) in subst P (ap (map f) (take_all n xs le)) h

-- ---- what is absent meets no item

absent_meets : (native : List ℕ) (item : Relationship) → PassesNoAbsent (meets native item)
absent_meets native item v e =
    ap (λ o. is_plain native item.arch && is_release_with (λ release. meets_by_name item v.name release || meets_by_provides native item release) o) e
    ∙ and-false (is_plain native item.arch)

pub absent_meets_none : (native : List ℕ) (group : List Relationship) → PassesNoAbsent (meets_any native group)
absent_meets_none native [] v e = refl
absent_meets_none native (item ∷ group) v e = ap (λ b. b || meets_any native group v) (absent_meets native item v e) ∙ absent_meets_none native group v e

-- ---- whether a group of Recommends is broken now

-- the setting of all versions, where these are installed
abbrev pub setting_now : Indexed → List ℕ → Setting
setting_now all starts = record { native = all.native; versions = all.versions; installed = starts }

pub broken_now : (starts : List ℕ) (indexes : Indexes) (source place : ℕ) (group : List Relationship) → HasInstalled starts indexes
    → (has starts source && not (list_any (meets_any indexes.installed.native group) indexes.installed.versions))
    ≡ is_broken_now (setting_now indexes.all starts) (recommended (setting_now indexes.all starts) source place group)
broken_now starts indexes source place group h =
    ap (λ b. has starts source && not b)
    (ap (λ native. list_any (meets_any native group) indexes.installed.versions) h.native ∙ h.versions.passes (meets_any indexes.all.native group) (absent_meets_none indexes.all.native group))

-- one that is not broken counts
pub unbroken_counts : (s : Setting) (r : Requirement) → is_broken_now s r ≡ false → filter (λ d. not (is_broken_now s d)) (r ∷ []) ≡ r ∷ []
unbroken_counts s r e = ap (λ b. cond (not b) (r ∷ []) []) e

-- one that is broken does not
pub broken_goes : (s : Setting) (r : Requirement) → is_broken_now s r ≡ true → filter (λ d. not (is_broken_now s d)) (r ∷ []) ≡ []
broken_goes s r e = ap (λ b. cond (not b) (r ∷ []) []) e
