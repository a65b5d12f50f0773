-- All versions, and the places of the candidates and of the installed versions among them.
use Rattle.std.proofs.Common.{◌≡◌, ℕ, suc, ◌+◌, ◌<◌, ◌≤◌, List, [], ◌∷◌, ◌++◌, Bool, true, false, not, cond, ◌&&◌, ◌||◌, ◌==◌, if◌then◌else◌, Option, Some, None, map, length, nat_lt, refl, sym, ap, ◌∙◌, arith, append_assoc, length-append}
use Rattle.std.proofs.lemmas.Bool.Decides.{nat_tests}
use Rattle.std.proofs.lemmas.List.{append-nil, length-map, map-append}
use Rattle.std.specs.List.{find, filter, list_any, list_all}
use Rattle.std.specs.Option.{unwrap_or, option_map}
use Rattle.lists.proofs.Tests.{list_all_weaker, list_all-join}
use Rattle.lists.specs.Below.{below}
use Rattle.lists.specs.Distinct.{distinct}
use Rattle.universe_model.specs.Lists.{map_from}
use Rattle.universe_model.specs.Reading.{ReadStanza, Stanzas, all_of}
use Rattle.universe_model.specs.Universes.{installed_in}
use Rattle.universe_model.specs.Versions as universe
use Rattle.universe_model.specs.Versions.{Release, Version, concat, version_of, release_of, is_of, absent_of, candidate_of, installed_of, version_given, gives_version, package_versions, is_same_version, is_held, is_hold, is_named}
use Rattle.version_list.specs.Rows.{RowText, row_of, rows_of, row_versions, candidate_place, installed_place, wish_of}
use Rattle.version_list.proofs.Blocks.{has_none, among, candidate-block, absent-block, first-block}

-- the versions of packages, of which the first has the number q
abbrev pub versions_from : ℕ → List RowText → List Version
versions_from q rows = concat (map_from row_versions q rows)

-- the numbers of those at a place in each package, of which the first begins at a number
abbrev pub places_from : (RowText → ℕ) → ℕ → List RowText → List ℕ
places_from place first [] = []
places_from place first (row ∷ rows) = (first + place row) ∷ places_from place (first + (length row.releases + 1)) rows

-- ---- the versions of all packages

module _ {A B C : Type 0} where
  map_from-map : (f : ℕ → B → C) (g : A → B) (h : ℕ → A → C) → ((n : ℕ) (x : A) → f n (g x) ≡ h n x) → (n : ℕ) (xs : List A)
      → map_from f n (map g xs) ≡ map_from h n xs
  map_from-map f g h same n [] = refl
  map_from-map f g h same n (x ∷ xs) =
      ap (λ y. y ∷ map_from f (n + 1) (map g xs)) (same n x) ∙ ap (λ ys. h n x ∷ ys) (map_from-map f g h same (n + 1) xs)

  map-map : (f : B → C) (g : A → B) (xs : List A) → map f (map g xs) ≡ map (λ x. f (g x)) xs
  map-map f g [] = refl
  map-map f g (x ∷ xs) = ap (λ ys. f (g x) ∷ ys) (map-map f g xs)

versions-row : (stanzas : Stanzas) (q : ℕ) (name : List ℕ) → row_versions q (row_of stanzas name) ≡ package_versions (all_of stanzas) q name
versions-row stanzas q name =
    ap (λ (vs : List Version). version_of q name None ∷ vs)
    (sym (map-map (λ release. version_of q name (Some release)) release_of (distinct is_same_version (filter (gives_version name) (all_of stanzas)))))

pub versions-rows : (stanzas : Stanzas) → versions_from 0 (rows_of stanzas) ≡ universe.versions stanzas
versions-rows stanzas =
    ap concat (map_from-map row_versions (row_of stanzas) (package_versions (all_of stanzas)) (versions-row stanzas) 0 (universe.names stanzas))

-- ---- places

less-apart : (a q k : ℕ) → k ≤ q → nat_lt a k ≡ true → not (a == q) ≡ true
less-apart a q k le e = grind (arith, nat_tests)

less-more : (a k : ℕ) → nat_lt a k ≡ true → nat_lt a (k + 1) ≡ true
less-more a k e = grind (arith, nat_tests)

abbrev are_before : ℕ → List Version → Bool
are_before k vs = list_all (λ v. nat_lt v.package_number k) vs

none-before : (k q : ℕ) (vs : List Version) → k ≤ q → are_before k vs ≡ true → has_none q vs ≡ true
none-before k q vs le h = list_all_weaker (λ v. nat_lt v.package_number k) (λ v. not (is_of q v)) (λ v e. less-apart v.package_number q k le e) vs h

list_all-reads : (p : ℕ → Bool) (q : ℕ) (row : RowText) → p q ≡ true → (reads : List ReadStanza)
    → list_all (λ (v : Version). p v.package_number) (map (λ read. version_of q row.name (Some (release_of read))) reads) ≡ true
list_all-reads p q row e [] = refl
list_all-reads p q row e (read ∷ reads) =
    ap (λ b. b && list_all (λ (v : Version). p v.package_number) (map (λ other. version_of q row.name (Some (release_of other))) reads)) e
    ∙ list_all-reads p q row e reads

list_all-own : (p : ℕ → Bool) (q : ℕ) (row : RowText) → p q ≡ true → list_all (λ (v : Version). p v.package_number) (row_versions q row) ≡ true
list_all-own p q row e =
    ap (λ b. b && list_all (λ (v : Version). p v.package_number) (map (λ read. version_of q row.name (Some (release_of read))) row.releases)) e
    ∙ list_all-reads p q row e row.releases

none-behind : (q k : ℕ) (rows : List RowText) → q < k → has_none q (versions_from k rows) ≡ true
none-behind q k [] h = refl
none-behind q k (row ∷ rows) h =
    list_all-join (λ v. not (is_of q v)) (row_versions k row) (versions_from (k + 1) rows)
    (list_all-own (λ n. not (n == q)) k row (grind (arith, nat_tests)))
    (none-behind q (k + 1) rows (omega arith))

before-more : (k : ℕ) (vs : List Version) (row : RowText) → are_before k vs ≡ true → are_before (k + 1) (vs ++ row_versions k row) ≡ true
before-more k vs row h =
    list_all-join (λ v. nat_lt v.package_number (k + 1)) vs (row_versions k row)
    (list_all_weaker (λ v. nat_lt v.package_number k) (λ v. nat_lt v.package_number (k + 1)) (λ v e. less-more v.package_number k e) vs h)
    (list_all-own (λ n. nat_lt n (k + 1)) k row (grind (arith, nat_tests)))

size-row : (vs : List Version) (q : ℕ) (row : RowText) → length (vs ++ row_versions q row) ≡ length vs + (length row.releases + 1)
size-row vs q row =
    length-append vs (row_versions q row)
    ∙ ap (λ n. length vs + n) (ap suc (length-map row.releases (λ read. version_of q row.name (Some (release_of read)))) ∙ (let plain : suc (length row.releases) ≡ length row.releases + 1 = omega arith in plain))

-- What is at a place among a package's versions, wherever these stand, has the number of absent and of this place together.
module _ (stanzas : Stanzas) (at : List Version → ℕ → List ℕ → ℕ) (place : RowText → ℕ)
    (block : (q : ℕ) (name : List ℕ) (front rest : List Version) → has_none q front ≡ true → has_none q rest ≡ true
    → at (among front q (row_of stanzas name) rest) q name ≡ length front + place (row_of stanzas name)) where
  placed-from : (k : ℕ) (names : List (List ℕ)) (front : List Version) → are_before k front ≡ true
      → map_from (at (front ++ versions_from k (map (row_of stanzas) names))) k names ≡ places_from place (length front) (map (row_of stanzas) names)
  placed-from k [] front h = refl
  placed-from k (name ∷ names) front h =
      let row : RowText = row_of stanzas name in
      let rest : List Version = versions_from (k + 1) (map (row_of stanzas) names) in
      ap (λ n. n ∷ map_from (at (among front k row rest)) (k + 1) names) (block k name front rest (none-before k k front (omega arith) h) (none-behind k (k + 1) (map (row_of stanzas) names) (omega arith)))
      ∙ ap (λ ns. (length front + place row) ∷ ns)
      (ap (λ vs. map_from (at vs) (k + 1) names) (sym (append_assoc front (row_versions k row) rest))
      ∙ placed-from (k + 1) names (front ++ row_versions k row) (before-more k front row h)
      ∙ ap (λ n. places_from place n (map (row_of stanzas) names)) (size-row front k row))

  pub placed : map_from (at (universe.versions stanzas)) 0 (universe.names stanzas) ≡ places_from place 0 (rows_of stanzas)
  placed =
      ap (λ vs. map_from (at vs) 0 (universe.names stanzas)) (sym (versions-rows stanzas))
      ∙ placed-from 0 (universe.names stanzas) [] refl

-- ---- candidates

below-from : {A : Type 0} (f : ℕ → ℕ) (k : ℕ) (xs : List A) → map f (below k) ++ map_from (λ q x. f q) k xs ≡ map f (below (k + length xs))
below-from f k [] = append-nil (map f (below k)) ∙ (let plain : k ≡ k + 0 = omega arith in ap (λ n. map f (below n)) plain)
below-from f k (x ∷ xs) =
    sym (append_assoc (map f (below k)) (f k ∷ []) (map_from (λ q y. f q) (k + 1) xs))
    ∙ ap (λ front. front ++ map_from (λ q y. f q) (k + 1) xs) (sym (map-append f (below k) (k ∷ [])))
    ∙ (let next : suc k ≡ k + 1 = omega arith in ap (λ n. map f (below n) ++ map_from (λ q y. f q) (k + 1) xs) next)
    ∙ below-from f (k + 1) xs
    ∙ (let same : (k + 1) + length xs ≡ k + suc (length xs) = omega arith in ap (λ n. map f (below n)) same)

pub candidates-rows : (stanzas : Stanzas)
    → places_from (λ row. candidate_place row.releases) 0 (rows_of stanzas) ≡ map (candidate_of (universe.versions stanzas)) (below (length (universe.names stanzas)))
candidates-rows stanzas =
    sym (placed stanzas (λ vs q name. candidate_of vs q) (λ row. candidate_place row.releases)
    (λ q name front rest before behind. candidate-block q (row_of stanzas name) front rest before behind))
    ∙ below-from (candidate_of (universe.versions stanzas)) 0 (universe.names stanzas)
    ∙ (let plain : 0 + length (universe.names stanzas) ≡ length (universe.names stanzas) = omega arith in ap (λ n. map (candidate_of (universe.versions stanzas)) (below n)) plain)

-- ---- installed versions

-- the first that passes stands first among those that pass
First : {A : Type 0} → (A → Bool) → List A → List A → Option A → Type 0
First p xs rest None = list_any p xs ≡ false
First {A} p xs rest (Some x) = (list_any p xs ≡ true) × ((ys : List A) × (filter p (xs ++ rest) ≡ x ∷ ys))

first-cases : {A : Type 0} (p : A → Bool) (x : A) (xs rest : List A) (t : Bool) → p x ≡ t → (found : Option A) → First p xs rest found → First p (x ∷ xs) rest (cond t (Some x) found)
unfolding First
first-cases p x xs rest true e found h = (ap (λ b. b || list_any p xs) e, (filter p (xs ++ rest), ap (λ b. cond b (x ∷ filter p (xs ++ rest)) (filter p (xs ++ rest))) e))
first-cases p x xs rest false e None h = ap (λ b. b || list_any p xs) e ∙ h
first-cases p x xs rest false e (Some y) h =
    (ap (λ b. b || list_any p xs) e ∙ h.0, (h.1.0, ap (λ b. cond b (x ∷ filter p (xs ++ rest)) (filter p (xs ++ rest))) e ∙ h.1.1))

first-found : {A : Type 0} (p : A → Bool) (xs rest : List A) → First p xs rest (find p xs)
unfolding First
first-found p [] rest = refl
first-found p (x ∷ xs) rest = first-cases p x xs rest (p x) refl (find p xs) (first-found p xs rest)

installed-cases : (stanzas : Stanzas) (q : ℕ) (name : List ℕ) (front rest : List Version) → has_none q front ≡ true → has_none q rest ≡ true
    → (found : Option ReadStanza) → First (gives_version name) stanzas.status stanzas.packages found
    → version_given (among front q (row_of stanzas name) rest) q found ≡ length front + installed_place (row_of stanzas name)
unfolding First
installed-cases stanzas q name front rest before behind None h =
    absent-block q (row_of stanzas name) front rest before behind
    ∙ (let plain : length front ≡ length front + 0 = omega arith in plain) ∙ ap (λ b. length front + (if b then 1 else 0)) (sym h)
installed-cases stanzas q name front rest before behind (Some read) h =
    first-block q (row_of stanzas name) front rest before behind read (filter (λ other. not (is_same_version read other)) (distinct is_same_version h.1.0))
    (ap (distinct is_same_version) h.1.1)
    ∙ ap (λ b. length front + (if b then 1 else 0)) (sym h.0)

pub installed-rows : (stanzas : Stanzas) → places_from installed_place 0 (rows_of stanzas) ≡ installed_in stanzas (universe.names stanzas) (universe.versions stanzas)
installed-rows stanzas =
    sym (placed stanzas (λ vs q name. installed_of vs stanzas.status q name) installed_place
    (λ q name front rest before behind. installed-cases stanzas q name front rest before behind (find (gives_version name) stanzas.status)
    (first-found (gives_version name) stanzas.status stanzas.packages)))

-- ---- holds

abbrev pub row_held : RowText → Bool
row_held row = unwrap_or row.hold false

held-cases : (found : Option ReadStanza) → unwrap_or (option_map wish_of found) false ≡ is_hold found
held-cases None = refl
held-cases (Some read) = refl

map-alike : {A B C : Type 0} (f : B → C) (g : A → B) (h : A → C) → ((x : A) → f (g x) ≡ h x) → (xs : List A) → map f (map g xs) ≡ map h xs
map-alike f g h same [] = refl
map-alike f g h same (x ∷ xs) = ap (λ y. y ∷ map f (map g xs)) (same x) ∙ ap (λ ys. h x ∷ ys) (map-alike f g h same xs)

pub held-rows : (stanzas : Stanzas) → map row_held (rows_of stanzas) ≡ map (is_held stanzas.status) (universe.names stanzas)
held-rows stanzas =
    map-alike row_held (row_of stanzas) (is_held stanzas.status) (λ name. held-cases (find (is_named name) stanzas.status)) (universe.names stanzas)
