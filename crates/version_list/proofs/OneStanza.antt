-- What one stanza more changes of what is kept of each package.
use Rattle.std.proofs.Common.{◌≡◌, ℕ, List, [], ◌∷◌, ◌++◌, Bool, true, false, cond, ◌&&◌, ◌||◌, if◌then◌else◌, Option, Some, None, map, refl, sym, ap, ◌∙◌, append_assoc}
use Rattle.std.specs.Prelude.{option_map}
use Rattle.std.proofs.lemmas.Cmp.{nat_list_eq_equiv, on_equiv}
use Rattle.std.proofs.lemmas.List.{append-nil}
use Rattle.std.proofs.lemmas.List.Elements.{filter-append}
use Rattle.std.proofs.lemmas.List.Folds.{find-append, list_any-append}
use Rattle.std.specs.Cmp.{IsEquivalence}
use Rattle.std.specs.List.{filter, find, list_any}
use Rattle.std.specs.Option.{option_or}
use Rattle.std.proofs.lemmas.Bool.{or_parts, and_right}
use Rattle.lists.proofs.Distinct.{distinct-push, list_any-distinct}
use Rattle.lists.specs.Distinct.{distinct}
use Rattle.deb_version.specs.Versions.{parts}
use Rattle.deb_version.specs.VersionOrder.{version_order}
use Rattle.deb_version.proofs.Keys.{version_order-preorder}
use Rattle.ascii.specs.Texts.{is_same}
use Rattle.universe_model.specs.Reading.{ReadStanza, Stanzas, all_of}
use Rattle.universe_model.specs.Versions.{name_of, names, is_named, gives_version, is_same_version, version_text}
use Rattle.version_list.specs.Rows.{RowText, row_of, empty_row, wish_of, of_status, with_release, with_status_stanza, with_package_stanza}
use Rattle.universe_model.proofs.Orders.{equal-equivalence}

pub same_version-equivalence : IsEquivalence is_same_version
same_version-equivalence = on_equiv (λ (read : ReadStanza). parts (version_text read)) (equal-equivalence version_order version_order-preorder)

-- ---- of the package of the stanza's name, and of another

hold-step : (old : Option ReadStanza) (s : ReadStanza) (t : Bool)
    → option_map wish_of (option_or old (cond t (Some s) None)) ≡ cond t (option_or (option_map wish_of old) (Some (wish_of s))) (option_map wish_of old)
hold-step None s true = refl
hold-step (Some read) s true = refl
hold-step None s false = refl
hold-step (Some read) s false = refl

installed-step : (old present t : Bool) → (old || ((present && t) || false)) ≡ cond t (old || present) old
installed-step true present true = refl
installed-step false true true = refl
installed-step false false true = refl
installed-step true present false = refl
installed-step false true false = refl
installed-step false false false = refl

releases-cases : (all : List ReadStanza) (s : ReadStanza) (kept : List ReadStanza) (present t : Bool)
    → distinct is_same_version (kept ++ cond (present && t) (s ∷ []) [])
    ≡ cond t (if present then (if list_any (is_same_version s) (distinct is_same_version kept) then distinct is_same_version kept
    else distinct is_same_version kept ++ s ∷ []) else distinct is_same_version kept) (distinct is_same_version kept)
releases-cases all s kept true true = distinct-push is_same_version same_version-equivalence kept s
releases-cases all s kept true false = ap (distinct is_same_version) (append-nil kept)
releases-cases all s kept false true = ap (distinct is_same_version) (append-nil kept)
releases-cases all s kept false false = ap (distinct is_same_version) (append-nil kept)

releases-step : (all : List ReadStanza) (s : ReadStanza) (name : List ℕ)
    → distinct is_same_version (filter (gives_version name) (all ++ s ∷ []))
    ≡ cond (is_named name s) (with_release (distinct is_same_version (filter (gives_version name) all)) s) (distinct is_same_version (filter (gives_version name) all))
releases-step all s name =
    ap (distinct is_same_version) (filter-append (gives_version name) all (s ∷ []))
    ∙ releases-cases all s (filter (gives_version name) all) s.stanza.present (is_named name s)

row-cases : (name : List ℕ) (t : Bool) (h k : Option Bool) (i j : Bool) (rs ss : List ReadStanza)
    → let row : RowText = record { name = name; hold = cond t h k; installed = cond t i j; releases = cond t rs ss } in
    row ≡ cond t (record { name = name; hold = h; installed = i; releases = rs }) (record { name = name; hold = k; installed = j; releases = ss })
row-cases name true h k i j rs ss = refl
row-cases name false h k i j rs ss = refl

same-row : (name : List ℕ) (h k : Option Bool) (i j : Bool) (rs ss : List ReadStanza) → h ≡ k → i ≡ j → rs ≡ ss
    → let row : RowText = record { name = name; hold = h; installed = i; releases = rs } in row ≡ record { name = name; hold = k; installed = j; releases = ss }
same-row name h k i j rs ss e f g = cc

same-both : {A : Type 0} (t : Bool) (x : A) → x ≡ cond t x x
same-both true x = refl
same-both false x = refl

-- whether a stanza of this name is one of that name, and then what becomes of its row
abbrev pub Changes : Stanzas → Stanzas → List ℕ → (RowText → RowText) → Type 0
Changes old new name change = (other : List ℕ) → row_of new other ≡ cond (is_same name other) (change (row_of old other)) (row_of old other)

pub status-changes : (status : List ReadStanza) (s : ReadStanza)
    → Changes (of_status status) (of_status (status ++ s ∷ [])) (name_of s) (λ row. with_status_stanza row s)
status-changes status s other =
    let all = append-nil status in
    same-row other _ _ _ _ _ _
    (ap (option_map wish_of) (find-append (is_named other) status (s ∷ [])) ∙ hold-step (find (is_named other) status) s (is_named other s))
    (list_any-append (gives_version other) status (s ∷ []) ∙ installed-step (list_any (gives_version other) status) s.stanza.present (is_named other s))
    (ap (λ (reads : List ReadStanza). distinct is_same_version (filter (gives_version other) reads)) (append-nil (status ++ s ∷ []))
    ∙ releases-step status s other
    ∙ ap (λ (reads : List ReadStanza). cond (is_named other s) (with_release (distinct is_same_version (filter (gives_version other) reads)) s) (distinct is_same_version (filter (gives_version other) reads))) (sym all))
    ∙ row-cases other (is_named other s) _ _ _ _ _ _

pub package-changes : (status packages : List ReadStanza) (s : ReadStanza)
    → Changes (record { status = status; packages = packages }) (record { status = status; packages = packages ++ s ∷ [] }) (name_of s) (λ row. with_package_stanza row s)
package-changes status packages s other =
    same-row other _ _ _ _ _ _
    (same-both (is_named other s) (option_map wish_of (find (is_named other) status)))
    (same-both (is_named other s) (list_any (gives_version other) status))
    (ap (λ (reads : List ReadStanza). distinct is_same_version (filter (gives_version other) reads)) (sym (append_assoc status packages (s ∷ [])))
    ∙ releases-step (status ++ packages) s other)
    ∙ row-cases other (is_named other s) _ _ _ _ _ _

-- ---- of a name that no stanza has

module _ {A : Type 0} where
  filter-none : (p q : A → Bool) → ((x : A) → p x ≡ false → q x ≡ false) → (xs : List A) → list_any p xs ≡ false → filter q xs ≡ []
  filter-none p q weaker [] e = refl
  filter-none p q weaker (x ∷ xs) e =
      ap (λ b. cond b (x ∷ filter q xs) (filter q xs)) (weaker x (or_parts (p x) (list_any p xs) e).0)
      ∙ filter-none p q weaker xs (or_parts (p x) (list_any p xs) e).1

  find-none : (p : A → Bool) (xs : List A) → list_any p xs ≡ false → find p xs ≡ None
  find-none p [] e = refl
  find-none p (x ∷ xs) e =
      ap (λ b. cond b (Some x) (find p xs)) (or_parts (p x) (list_any p xs) e).0 ∙ find-none p xs (or_parts (p x) (list_any p xs) e).1

  list_any-none : (p q : A → Bool) → ((x : A) → p x ≡ false → q x ≡ false) → (xs : List A) → list_any p xs ≡ false → list_any q xs ≡ false
  list_any-none p q weaker [] e = refl
  list_any-none p q weaker (x ∷ xs) e =
      ap (λ b. b || list_any q xs) (weaker x (or_parts (p x) (list_any p xs) e).0) ∙ list_any-none p q weaker xs (or_parts (p x) (list_any p xs) e).1

named-map : (name : List ℕ) (reads : List ReadStanza) → list_any (is_same name) (map name_of reads) ≡ list_any (is_named name) reads
named-map name [] = refl
named-map name (read ∷ reads) =
    ap (λ b. b || list_any (is_same name) (map name_of reads)) (nat_list_eq_equiv.symm name (name_of read))
    ∙ ap (λ b. is_named name read || b) (named-map name reads)

respects : (name x z : List ℕ) → is_same x z ≡ true → is_same name x ≡ is_same name z
respects name x z e = nat_list_eq_equiv.symm name x ∙ nat_list_eq_equiv.congr x z name e ∙ nat_list_eq_equiv.symm z name

named-anywhere : (stanzas : Stanzas) (name : List ℕ) → list_any (is_same name) (names stanzas) ≡ false → list_any (is_named name) (all_of stanzas) ≡ false
named-anywhere stanzas name missing =
    sym (named-map name (all_of stanzas))
    ∙ sym (list_any-distinct (is_same name) is_same (respects name) (map name_of (all_of stanzas)))
    ∙ missing

pub row-missing : (stanzas : Stanzas) (name : List ℕ) → list_any (is_same name) (names stanzas) ≡ false → row_of stanzas name ≡ empty_row name
row-missing stanzas name missing =
    let anywhere = named-anywhere stanzas name missing in
    let first : list_any (is_named name) stanzas.status ≡ false =
    (or_parts _ _ (sym (list_any-append (is_named name) stanzas.status stanzas.packages) ∙ anywhere)).0 in
    let gives : (read : ReadStanza) → is_named name read ≡ false → gives_version name read ≡ false = λ read e. and_right read.stanza.present (is_named name read) e in
    same-row name _ _ _ _ _ _
    (ap (option_map wish_of) (find-none (is_named name) stanzas.status first))
    (list_any-none (is_named name) (gives_version name) gives stanzas.status first)
    (ap (distinct is_same_version) (filter-none (is_named name) (gives_version name) gives (all_of stanzas) anywhere))
