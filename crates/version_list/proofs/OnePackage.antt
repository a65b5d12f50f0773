-- The versions of one package: one stanza more, and the greatest of them.
use Rattle.std.proofs.Common.{◌≡◌, ℕ, ◌+◌, ◌<◌, ◌≤◌, List, [], ◌∷◌, ◌++◌, Bool, true, false, ◌||◌, if◌then◌else◌, map, length, get_or, drop, refl, sym, ap, ◌∙◌, arith}
use Rattle.std.proofs.lemmas.List.{drop_more, drop_all, get_or-map}
use Rattle.std.specs.List.{list_any, position_or_len}
use Rattle.deb_version.specs.Versions.{parts}
use Rattle.deb_version.specs.VersionOrder.{version_order}
use Rattle.deb_version.proofs.Keys.{version_order-preorder}
use Rattle.universe_model.specs.Reading.{ReadStanza}
use Rattle.universe_model.specs.Versions.{version_text, is_same_version}
use Rattle.version_list.specs.Rows.{with_release, is_later_version, is_top}
use Rattle.universe_model.proofs.Orders.{later-itself, later-back, later-above}
use Rattle.version_list.proofs.Tops.{IsLater, best_from, best_from-whole}

pub list_any-map : {A B : Type 0} (f : A → B) (p : B → Bool) (xs : List A) → list_any (λ x. p (f x)) xs ≡ list_any p (map f xs)
list_any-map f p [] = refl
list_any-map f p (x ∷ xs) = ap (λ b. p (f x) || b) (list_any-map f p xs)

pub with_release-absent : (releases : List ReadStanza) (read : ReadStanza) → read.stanza.present ≡ false → releases ≡ with_release releases read
with_release-absent releases read e =
    ap (λ b. if b then (if list_any (is_same_version read) releases then releases else releases ++ read ∷ []) else releases) (sym e)

pub with_release-equal : (releases : List ReadStanza) (read : ReadStanza) → read.stanza.present ≡ true → list_any (is_same_version read) releases ≡ true
    → releases ≡ with_release releases read
with_release-equal releases read e found =
    ap (λ b. if b then releases else releases ++ read ∷ []) (sym found)
    ∙ ap (λ b. if b then (if list_any (is_same_version read) releases then releases else releases ++ read ∷ []) else releases) (sym e)

pub with_release-new : (releases : List ReadStanza) (read : ReadStanza) → read.stanza.present ≡ true → list_any (is_same_version read) releases ≡ false
    → releases ++ read ∷ [] ≡ with_release releases read
with_release-new releases read e missing =
    ap (λ b. if b then releases else releases ++ read ∷ []) (sym missing)
    ∙ ap (λ b. if b then (if list_any (is_same_version read) releases then releases else releases ++ read ∷ []) else releases) (sym e)

pub some-there : {A : Type 0} (p : A → Bool) (xs : List A) → list_any p xs ≡ true → 0 < length xs
some-there p [] e = absurd (cc)
some-there p (x ∷ xs) e = omega arith

later-laws : IsLater is_later_version
later-laws = record {
  itself = λ x. later-itself version_order version_order-preorder (parts (version_text x));
  back = λ x y. later-back version_order version_order-preorder (parts (version_text x)) (parts (version_text y));
  above = λ x b c. later-above version_order version_order-preorder (parts (version_text x)) (parts (version_text b)) (parts (version_text c));
}

-- What is best of the first `n`, at `best`, leads to the best of all.
pub record IsBest (releases : List ReadStanza) (best n : ℕ) : Type 0 where
  pub inside : best < length releases
  pub leads : (e : ReadStanza) → best_from is_later_version (get_or releases best e) best n (drop n releases) ≡ position_or_len (is_top releases) releases

first-leads : (releases : List ReadStanza) (e : ReadStanza) → 0 < length releases
    → best_from is_later_version (get_or releases 0 e) 0 0 releases ≡ position_or_len (is_top releases) releases
first-leads [] e h = absurd (omega arith)
first-leads (x ∷ xs) e h = best_from-whole is_later_version later-laws x xs

pub IsBest-first : (releases : List ReadStanza) → 0 < length releases → IsBest releases 0 0
IsBest-first releases h = record { inside = h; leads = λ e. first-leads releases e h }

step : (releases : List ReadStanza) (best n : ℕ) (e : ReadStanza) → n < length releases → IsBest releases best n
    → (if is_later_version (get_or releases n e) (get_or releases best e)
    then best_from is_later_version (get_or releases n e) n (n + 1) (drop (n + 1) releases)
    else best_from is_later_version (get_or releases best e) best (n + 1) (drop (n + 1) releases))
    ≡ position_or_len (is_top releases) releases
step releases best n e h is =
    sym (ap (best_from is_later_version (get_or releases best e) best n) (drop_more releases n e h)) ∙ is.leads e

pub IsBest-later : (releases : List ReadStanza) (best n : ℕ) → n < length releases → IsBest releases best n
    → ((e : ReadStanza) → is_later_version (get_or releases n e) (get_or releases best e) ≡ true) → IsBest releases n (n + 1)
IsBest-later releases best n h is later = record {
  inside = h;
  leads = λ e.
      ap (λ b. if b then best_from is_later_version (get_or releases n e) n (n + 1) (drop (n + 1) releases)
      else best_from is_later_version (get_or releases best e) best (n + 1) (drop (n + 1) releases)) (sym (later e))
      ∙ step releases best n e h is;
}

pub IsBest-stays : (releases : List ReadStanza) (best n : ℕ) → n < length releases → IsBest releases best n
    → ((e : ReadStanza) → is_later_version (get_or releases n e) (get_or releases best e) ≡ false) → IsBest releases best (n + 1)
IsBest-stays releases best n h is later = record {
  inside = is.inside;
  leads = λ e.
      ap (λ b. if b then best_from is_later_version (get_or releases n e) n (n + 1) (drop (n + 1) releases)
      else best_from is_later_version (get_or releases best e) best (n + 1) (drop (n + 1) releases)) (sym (later e))
      ∙ step releases best n e h is;
}

all-left : (best n : ℕ) (later : ReadStanza → ReadStanza → Bool) (releases : List ReadStanza) (e : ReadStanza) → length releases ≤ n → best_from later e best n (drop n releases) ≡ best
all-left best n later releases e h = ap (best_from later e best n) (drop_all n releases h)

some-element : {P : Type 0} (releases : List ReadStanza) → 0 < length releases → (ReadStanza → P) → P
some-element [] h use' = absurd (omega arith)
some-element (x ∷ xs) h use' = use' x

pub IsBest-all : (releases : List ReadStanza) (best n : ℕ) → length releases ≤ n → IsBest releases best n → best ≡ position_or_len (is_top releases) releases
IsBest-all releases best n h is =
    some-element releases (omega (arith, is.inside))
    (λ e. sym (all-left best n is_later_version releases (get_or releases best e) h) ∙ is.leads e)

-- ---- what the program compares

pub equal-there : {A : Type 0} (f : A → ReadStanza) (rs slice : List A) (read given : ReadStanza) (b t : Bool) → given ≡ read → slice ≡ rs
    → b ≡ list_any (λ r. is_same_version given (f r)) slice → b ≡ t → list_any (is_same_version read) (map f rs) ≡ t
equal-there f rs slice read given b t e s h v =
    ap (λ g. list_any (is_same_version g) (map f rs)) (sym e)
    ∙ sym (list_any-map f (is_same_version given) rs)
    ∙ ap (list_any (λ r. is_same_version given (f r))) (sym s) ∙ sym h ∙ v

pub later-at : {A : Type 0} (f : A → ReadStanza) (rs : List A) (n best : ℕ) (x y : A) (b t : Bool) → n < length rs → best < length rs
    → x ≡ get_or rs n x → y ≡ get_or rs best y → b ≡ is_later_version (f x) (f y) → b ≡ t
    → (e : ReadStanza) → is_later_version (get_or (map f rs) n e) (get_or (map f rs) best e) ≡ t
later-at f rs n best x y b t h k is_x is_y says v e =
    ap (λ z. is_later_version z (get_or (map f rs) best e)) (get_or-map f rs n x e h ∙ ap f (sym is_x))
    ∙ ap (is_later_version (f x)) (get_or-map f rs best y e k ∙ ap f (sym is_y))
    ∙ sym says ∙ v
