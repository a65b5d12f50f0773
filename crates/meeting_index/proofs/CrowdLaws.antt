-- What stands in a list of carriers, and crowds at their names.
use Rattle.std.proofs.Common.{◌≡◌, ◌<◌, arith, ℕ, ◌∙◌, sym, ap, refl, subst, List, [], ◌∷◌, map, Bool, true, false, cond, ◌&&◌, ◌||◌, nat_eq, nat_lt, Option, Some, None, is_some, length, ◌⊎◌, inl, inr}
use Rattle.std.specs.List.{dedup, dedup_from, filter, list_any}
use Rattle.std.specs.List.Sorted.{IsPermutation}
use Rattle.std.specs.Map.{lookup}
use Rattle.std.specs.Cmp.Lexicographic.{slice_cmp}
use Rattle.std.specs.Ordering.{is_eq, nat_cmp, ordering_then}
use Rattle.std.specs.declared.cmp.Ordering.{Ordering}
use Rattle.std.specs.declared.cmp.Ordering.TheVariants.{Less, Equal, Greater}
use Rattle.std.specs.FinMap.{nat_cmp-IsAntisymmetric}
use Rattle.std.proofs.lemmas.Bool.{lt-ltb, ltb-true}
use Rattle.std.proofs.lemmas.List.Sorted.{list_any-IsPermutation}
use Rattle.lists.specs.Sets.{has}
use Rattle.lists.proofs.Orders.{then_equal}
use Rattle.lists.proofs.Tests.{list_any-map}
use Rattle.ascii.specs.Texts.{is_same}
use Rattle.deb_version.specs.VersionOrder.{version_order}
use Rattle.deb_version.proofs.Keys.{version_order-preorder}
use Rattle.deb_version.specs.Versions.{Parts, epoch_of, upstream_of}
use Rattle.deb_version.specs.declared.Version.{Version}
use Rattle.dep_fields.specs.Operators.{holds}
use Rattle.dep_fields.specs.Relationships.{VersionBound, parts_of}
use Rattle.universe_model.proofs.Orders.{order-total}
use Rattle.meeting_index.specs.Carriers.{Carrier}
use Rattle.meeting_index.specs.Crowds.{AreRight, HasCrowd, IsCrowdOf, IsRealCrowd, crowds_have, finds_as, is_crowd, kept_has}
use Rattle.meeting_index.specs.Fitting.{carried_number, carried_order, carried_parts, fits, fits_as, has_fitting, is_past, version_parts}
use Rattle.meeting_index.specs.Named.{has_same}
use Rattle.meeting_index.specs.NameTables.{numbers_at}
use Rattle.meeting_index.specs.declared.carried.Carried.{Carried}
use Rattle.meeting_index.specs.declared.crowd.Crowd.{Crowd}
use Rattle.meeting_index.specs.declared.crowds.Crowds.{Crowds}
use Rattle.meeting_index.specs.declared.named.Name.{Name}
use Rattle.meeting_index.specs.declared.rows.NumberRow.{NumberRow}
use Rattle.meeting_index.specs.declared.rows.NamedNumbers.{NamedNumbers}
use Rattle.meeting_index.proofs.NamedRuns.{is_eq-same, same-bytes}

or-comm : (a b : Bool) → (a || b) ≡ (b || a)
or-comm true true = refl
or-comm true false = refl
or-comm false true = refl
or-comm false false = refl

pub or-none : (b : Bool) → (b || false) ≡ b
or-none true = refl
or-none false = refl

pub or-assoc : (a b c : Bool) → ((a || b) || c) ≡ (a || (b || c))
or-assoc true b c = refl
or-assoc false b c = refl

or-same : (a b c : Bool) → a ≡ b → (a || c) ≡ (a || (b || c))
or-same true b c e = refl
or-same false true c e = absurd (cc)
or-same false false c e = refl

first-equal : (a b : Ordering) → ordering_then a b ≡ Equal → a ≡ Equal
first-equal Less b e = e
first-equal Equal b e = refl
first-equal Greater b e = e

-- what compares as equal is within the same bounds, and stands for the same version
fits-alike : (bound : VersionBound) (c : ℕ) (x y : Carried) → carried_order x y ≡ Equal → fits_as bound c x ≡ fits_as bound c y
fits-alike bound c x y e =
    ap (λ o. holds bound.op o && nat_eq x.number c)
    ((order-total version_order version_order-preorder).congr (carried_parts x) (carried_parts y) bound.parts
    (first-equal (version_order (carried_parts x) (carried_parts y)) (nat_cmp x.number y.number) e))
    ∙ ap (λ n. is_past bound (carried_parts y) && nat_eq n c)
    (nat_cmp-IsAntisymmetric x.number y.number (then_equal (version_order (carried_parts x) (carried_parts y)) (nat_cmp x.number y.number) e))

-- of those that are equal in the order one stays
dedup_from-cases : (f : Carried → Bool) (k x : Carried) (xs : List Carried) (b : Bool) → is_eq (carried_order x k) ≡ b
    → ((x y : Carried) → is_eq (carried_order x y) ≡ true → f x ≡ f y)
    → ((k : Carried) → list_any f (dedup_from (λ x y. is_eq (carried_order x y)) k xs) ≡ (f k || list_any f xs))
    → list_any f (cond b (dedup_from (λ x y. is_eq (carried_order x y)) k xs) (k ∷ dedup_from (λ x y. is_eq (carried_order x y)) x xs)) ≡ (f k || (f x || list_any f xs))
dedup_from-cases f k x xs true e alike rest = rest k ∙ or-same (f k) (f x) (list_any f xs) (sym (alike x k e))
dedup_from-cases f k x xs false e alike rest = ap (λ b. f k || b) (rest x)

any-dedup_from : (f : Carried → Bool) → ((x y : Carried) → is_eq (carried_order x y) ≡ true → f x ≡ f y) → (xs : List Carried) (k : Carried)
    → list_any f (dedup_from (λ x y. is_eq (carried_order x y)) k xs) ≡ (f k || list_any f xs)
any-dedup_from f alike [] k = refl
any-dedup_from f alike (x ∷ xs) k = dedup_from-cases f k x xs (is_eq (carried_order x k)) refl alike (any-dedup_from f alike xs)

is_eq-equal : (o : Ordering) → is_eq o ≡ true → o ≡ Equal
is_eq-equal Less e = absurd (cc)
is_eq-equal Equal e = refl
is_eq-equal Greater e = absurd (cc)

pub fitting-dedup : (xs : List Carried) (bound : VersionBound) (c : ℕ) → has_fitting (dedup (λ x y. is_eq (carried_order x y)) xs) bound c ≡ has_fitting xs bound c
fitting-dedup [] bound c = refl
fitting-dedup (x ∷ xs) bound c = any-dedup_from (fits_as bound c) (λ y z e. fits-alike bound c y z (is_eq-equal (carried_order y z) e)) xs x

-- carriers in another order
pub fitting-moved : (xs ys : List Carried) → IsPermutation xs ys → (bound : VersionBound) (c : ℕ) → has_fitting ys bound c ≡ has_fitting xs bound c
fitting-moved xs ys moved bound c = sym (list_any-IsPermutation (fits_as bound c) xs ys moved)

-- ---- those in a range

range-cases : (g : Carried → Bool) (r : Carried → Bool) (x : Carried) (xs : List Carried) (b : Bool) → list_any g (filter r xs) ≡ list_any (λ y. r y && g y) xs
    → list_any g (cond b (x ∷ filter r xs) (filter r xs)) ≡ ((b && g x) || list_any (λ y. r y && g y) xs)
range-cases g r x xs true e = ap (λ b. g x || b) e
range-cases g r x xs false e = e

pub any-range : (g r : Carried → Bool) (xs : List Carried) → list_any g (filter r xs) ≡ list_any (λ y. r y && g y) xs
any-range g r [] = refl
any-range g r (x ∷ xs) = range-cases g r x xs (r x) (any-range g r xs)

-- the versions of those within a bound
pub has-within : (bound : VersionBound) (xs : List Carried) (c : ℕ) → has (map carried_number (filter (fits bound) xs)) c ≡ has_fitting xs bound c
has-within bound xs c =
    list_any-map (λ n. nat_eq n c) carried_number (filter (fits bound) xs) ∙ any-range (λ y. nat_eq y.number c) (fits bound) xs

-- ---- what is found by a name in order

abbrev pub name_order : Name → Name → Ordering
name_order a b = slice_cmp nat_cmp a.bytes.now b.bytes.now

pub lookup-same : {X : Type 0} (q : Name) (es : List (Name × X)) → lookup (λ k. is_eq (name_order q k)) es ≡ lookup (has_same q) es
lookup-same q [] = refl
lookup-same q (e ∷ es) =
    ap (λ b. cond b (Some e.1) (lookup (λ k. is_eq (name_order q k)) es)) (is_eq-same q.bytes.now e.0.bytes.now)
    ∙ ap (cond (has_same q e.0) (Some e.1)) (lookup-same q es)

-- what a name has after one got something
pub updated-same : {X : Type 0} (k q : Name) (v : X) (es fs : List (Name × X))
    → lookup (λ x. is_eq (name_order q x)) fs ≡ cond (is_eq (name_order k q)) (Some v) (lookup (λ x. is_eq (name_order q x)) es)
    → lookup (has_same q) fs ≡ cond (has_same k q) (Some v) (lookup (has_same q) es)
updated-same k q v es fs now =
    sym (lookup-same q fs)
    ∙ now
    ∙ ap (λ b. cond b (Some v) (lookup (λ x. is_eq (name_order q x)) es)) (is_eq-same k.bytes.now q.bytes.now)
    ∙ ap (cond (has_same k q) (Some v)) (lookup-same q es)

-- the parts of a version as they were read are those of its text
abbrev made : List ℕ → List ℕ → List ℕ → Parts
made epoch upstream revision = record { epoch = epoch; upstream = upstream; revision = revision }

pub parts-read : (v : Version) → parts_of v ≡ version_parts v
parts-read v =
    ap (λ e. made e v.upstream.now v.revision.now) v.epoch_is
    ∙ ap (λ u. made (epoch_of v.text.now) u v.revision.now) v.upstream_is
    ∙ ap (λ r. made (epoch_of v.text.now) (upstream_of v.text.now) r) v.revision_is

-- ---- the crowds of names

module _ (carriers : List Carrier) (named : NamedNumbers) where
  some-same : (o : Option Crowd) (crowd other : Crowd) → o ≡ Some crowd → o ≡ Some other → crowd ≡ other
  some-same o crowd other e f = cc

  -- a name has the crowd that was put there
  pub crowd-put : (old new : Crowds) (name : Name) (crowd : Crowd)
      → ((other : Name) → lookup (has_same other) new.by_name.entries ≡ cond (has_same name other) (Some crowd) (lookup (has_same other) old.by_name.entries))
      → IsCrowdOf carriers (numbers_at named name.bytes.now) crowd → (other : Name) → has_same name other ≡ true → HasCrowd carriers named new other
  crowd-put old new name crowd put is other same =
      let there : lookup (has_same other) new.by_name.entries ≡ Some crowd = put other ∙ ap (λ b. cond b (Some crowd) (lookup (has_same other) old.by_name.entries)) same in
      let bytes = same-bytes name.bytes.now other.bytes.now same in
      record {
        finds = λ bound c.
            ap (λ o. kept_has o bound c) there ∙ is.finds bound c ∙ ap (λ bs. list_any (finds_as carriers bound c) (numbers_at named bs)) bytes;
        real = λ found e.
            subst (λ (k : Crowd). IsRealCrowd carriers (numbers_at named other.bytes.now) k) (some-same (lookup (has_same other) new.by_name.entries) crowd found there e)
            (subst (λ (bs : List ℕ). IsRealCrowd carriers (numbers_at named bs) crowd) bytes is.real);
      }

  -- and other names have what they had
  crowd-stays : (old new : Crowds) (name : Name) (crowd : Crowd)
      → ((other : Name) → lookup (has_same other) new.by_name.entries ≡ cond (has_same name other) (Some crowd) (lookup (has_same other) old.by_name.entries))
      → (other : Name) → has_same name other ≡ false → lookup (has_same other) new.by_name.entries ≡ lookup (has_same other) old.by_name.entries
  crowd-stays old new name crowd put other same = put other ∙ ap (λ b. cond b (Some crowd) (lookup (has_same other) old.by_name.entries)) same

  stay-cases : (old new : Crowds) (name : Name) (crowd : Crowd)
      → ((other : Name) → lookup (has_same other) new.by_name.entries ≡ cond (has_same name other) (Some crowd) (lookup (has_same other) old.by_name.entries))
      → IsCrowdOf carriers (numbers_at named name.bytes.now) crowd → (other : Name) (b : Bool) → has_same name other ≡ b
      → HasCrowd carriers named old other → HasCrowd carriers named new other
  stay-cases old new name crowd put is other true same has = crowd-put old new name crowd put is other same
  stay-cases old new name crowd put is other false same has =
      let stays = crowd-stays old new name crowd put other same in
      record {
        finds = λ bound c. ap (λ o. kept_has o bound c) stays ∙ has.finds bound c;
        real = λ found e. has.real found (sym stays ∙ e);
      }

  pub crowd-stay : (old new : Crowds) (name : Name) (crowd : Crowd)
      → ((other : Name) → lookup (has_same other) new.by_name.entries ≡ cond (has_same name other) (Some crowd) (lookup (has_same other) old.by_name.entries))
      → IsCrowdOf carriers (numbers_at named name.bytes.now) crowd → (other : Name) → HasCrowd carriers named old other → HasCrowd carriers named new other
  crowd-stay old new name crowd put is other has = stay-cases old new name crowd put is other (has_same name other) refl has

  right-cases : (old new : Crowds) (name : Name) (crowd : Crowd)
      → ((other : Name) → lookup (has_same other) new.by_name.entries ≡ cond (has_same name other) (Some crowd) (lookup (has_same other) old.by_name.entries))
      → IsCrowdOf carriers (numbers_at named name.bytes.now) crowd → (other : Name) (b : Bool) → has_same name other ≡ b
      → (lookup (has_same other) old.by_name.entries ≡ None) ⊎ HasCrowd carriers named old other
      → (lookup (has_same other) new.by_name.entries ≡ None) ⊎ HasCrowd carriers named new other
  right-cases old new name crowd put is other true same right = inr (crowd-put old new name crowd put is other same)
  right-cases old new name crowd put is other false same (inl none) = inl (crowd-stays old new name crowd put other same ∙ none)
  right-cases old new name crowd put is other false same (inr has) = inr (crowd-stay old new name crowd put is other has)

  pub crowds-right : (old new : Crowds) (name : Name) (crowd : Crowd)
      → ((other : Name) → lookup (has_same other) new.by_name.entries ≡ cond (has_same name other) (Some crowd) (lookup (has_same other) old.by_name.entries))
      → IsCrowdOf carriers (numbers_at named name.bytes.now) crowd → AreRight carriers named old → AreRight carriers named new
  crowds-right old new name crowd put is right = λ other. right-cases old new name crowd put is other (has_same name other) refl (right other)

  there-cases : (crowds : Crowds) (name : Name) (found : Option Crowd) → is_some found ≡ true → found ≡ lookup (has_same name) crowds.by_name.entries
      → (lookup (has_same name) crowds.by_name.entries ≡ None) ⊎ HasCrowd carriers named crowds name → HasCrowd carriers named crowds name
  there-cases crowds name found some is (inl none) = absurd (let both : false ≡ true = ap is_some (sym (is ∙ none)) ∙ some in cc)
  there-cases crowds name found some is (inr has) = has

  -- names with the same bytes have the same crowd
  crowd-same : (crowds : Crowds) (name other : Name) → name.bytes.now ≡ other.bytes.now → HasCrowd carriers named crowds name → HasCrowd carriers named crowds other
  crowd-same crowds name other bytes has = record {
    finds = λ bound c.
        ap (λ b. crowds_have crowds b bound c) (sym bytes) ∙ has.finds bound c ∙ ap (λ b. list_any (finds_as carriers bound c) (numbers_at named b)) bytes;
    real = λ found e.
        subst (λ (bs : List ℕ). IsRealCrowd carriers (numbers_at named bs) found) bytes
        (has.real found (ap (λ bs. lookup (λ (k : Name). is_same bs k.bytes.now) crowds.by_name.entries) bytes ∙ e));
  }

  -- a crowd that is there already
  pub crowd-there : (crowds : Crowds) (name other : Name) (found : Option Crowd) → is_some found ≡ true → found ≡ lookup (has_same name) crowds.by_name.entries
      → AreRight carriers named crowds → has_same name other ≡ true → HasCrowd carriers named crowds other
  crowd-there crowds name other found some is right same =
      crowd-same crowds name other (same-bytes name.bytes.now other.bytes.now same) (there-cases crowds name found some is (right name))

-- what is crowded has numbers
pub some-crowded : (numbers : List ℕ) → is_crowd numbers ≡ true → nat_lt 0 (length numbers) ≡ true
some-crowded numbers many = let more : 16 < length numbers = ltb-true 16 (length numbers) many in lt-ltb 0 (length numbers) (omega arith)

-- one of the rows, if there is any
pub some-row : (rows : List NumberRow) (place : ℕ) → place < length rows → NumberRow
some-row [] place within = absurd (omega arith)
some-row (row ∷ rows) place within = row
