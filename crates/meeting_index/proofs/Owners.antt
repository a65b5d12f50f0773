-- Carriers that stand for the packages of their versions.
use Rattle.std.proofs.Common.{◌≡◌, ℕ, suc, ◌+◌, List, [], ◌∷◌, Bool, true, false, cond, ◌&&◌, ◌||◌, if◌then◌else◌, Option, Some, None, refl, sym, ap, ◌∙◌, subst, map, nat_eq, arith, add-zero, zero-add}
use Rattle.std.specs.Cmp.{both_ways}
use Rattle.std.specs.List.{filter, list_any, slice_get, enumerate_from}
use Rattle.std.specs.Option.{option_map}
use Rattle.std.proofs.lemmas.Option.{slice_get-map}
use Rattle.lists.specs.Sets.{has}
use Rattle.lists.proofs.Sets.{list_any-has, list_any-from_has}
use Rattle.lists.proofs.Tests.{list_any-map}
use Rattle.dep_fields.specs.Relationships.{Relationship, VersionBound}
use Rattle.universe_model.specs.Lists.{number_in, numbers_of}
use Rattle.universe_model.specs.Meeting.{is_plain, meets}
use Rattle.universe_model.specs.Versions.{Version, is_of}
use Rattle.meeting_index.specs.Carriers.{Carrier, carriers, carried, carries, is_named, met_under, version_in}
use Rattle.meeting_index.specs.Crowds.{meets_under}
use Rattle.meeting_index.specs.Fitting.{is_past, version_parts}
use Rattle.meeting_index.specs.Members.{IsFound}
use Rattle.meeting_index.specs.Numbers.{numbers_from}
use Rattle.meeting_index.specs.Owners.{carriers_for, for_package, owner_of, package_in, sought_as}
use Rattle.meeting_index.specs.declared.carried.Carried.{Carried}
use Rattle.meeting_index.specs.declared.found.Sought.{Sought}
use Rattle.meeting_index.specs.declared.found.Sought.TheVariants as sought
use Rattle.meeting_index.proofs.CarrierLists.{any-filter, has-carried}

-- ---- one carrier, for what is sought

passing-for : (vs : List Version) (carrier : Carrier) (b : Bool)
    → (if b then owner_of vs carrier.version ∷ [] else []) ≡ map (owner_of vs) (if b then carrier.version ∷ [] else [])
passing-for vs carrier true = refl
passing-for vs carrier false = refl

met-for : (vs : List Version) (bound : Option VersionBound) (found : Option Carrier) → met_under bound (option_map (for_package vs) found) ≡ map (owner_of vs) (met_under bound found)
met-for vs bound None = refl
met-for vs bound (Some carrier) = passing-for vs carrier (carrier.passes bound)

-- what a carrier finds
pub found-for : (s : Sought) (vs : List Version) (cs : List Carrier) (bound : Option VersionBound) (number version : ℕ)
    → version ∷ [] ≡ met_under bound (slice_get cs number) → sought_as s vs version ∷ [] ≡ met_under bound (slice_get (carriers_for s vs cs) number)
found-for sought.Versions vs cs bound number version e = e
found-for sought.Packages vs cs bound number version e =
    ap (map (owner_of vs)) e ∙ sym (met-for vs bound (slice_get cs number)) ∙ ap (met_under bound) (sym (slice_get-map (for_package vs) cs number))

pub none-for : (s : Sought) (vs : List Version) (cs : List Carrier) (bound : Option VersionBound) (number : ℕ)
    → [] ≡ met_under bound (slice_get cs number) → [] ≡ met_under bound (slice_get (carriers_for s vs cs) number)
none-for sought.Versions vs cs bound number e = e
none-for sought.Packages vs cs bound number e =
    ap (map (owner_of vs)) e ∙ sym (met-for vs bound (slice_get cs number)) ∙ ap (met_under bound) (sym (slice_get-map (for_package vs) cs number))

-- a carrier that is there, with its version
is-for_version : (found : Option Carrier) (y z : Carried) → z.version ≡ y.version → z.number ≡ y.number → IsFound found (Some y) → IsFound found (Some z)
is-for_version None y z at same is = is
is-for_version (Some carrier) y z at same is = record {
  number = is.number ∙ sym same;
  passes = λ bound. is.passes bound ∙ ap (λ v. is_past bound (version_parts v)) (sym at);
}

is-for_package : (vs : List Version) (found : Option Carrier) (y z : Carried) → z.version ≡ y.version → z.number ≡ owner_of vs y.number
    → IsFound found (Some y) → IsFound (option_map (for_package vs) found) (Some z)
is-for_package vs None y z at same is = is
is-for_package vs (Some carrier) y z at same is = record {
  number = ap (owner_of vs) is.number ∙ sym same;
  passes = λ bound. is.passes bound ∙ ap (λ v. is_past bound (version_parts v)) (sym at);
}

is-none : (vs : List Version) (found : Option Carrier) → IsFound found None → IsFound (option_map (for_package vs) found) None
is-none vs None is = is
is-none vs (Some carrier) is = is

pub is-for : (s : Sought) (vs : List Version) (cs : List Carrier) (number : ℕ) (y z : Carried) → z.version ≡ y.version → z.number ≡ sought_as s vs y.number
    → IsFound (slice_get cs number) (Some y) → IsFound (slice_get (carriers_for s vs cs) number) (Some z)
is-for sought.Versions vs cs number y z at same is = is-for_version (slice_get cs number) y z at same is
is-for sought.Packages vs cs number y z at same is =
    subst (λ (found : Option Carrier). IsFound found (Some z)) (sym (slice_get-map (for_package vs) cs number)) (is-for_package vs (slice_get cs number) y z at same is)

pub none-is-for : (s : Sought) (vs : List Version) (cs : List Carrier) (number : ℕ) → IsFound (slice_get cs number) None → IsFound (slice_get (carriers_for s vs cs) number) None
none-is-for sought.Versions vs cs number is = is
none-is-for sought.Packages vs cs number is =
    subst (λ (found : Option Carrier). IsFound found None) (sym (slice_get-map (for_package vs) cs number)) (is-none vs (slice_get cs number) is)

-- ---- all carriers

named-cases : (name : List ℕ) (vs : List Version) (x : Carrier) (xs : List Carrier) (n : ℕ) (b : Bool)
    → numbers_from (n + 1) (is_named name) (map (for_package vs) xs) ≡ numbers_from (n + 1) (is_named name) xs
    → map (number_in {A = Carrier}) (cond b ((n, for_package vs x) ∷ filter (λ (numbered : ℕ × Carrier). is_named name numbered.1) (enumerate_from (n + 1) (map (for_package vs) xs))) (filter (λ (numbered : ℕ × Carrier). is_named name numbered.1) (enumerate_from (n + 1) (map (for_package vs) xs))))
    ≡ map (number_in {A = Carrier}) (cond b ((n, x) ∷ filter (λ (numbered : ℕ × Carrier). is_named name numbered.1) (enumerate_from (n + 1) xs)) (filter (λ (numbered : ℕ × Carrier). is_named name numbered.1) (enumerate_from (n + 1) xs)))
named-cases name vs x xs n true e = ap (λ ns. n ∷ ns) e
named-cases name vs x xs n false e = e

named-from : (name : List ℕ) (vs : List Version) (xs : List Carrier) (n : ℕ) → numbers_from n (is_named name) (map (for_package vs) xs) ≡ numbers_from n (is_named name) xs
named-from name vs [] n = refl
named-from name vs (x ∷ xs) n = named-cases name vs x xs n (is_named name x) (named-from name vs xs (n + 1))

-- the same ones have a name
pub numbers-for_package : (name : List ℕ) (vs : List Version) (xs : List Carrier) → numbers_of (is_named name) (map (for_package vs) xs) ≡ numbers_of (is_named name) xs
numbers-for_package name vs xs = named-from name vs xs 0

-- the packages that the carriers of an item's name find
pub packages-carried : (native : List ℕ) (vs : List Version) (item : Relationship) (q : ℕ) → is_plain native item.arch ≡ true
    → list_any (meets_under item.name item.rel q) (map (for_package vs) (carriers native vs)) ≡ has (map (owner_of vs) (carried native vs item)) q
packages-carried native vs item q plain =
    let owned = λ (n : ℕ). nat_eq (owner_of vs n) q in
    list_any-map (meets_under item.name item.rel q) (for_package vs) (carriers native vs)
    ∙ sym (any-filter owned (carries item) (carriers native vs))
    ∙ sym (list_any-map (λ n. nat_eq n q) (owner_of vs) (map version_in (filter (carries item) (carriers native vs))))
    ∙ ap (λ b. has (map (owner_of vs) (if b then map version_in (filter (carries item) (carriers native vs)) else [])) q) (sym plain)

-- ---- the packages of the versions that meet an item

and-last : (a : Bool) → (a && true) ≡ a
and-last true = refl
and-last false = refl

and-never : (a : Bool) → (a && false) ≡ false
and-never true = refl
and-never false = refl

of-cases : (all : List Version) (q n : ℕ) (test : Version → Bool) (w : Version) (ws : List Version) (b : Bool)
    → owner_of all n ≡ w.package_number
    → list_any (λ m. nat_eq (owner_of all m) q) (numbers_from (n + 1) test ws) ≡ list_any (λ v. is_of q v && test v) ws
    → list_any (λ m. nat_eq (owner_of all m) q) (map (number_in {A = Version}) (cond b ((n, w) ∷ filter (λ (numbered : ℕ × Version). test numbered.1) (enumerate_from (n + 1) ws)) (filter (λ (numbered : ℕ × Version). test numbered.1) (enumerate_from (n + 1) ws))))
    ≡ ((is_of q w && b) || list_any (λ v. is_of q v && test v) ws)
of-cases all q n test w ws true own rest =
    ap (λ m. nat_eq m q || list_any (λ m. nat_eq (owner_of all m) q) (numbers_from (n + 1) test ws)) own
    ∙ ap (λ b. is_of q w || b) rest
    ∙ ap (λ b. b || list_any (λ v. is_of q v && test v) ws) (sym (and-last (is_of q w)))
of-cases all q n test w ws false own rest = rest ∙ ap (λ b. b || list_any (λ v. is_of q v && test v) ws) (sym (and-never (is_of q w)))

of-from : (all : List Version) (q n : ℕ) (test : Version → Bool) (ws : List Version) → ((i : ℕ) → slice_get all (n + i) ≡ slice_get ws i)
    → list_any (λ m. nat_eq (owner_of all m) q) (numbers_from n test ws) ≡ list_any (λ v. is_of q v && test v) ws
of-from all q n test [] there = refl
of-from all q n test (w ∷ ws) there =
    of-cases all q n test w ws (test w) (ap package_in (ap (slice_get all) (sym (add-zero n)) ∙ there 0))
    (of-from all q (n + 1) test ws (λ i. ap (slice_get all) (let next : n + 1 + i ≡ n + suc i = omega arith in next) ∙ there (suc i)))

any-there : (f : ℕ → Bool) (xs ys : List ℕ) → ((c : ℕ) → has xs c ≡ has ys c) → list_any f xs ≡ true → list_any f ys ≡ true
any-there f xs ys same any =
    let found = list_any-has f xs any in
    list_any-from_has f ys found.0 (sym (same found.0) ∙ found.1) found.2

any-same : (f : ℕ → Bool) (xs ys : List ℕ) → ((c : ℕ) → has xs c ≡ has ys c) → list_any f xs ≡ list_any f ys
any-same f xs ys same = both_ways (list_any f xs) (list_any f ys) (any-there f xs ys same) (any-there f ys xs (λ c. sym (same c)))

-- of no versions
pub none-owned : (vs : List Version) (xs : List ℕ) (q : ℕ) → ((n : ℕ) → has xs n ≡ false) → has (map (owner_of vs) xs) q ≡ false
none-owned vs xs q none = list_any-map (λ n. nat_eq n q) (owner_of vs) xs ∙ any-same (λ n. nat_eq (owner_of vs n) q) xs [] none

-- are those with a version that meets it
pub packages-met : (native : List ℕ) (vs : List Version) (item : Relationship) (q : ℕ)
    → has (map (owner_of vs) (carried native vs item)) q ≡ list_any (λ v. is_of q v && meets native item v) vs
packages-met native vs item q =
    list_any-map (λ n. nat_eq n q) (owner_of vs) (carried native vs item)
    ∙ any-same (λ n. nat_eq (owner_of vs n) q) (carried native vs item) (numbers_of (meets native item) vs) (has-carried native vs item)
    ∙ of-from vs q 0 (meets native item) vs (λ i. ap (slice_get vs) (zero-add i))
