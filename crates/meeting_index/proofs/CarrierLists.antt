-- The carriers that meet an item are those of the versions that meet it.
use Rattle.std.proofs.Common.{◌≡◌, ℕ, zero, suc, ◌+◌, ◌-◌, ◌≤◌, add-zero, zero-add, arith, length, List, [], ◌∷◌, ◌++◌, Bool, true, false, cond, ◌&&◌, ◌||◌, if◌then◌else◌, Option, Some, None, refl, sym, ap, ◌∙◌, map, nat_eq}
use Rattle.std.specs.List.{filter, flat_map, list_any, slice_get}
use Rattle.std.specs.Option.{option_map}
use Rattle.std.proofs.Math.Nat.{sub-zero}
use Rattle.std.proofs.lemmas.List.Folds.{list_any-append}
use Rattle.std.proofs.lemmas.Option.{slice_get-get_or}
use Rattle.std.proofs.Math.Bool.{and-false}
use Rattle.lists.proofs.Sets.{rising_same}
use Rattle.lists.specs.Sets.{has, is_rising}
use Rattle.dep_fields.specs.Relationships.{Relationship, VersionBound}
use Rattle.ascii.specs.Texts.{is_same}
use Rattle.universe_model.specs.Lists.{map_from, numbers_of}
use Rattle.universe_model.specs.Meeting.{is_plain, is_within, is_provided_within, is_provided_by, meets_by_name, meets_by_provides, meets, meets_any}
use Rattle.universe_model.specs.Versions.{Release, Version, concat, is_release_with}
use Rattle.meeting_index.specs.Carriers.{Carrier, own, provided, has_plain_arch, provided_in, provides_of, provided_by, all_provided, carriers, is_named, version_in, carries, carried, met_under}
use Rattle.meeting_index.specs.Crowds.{finds_as, meets_under}
use Rattle.meeting_index.specs.Numbers.{numbers_from}
use Rattle.meeting_index.specs.Provided.{carrier_of, listed_for_versions}
use Rattle.meeting_index.specs.declared.found.Carriers.{Carriers}
use Rattle.universe_parts.specs.Listed.{version_listed}
use Rattle.std.proofs.lemmas.List.{length-map}
use Rattle.meeting_index.proofs.Numbers.{has-numbers_from, has-numbers_from-or, numbers_from-none, numbers_from-rising, numbers_from-append, found_by_numbers}

any-cases : (g : ℕ → Bool) (test : Carrier → Bool) (x : Carrier) (xs : List Carrier) (b : Bool)
    → list_any g (map version_in (filter test xs)) ≡ list_any (λ y. test y && g y.version) xs
    → list_any g (map version_in (cond b (x ∷ filter test xs) (filter test xs))) ≡ ((b && g x.version) || list_any (λ y. test y && g y.version) xs)
any-cases g test x xs true rest = ap (λ r. g x.version || r) rest
any-cases g test x xs false rest = rest

-- whether the number of a carrier that passes passes another test
pub any-filter : (g : ℕ → Bool) (test : Carrier → Bool) (xs : List Carrier) → list_any g (map version_in (filter test xs)) ≡ list_any (λ x. test x && g x.version) xs
any-filter g test [] = refl
any-filter g test (x ∷ xs) = any-cases g test x xs (test x) (any-filter g test xs)

-- whether a number is that of a carrier that passes
has-filter : (test : Carrier → Bool) (xs : List Carrier) (c : ℕ) → has (map version_in (filter test xs)) c ≡ list_any (λ x. test x && nat_eq x.version c) xs
has-filter test xs c = any-filter (λ n. nat_eq n c) test xs

both-and : (a b n : Bool) → ((a && n) || (b && n)) ≡ ((a || b) && n)
both-and true b true = refl
both-and true true false = refl
both-and true false false = refl
both-and false b n = refl

-- whether a carrier meets an item, and is that of a version
abbrev pub meets_as : Relationship → ℕ → Carrier → Bool
meets_as item c carrier = carries item carrier && nat_eq carrier.version c

plain-cases : (item i : Relationship) (c n : ℕ) (native : List ℕ) (rest : List Relationship) (b : Bool)
    → list_any (meets_as item c) (provided_in native n rest) ≡ (list_any (is_provided_by native item) rest && nat_eq n c)
    → list_any (meets_as item c) (map (provided n) (cond b (i ∷ filter (has_plain_arch native) rest) (filter (has_plain_arch native) rest)))
    ≡ (((is_same i.name item.name && (b && is_provided_within item.rel i.rel)) || list_any (is_provided_by native item) rest) && nat_eq n c)
plain-cases item i c n native rest true e =
    ap (λ b. ((is_same i.name item.name && is_provided_within item.rel i.rel) && nat_eq n c) || b) e
    ∙ both-and (is_same i.name item.name && is_provided_within item.rel i.rel) (list_any (is_provided_by native item) rest) (nat_eq n c)
plain-cases item i c n native rest false e =
    e ∙ ap (λ b. (b || list_any (is_provided_by native item) rest) && nat_eq n c) (sym (and-false (is_same i.name item.name)))

in_group : (native : List ℕ) (item : Relationship) (c n : ℕ) (group : List Relationship)
    → list_any (meets_as item c) (provided_in native n group) ≡ (list_any (is_provided_by native item) group && nat_eq n c)
in_group native item c n [] = refl
in_group native item c n (i ∷ rest) = plain-cases item i c n native rest (is_plain native i.arch) (in_group native item c n rest)

in_groups : (native : List ℕ) (item : Relationship) (c n : ℕ) (groups : List (List Relationship))
    → list_any (meets_as item c) (flat_map (provided_in native n) groups) ≡ (list_any (λ group. list_any (is_provided_by native item) group) groups && nat_eq n c)
in_groups native item c n [] = refl
in_groups native item c n (group ∷ groups) =
    list_any-append (meets_as item c) (provided_in native n group) (flat_map (provided_in native n) groups)
    ∙ ap (λ b. b || list_any (meets_as item c) (flat_map (provided_in native n) groups)) (in_group native item c n group)
    ∙ ap (λ b. (list_any (is_provided_by native item) group && nat_eq n c) || b) (in_groups native item c n groups)
    ∙ both-and (list_any (is_provided_by native item) group) (list_any (λ g. list_any (is_provided_by native item) g) groups) (nat_eq n c)

-- what a version carries meets an item where the version does
release-cases : (native : List ℕ) (item : Relationship) (c n : ℕ) (name : List ℕ) (release : Option Release)
    → (((is_same name item.name && is_release_with (λ r. is_within item.rel r.parts) release) && nat_eq n c)
    || list_any (meets_as item c) (flat_map (provided_in native n) (provides_of release)))
    ≡ (is_release_with (λ r. meets_by_name item name r || meets_by_provides native item r) release && nat_eq n c)
release-cases native item c n name None = ap (λ b. (b && nat_eq n c) || false) (and-false (is_same name item.name))
release-cases native item c n name (Some r) =
    ap (λ b. (meets_by_name item name r && nat_eq n c) || b) (in_groups native item c n r.provides)
    ∙ both-and (meets_by_name item name r) (meets_by_provides native item r) (nat_eq n c)

version-carries : (native : List ℕ) (item : Relationship) (c n : ℕ) (v : Version) → is_plain native item.arch ≡ true
    → (meets_as item c (own n v) || list_any (meets_as item c) (provided_by native n v)) ≡ (meets native item v && nat_eq n c)
version-carries native item c n v plain =
    release-cases native item c n v.name v.release
    ∙ ap (λ b. (b && is_release_with (λ r. meets_by_name item v.name r || meets_by_provides native item r) v.release) && nat_eq n c) (sym plain)

swap-or : (a b c d : Bool) → ((a || b) || (c || d)) ≡ ((a || c) || (b || d))
swap-or true b c d = refl
swap-or false true true d = refl
swap-or false true false d = refl
swap-or false false c d = refl

carried-from : (native : List ℕ) (item : Relationship) (c n : ℕ) (vs : List Version) → is_plain native item.arch ≡ true
    → (list_any (meets_as item c) (map_from own n vs) || list_any (meets_as item c) (concat (map_from (provided_by native) n vs)))
    ≡ has (numbers_from n (meets native item) vs) c
carried-from native item c n [] plain = refl
carried-from native item c n (v ∷ vs) plain =
    let test = meets_as item c in
    let owns = list_any (meets_as item c) (map_from own (n + 1) vs) in
    let provides = list_any (meets_as item c) (concat (map_from (provided_by native) (n + 1) vs)) in
    ap (λ b. (meets_as item c (own n v) || owns) || b) (list_any-append (meets_as item c) (provided_by native n v) (concat (map_from (provided_by native) (n + 1) vs)))
    ∙ swap-or (meets_as item c (own n v)) owns (list_any (meets_as item c) (provided_by native n v)) provides
    ∙ ap (λ b. b || (owns || provides)) (version-carries native item c n v plain)
    ∙ ap (λ b. (meets native item v && nat_eq n c) || b) (carried-from native item c (n + 1) vs plain)
    ∙ sym (has-numbers_from n (meets native item) v vs c)

-- the carriers that meet an item
pub has-plain : (native : List ℕ) (vs : List Version) (item : Relationship) (c : ℕ) → is_plain native item.arch ≡ true
    → has (carried native vs item) c ≡ list_any (meets_as item c) (carriers native vs)
has-plain native vs item c plain =
    ap (λ b. has (if b then map version_in (filter (carries item) (carriers native vs)) else []) c) plain ∙ has-filter (carries item) (carriers native vs) c

-- none meets an item with another architecture
pub has-none : (native : List ℕ) (vs : List Version) (item : Relationship) (c : ℕ) → is_plain native item.arch ≡ false → has (carried native vs item) c ≡ false
has-none native vs item c other = ap (λ b. has (if b then map version_in (filter (carries item) (carriers native vs)) else []) c) other

carried-cases : (native : List ℕ) (vs : List Version) (item : Relationship) (c : ℕ) (b : Bool) → is_plain native item.arch ≡ b
    → has (if b then map version_in (filter (carries item) (carriers native vs)) else []) c ≡ has (numbers_of (meets native item) vs) c
carried-cases native vs item c true plain =
    has-filter (carries item) (carriers native vs) c
    ∙ list_any-append (meets_as item c) (map_from own 0 vs) (all_provided native vs)
    ∙ carried-from native item c 0 vs plain
carried-cases native vs item c false other =
    ap (λ numbers. has numbers c)
    (sym (numbers_from-none 0 (meets native item) vs (λ v. ap (λ b. b && is_release_with (λ r. meets_by_name item v.name r || meets_by_provides native item r) v.release) other)))

-- the numbers that are found for an item are those of the versions that meet it
pub has-carried : (native : List ℕ) (vs : List Version) (item : Relationship) (c : ℕ) → has (carried native vs item) c ≡ has (numbers_of (meets native item) vs) c
has-carried native vs item c = carried-cases native vs item c (is_plain native item.arch) refl

-- and so for a group
pub has-carried-any : (native : List ℕ) (vs : List Version) (group : List Relationship) (c : ℕ)
    → has (flat_map (carried native vs) group) c ≡ has (numbers_of (meets_any native group) vs) c
has-carried-any native vs [] c = ap (λ numbers. has numbers c) (sym (numbers_from-none 0 (meets_any native []) vs (λ v. refl)))
has-carried-any native vs (item ∷ items) c =
    list_any-append (λ x. nat_eq x c) (carried native vs item) (flat_map (carried native vs) items)
    ∙ ap (λ b. b || has (flat_map (carried native vs) items) c) (has-carried native vs item c)
    ∙ ap (λ b. has (numbers_of (meets native item) vs) c || b) (has-carried-any native vs items c)
    ∙ has-numbers_from-or 0 (meets native item) (meets_any native items) vs c

passing-cases : (bound : Option VersionBound) (name : List ℕ) (x : Carrier) (xs : List Carrier) (b p : Bool)
    → flat_map (λ y. met_under bound (Some y)) (filter (is_named name) xs) ≡ map version_in (filter (λ y. is_named name y && y.passes bound) xs)
    → x.passes bound ≡ p
    → flat_map (λ y. met_under bound (Some y)) (cond b (x ∷ filter (is_named name) xs) (filter (is_named name) xs))
    ≡ map version_in (cond (b && p) (x ∷ filter (λ y. is_named name y && y.passes bound) xs) (filter (λ y. is_named name y && y.passes bound) xs))
passing-cases bound name x xs true true e passes = rw passes (ap (λ zs. x.version ∷ zs) e)
passing-cases bound name x xs true false e passes = rw passes e
passing-cases bound name x xs false p e passes = e

-- the versions of the carriers of a name that pass a bound
pub met_under-filter : (bound : Option VersionBound) (name : List ℕ) (xs : List Carrier)
    → flat_map (λ x. met_under bound (Some x)) (filter (is_named name) xs) ≡ map version_in (filter (λ x. is_named name x && x.passes bound) xs)
met_under-filter bound name [] = refl
met_under-filter bound name (x ∷ xs) = passing-cases bound name x xs (is_named name x) (x.passes bound) (met_under-filter bound name xs) refl

-- the carrier with the number of a version, and one with a later number
pub slice_get-own : (n : ℕ) (vs : List Version) (rest : List Carrier) (k : ℕ) (v : Version) → slice_get vs k ≡ Some v
    → slice_get (map_from own n vs ++ rest) k ≡ Some (own (n + k) v)
slice_get-own n [] rest k v e = absurd (cc)
slice_get-own n (w ∷ ws) rest zero v e = rw (add-zero n) (ap (option_map (own n)) e)
slice_get-own n (w ∷ ws) rest (suc k) v e =
    slice_get-own (n + 1) ws rest k v e ∙ ap (λ m. Some (own m v)) (let next : n + 1 + k ≡ n + suc k = omega arith in next)

pub slice_get-past : (n : ℕ) (vs : List Version) (rest : List Carrier) (k : ℕ) → length vs ≤ k
    → slice_get (map_from own n vs ++ rest) k ≡ slice_get rest (k - length vs)
slice_get-past n [] rest k le = rw (sub-zero k) refl
slice_get-past n (v ∷ vs) rest zero le = absurd (omega arith)
slice_get-past n (v ∷ vs) rest (suc k) le =
    slice_get-past (n + 1) vs rest k (omega arith) ∙ ap (slice_get rest) (let less : k - length vs ≡ suc k - length (v ∷ vs) = omega arith in less)

-- whether a number is found by one of several
pub has-found : (find : ℕ → List ℕ) (numbers : List ℕ) (c : ℕ) → has (flat_map find numbers) c ≡ list_any (λ m. has (find m) c) numbers
has-found find [] c = refl
has-found find (m ∷ ms) c =
    list_any-append (λ x. nat_eq x c) (find m) (flat_map find ms) ∙ ap (λ b. has (find m) c || b) (has-found find ms c)

-- what the carriers of an item's name find is what is carried
pub found-carried : (native : List ℕ) (vs : List Version) (item : Relationship) (listed : List Carrier) (numbers : List ℕ) → is_plain native item.arch ≡ true
    → listed ≡ carriers native vs → numbers ≡ numbers_of (is_named item.name) (carriers native vs)
    → flat_map (λ number. met_under item.rel (slice_get listed number)) numbers ≡ carried native vs item
found-carried native vs item listed numbers plain all named =
    ap (λ cs. flat_map (λ number. met_under item.rel (slice_get cs number)) numbers) all
    ∙ ap (flat_map (λ number. met_under item.rel (slice_get (carriers native vs) number))) named
    ∙ found_by_numbers 0 (is_named item.name) (λ number. met_under item.rel (slice_get (carriers native vs) number)) (λ x. met_under item.rel (Some x)) (carriers native vs)
    (λ i d lt. ap (met_under item.rel) (ap (slice_get (carriers native vs)) (zero-add i) ∙ slice_get-get_or (carriers native vs) i d lt))
    ∙ met_under-filter item.rel item.name (carriers native vs)
    ∙ ap (λ b. if b then map version_in (filter (carries item) (carriers native vs)) else []) (sym plain)

-- rising numbers with those that are carried are those of the versions that meet an item
pub rising-carried : (native : List ℕ) (vs : List Version) (item : Relationship) (numbers : List ℕ) → is_rising numbers ≡ true
    → ((c : ℕ) → has numbers c ≡ has (carried native vs item) c) → numbers ≡ numbers_of (meets native item) vs
rising-carried native vs item numbers rises same =
    rising_same numbers (numbers_of (meets native item) vs) rises (numbers_from-rising 0 (meets native item) vs) (λ c. same c ∙ has-carried native vs item c)

-- and so for a group
pub rising-carried-any : (native : List ℕ) (vs : List Version) (group : List Relationship) (numbers : List ℕ) → is_rising numbers ≡ true
    → ((c : ℕ) → has numbers c ≡ has (flat_map (carried native vs) group) c) → numbers ≡ numbers_of (meets_any native group) vs
rising-carried-any native vs group numbers rises same =
    rising_same numbers (numbers_of (meets_any native group) vs) rises (numbers_from-rising 0 (meets_any native group) vs) (λ c. same c ∙ has-carried-any native vs group c)

pub length-own : (n : ℕ) (vs : List Version) → length (map_from own n vs) ≡ length vs
length-own n [] = refl
length-own n (v ∷ vs) = ap suc (length-own (n + 1) vs)

-- the numbers by a name among the versions, and then among what they provide
pub named-carriers : (name : List ℕ) (vs : List Version) (provided : List Carrier) (first : ℕ) → first ≡ length vs
    → numbers_of (is_named name) (map_from own 0 vs) ++ numbers_from first (is_named name) provided ≡ numbers_of (is_named name) (map_from own 0 vs ++ provided)
named-carriers name vs provided first is =
    ap (λ n. numbers_of (is_named name) (map_from own 0 vs) ++ numbers_from n (is_named name) provided) (is ∙ sym (length-own 0 vs) ∙ sym (zero-add (length (map_from own 0 vs))))
    ∙ sym (numbers_from-append 0 (is_named name) (map_from own 0 vs) provided)

-- what the carriers of a name find is what those of all carriers do that have the name
pub crowd-carriers : (cs listed : List Carrier) (name numbers : List ℕ) (bound : Option VersionBound) (c : ℕ)
    → listed ≡ cs → ((test : ℕ → Bool) → list_any test numbers ≡ list_any test (numbers_of (is_named name) cs))
    → list_any (finds_as listed bound c) numbers ≡ list_any (meets_under name bound c) cs
crowd-carriers cs listed name numbers bound c all named =
    let find = λ (number : ℕ). met_under bound (slice_get cs number) in
    ap (λ (ls : List Carrier). list_any (finds_as ls bound c) numbers) all
    ∙ named (finds_as cs bound c)
    ∙ sym (has-found find (numbers_of (is_named name) cs) c)
    ∙ ap (λ ns. has ns c)
    (found_by_numbers 0 (is_named name) find (λ x. met_under bound (Some x)) cs
    (λ i d lt. ap (met_under bound) (ap (slice_get cs) (zero-add i) ∙ slice_get-get_or cs i d lt))
    ∙ met_under-filter bound name cs)
    ∙ has-filter (λ x. is_named name x && x.passes bound) cs c

-- the carriers behind the versions
pub carrier-behind : (listed : Carriers) (number : ℕ) → length listed.versions.now ≤ number
    → slice_get (listed_for_versions listed) number ≡ slice_get (map carrier_of listed.provided.now) (number - length listed.versions.now)
carrier-behind listed number le =
    let versions = listed.versions.now in
    let long : length (map version_listed versions) ≡ length versions = length-map versions version_listed in
    let below : length (map version_listed versions) ≤ number = rw long le in
    slice_get-past 0 (map version_listed versions) (map carrier_of listed.provided.now) number below
    ∙ ap (λ n. slice_get (map carrier_of listed.provided.now) (number - n)) long
