-- The candidates and the installed versions are one version of each package.
use Rattle.std.proofs.Common.{◌≡◌, ℕ, zero, suc, ◌+◌, ◌<◌, Bool, true, false, cond, ◌&&◌, List, [], ◌∷◌, ◌++◌, length, get_or, map, refl, sym, ap, ◌∙◌, subst, arith, Some, None, Option, find, unwrap_or, ltb, ltb-true, inl, inr}
use Rattle.std.specs.List.{list_any, position_or_len}
use Rattle.std.proofs.lemmas.Bool.{and_parts, cases_lt}
use Rattle.std.proofs.lemmas.List.{length-map, get_or-map, get_or_append_left, get_or_at}
use Rattle.lists.proofs.Below.{length-below}
use Rattle.lists.specs.Below.{below}
use Rattle.deb_version.specs.Versions.{parts}
use Rattle.problem.specs.Places.{IsOneOfEach}
use Rattle.universe_model.specs.Reading.{ReadStanza, Stanzas}
use Rattle.universe_model.specs.Versions.{Version, names, versions, version_text, version_of, is_of, absent_of, gives_version, is_version_of, version_given, installed_of, is_greatest, candidate_of}
use Rattle.universe_model.specs.Universes.{known, owner_of, universe_of, installed_in, problem_of}
use Rattle.laws_universe.proofs.Blocks.{length-map_from, get_or-map_from}
use Rattle.laws_universe.proofs.Packages.{IsOwn, own-first, has-version, has-given, is_of_parts}
use Rattle.laws_universe.proofs.Places.{place-within}

-- ---- one version of a package

pub absent-own : (vs : List Version) (q : ℕ) → list_any (is_of q) vs ≡ true → IsOwn vs q (absent_of vs q)
absent-own vs q h = own-first (is_of q) q vs (λ v e. e) (place-within (is_of q) vs h)

candidate-own : (vs : List Version) (q : ℕ) → list_any (is_of q) vs ≡ true → IsOwn vs q (candidate_of vs q)
candidate-own vs q h = by (ltb (position_or_len greatest vs) (length vs)) refl
  where
    greatest : Version → Bool
    greatest v = is_of q v && is_greatest vs v

    by : (b : Bool) → ltb (position_or_len greatest vs) (length vs) ≡ b → IsOwn vs q (unwrap_or (cond b (Some (position_or_len greatest vs)) None) (absent_of vs q))
    by true e = own-first greatest q vs (λ v e. (and_parts (is_of q v) (is_greatest vs v) e).0) (ltb-true (position_or_len greatest vs) (length vs) e)
    by false e = absent-own vs q h

given-own : (stanzas : Stanzas) (q : ℕ) → q < length (names stanzas) → (found : Option ReadStanza) → find (gives_version (get_or (names stanzas) q [])) stanzas.status ≡ found
    → IsOwn (versions stanzas) q (version_given (versions stanzas) q found)
given-own stanzas q l None e = absent-own (versions stanzas) q (has-version stanzas q l)
given-own stanzas q l (Some read) e =
    own-first (is_of_parts q (parts (version_text read))) q (versions stanzas) (λ v e. (and_parts (is_of q v) (is_version_of (parts (version_text read)) v) e).0)
    (place-within (is_of_parts q (parts (version_text read))) (versions stanzas) (has-given stanzas q read l e))

-- ---- one of each

get_or-below : (n k d : ℕ) → k < n → get_or (below n) k d ≡ k
get_or-below zero k d l = absurd (omega arith)
get_or-below (suc n) k d l =
    elim (cases_lt k n) as (λ _. get_or (below n ++ n ∷ []) k d ≡ k) [
      | inl less ↦ get_or_append_left (below n) (n ∷ []) d k (omega (arith, length-below n)) ∙ get_or-below n k d less
      | inr more ↦ get_or_at (below n) n [] d k (omega (arith, length-below n)) ∙ (let e : n ≡ k = omega arith in e)
    ]

nothing : Version
nothing = version_of 0 [] None

-- the owner of a version is its package
owner-at : (vs : List Version) (v : ℕ) → v < length vs → (d : Version) → get_or (map owner_of (map known vs)) v 0 ≡ (get_or vs v d).package_number
owner-at vs v l d =
    get_or-map owner_of (map known vs) v (known d) 0 (omega (arith, length-map vs known))
    ∙ ap owner_of (get_or-map known vs v d (known d) l)

one_of_each : (stanzas : Stanzas) (native xs : List ℕ) → length xs ≡ length (names stanzas) → ((q : ℕ) → q < length (names stanzas) → IsOwn (versions stanzas) q (get_or xs q 0))
    → IsOneOfEach (problem_of (universe_of native stanzas)) xs
one_of_each stanzas native xs size own =
    let vs : List Version = versions stanzas in
    let packages : length (installed_in stanzas (names stanzas) vs) ≡ length (names stanzas) = length-map_from (installed_of vs stanzas.status) 0 (names stanzas) in
    let count : length (map owner_of (map known vs)) ≡ length vs = length-map (map known vs) owner_of ∙ length-map vs known in
    record {
      size = size ∙ sym packages;
      range = λ q l. subst (λ n. get_or xs q 0 < n) (sym count) (own q (subst (λ n. q < n) packages l)).within;
      each = λ q l.
          let at = own q (subst (λ n. q < n) packages l) in
          owner-at vs (get_or xs q 0) at.within nothing ∙ at.own nothing;
    }

pub candidates-one_of_each : (stanzas : Stanzas) (native : List ℕ) → IsOneOfEach (problem_of (universe_of native stanzas)) (universe_of native stanzas).candidates
candidates-one_of_each stanzas native =
    let vs : List Version = versions stanzas in
    let count : ℕ = length (names stanzas) in
    one_of_each stanzas native (map (candidate_of vs) (below count)) (length-map (below count) (candidate_of vs) ∙ length-below count)
    (λ q l.
    let at : get_or (map (candidate_of vs) (below count)) q 0 ≡ candidate_of vs q =
    get_or-map (candidate_of vs) (below count) q 0 0 (omega (arith, length-below count)) ∙ ap (candidate_of vs) (get_or-below count q 0 l)
    in subst (IsOwn vs q) (sym at) (candidate-own vs q (has-version stanzas q l)))

pub installed-one_of_each : (stanzas : Stanzas) (native : List ℕ) → IsOneOfEach (problem_of (universe_of native stanzas)) (universe_of native stanzas).installed
installed-one_of_each stanzas native =
    let vs : List Version = versions stanzas in
    let ns : List (List ℕ) = names stanzas in
    one_of_each stanzas native (installed_in stanzas ns vs) (length-map_from (installed_of vs stanzas.status) 0 ns)
    (λ q l.
    let here : 0 + q ≡ q = omega arith in
    let at : get_or (installed_in stanzas ns vs) q 0 ≡ installed_of vs stanzas.status q (get_or ns q []) =
    get_or-map_from (installed_of vs stanzas.status) 0 ns q [] 0 l ∙ ap (λ m. installed_of vs stanzas.status m (get_or ns q [])) here
    in subst (IsOwn vs q) (sym at) (given-own stanzas q l (find (gives_version (get_or ns q [])) stanzas.status) refl))
