-- A problem that is kept stays so with one more package.
use Rattle.std.proofs.Common.{inl, inr, ◌≡◌, ◌<◌, ◌≤◌, ◌⊎◌, ◌+◌, ◌-◌, ℕ, List, [], ◌∷◌, ◌++◌, true, false, length, get_or, replicate, refl, ap, sym, ◌∙◌, arith, nat_lt, subst, length-append, None, ◌&&◌}
use Rattle.std.proofs.lemmas.List.{length-replicate, get_or_append_left, get_or-append-add, get_or-replicate}
use Rattle.std.proofs.Math.Seq.{get_or-append_seam}
use Rattle.std.proofs.Math.Nat.{eq-or-lt_of_le}
use Rattle.std.specs.List.{list_all}
use Rattle.std.proofs.lemmas.List.Sums.{sum_by_push}
use Rattle.std.proofs.lemmas.Bool.{and_from, ltb-true, ltb-false}
use Rattle.std.proofs.lemmas.Bool.Decides.{nat_tests}
use Rattle.lists.specs.Sets.{is_rising}
use Rattle.resolver_model.specs.Problems.{Problem, Dependency, IsWellFormed, package_count, version_count, package_of, start_of, dependency, dependency_count}
use Rattle.problem.specs.Limits.{IsWithinLimits, package_refusal, dependency_refusal, target_count, most_packages, most_versions, most_dependencies, most_targets}
use Rattle.problem.specs.Builds.{with_package, with_dependency, with_starts}
use Rattle.problem.proofs.Indexes.{old_dependency, new_dependency}
use Rattle.problem.specs.Places.{IsKept, IsOneOfEach}
use Rattle.problem.proofs.Ranges.{firsts_added}

not_refused : (p : Problem) (present : ℕ) → package_refusal p present ≡ None → (package_count p + 1 ≤ most_packages) × (version_count p + present + 1 ≤ most_versions)
not_refused p present h = (grind (arith, nat_tests), grind (arith, nat_tests))

-- a place in a list with more behind it
new_owner : (p : Problem) (present k : ℕ) → k < present + 1 → get_or (p.owners ++ replicate (present + 1) (package_count p)) (version_count p + k) 0 ≡ package_count p
new_owner p present k lt = get_or-append-add p.owners (replicate (present + 1) (package_count p)) k 0 ∙ get_or-replicate (present + 1) k (package_count p) 0 lt

-- the owner of a version is an old one, or the new package
owner_cases : (p : Problem) (present v : ℕ) → v < version_count p + (present + 1)
    → ((v < version_count p) × (get_or (p.owners ++ replicate (present + 1) (package_count p)) v 0 ≡ package_of p v))
    ⊎ ((version_count p ≤ v) × (get_or (p.owners ++ replicate (present + 1) (package_count p)) v 0 ≡ package_count p))
owner_cases p present v lt =
    elim (nat_lt v (version_count p)) as (λ r. nat_lt v (version_count p) ≡ r → ((v < version_count p) × (get_or (p.owners ++ replicate (present + 1) (package_count p)) v 0 ≡ package_of p v))
    ⊎ ((version_count p ≤ v) × (get_or (p.owners ++ replicate (present + 1) (package_count p)) v 0 ≡ package_count p))) [
      | true ↦ λ e. let less : v < version_count p = ltb-true v (version_count p) e in inl (less, get_or_append_left p.owners (replicate (present + 1) (package_count p)) 0 v less)
      | false ↦ λ e.
          let le : version_count p ≤ v = ltb-false v (version_count p) e in
          let place : v ≡ version_count p + (v - version_count p) = omega arith in
          inr (le, ap (λ k. get_or (p.owners ++ replicate (present + 1) (package_count p)) k 0) place ∙ new_owner p present (v - version_count p) (omega arith))
    ] refl

new_size : (p : Problem) (present : ℕ) → length (p.owners ++ replicate (present + 1) (package_count p)) ≡ version_count p + (present + 1)
new_size p present = omega (arith, length-append p.owners (replicate (present + 1) (package_count p)), length-replicate (present + 1) (package_count p))

formed_added : (p : Problem) → IsWellFormed p → (present start : ℕ) → start ≤ present → p.dependencies ≡ [] → version_count p + present + 1 ≤ most_versions → IsWellFormed (with_package p present start)
formed_added p w present start le e max = record {
  owners = owners;
  together = together;
  starts = starts;
  sources = λ d lt. absurd (omega (arith, none));
  targets = λ d lt. absurd (omega (arith, none));
  enough = omega (arith, w.enough, new_size p present, more_starts);
  small = omega (arith, none, new_size p present, max);
}
  where
    none : length p.dependencies ≡ 0
    none = ap length e

    more_starts : length (p.starts ++ (version_count p + start) ∷ []) ≡ package_count p + 1
    more_starts = length-append p.starts ((version_count p + start) ∷ [])

    owners : (v : ℕ) → v < length (p.owners ++ replicate (present + 1) (package_count p)) → get_or (p.owners ++ replicate (present + 1) (package_count p)) v 0 < length (p.starts ++ (version_count p + start) ∷ [])
    owners v lt =
        elim (owner_cases p present v (omega (arith, new_size p present))) [
          | inl a ↦ omega (arith, more_starts, a.1, w.owners v a.0)
          | inr b ↦ omega (arith, more_starts, b.1)
        ]

    together : (v : ℕ) → v + 1 < length (p.owners ++ replicate (present + 1) (package_count p)) → get_or (p.owners ++ replicate (present + 1) (package_count p)) v 0 ≤ get_or (p.owners ++ replicate (present + 1) (package_count p)) (v + 1) 0
    together v lt =
        elim (owner_cases p present (v + 1) (omega (arith, new_size p present))) [
          | inl a ↦
              elim (owner_cases p present v (omega (arith, new_size p present))) [
                | inl c ↦ omega (arith, a.1, c.1, w.together v a.0)
                | inr d ↦ absurd (omega (arith, a.0, d.0))
              ]
          | inr b ↦
              elim (owner_cases p present v (omega (arith, new_size p present))) [
                | inl c ↦ omega (arith, b.1, c.1, w.owners v c.0)
                | inr d ↦ omega (arith, b.1, d.1)
              ]
        ]

    starts : (q : ℕ) → q < length (p.starts ++ (version_count p + start) ∷ [])
        → (get_or (p.starts ++ (version_count p + start) ∷ []) q 0 < length (p.owners ++ replicate (present + 1) (package_count p)))
        × (get_or (p.owners ++ replicate (present + 1) (package_count p)) (get_or (p.starts ++ (version_count p + start) ∷ []) q 0) 0 ≡ q)
    starts q lt =
        let upto : q ≤ package_count p = omega (arith, more_starts) in
        let P : ℕ → Type 0 = λ s. (s < length (p.owners ++ replicate (present + 1) (package_count p))) × (get_or (p.owners ++ replicate (present + 1) (package_count p)) s 0 ≡ q) in
        elim (eq-or-lt_of_le {n = q} {m = package_count p} upto) [
          | inl same ↦
              let at : get_or (p.starts ++ (version_count p + start) ∷ []) q 0 ≡ version_count p + start =
              ap (λ k. get_or (p.starts ++ (version_count p + start) ∷ []) k 0) same ∙ get_or-append_seam p.starts (version_count p + start) [] 0 in
              let own : get_or (p.owners ++ replicate (present + 1) (package_count p)) (version_count p + start) 0 ≡ q = new_owner p present start (omega arith) ∙ sym same in
              subst P (sym at) (omega (arith, new_size p present), own)
          | inr less ↦
              let at : get_or (p.starts ++ (version_count p + start) ∷ []) q 0 ≡ start_of p q = get_or_append_left p.starts ((version_count p + start) ∷ []) 0 q less in
              let old = w.starts q less in
              let own : get_or (p.owners ++ replicate (present + 1) (package_count p)) (start_of p q) 0 ≡ q = get_or_append_left p.owners (replicate (present + 1) (package_count p)) 0 (start_of p q) old.0 ∙ old.1 in
              subst P (sym at) (omega (arith, new_size p present, old.0), own)
        ]

pub package_kept : (p : Problem) (firsts : List ℕ) → IsKept p firsts → (present start : ℕ) → start ≤ present → p.dependencies ≡ [] → package_refusal p present ≡ None
    → IsKept (with_package p present start) (firsts ++ version_count p ∷ [])
package_kept p firsts h present start le e max =
    let few = not_refused p present max in
    let within : IsWithinLimits (with_package p present start) = record {
      packages = omega (arith, few.0, length-append p.starts ((version_count p + start) ∷ []));
      versions = omega (arith, few.1, length-append p.owners (replicate (present + 1) (package_count p)), length-replicate (present + 1) (package_count p));
      dependencies = h.within.dependencies;
      targets = h.within.targets;
    } in
    record {
      formed = formed_added p h.formed present start le e few.1;
      within = within;
      places = firsts_added p h.formed firsts h.places present start;
    }

-- and so does one with other starts
pub starts_kept : (p : Problem) (firsts : List ℕ) → IsKept p firsts → (starts : List ℕ) → IsOneOfEach p starts → IsKept (with_starts p starts) firsts
starts_kept p firsts h starts each =
    let formed : IsWellFormed (with_starts p starts) = record {
      owners = λ v lt. omega (arith, each.size, h.formed.owners v lt);
      together = h.formed.together;
      starts = λ q lt. (each.range q (omega (arith, each.size, lt)), each.each q (omega (arith, each.size, lt)));
      sources = h.formed.sources;
      targets = h.formed.targets;
      enough = omega (arith, each.size, h.formed.enough);
      small = h.formed.small;
    } in
    let within : IsWithinLimits (with_starts p starts) = record {
      packages = omega (arith, each.size, h.within.packages);
      versions = h.within.versions;
      dependencies = h.within.dependencies;
      targets = h.within.targets;
    } in
    record {
      formed = formed;
      within = within;
      places = record { size = h.places.size ∙ sym each.size; each = λ q lt. h.places.each q (omega (arith, each.size, lt)) };
    }

-- equal parts make equal problems, and one is kept for the other
abbrev pub problem_of : List ℕ → List ℕ → List Dependency → Problem
problem_of owners starts dependencies = record { owners = owners; starts = starts; dependencies = dependencies }

pub problem_same : {o u s t : List ℕ} {d e : List Dependency} → o ≡ u → s ≡ t → d ≡ e → problem_of o s d ≡ problem_of u t e
problem_same {u = u} {s = s} {t = t} {d = d} eo es ed = ap (λ x. problem_of x s d) eo ∙ ap (λ x. problem_of u x d) es ∙ ap (λ x. problem_of u t x) ed

pub kept_as : {p q : Problem} {f g : List ℕ} → p ≡ q → f ≡ g → IsKept q g → IsKept p f
kept_as {q = q} {f = f} e k h = subst (λ r. IsKept r f) (sym e) (subst (λ r. IsKept q r) (sym k) h)

-- A problem that is kept stays so with one more dependency.
pub dependency_kept : (p : Problem) (firsts : List ℕ) → IsKept p firsts → (x : Dependency) → x.source < version_count p → is_rising x.targets ≡ true
    → list_all (λ v. nat_lt v (version_count p)) x.targets ≡ true → dependency_refusal p x.targets ≡ None
    → IsKept (with_dependency p x) firsts
dependency_kept p firsts h x low rise range max =
    record { formed = formed; within = within; places = record { size = h.places.size; each = h.places.each } }
  where
    few : (dependency_count p + 1 ≤ most_dependencies) × (target_count p + length x.targets ≤ most_targets)
    few = (grind (arith, nat_tests, max), grind (arith, nat_tests, max))

    count : dependency_count (with_dependency p x) ≡ dependency_count p + 1
    count = length-append p.dependencies (x ∷ [])

    at : (P : Dependency → Type 0) → ((d : ℕ) → d < dependency_count p → P (dependency p d)) → P x → (d : ℕ) → d < dependency_count (with_dependency p x) → P (dependency (with_dependency p x) d)
    at P old new d lt =
        elim (eq-or-lt_of_le {n = d} {m = dependency_count p} (omega (arith, count, lt))) [
          | inl e ↦ subst P (sym (ap (dependency (with_dependency p x)) e ∙ new_dependency p x)) new
          | inr less ↦ subst P (sym (old_dependency p x d less)) (old d less)
        ]

    formed : IsWellFormed (with_dependency p x)
    formed = record {
      owners = h.formed.owners;
      together = h.formed.together;
      starts = h.formed.starts;
      sources = at (λ y. y.source < version_count p) h.formed.sources low;
      targets = at (λ y. (is_rising y.targets && list_all (λ v. nat_lt v (version_count p)) y.targets) ≡ true) h.formed.targets (and_from (is_rising x.targets) _ rise range);
      enough = h.formed.enough;
      small = omega (arith, count, few.0, h.within.versions);
    }

    within : IsWithinLimits (with_dependency p x)
    within = record {
      packages = h.within.packages;
      versions = h.within.versions;
      dependencies = omega (arith, count, few.0);
      targets = omega (arith, few.1, sum_by_push (λ (d : Dependency). length d.targets) p.dependencies x);
    }
