-- Which versions are installed.
use Rattle.std.proofs.Common.{◌≡◌, ◌<◌, ℕ, true, false, refl, ap, sym, ◌∙◌, arith, nat_eq}
use Rattle.std.proofs.lemmas.Bool.{eqb-true}
use Rattle.std.proofs.lemmas.Bool.Decides.{nat_tests}
use Rattle.lists.proofs.Sets.{has_none, has_at}
use Rattle.lists.specs.Sets.{has}
use Rattle.resolver_model.specs.Problems.{Problem, IsWellFormed, package_of, start_of, version_count}

-- a version is among the start versions exactly where it is that of its package
pub is_start : (p : Problem) → IsWellFormed p → (v : ℕ) → v < version_count p → nat_eq (start_of p (package_of p v)) v ≡ has p.starts v
is_start p w v lt =
    elim (nat_eq (start_of p (package_of p v)) v) as (λ r. nat_eq (start_of p (package_of p v)) v ≡ r → r ≡ has p.starts v) [
      | true ↦ λ e. sym (has_at p.starts v (package_of p v) (w.owners v lt) (eqb-true (start_of p (package_of p v)) v e))
      | false ↦ λ e. sym (has_none p.starts v (λ k less same.
          let own : package_of p v ≡ k = ap (package_of p) (sym same) ∙ (w.starts k less).1 in
          let at : start_of p (package_of p v) ≡ v = ap (start_of p) own ∙ same in
          absurd (grind (arith, nat_tests))))
    ] refl
