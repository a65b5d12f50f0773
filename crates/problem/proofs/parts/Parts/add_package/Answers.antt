use Rattle.std.proofs.Common.{◌≡◌, ◌+◌, ◌++◌, ◌∷◌, ◌∙◌, sym, ap, refl, rules, [], None, subst, vec_len, length, replicate, cond, is_ok, true, false, Bool, List, ℕ}
use Rattle.resolver_model.specs.Problems.{Problem}
use Rattle.problem.specs.Limits.{package_refusal}
use Rattle.problem.specs.Places.{IsKept}
use Rattle.problem.proofs.Kept.{package_kept, problem_of, problem_same, kept_as}
use Rattle.problem.proofs.parts.Parts.add_package.Goals as goal

-- a package is kept, and so is what there was without it
either : (done : Bool) (p more : Problem) (firsts all : List ℕ) (owners starts new : List ℕ) → IsKept p firsts → IsKept more all → more.dependencies ≡ p.dependencies
    → owners ≡ cond done more.owners p.owners → starts ≡ cond done more.starts p.starts → new ≡ cond done all firsts → IsKept (problem_of owners starts p.dependencies) new
either true p more firsts all owners starts new h k d o s f = kept_as (problem_same o s (sym d)) f k
either false p more firsts all owners starts new h k d o s f = kept_as (problem_same o s refl) f h

pub invariant_of-self : goal.invariant_of-self
invariant_of-self c =
    let p : Problem = record { owners = c.self.inside.owners.items; starts = c.self.inside.starts.items; dependencies = c.self.inside.dependencies } in
    let P : Problem → Type 0 = λ r. r.dependencies ≡ [] in
    let Q : Problem → Type 0 = λ r. package_refusal r c.args.present ≡ None in
    let kept = package_kept p c.self.inside.firsts.items c.self.invariant c.args.present c.args.start c.requires.inside (subst P (sym c.self.view_is) c.requires.before_dependencies)
    (subst Q (sym c.self.view_is) c.requires.within) in
    let versions : vec_len c.self.inside.owners ≡ length c.self.inside.owners.items = search rules in
    let packages : vec_len c.self.inside.starts ≡ length c.self.inside.starts.items = search rules in
    let e = c.add_package.ensures in
    let done = is_ok c.add_package.result in
    let owners = e.owners ∙ ap (λ n. cond done (c.self.inside.owners.items ++ replicate (c.args.present + 1) n) c.self.inside.owners.items) packages in
    let starts = e.starts ∙ ap (λ n. cond done (c.self.inside.starts.items ++ (n + c.args.start) ∷ []) c.self.inside.starts.items) versions in
    let firsts = e.firsts ∙ ap (λ n. cond done (c.self.inside.firsts.items ++ n ∷ []) c.self.inside.firsts.items) versions in
    either done p _ c.self.inside.firsts.items _ c.add_package.new.owners.items c.add_package.new.starts.items c.add_package.new.firsts.items c.self.invariant kept refl owners starts firsts
