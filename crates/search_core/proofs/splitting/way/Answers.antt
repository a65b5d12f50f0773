use Rattle.std.proofs.Common.{◌≡◌, ◌<◌, ℕ, List, [], Some, None, Option, sym, subst, ap, ◌∙◌, length, get_or}
use Rattle.std.specs.Option.{MatchOption, unwrap_or}
use Rattle.broken_deps.specs.Opening.{open_deps}
use Rattle.lists.specs.Below.{below}
use Rattle.resolver_model.specs.declared.history.By.TheVariants.{Dep}
use Rattle.resolver_model.specs.Problems.{Problem, is_open, dependency_count}
use Rattle.search_core.specs.Ways.{first_open, way}
use Rattle.search_core.proofs.Opens.{none_passes, some_passes}
use Rattle.search_core.proofs.splitting.way.Goals as goal

first_is : (p : Problem) (set list : List ℕ) (first : Option ℕ) → MatchOption first (list ≡ []) (λ dep. (0 < length list) × (dep ≡ get_or list 0 0)) → list ≡ open_deps p set → first ≡ first_open p set
first_is p set list None found same = sym (none_passes (is_open p set) (below (dependency_count p)) (sym same ∙ found)).0
first_is p set list (Some dep) found same =
    let L : List ℕ → Type 0 = λ xs. 0 < length xs in
    ap Some (found.1 ∙ ap (λ xs. get_or xs 0 0) same) ∙ sym (some_passes (is_open p set) (below (dependency_count p)) (subst L same found.0)).0

pub returns-in-None : goal.returns-in-None
returns-in-None c p node e =
    ap Dep (c.unwrap_or.ensures ∙ ap (λ (r : Option ℕ). unwrap_or r 0) (first_is p node.taken c.args.list.now c.first.result c.first.ensures e)) ∙ sym (ap (λ (r : Option ℕ). way p node r) c.in-None.is)
