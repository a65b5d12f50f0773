-- Where no leaf is wanted, the least finished leaf takes the first set.
use Rattle.std.proofs.Common.{inl, inr, ◌≡◌, ℕ, List, [], ◌∷◌, true, false, not, cond, ◌&&◌, ◌||◌, refl, sym, ◌∙◌, arith, nat_lt, ◌≤◌, length, get_or}
use Rattle.std.specs.List.{list_all, list_any, fold}
use Rattle.std.specs.declared.cmp.Ordering.{Ordering}
use Rattle.std.specs.declared.cmp.Ordering.TheVariants.{Less, Equal, Greater}
use Rattle.std.specs.Ordering.{is_le, is_lt, ordering_reverse}
use Rattle.std.proofs.lemmas.Cmp.{nat_list_cmp_total, alike_right}
use Rattle.std.proofs.lemmas.Bool.{and_from, and_parts, or_cases, or_parts, or_from, cases_Bool, not-true, not-false, not_from_true, not_from_false, false_from_ne_true, leb-true, le-leb}
use Rattle.lists.proofs.Members.{list_any-none, list_all-fails, Member}
use Rattle.lists.proofs.Orders.{then_less}
use Rattle.lists.proofs.Sets.{is_disjoint-subset, is_disjoint-part, rising_apart, list_all-has, list_any-has, is_subset-trans}
use Rattle.lists.proofs.Sublists.{IsSublist, sublist_from_subset, cases_sublist, length-sublist}
use Rattle.lists.proofs.Truth.{and_second-false, nat_eq-same}
use Rattle.lists.proofs.With.{is_subset-union, is_rising-union}
use Rattle.lists.specs.Sets.{is_rising, has, union, is_subset, is_disjoint}
use Rattle.resolver_model.specs.declared.node.Node.{Node}
use Rattle.resolver_model.specs.declared.lines.Bound.{Bound}
use Rattle.resolver_model.specs.declared.lines.Bound.TheVariants.{Cost, Given, Impossible}
use Rattle.resolver_model.specs.declared.lines.Line.{Line}
use Rattle.resolver_model.specs.Problems.{Problem, package_of, version_count, installs_of, changes, is_choice_set, is_consistent, is_nothing_open, is_solution}
use Rattle.resolver_model.specs.Costs.{Table, cost, cost_cmp, IsBefore}
use Rattle.resolver_model.specs.Rules.{Cap, is_under, keeps}
use Rattle.resolver_model.specs.First.{is_obtainable, IsFirst}
use Rattle.resolver_model.specs.Lines.{has_delivery, agrees_with, reaches, IsSound}
use Rattle.resolver_model.specs.Trees.{Leaf, Situation, is_within, is_final, is_shut, is_finished, is_wanted, is_some_wanted, key_of, raised}
use Rattle.resolver_model.proofs.SetOrder.{IsUpTo, IsUpTo-trans}
use Rattle.resolver_model.proofs.Subsets.{cost_part-sublist, IsBefore-subset}
use Rattle.resolver_model.proofs.Splits.{one_install}
use Rattle.resolver_model.proofs.Soundness.{cost-subset}
use Rattle.resolver_model.proofs.Enumerations.{solution_rises, has_delivery-more}
pub use Rattle.lists.proofs.Members.{list_all-fails as all_fails, list_any-none as any_none}

pub is_consistent-subset : (p : Problem) (part set : List ℕ) → is_rising part ≡ true → is_subset part set ≡ true → is_consistent p set ≡ true → is_consistent p part ≡ true
is_consistent-subset p [] set r h k = refl
is_consistent-subset p (c ∷ part) set r h k =
    let rises = and_parts (list_all (λ z. nat_lt c z) part) (is_rising part) r in
    let both = and_parts (has set c) (is_subset part set) h in
    let alone : (nat_lt c (version_count p) && changes p part (package_of p c)) ≡ false =
    false_from_ne_true _ (λ t.
    let low = and_parts (nat_lt c (version_count p)) _ t in
    let y = list_any-has (installs_of p (package_of p c)) part low.1 in
    let own : installs_of p (package_of p c) c ≡ true = and_from (nat_lt c (version_count p)) _ low.0 (nat_eq-same (package_of p c)) in
    rising_apart c y.0 part rises.0 y.1 (one_install p (package_of p c) set c y.0 k own y.2 both.0 (list_all-has (has set) part y.0 both.1 y.1)))
    in
    and_from (not (nat_lt c (version_count p) && changes p part (package_of p c))) _ (not_from_false _ alone) (is_consistent-subset p part set rises.1 both.1 k)

-- What a search knows of its leaves.
pub record IsCovering (s : Situation) : Type 0 where
  pub cover : (set : List ℕ) → is_solution s.problem set ≡ true → (leaf : Leaf) × Member leaf s.leaves × (is_within leaf.node set ≡ true)
  pub lists : (leaf : Leaf) → Member leaf s.leaves → (is_choice_set s.problem leaf.node.taken ≡ true) × (is_consistent s.problem leaf.node.taken ≡ true)
  pub sound : (line : Line) → Member line s.lines → IsSound s.problem s.table s.given line

-- a line within a set without deliveries
line_not_final : (s : Situation) (line : Line) (set : List ℕ) → IsSound s.problem s.table s.given line → is_solution s.problem set ≡ true → has_delivery s.given set ≡ false → is_subset line.set set ≡ true → is_final line.bound ≡ false
line_not_final s line set sound o none within = by_bound line.bound (sound set o within)
  where
    by_bound : (b : Bound) → agrees_with s.table s.given b set ≡ true → is_final b ≡ false
    by_bound (Cost v) h = refl
    by_bound Given h = let f : true ≡ false = sym h ∙ none in cc
    by_bound Impossible h = absurd (cc)

no_final : (s : Situation) (lines : List Line) (part set : List ℕ) → ((line : Line) → Member line lines → IsSound s.problem s.table s.given line) → is_solution s.problem set ≡ true → has_delivery s.given set ≡ false → is_subset part set ≡ true
    → list_any (λ (line : Line). is_final line.bound && is_subset line.set part) lines ≡ false
no_final s [] part set sound o none within = refl
no_final s (line ∷ lines) part set sound o none within =
    or_from (is_final line.bound && is_subset line.set part) _
    (false_from_ne_true _ (λ t.
    let both = and_parts (is_final line.bound) _ t in
    let no = line_not_final s line set (sound line (inl refl)) o none (is_subset-trans line.set part set both.1 within) in
    let f : true ≡ false = sym both.0 ∙ no in
    cc))
    (no_final s lines part set (λ l m. sound l (inr m)) o none within)

-- what a set may cost, its parts may
under_part : (table : Table) (part set : List ℕ) (caps : List Cap) → IsSublist part set → length part ≤ length set → list_all (is_under (cost table set)) caps ≡ true → list_all (is_under (cost table part)) caps ≡ true
under_part table part set [] h few k = refl
under_part table part set (c ∷ caps) h few k =
    let parts = and_parts (is_under (cost table set) c) _ k in
    let most : get_or (cost table set) c.0 0 ≤ c.1 = leb-true _ _ parts.0 in
    let less = cost_part-sublist table part set c.0 h few in
    and_from (is_under (cost table part) c) _ (le-leb _ _ (omega (arith, most, less))) (under_part table part set caps h few parts.1)

-- a leaf round an obtainable set is not shut
pub not_shut : (s : Situation) → IsCovering s → (node : Node) (set : List ℕ) → is_rising node.taken ≡ true → is_within node set ≡ true → is_obtainable s.problem s.table s.rules s.given set ≡ true → is_shut s node ≡ false
not_shut s c node set r w o =
    let outer = and_parts (is_solution s.problem set && keeps s.rules set (cost s.table set)) _ o in
    let inner = and_parts (is_solution s.problem set) (keeps s.rules set (cost s.table set)) outer.0 in
    let kept_all = and_parts (is_subset s.rules.approved set && is_disjoint s.rules.rejected set) _ inner.1 in
    let kept = and_parts (is_subset s.rules.approved set) _ kept_all.0 in
    let none : has_delivery s.given set ≡ false = not-true _ outer.1 in
    let within = and_parts (is_subset node.taken set) (is_disjoint node.barred set) w in
    let consistent = (and_parts (is_choice_set s.problem set) _ (and_parts _ _ inner.0).0).1 in
    let sub = sublist_from_subset node.taken set r (solution_rises s.problem set inner.0) within.0 in
    let cheap = under_part s.table node.taken set s.rules.caps sub (length-sublist node.taken set sub) kept_all.1 in
    or_from _ _
    (or_from _ _
    (or_from _ _
    (or_from _ _
    (or_from _ _ (not_from_true _ (is_disjoint-part s.rules.rejected node.taken set within.0 kept.1)) (not_from_true _ (is_disjoint-subset s.rules.approved node.barred set kept.0 within.1)))
    (not_from_true _ (is_consistent-subset s.problem (union node.taken s.rules.approved) set (is_rising-union node.taken s.rules.approved r) (is_subset-union node.taken s.rules.approved set within.0 kept.0) consistent)))
    (false_from_ne_true _ (λ t. let there = has_delivery-more s.given node.taken set within.0 t in let f : true ≡ false = sym there ∙ none in cc)))
    (not_from_true _ cheap))
    (no_final s s.lines node.taken set c.sound inner.0 none within.0)

-- the key of a leaf is at most the cost of an obtainable set within it
raised_le : (s : Situation) (key : List ℕ) (b : Bound) (set : List ℕ) → is_le (cost_cmp key (cost s.table set)) ≡ true → has_delivery s.given set ≡ false → agrees_with s.table s.given b set ≡ true
    → is_le (cost_cmp (raised key b) (cost s.table set)) ≡ true
raised_le s key (Cost v) set h none a =
    elim (is_lt (cost_cmp key v)) as (λ r. is_le (cost_cmp (cond r v key) (cost s.table set)) ≡ true) [
      | true ↦ elim (or_cases (has_delivery s.given set) (reaches s.table (Cost v) set) a) as (λ _. is_le (cost_cmp v (cost s.table set)) ≡ true) [ inl old ↦ let f : true ≡ false = sym old ∙ none in absurd (cc) | inr dear ↦ dear ]
      | false ↦ h
    ]
raised_le s key Given set h none a = h
raised_le s key Impossible set h none a = h

pub key_le : (s : Situation) (lines : List Line) (key part set : List ℕ) → ((line : Line) → Member line lines → IsSound s.problem s.table s.given line) → is_solution s.problem set ≡ true → has_delivery s.given set ≡ false → is_subset part set ≡ true
    → is_le (cost_cmp key (cost s.table set)) ≡ true → is_le (cost_cmp (fold (λ k (line : Line). cond (is_subset line.set part) (raised k line.bound) k) key lines) (cost s.table set)) ≡ true
key_le s [] key part set sound o none within h = h
key_le s (line ∷ lines) key part set sound o none within h =
    let next : is_le (cost_cmp (cond (is_subset line.set part) (raised key line.bound) key) (cost s.table set)) ≡ true =
    elim (is_subset line.set part) as (λ r. is_subset line.set part ≡ r → is_le (cost_cmp (cond r (raised key line.bound) key) (cost s.table set)) ≡ true) [
      | true ↦ λ t. raised_le s key line.bound set h none (sound line (inl refl) set o (is_subset-trans line.set part set t within))
      | false ↦ λ _. h
    ] refl
    in
    key_le s lines (cond (is_subset line.set part) (raised key line.bound) key) part set (λ l m. sound l (inr m)) o none within next

-- a set is up to each set that it is a part of
pub part_upto : (table : Table) (part set : List ℕ) → is_rising part ≡ true → is_rising set ≡ true → is_subset part set ≡ true → IsUpTo table part set
part_upto table part set r k h =
    let sub = sublist_from_subset part set r k h in
    elim (cases_sublist part set sub) as (λ _. IsUpTo table part set) [ inl e ↦ inl e | inr fewer ↦ inr (IsBefore-subset table part set sub fewer) ]

-- a lower cost is before
lower_before : (table : Table) (a b key : List ℕ) → is_le (cost_cmp key (cost table a)) ≡ false → is_le (cost_cmp key (cost table b)) ≡ true → IsBefore table a b
lower_before table a b key h k =
    let o = nat_list_cmp_total in
    let above : cost_cmp (cost table a) key ≡ Less = o.antisymm (cost table a) key ∙ flipped (cost_cmp key (cost table a)) h in
    then_less (cost_cmp (cost table a) (cost table b)) _ (below_both (cost_cmp key (cost table b)) refl k)
  where
    flipped : (r : Ordering) → is_le r ≡ false → ordering_reverse r ≡ Less
    flipped Less h = absurd (cc)
    flipped Equal h = absurd (cc)
    flipped Greater h = refl

    below_both : (r : Ordering) → cost_cmp key (cost table b) ≡ r → is_le r ≡ true → cost_cmp (cost table a) (cost table b) ≡ Less
    below_both Less e t = nat_list_cmp_total.trans (cost table a) key (cost table b) (nat_list_cmp_total.antisymm (cost table a) key ∙ flipped (cost_cmp key (cost table a)) h) e
    below_both Equal e t = sym (alike_right nat_list_cmp_total key (cost table b) (cost table a) e) ∙ nat_list_cmp_total.antisymm (cost table a) key ∙ flipped (cost_cmp key (cost table a)) h
    below_both Greater e t = absurd (cc)

pub finished_obtainable : (s : Situation) → IsCovering s → (f : Leaf) → Member f s.leaves → is_finished s f.node ≡ true → is_obtainable s.problem s.table s.rules s.given f.node.taken ≡ true
finished_obtainable s c f m h =
    let parts = and_parts (not (is_shut s f.node) && is_nothing_open s.problem f.node.taken) (is_subset s.rules.approved f.node.taken) h in
    let both = and_parts (not (is_shut s f.node)) _ parts.0 in
    let open_parts = or_parts _ _ (not-true _ both.0) in
    let five = or_parts _ _ open_parts.0 in
    let four = or_parts _ _ five.0 in
    let three = or_parts _ _ four.0 in
    let two = or_parts (not (is_disjoint s.rules.rejected f.node.taken)) _ three.0 in
    let lists = c.lists f m in
    and_from (is_solution s.problem f.node.taken && keeps s.rules f.node.taken (cost s.table f.node.taken)) _
    (and_from (is_solution s.problem f.node.taken) _ (and_from (is_choice_set s.problem f.node.taken && is_consistent s.problem f.node.taken) _ (and_from (is_choice_set s.problem f.node.taken) _ lists.0 lists.1) both.1) (and_from (is_subset s.rules.approved f.node.taken && is_disjoint s.rules.rejected f.node.taken) _ (and_from (is_subset s.rules.approved f.node.taken) _ parts.1 (not-false _ two.0)) (not-false _ five.1)))
    (not_from_false _ four.1)

pub IsFirst-finished : (s : Situation) → IsCovering s → (f : Leaf) → Member f s.leaves → is_finished s f.node ≡ true → is_some_wanted s ≡ false
    → ((g : Leaf) → Member g s.leaves → is_finished s g.node ≡ true → IsUpTo s.table f.node.taken g.node.taken) → IsFirst s.problem s.table s.rules s.given f.node.taken
IsFirst-finished s c f m done still least = record {
  obtainable = finished_obtainable s c f m done;
  before = λ set o apart.
      let solution : is_solution s.problem set ≡ true = (and_parts _ _ (and_parts _ _ o).0).0 in
      let none : has_delivery s.given set ≡ false = not-true _ (and_parts (is_solution s.problem set && keeps s.rules set (cost s.table set)) _ o).1 in
      let round = c.cover set solution in
      let leaf = round.0 in
      let within = and_parts (is_subset leaf.node.taken set) (is_disjoint leaf.node.barred set) round.2 in
      let rises : is_rising leaf.node.taken ≡ true = (and_parts _ _ (c.lists leaf round.1).0).0 in
      let shut_not : is_shut s leaf.node ≡ false = not_shut s c leaf.node set rises round.2 o in
      let part = part_upto s.table leaf.node.taken set rises (solution_rises s.problem set solution) within.0 in
      let upto : IsUpTo s.table f.node.taken set =
      elim (cases_Bool (is_finished s leaf.node)) as (λ _. IsUpTo s.table f.node.taken set) [
        | inl finished ↦ IsUpTo-trans s.table f.node.taken leaf.node.taken set (least leaf round.1 finished) part
        | inr unfinished ↦
            let unwanted : is_wanted s leaf.node ≡ false = list_any-none (λ l. is_wanted s l.node) s.leaves leaf still round.1 in
            let free : (not (is_shut s leaf.node) && not (is_finished s leaf.node)) ≡ true = and_from _ _ (not_from_false _ shut_not) (not_from_false _ unfinished) in
            let lower = list_all-fails (λ other. not (is_finished s other.node) || is_le (cost_cmp (key_of s leaf.node) (cost s.table other.node.taken))) s.leaves (and_second-false _ _ unwanted free) in
            let two = or_parts (not (is_finished s lower.0.node)) _ lower.2 in
            let key = key_le s s.lines (cost s.table leaf.node.taken) leaf.node.taken set c.sound solution none within.0 (cost-subset s.table leaf.node.taken set rises (solution_rises s.problem set solution) within.0) in
            let less = lower_before s.table lower.0.node.taken set (key_of s leaf.node) two.1 key in
            IsUpTo-trans s.table f.node.taken lower.0.node.taken set (least lower.0 lower.1 (not-false _ two.0)) (inr less)
      ]
      in
      elim upto as (λ _. IsBefore s.table f.node.taken set) [ inl e ↦ absurd (apart (sym e)) | inr lt ↦ lt ];
}
