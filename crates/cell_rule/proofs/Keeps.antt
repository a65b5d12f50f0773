-- Each step keeps the rule of the turn table.
use Rattle.std.proofs.Common.{inl, inr, ⊎_elim, ◌≡◌, ◌≢◌, ◌⊎◌, ◌<◌, ◌*◌, ◌%◌, ◌==◌, ℕ, suc, ◌+◌, List, [], ◌∷◌, ◌++◌, Bool, true, false, set, length, refl, ap, sym, subst, ◌∙◌, arith}
use Rattle.std.specs.Prelude.{slice_index}
use mathlib.Core.Option.{Option, none, some, some-ne-none, some-injective}
use mathlib.Core.List.{IsPrefix}
use native.Mathlib.Decide.{ℕ_discrete}
use lib.ListN.{get_elem?}
use prog.Atomic.{either}
use Rattle.atomic_table.specs.Table.{opening as table_opening, State, Me, Act, keeps, takes, gives, step, stepped, Valid, carried_after, Allows, Splits, Joins, Seen}
use Rattle.atomic_table.proofs.Lists.{at_longer, set_again, set_else, exchanged}
use Rattle.resolver_model.specs.declared.history.Entry.{Entry}
use Rattle.search_core.specs.Sessions.{Session}
use Rattle.cell_rule.specs.declared.view.Hand.{Hand}
use Rattle.cell_rule.specs.declared.view.Stage.{Stage}
use Rattle.cell_rule.specs.declared.view.Stage.TheVariants.{Spent, Waits, Holds, Opens}
use Rattle.cell_rule.specs.declared.view.View.{View}
use Rattle.cell_rule.specs.Views.{hands, hands_at, stands, Each, has_turn, waiting, holding, opening, newcomer, first_view, gathered, informed, returned, left_of, right_of, both_of, spent_view, AreBy, entries_by, IsKeptFor}
use Rattle.cell_rule.specs.Turns.{turn_word, FitsHand, KeepsRoom, Apart, Knows, HasSeen, IsKept, Claims, Releases, Opened}
use Rattle.cell_rule.proofs.Basics.{append_nil, set_at, each_set, each_more, each_one, prefix_refl, prefix_more, stands_own, stands_one, stands_append, none_stands, each_with, each_append, no_entries, entries_more}

not_both : {b : Bool} → b ≡ true → b ≡ false → ⊥
not_both t f = cc

-- the state by its parts
abbrev Kept : Session → List ℕ → List (Option Session) → List View → Type 0
Kept start ws hs views = IsKept start record { words = ws; homes = hs; views = views }

-- A view that has not the turn knows as much after any step.
pub calm : (base base' : List Entry) (held held' : Bool) (holder holder' : ℕ) (home home' : Option Session) (views views' : List View) (j : ℕ) (u : View)
    → (held ≡ true → j ≡ holder → ⊥) → (st : Stage) → Knows base held holder home views j u st → Knows base' held' holder' home' views' j u st
calm base base' held held' holder holder' home home' views views' j u other Spent k = tt
calm base base' held held' holder holder' home home' views views' j u other Waits k = tt
calm base base' held held' holder holder' home home' views views' j u other (Holds others) k = absurd (other k.0 k.1)
calm base base' held held' holder holder' home home' views views' j u other (Opens next) k = absurd (other k.0 k.1)

-- A view that stands for no more than it did leaves the views apart.
pub apart_set : (views : List View) (id : ℕ) (v w : View) → get_elem? views id ≡ some v → ((actor : ℕ) → stands actor (hands w) ≡ true → stands actor (hands v) ≡ true) → Apart views → Apart (set views id w)
apart_set views id v w at less apart i j x y actor ei ej si sj =
    each_set (λ k z. stands actor (hands z) ≡ true → k ≡ j) views id w
    (λ s. each_set (λ k z. stands actor (hands z) ≡ true → id ≡ k) views id w (λ _. refl) (λ k z ne e t. apart id k v z actor at e (less actor s) t) j y ej sj)
    (λ k z ne e s. each_set (λ l u. stands actor (hands u) ≡ true → k ≡ l) views id w (λ t. apart k id z v actor e at s (less actor t)) (λ l u ne' e' t. apart k l z u actor e e' s t) j y ej sj)
    i x ei si

module _ (start : Session) (id old : ℕ) (h : Hand) (views : List View) (base : List Entry) (home : Option Session) (holder : ℕ) where
  abbrev ClaimGoal : Bool → ℕ → Type 0
  ClaimGoal held x =
      (w : View) × (a : Act Session) × Valid (home ∷ []) [] a × IsKept start (stepped record { words = turn_word held base ∷ []; homes = home ∷ []; views = views } 0 x id [] w a)
      × Claims (step 1 0 old (old + 1) none) (waiting h, []) (turn_word held base) (w, carried_after [] a)

  -- another has the turn
  claim_missed : (held : Bool) → Kept start (turn_word held base ∷ []) (home ∷ []) views → get_elem? views id ≡ some (waiting h) → turn_word held base ≢ old → ClaimGoal held (turn_word held base)
  claim_missed held r at ne =
      (waiting h, keeps, tt, subst (Kept start (turn_word held base ∷ []) (home ∷ [])) (sym (set_again views id (waiting h) at)) r, λ e. inr (ne, refl))

  claim_hit : (r : Kept start (turn_word false base ∷ []) (home ∷ []) views) → r.base ≡ base → r.held ≡ false → r.home ≡ home → get_elem? views id ≡ some (waiting h) → turn_word false base ≡ old → ClaimGoal false (old + 1)
  claim_hit r same_base free same_home at eq =
      let y : Session = (r.free free).0 in
      let at_home : r.home ≡ some y = (r.free free).1 in
      let good = r.inside y at_home in
      let w : View = holding y.rooms (informed h y) in
      let mine = r.each id (waiting h) at in
      let fits = mine.0.0 in
      let nobody : r.held ≡ true → ⊥ = λ t. not_both t free in (
        w,
        takes 0 y,
        ap some (sym same_home ∙ at_home),
        record {
          base = r.base;
          held = true;
          holder = id;
          home = none;
          words = ap (λ (n : ℕ). (n + 1) ∷ []) (sym eq ∙ ap (λ (b : List Entry). 2 * length b) (sym same_base));
          homes = refl;
          inside = λ z e. absurd (some-ne-none z (sym e));
          free = λ e. absurd (not_both refl e);
          turn = λ _. (w, set_at views id (waiting h) w at, refl);
          each = each_set (λ j u. Each (FitsHand start r.base) (hands u) × Knows r.base true id none (set views id w) j u u.stage) views id w
              ((
                ((fits.0, fits.1, prefix_refl y.history r.base good.0, fits.3), tt),
                (refl, refl, good.0, λ j u e ne. good.2 j u (sym (set_else views id j w ne) ∙ e)),
              ))
              (λ j u ne e. let k = r.each j u e in (k.0, calm r.base r.base r.held true r.holder id r.home none views (set views id w) j u (λ t. absurd (nobody t)) u.stage k.1));
          apart = apart_set views id (waiting h) w at (λ actor s. s) r.apart;
          known = (id, (w, set_at views id (waiting h) w at, inl good.0));
        },
        λ e. inl (
          eq,
          (
            y,
            refl,
            (
              good.1 ∙ ap (λ (z : Session). z.setting) (sym fits.0),
              prefix_more h.seen r.base [] y.history fits.2 (good.0 ∙ sym (append_nil r.base)),
              fits.3 ∙ ap (entries_by h.actor) (sym good.0),
              (good.2 id (waiting h) at).0,
              subst (λ (z : Session). h.actor < z.setting.actors) (sym fits.0) fits.1,
            ),
          ),
        ),
      )

  claim_at : (held : Bool) (r : Kept start (turn_word held base ∷ []) (home ∷ []) views) → r.base ≡ base → r.held ≡ held → r.home ≡ home → old % 2 ≡ 0 → get_elem? views id ≡ some (waiting h)
      → ClaimGoal held (either (turn_word held base == old) (old + 1) (turn_word held base))
  claim_at true r same_base same_held same_home even at =
      exchanged (turn_word true base) old (old + 1) (ClaimGoal true) (λ e. absurd (omega arith)) (claim_missed true r at)
  claim_at false r same_base same_held same_home even at =
      exchanged (turn_word false base) old (old + 1) (ClaimGoal false) (claim_hit r same_base same_held same_home at) (claim_missed false r at)

pub claims : (start : Session) (id old : ℕ) (h : Hand) → old % 2 ≡ 0
    → Allows (IsKept start) 1 id (waiting h, []) 0 (λ n. either (n == old) (old + 1) n) (Claims (step 1 0 old (old + 1) none) (waiting h, []))
claims start id old h even s r one at small =
    let P : List ℕ × List (Option Session) → Type 0 = λ q.
    (w : View) × (a : Act Session) × Valid q.1 [] a × IsKept start (stepped record { words = q.0; homes = q.1; views = s.views } 0 (either (slice_index q.0 0 == old) (old + 1) (slice_index q.0 0)) id [] w a)
    × Claims (step 1 0 old (old + 1) none) (waiting h, []) (slice_index q.0 0) (w, carried_after [] a) in
    let r' : Kept start (turn_word r.held r.base ∷ []) (r.home ∷ []) s.views = record {
      base = r.base;
      held = r.held;
      holder = r.holder;
      home = r.home;
      words = refl;
      homes = refl;
      inside = r.inside;
      free = r.free;
      turn = r.turn;
      each = r.each;
      apart = r.apart;
      known = r.known;
    } in
    subst P (λ k. (sym r.words k, sym r.homes k)) (claim_at start id old h s.views r.base r.home r.holder r.held r' refl refl refl even at)

abbrev session_in : Session → List (ℕ × Session) → Session
session_in y [] = y
session_in y (x ∷ xs) = x.1

pub releases : (start : Session) (id : ℕ) (h : Hand) (others : List Bool) (y : Session) (entries : List Entry)
    → y.setting ≡ h.start.setting → y.history ≡ h.seen ++ entries → AreBy h.actor entries
    → ((a : ℕ) → a ≢ h.actor → IsKeptFor others a → IsKeptFor y.rooms a)
    → Allows (IsKept start) 1 id (holding others h, (0, y) ∷ []) 0 (λ _. 2 * length y.history)
    (λ _. Releases (step 1 0 (2 * length y.history) 0 none) (holding others h, (0, y) ∷ []) (2 * length y.history))
releases start id h others y entries setting history by kept s r one at small =
    let v : View = holding others h in
    let w : View = waiting (returned h y) in
    let views : List View = s.views in
    let mine = r.each id v at in
    let fits = mine.0.0 in
    let knows = mine.1 in
    let longer : y.history ≡ r.base ++ entries = history ∙ ap (λ (b : List Entry). b ++ entries) knows.2 in
    let stranger : (j : ℕ) (u : View) (g : Hand) → j ≢ id → get_elem? views j ≡ some u → stands g.actor (hands u) ≡ true → g.actor ≢ h.actor =
    λ j u g ne e m same. ne (r.apart j id u v h.actor e at (subst (λ (a : ℕ). stands a (hands u) ≡ true) same m) (stands_own h [])) in
    let none_of : (a : ℕ) → a ≢ h.actor → entries_by a y.history ≡ entries_by a r.base =
    λ a ne. ap (entries_by a) longer ∙ (entries_more a r.base entries ∙ (ap (λ (l : List Entry). entries_by a r.base ++ l) (no_entries h.actor a entries by ne) ∙ append_nil (entries_by a r.base))) in
    let P : List ℕ × List (Option Session) → Type 0 = λ q.
    (w : View) × (a : Act Session) × Valid q.1 ((0, y) ∷ []) a × IsKept start (stepped record { words = q.0; homes = q.1; views = s.views } 0 (2 * length y.history) id ((0, y) ∷ []) w a)
    × Releases (step 1 0 (2 * length y.history) 0 none) (v, (0, y) ∷ []) (2 * length y.history) (w, carried_after ((0, y) ∷ []) a) in
    subst P (λ k. (sym r.words k, sym r.homes k)) (
      w,
      gives,
      tt,
      record {
        base = y.history;
        held = false;
        holder = 0;
        home = some y;
        words = refl;
        homes = refl;
        inside = λ z e. subst (λ (x : Session). (x.history ≡ y.history) × (x.setting ≡ start.setting) × ((i : ℕ) (u : View) → get_elem? (set views id w) i ≡ some u → Each (KeepsRoom x.rooms) (hands u))) (some-injective y z e) (
          refl,
          setting ∙ ap (λ (x : Session). x.setting) fits.0,
          each_set (λ j u. Each (KeepsRoom y.rooms) (hands u)) views id w ((λ t. t), tt)
              (λ j u ne e'. each_with (KeepsRoom others) (KeepsRoom y.rooms) (hands u) (λ g m p t. kept g.actor (stranger j u g ne e' m) (p t)) (knows.3 j u e' ne)),
        );
        free = λ _. (y, refl);
        turn = λ e. absurd (not_both e refl);
        each = each_set (λ j u. Each (FitsHand start y.history) (hands u) × Knows y.history false 0 (some y) (set views id w) j u u.stage) views id w
            (((fits.0, fits.1, prefix_refl y.history y.history refl, refl), tt), tt)
            (λ j u ne e'. let k = r.each j u e' in (
              each_with (FitsHand start r.base) (FitsHand start y.history) (hands u) (λ g m p. (p.0, p.1, prefix_more g.seen r.base entries y.history p.2 longer, p.3 ∙ sym (none_of g.actor (stranger j u g ne e' m)))) k.0,
              calm r.base y.history r.held false r.holder 0 r.home (some y) views (set views id w) j u (λ t e. ne (e ∙ sym knows.1)) u.stage k.1,
            ));
        apart = apart_set views id v w at (λ actor s. s) r.apart;
        known = (id, (w, set_at views id v w at, inl refl));
      },
      λ others' y' e. ap (λ (z : Session). let m : Me Session View = (waiting (returned h z), []) in m) (ap (λ (m : Me Session View). session_in y m.1) e),
    )

pub opens : (start : Session) (id next : ℕ) (h : Hand) → Allows (IsKept start) 1 id (opening next h, []) 0 (λ _. 2 * length h.seen) (λ _. Opened (step 1 0 (2 * length h.seen) 0 none) (opening next h, []) (2 * length h.seen))
opens start id next h s r one at small =
    let v : View = opening next h in
    let w : View = waiting h in
    let views : List View = s.views in
    let mine = r.each id v at in
    let knows = mine.1 in
    let P : List ℕ × List (Option Session) → Type 0 = λ q.
    (w : View) × (a : Act Session) × Valid q.1 [] a × IsKept start (stepped record { words = q.0; homes = q.1; views = s.views } 0 (2 * length h.seen) id [] w a)
    × Opened (step 1 0 (2 * length h.seen) 0 none) (v, []) (2 * length h.seen) (w, carried_after [] a) in
    subst P (λ k. (sym r.words k, sym r.homes k)) (
      w,
      keeps,
      tt,
      record {
        base = r.base;
        held = false;
        holder = 0;
        home = r.home;
        words = ap (λ (b : List Entry). (2 * length b) ∷ []) knows.2;
        homes = refl;
        inside = λ z e. let good = r.inside z e in (good.0, good.1, each_set (λ j u. Each (KeepsRoom z.rooms) (hands u)) views id w (good.2 id v at) (λ j u ne e'. good.2 j u e'));
        free = λ _. knows.3;
        turn = λ e. absurd (not_both e refl);
        each = each_set (λ j u. Each (FitsHand start r.base) (hands u) × Knows r.base false 0 r.home (set views id w) j u u.stage) views id w
            (mine.0, tt)
            (λ j u ne e'. let k = r.each j u e' in (k.0, calm r.base r.base r.held false r.holder 0 r.home r.home views (set views id w) j u (λ t e. ne (e ∙ sym knows.1)) u.stage k.1));
        apart = apart_set views id v w at (λ actor s. s) r.apart;
        known = (id, (w, set_at views id v w at, inl knows.2));
      },
      refl,
    )

pub splits : (start : Session) (id next : ℕ) (h : Hand) → next < h.start.setting.actors → Splits (IsKept start) id (opening next h) (left_of (opening next h)) (right_of (opening next h))
splits start id next h below s r at =
    let v : View = opening next h in
    let w : View = opening (suc next) h in
    let new : Hand = newcomer h.start h.seen next in
    let views : List View = s.views in
    let more : List View = set views id w in
    let mine = r.each id v at in
    let fits = mine.0.0 in
    let knows = mine.1 in
    let old_below : (j : ℕ) (u : View) → get_elem? more j ≡ some u → Each (λ g. g.actor < next) (hands u) =
    each_set (λ j u. Each (λ g. g.actor < next) (hands u)) views id w (knows.4 id v at) (λ j u ne e. knows.4 j u e) in
    let not_next : (j : ℕ) (u : View) → get_elem? more j ≡ some u → stands next (hands u) ≡ true → ⊥ = λ j u e. none_stands next (hands u) (old_below j u e) in
    record {
      base = r.base;
      held = r.held;
      holder = id;
      home = r.home;
      words = r.words;
      homes = r.homes;
      inside = λ z e. let good = r.inside z e in (
        good.0,
        good.1,
        each_more (λ j u. Each (KeepsRoom z.rooms) (hands u)) more (waiting new) ((λ t. absurd (not_both t refl)), tt)
            (each_set (λ j u. Each (KeepsRoom z.rooms) (hands u)) views id w (good.2 id v at) (λ j u ne e'. good.2 j u e')),
      );
      free = r.free;
      turn = λ _. (w, at_longer more (waiting new ∷ []) id w (set_at views id v w at), refl);
      each = each_more (λ j u. Each (FitsHand start r.base) (hands u) × Knows r.base r.held id r.home (more ++ waiting new ∷ []) j u u.stage) more (waiting new)
          (((fits.0, subst (λ (z : Session). next < z.setting.actors) fits.0 below, prefix_refl h.seen r.base knows.2, ap (entries_by next) knows.2), tt), tt)
          (each_set (λ j u. Each (FitsHand start r.base) (hands u) × Knows r.base r.held id r.home (more ++ waiting new ∷ []) j u u.stage) views id w (
            mine.0,
            (
              knows.0,
              refl,
              knows.2,
              knows.3,
              each_more (λ j u. Each (λ g. g.actor < suc next) (hands u)) more (waiting new) (omega arith, tt)
                  (λ j u e. each_with (λ g. g.actor < next) (λ g. g.actor < suc next) (hands u) (λ g m p. omega arith) (old_below j u e)),
            ),
          )
          (λ j u ne e'. let k = r.each j u e' in (k.0, calm r.base r.base r.held r.held r.holder id r.home r.home views (more ++ waiting new ∷ []) j u (λ t e. ne (e ∙ sym knows.1)) u.stage k.1)));
      known = (id, (w, at_longer more (waiting new ∷ []) id w (set_at views id v w at), inl knows.2));
      apart = λ i j x y actor ei ej si sj.
          each_more (λ k z. stands actor (hands z) ≡ true → k ≡ j) more (waiting new)
          (λ s. each_more (λ k z. stands actor (hands z) ≡ true → length more ≡ k) more (waiting new) (λ _. refl)
          (λ k z e t. absurd (not_next k z e (subst (λ (a : ℕ). stands a (hands z) ≡ true) (sym (stands_one actor new s)) t))) j y ej sj)
          (λ k z e s. each_more (λ l u. stands actor (hands u) ≡ true → k ≡ l) more (waiting new)
          (λ t. absurd (not_next k z e (subst (λ (a : ℕ). stands a (hands z) ≡ true) (sym (stands_one actor new t)) s)))
          (λ l u e' t. apart_set views id v w at (λ actor s. s) r.apart k l z u actor e e' s t) j y ej sj)
          i x ei si;
    }

-- the view that stood for an actor of the view i, before the view `other` was joined into the view id
abbrev Stood : List View → ℕ → ℕ → ℕ → ℕ → Type 0
Stood views id other i actor = (k : ℕ) × ((z : View) × (get_elem? views k ≡ some z) × (stands actor (hands z) ≡ true)) × (((i ≡ k) × (k ≢ other)) ⊎ ((i ≡ id) × (k ≡ other)))

-- a view that keeps its place knows as much of the other views as of any views with the same hands
kept_on : (base : List Entry) (held : Bool) (holder : ℕ) (home : Option Session) (views all : List View) (i : ℕ)
    → ((P : Hand → Type 0) → ((j : ℕ) (x : View) → get_elem? views j ≡ some x → Each P (hands x)) → (j : ℕ) (x : View) → get_elem? all j ≡ some x → Each P (hands x))
    → ((P : Hand → Type 0) → ((j : ℕ) (x : View) → get_elem? views j ≡ some x → j ≢ i → Each P (hands x)) → (j : ℕ) (x : View) → get_elem? all j ≡ some x → j ≢ i → Each P (hands x))
    → (x : View) (st : Stage) → Knows base held holder home views i x st → Knows base held holder home all i x st
kept_on base held holder home views all i both but x Spent k = tt
kept_on base held holder home views all i both but x Waits k = tt
kept_on base held holder home views all i both but x (Holds others) k = (k.0, k.1, k.2, but (KeepsRoom others) k.3)
kept_on base held holder home views all i both but x (Opens next) k = (k.0, k.1, k.2, k.3, both (λ g. g.actor < next) k.4)

-- who has seen the base is among the views still
known_still : (base : List Entry) (views all : List View) (i id other : ℕ) (v u w spent : View) → ((x : View) × (get_elem? views i ≡ some x) × HasSeen base (hands x))
    → get_elem? views id ≡ some v → get_elem? views other ≡ some u → get_elem? all id ≡ some w → (i ≢ id → i ≢ other → get_elem? all i ≡ get_elem? views i)
    → (HasSeen base (hands v) → HasSeen base (hands w)) → (HasSeen base (hands u) → HasSeen base (hands w)) → Dec (i ≡ id) → Dec (i ≡ other)
    → (j : ℕ) × ((x : View) × (get_elem? all j ≡ some x) × HasSeen base (hands x))
known_still base views all i id other v u w spent k at there put else mine its (yes e) d =
    (id, (w, put, mine (subst (λ (x : View). HasSeen base (hands x)) (some-injective k.0 v (sym k.1 ∙ (ap (get_elem? views) e ∙ at))) k.2)))
known_still base views all i id other v u w spent k at there put else mine its (no n) (yes e) =
    (id, (w, put, its (subst (λ (x : View). HasSeen base (hands x)) (some-injective k.0 u (sym k.1 ∙ (ap (get_elem? views) e ∙ there))) k.2)))
known_still base views all i id other v u w spent k at there put else mine its (no n) (no m) = (i, (k.0, else n m ∙ k.1, k.2))

-- another view is taken in
pub joins : (start : Session) (id other : ℕ) (h g : Hand) (js : List Hand) → Joins (IsKept start) id (gathered h js) other (waiting g) (both_of (gathered h js) (waiting g)) spent_view
joins start id other h g js s r at ne at' =
    let v : View = gathered h js in
    let u : View = waiting g in
    let w : View = both_of v u in
    let views : List View = s.views in
    let more : List View = set views id w in
    let all : List View = set more other spent_view in
    let there : get_elem? views other ≡ some u = sym (set_else views id other w ne) ∙ at' in
    let both : (P : Hand → Type 0) → ((i : ℕ) (x : View) → get_elem? views i ≡ some x → Each P (hands x)) → (i : ℕ) (x : View) → get_elem? all i ≡ some x → Each P (hands x) =
    λ P each. each_set (λ i x. Each P (hands x)) more other spent_view tt
    (λ i x n1 e. each_set (λ i x. Each P (hands x)) views id w (each_append P (g ∷ []) (h ∷ js) (each other u there) (each id v at)) (λ i x n2 e. each i x e) i x e) in
    let stood : (i : ℕ) (x : View) (actor : ℕ) → get_elem? all i ≡ some x → stands actor (hands x) ≡ true → Stood views id other i actor =
    λ i x actor e. each_set (λ i x. stands actor (hands x) ≡ true → Stood views id other i actor) more other spent_view (λ t. absurd (not_both t refl))
    (λ i x n1 e. each_set (λ i x. i ≢ other → stands actor (hands x) ≡ true → Stood views id other i actor) views id w
    (λ n2 t. ⊎_elim (λ (z : stands actor (g ∷ []) ≡ true). let q : Stood views id other id actor = (other, (u, there, z), inr (refl, refl)) in q)
    (λ (z : stands actor (h ∷ js) ≡ true). let q : Stood views id other id actor = (id, (v, at, z), inl (refl, n2)) in q) (stands_append actor (g ∷ []) (h ∷ js) t))
    (λ i x n2 e n3 t. (i, (x, e, t), inl (refl, n3))) i x e n1) i x e in
    let put : get_elem? all id ≡ some w = set_else more other id spent_view (λ e. ne (sym e)) ∙ set_at views id v w at in
    let Known : Type 0 = (i : ℕ) × ((x : View) × (get_elem? all i ≡ some x) × HasSeen r.base (hands x)) in
    let knew : (i : ℕ) → ((x : View) × (get_elem? views i ≡ some x) × HasSeen r.base (hands x)) → Dec (i ≡ id) → Dec (i ≡ other) → Known =
    λ i k mine its. known_still r.base views all i id other v u w spent_view k at there put (λ n m. set_else more other i spent_view m ∙ set_else views id i w n) (λ t. inr t) (λ t. ⊎_elim (λ e. inl e) (λ e. absurd e) t) mine its in
    record {
      base = r.base;
      held = r.held;
      holder = r.holder;
      home = r.home;
      words = r.words;
      homes = r.homes;
      inside = λ z e. let good = r.inside z e in (good.0, good.1, both (KeepsRoom z.rooms) good.2);
      free = r.free;
      turn = λ t. let holder = r.turn t in
          let not_id : r.holder ≢ id = λ e. not_both holder.2 (ap (λ (x : View). has_turn x.stage) (some-injective holder.0 v (sym holder.1 ∙ (ap (get_elem? views) e ∙ at)))) in
          let not_other : r.holder ≢ other = λ e. not_both holder.2 (ap (λ (x : View). has_turn x.stage) (some-injective holder.0 u (sym holder.1 ∙ (ap (get_elem? views) e ∙ there)))) in
          (holder.0, set_else more other r.holder spent_view not_other ∙ (set_else views id r.holder w not_id ∙ holder.1), holder.2);
      each = λ i x e. (
        both (FitsHand start r.base) (λ i x e. (r.each i x e).0) i x e,
        each_set (λ i x. Knows r.base r.held r.holder r.home all i x x.stage) more other spent_view tt
            (λ i x n1 e. each_set (λ i x. i ≢ other → Knows r.base r.held r.holder r.home all i x x.stage) views id w (λ n2. tt)
            (λ i x n2 e n3. kept_on r.base r.held r.holder r.home views all i both
            (λ P each. each_set (λ j y. j ≢ i → Each P (hands y)) more other spent_view (λ _. tt)
            (λ j y m1 e. each_set (λ j y. j ≢ i → Each P (hands y)) views id w
            (λ n. each_append P (g ∷ []) (h ∷ js) (each other u there (λ o. n3 (sym o))) (each id v at n)) (λ j y m2 e n. each j y e n) j y e))
            x x.stage (r.each i x e).1) i x e n1) i x e,
      );
      known = knew r.known.0 r.known.1 (ℕ_discrete r.known.0 id) (ℕ_discrete r.known.0 other);
      apart = λ i j x y actor ei ej si sj.
          let one = stood i x actor ei si in
          let two = stood j y actor ej sj in
          let same : one.0 ≡ two.0 = r.apart one.0 two.0 one.1.0 two.1.0 actor one.1.1 two.1.1 one.1.2 two.1.2 in
          ⊎_elim (λ (a : (i ≡ one.0) × (one.0 ≢ other)). ⊎_elim (λ (b : (j ≡ two.0) × (two.0 ≢ other)). a.0 ∙ (same ∙ sym b.0)) (λ (b : (j ≡ id) × (two.0 ≡ other)). absurd (a.1 (same ∙ b.1))) two.2)
          (λ (a : (i ≡ id) × (one.0 ≡ other)). ⊎_elim (λ (b : (j ≡ two.0) × (two.0 ≢ other)). absurd (b.1 (sym same ∙ a.1))) (λ (b : (j ≡ id) × (two.0 ≡ other)). a.0 ∙ sym b.0) two.2) one.2;
    }

-- the first state
pub begins : (start : Session) → 0 < start.setting.actors → IsKept start (table_opening ((2 * length start.history + 1) ∷ []) (start ∷ []) (first_view start))
begins start some_actor =
    let first : Hand = newcomer start start.history 0 in
    let one : List View = first_view start ∷ [] in
    record {
      base = start.history;
      held = true;
      holder = 0;
      home = some start;
      words = refl;
      homes = refl;
      inside = λ y e. subst (λ (x : Session). (x.history ≡ start.history) × (x.setting ≡ start.setting) × ((i : ℕ) (u : View) → get_elem? one i ≡ some u → Each (KeepsRoom x.rooms) (hands u))) (some-injective start y e)
          (refl, refl, each_one (λ i u. Each (KeepsRoom start.rooms) (hands u)) (first_view start) ((λ t. absurd (not_both t refl)), tt));
      free = λ e. absurd (not_both refl e);
      turn = λ _. (first_view start, refl, refl);
      each = each_one (λ i u. Each (FitsHand start start.history) (hands u) × Knows start.history true 0 (some start) one i u u.stage) (first_view start) (
        ((refl, some_actor, prefix_refl start.history start.history refl, refl), tt),
        (refl, refl, refl, (start, refl), each_one (λ j u. Each (λ g. g.actor < 1) (hands u)) (first_view start) (omega arith, tt)),
      );
      known = (0, (first_view start, refl, inl refl));
      apart = λ i j v w actor ei ej si sj. each_one (λ k u. k ≡ j) (first_view start) (each_one (λ k u. 0 ≡ k) (first_view start) refl j w ej) i v ei;
    }

own_stands : (u : View) (st : Stage) → has_turn st ≡ true → stands u.own.actor (hands_at st u.own u.joined) ≡ true
own_stands u Spent e = absurd (not_both e refl)
own_stands u Waits e = absurd (not_both e refl)
own_stands u (Holds others) e = stands_own u.own u.joined
own_stands u (Opens next) e = stands_own u.own u.joined

own_fits : (P : Hand → Type 0) (u : View) (st : Stage) → has_turn st ≡ true → Each P (hands_at st u.own u.joined) → P u.own
own_fits P u Spent e p = absurd (not_both e refl)
own_fits P u Waits e p = absurd (not_both e refl)
own_fits P u (Holds others) e p = p.0
own_fits P u (Opens next) e p = p.0

-- Where one view stands for all actors, the turn is free.
pub closes : (start : Session) (id : ℕ) (h : Hand) (js : List Hand) (s : State Session View) → Seen (IsKept start) id (gathered h js) s
    → ((actor : ℕ) → actor < start.setting.actors → stands actor (h ∷ js) ≡ true)
    → (y : Session) × (s.homes ≡ some y ∷ []) × (y.setting ≡ start.setting) × Each (λ g. IsPrefix g.seen y.history × (g.made ≡ entries_by g.actor y.history)) (h ∷ js)
closes start id h js s seen all =
    let r = seen.0 in
    let v : View = gathered h js in
    let free : r.held ≡ false = not_held r.held (λ t. let u = r.turn t in
    let fits = own_fits (FitsHand start r.base) u.0 u.0.stage u.2 (r.each r.holder u.0 u.1).0 in
    let same : r.holder ≡ id = r.apart r.holder id u.0 v u.0.own.actor u.1 seen.1 (own_stands u.0 u.0.stage u.2) (all u.0.own.actor fits.1) in
    let view : u.0 ≡ v = some-injective u.0 v (sym u.1 ∙ (ap (get_elem? s.views) same ∙ seen.1)) in
    not_both u.2 (ap (λ (x : View). has_turn x.stage) view)) in
    let y = (r.free free).0 in
    let good = r.inside y (r.free free).1 in (
      y,
      r.homes ∙ ap (λ (o : Option Session). o ∷ []) (r.free free).1,
      good.1,
      each_with (FitsHand start r.base) (λ g. IsPrefix g.seen y.history × (g.made ≡ entries_by g.actor y.history)) (h ∷ js)
          (λ g m p. (prefix_more g.seen r.base [] y.history p.2 (good.0 ∙ sym (append_nil r.base)), p.3 ∙ ap (entries_by g.actor) (sym good.0))) (r.each id v seen.1).0,
    )
  where
    not_held : (b : Bool) → (b ≡ true → ⊥) → b ≡ false
    not_held true f = absurd (f refl)
    not_held false f = refl
