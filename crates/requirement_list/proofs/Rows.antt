-- What is listed for items: rows of a table, and the dependencies that they give.
use Rattle.std.proofs.Common.{inl, inr, ◌⊎◌, ◌≡◌, ◌<◌, ◌≤◌, ◌+◌, ◌∙◌, ℕ, zero, suc, List, [], ◌∷◌, ◌++◌, Bool, true, false, ◌&&◌, not, cond, map, length, get_or, refl, sym, ap, subst, arith, nat_lt, length-append}
use Rattle.std.specs.Prelude.{◌==◌, Option, Some, Result, IfSome}
use Rattle.std.specs.List.{filter, list_all, slice_get, slice_range}
use Rattle.std.proofs.lemmas.Bool.{and_from}
use Rattle.lists.specs.Below.{below}
use Rattle.lists.specs.Sets.{is_rising}
use Rattle.dep_fields.specs.Relationships.{Relationship}
use Rattle.meeting_index.specs.Keys.{IsKeyOf}
use Rattle.meeting_index.specs.declared.keys.AnswerKey.{AnswerKey}
use Rattle.requirement_list.proofs.SameAnswers.{same_row}
use Rattle.universe_model.specs.Versions.{Version, is_of}
use Rattle.universe_model.specs.Meeting.{meets}
use Rattle.universe_model.specs.Dependencies.{Setting, Requirement, is_met_in, unmet_in, avoided, concerned, of_conflict}
use Rattle.meeting_index.proofs.Numbers.{numbers_from-below}
use Rattle.requirement_list.specs.Extents.{lists, Serves}
use Rattle.requirement_list.specs.Left.{Left, nothing_left, is_sound, opposed, of_left, others}
use Rattle.requirement_list.specs.Answers.{met_packages, left_by, row_of, index_in, IsRow, AreRows, IsKept}
use Rattle.requirement_list.specs.declared.answers.Answers.{Answers}
use Rattle.requirement_list.specs.declared.answers.Extent.{Extent}
use Rattle.requirement_list.specs.declared.answers.Row.{Row}
use Rattle.requirement_list.proofs.FlatLeft.{range_more, range_end, range_next}
use Rattle.requirement_list.proofs.Collecting.{filter-front}
use Rattle.std.proofs.lemmas.List.{map-append}
use Rattle.meeting_index.specs.Indexes.{Indexed}
use Rattle.requirement_list.specs.Settings.{setting_of}
use Rattle.requirement_list.specs.Collecting.{Adds}
use Rattle.universe_model.specs.declared.BuildEnd.{BuildEnd}
use Rattle.requirement_list.specs.declared.collected.Collected.{Collected}
use Rattle.requirement_list.proofs.Numbers.{numbers_rise}

-- ---- what a row gives

-- its versions rise, and are versions
pub row_sound : (s : Setting) (item : Relationship) (extent : Extent) → list_all (is_sound (length s.versions)) (row_of s item extent) ≡ true
row_sound s item extent = each (met_packages s item)
  where
    one : (q : ℕ) → is_sound (length s.versions) (left_by s item extent q) ≡ true
    one q =
        elim (lists extent q) as (λ b. (is_rising (cond b (unmet_in s item q) []) && list_all (λ v. nat_lt v (length s.versions)) (cond b (unmet_in s item q) [])) ≡ true) [
          | true ↦ and_from (is_rising (unmet_in s item q)) _ (numbers_rise (λ (v : Version). is_of q v && not (meets s.native item v)) s.versions)
              (numbers_from-below (length s.versions) 0 (λ (v : Version). is_of q v && not (meets s.native item v)) s.versions (omega arith))
          | false ↦ refl
        ]

    each : (qs : List ℕ) → list_all (is_sound (length s.versions)) (map (left_by s item extent) qs) ≡ true
    each [] = refl
    each (q ∷ qs) = and_from (is_sound (length s.versions) (left_by s item extent q)) _ (one q) (each qs)

filter_both : (p q : ℕ → Bool) (xs : List ℕ) → filter p (filter q xs) ≡ filter (λ x. p x && q x) xs
filter_both p q [] = refl
filter_both p q (x ∷ xs) =
    elim (q x) as (λ b. filter p (cond b (x ∷ filter q xs) (filter q xs)) ≡ cond (p x && b) (x ∷ filter (λ x. p x && q x) xs) (filter (λ x. p x && q x) xs)) [
      | true ↦ elim (p x) as (λ a. cond a (x ∷ filter p (filter q xs)) (filter p (filter q xs)) ≡ cond (a && true) (x ∷ filter (λ x. p x && q x) xs) (filter (λ x. p x && q x) xs)) [
        | true ↦ ap (λ ys. x ∷ ys) (filter_both p q xs)
        | false ↦ filter_both p q xs
      ]
      | false ↦ elim (p x) as (λ a. filter p (filter q xs) ≡ cond (a && false) (x ∷ filter (λ x. p x && q x) xs) (filter (λ x. p x && q x) xs)) [
        | true ↦ filter_both p q xs
        | false ↦ filter_both p q xs
      ]
    ]

-- the packages other than the source's own are those that the item concerns
pub other_packages : (s : Setting) (item : Relationship) (extent : Extent) (own : ℕ) → others own (row_of s item extent) ≡ concerned s own item
other_packages s item extent own =
    ap (filter (λ q. not (q == own))) (owners (met_packages s item)) ∙ filter_both (λ q. not (q == own)) (is_met_in s item) (below (length s.installed))
  where
    owners : (qs : List ℕ) → map (λ (left : Left). left.owner) (map (left_by s item extent) qs) ≡ qs
    owners [] = refl
    owners (q ∷ qs) = ap (λ rest. q ∷ rest) (owners qs)

-- the dependencies on what is left of them
pub left_avoided : (s : Setting) (source own : ℕ) (item : Relationship) (extent : Extent) → Serves extent own
    → of_left source own (row_of s item extent) ≡ map (avoided s source item) (others own (row_of s item extent))
left_avoided s source own item extent serves = each (met_packages s item)
  where
    each : (qs : List ℕ) → of_left source own (map (left_by s item extent) qs) ≡ map (avoided s source item) (others own (map (left_by s item extent) qs))
    each [] = refl
    each (q ∷ qs) =
        elim (q == own) as (λ b. (q == own) ≡ b → of_left source own (map (left_by s item extent) (q ∷ qs)) ≡ map (avoided s source item) (others own (map (left_by s item extent) (q ∷ qs)))) [
          | true ↦ λ e. rw e (each qs)
          | false ↦ λ e. rw (e, serves q e) (ap (λ rs. avoided s source item q ∷ rs) (each qs))
        ] refl

-- the first of a range, and the rest
pub counted_front : (f : ℕ → Requirement) (own : ℕ) (table : List Left) (place end : ℕ) → place < end → end ≤ length table
    → map f (others own (slice_range table place end)) ≡ map f (others own (get_or table place nothing_left ∷ [])) ++ map f (others own (slice_range table (place + 1) end))
counted_front f own table place end lt le =
    let first = get_or table place nothing_left in
    let rest = slice_range table (place + 1) end in
    ap (λ lefts. map f (others own lefts)) (range_next table nothing_left place end lt le)
    ∙ ap (map f) (filter-front (λ q. not (q == own)) first.owner (map (λ (left : Left). left.owner) rest))
    ∙ map-append f (others own (first ∷ [])) (others own rest)

pub left_front : (source own : ℕ) (table : List Left) (place end : ℕ) → place < end → end ≤ length table
    → of_left source own (slice_range table place end) ≡ of_left source own (get_or table place nothing_left ∷ []) ++ of_left source own (slice_range table (place + 1) end)
left_front source own table place end lt le =
    let first = get_or table place nothing_left in
    let rest = slice_range table (place + 1) end in
    let other = λ (left : Left). not (left.owner == own) in
    ap (of_left source own) (range_next table nothing_left place end lt le)
    ∙ ap (map (opposed source)) (filter-front other first rest)
    ∙ map-append (opposed source) (filter other (first ∷ [])) (filter other rest)

-- the same rows in the settings of two states
pub rows_along : (index : Indexed) (old now : Collected) (answers : Answers) → now.builder.starts ≡ old.builder.starts → AreRows (setting_of index old) answers → AreRows (setting_of index now) answers
rows_along index old now answers e h =
    let P : List ℕ → Type 0 = λ starts. AreRows (record { native = index.native; versions = index.versions; installed = starts }) answers in
    subst P (sym e) h

-- ---- rows that are kept

get_end : {A : Type 0} (xs : List A) (x y : A) (k : ℕ) → slice_get (xs ++ x ∷ []) k ≡ Some y → (slice_get xs k ≡ Some y) ⊎ (y ≡ x)
get_end [] x y zero h = inr (cc)
get_end [] x y (suc k) h = absurd (cc)
get_end (z ∷ xs) x y zero h = inl h
get_end (z ∷ xs) x y (suc k) h = get_end xs x y k h

row_more : (s : Setting) (table more : List Left) (row : Row) → IsRow s table row → IsRow s (table ++ more) row
row_more s table more row h = record {
  order = h.order;
  within = omega (arith, h.within, length-append table more);
  is = λ item k. range_more table more row.first row.end h.order h.within ∙ h.is item k;
}

pub rows_kept : (s : Setting) (item : Relationship) (old new : Answers) (row : Row) (listed : List Left) → new.rows.items ≡ old.rows.items ++ row ∷ [] → new.table ≡ old.table ++ listed
    → row.first ≡ length old.table → row.end ≡ length new.table → IsKeyOf (index_in s) item row.key → listed ≡ row_of s item row.extent → AreRows s old → AreRows s new
rows_kept s item old new row listed rows table first end key is h = record { each = each }
  where
    own : IsRow s (old.table ++ listed) row
    own = record {
      order = omega (arith, first, end, ap length table, length-append old.table listed);
      within = omega (arith, end, ap length table);
      is = λ other k. rw (first, end, table) (range_end old.table listed) ∙ is ∙ same_row s item other row.key row.extent key k;
    }

    each : (place : ℕ) (other : Row) → slice_get new.rows.items place ≡ Some other → IsRow s new.table other
    each place other there =
        let P : List Left → Type 0 = λ t. IsRow s t other in
        subst P (sym table) (elim (get_end old.rows.items row other place (ap (λ rs. slice_get rs place) (sym rows) ∙ there)) as (λ _. IsRow s (old.table ++ listed) other) [
          | inl before ↦ row_more s old.table listed other (h.each place other before)
          | inr same ↦ let Q : Row → Type 0 = λ r. IsRow s (old.table ++ listed) r in subst Q (sym same) own
        ])

-- ---- what is added from a row

pub listed_sound : (s : Setting) (item : Relationship) (extent : Extent) (count : ℕ) (table : List Left) (first end : ℕ) → count ≡ length s.versions → slice_range table first end ≡ row_of s item extent
    → list_all (is_sound count) (slice_range table first end) ≡ true
listed_sound s item extent count table first end size is = rw (is, size) (row_sound s item extent)

pub row_adds : (s : Setting) (source own : ℕ) (item : Relationship) (extent : Extent) (left : List Left) (old : Collected) (result : Result Unit BuildEnd) (new : Collected) (past : Bool)
    → left ≡ row_of s item extent → (past ≡ false → Serves extent own)
    → ((f : ℕ → Requirement) → (past ≡ false → of_left source own left ≡ map f (others own left)) → Adds (map f (others own left)) old result new)
    → Adds (of_conflict s source own item) old result new
row_adds s source own item extent left old result new past is serves h =
    let f = avoided s source item in
    let P : List Left → Type 0 = λ ls. of_left source own ls ≡ map f (others own ls) in
    let Q : List Requirement → Type 0 = λ rs. Adds rs old result new in
    let given = h f (λ e. subst P (sym is) (left_avoided s source own item extent (serves e))) in
    subst Q (ap (λ ls. map f (others own ls)) is ∙ ap (map f) (other_packages s item extent own)) given

-- ---- a row that is kept

pub kept_row : (s : Setting) (answers : Answers) (key : Option AnswerKey) (row : Row) → AreRows s answers → IsKept answers key row → IsRow s answers.table row
kept_row s answers key row h kept = h.each kept.place row kept.there

pub kept_is : (s : Setting) (answers : Answers) (key : Option AnswerKey) (row : Row) (item : Relationship) → AreRows s answers → IsKept answers key row → IfSome key (IsKeyOf (index_in s) item)
    → slice_range answers.table row.first row.end ≡ row_of s item row.extent
kept_is s answers key row item h kept given =
    let P : Option AnswerKey → Type 0 = λ k. IfSome k (IsKeyOf (index_in s) item) in
    (h.each kept.place row kept.there).is item (subst P kept.same given)
