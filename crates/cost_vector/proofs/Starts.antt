-- How far a list of parts can be read, from how far its parts can.
use Rattle.std.proofs.Common.{◌≡◌, ℕ, suc, ◌+◌, ◌-◌, ◌<◌, ◌≤◌, List, [], ◌∷◌, ◌++◌, length, Bool, true, false, not, cond, nat_eq, nat_le, Option, Some, None, is_some, refl, sym, ap, ◌∙◌, inl, inr, ◌⊎◌, append_assoc, append-nil, arith}
use Rattle.std.specs.Option.{option_map}
use Rattle.std.proofs.lemmas.Bool.{and_from, and_parts, ne_eqb, eqb-true, eqb-false, le-leb, lt-leb, leb-true, leb-false, cases_Bool}
use Rattle.std.proofs.lemmas.List.{length-append}
use Rattle.std.proofs.lemmas.List.Folds.{list_all-append}
use Rattle.cost_vector.specs.Grammar.{parts, join, all_of, listed}
use Rattle.cost_vector.specs.Reading.{IsStart, IsStop, Reads, IsPartway}
use Rattle.cost_vector.proofs.Parts.{lacks, cut, parts-onto, parts-one, parts-at}

-- no text of the kind has the byte
abbrev pub Lacks : {A : Type 0} → ℕ → (List ℕ → Option A) → Type 0
Lacks c f = (text : List ℕ) → is_some (f text) ≡ true → lacks c text ≡ true

pub lacks-front : (c : ℕ) (front back : List ℕ) → lacks c (front ++ back) ≡ true → lacks c front ≡ true
lacks-front c front back h = (and_parts (lacks c front) (lacks c back) (sym (list_all-append (λ b. not (nat_eq b c)) front back) ∙ h)).0

pub lacks-append : (c : ℕ) (front back : List ℕ) → lacks c front ≡ true → lacks c back ≡ true → lacks c (front ++ back) ≡ true
lacks-append c front back h k = list_all-append (λ b. not (nat_eq b c)) front back ∙ and_from (lacks c front) (lacks c back) h k

-- a start of a text of the kind has none of the bytes that the kind lacks
pub lacks-start : {A : Type 0} (c : ℕ) (f : List ℕ → Option A) (bytes : List ℕ) → Lacks c f → IsStart f bytes → lacks c bytes ≡ true
lacks-start c f bytes none start = lacks-front c bytes start.0 (none (bytes ++ start.0) start.1)

pub is_some-option_map : {A B : Type 0} (h : A → B) (o : Option A) → is_some (option_map h o) ≡ is_some o
is_some-option_map h None = refl
is_some-option_map h (Some x) = refl

-- Where a text of the other kind is a front and a text of the kind, it is read behind the front.
pub reads_behind : {A B : Type 0} (f : List ℕ → Option A) (g : List ℕ → Option B) (h : A → B) (front : List ℕ) → ((text : List ℕ) → g (front ++ text) ≡ option_map h (f text))
    → (whole left : List ℕ) (value : Option A) → Reads f whole left value → Reads g (front ++ whole) left (option_map h value)
reads_behind f g h front same whole left value r = record {
  bytes = front ++ r.bytes;
  split = ap (λ text. front ++ text) r.split ∙ sym (append_assoc front r.bytes left);
  start = (r.start.0, ap is_some (ap g (append_assoc front r.bytes r.start.0) ∙ same (r.bytes ++ r.start.0)) ∙ is_some-option_map h (f (r.bytes ++ r.start.0)) ∙ r.start.1);
  stop = stops left r.stop;
  is = ap (option_map h) r.is ∙ sym (same r.bytes);
}
  where
    stops : (left : List ℕ) → IsStop f r.bytes left → IsStop g (front ++ r.bytes) left
    stops [] stop = tt
    stops (b ∷ bs) stop = λ rest. ap g (append_assoc front r.bytes (b ∷ rest)) ∙ same (r.bytes ++ b ∷ rest) ∙ ap (option_map h) (stop rest)

-- A list of parts.
join-one : {A : Type 0} (o : Option A) → join o (Some []) ≡ option_map (λ item. item ∷ []) o
join-one None = refl
join-one (Some x) = refl

join-some : {A : Type 0} (item : A) (o : Option (List A)) → join (Some item) o ≡ option_map (λ items. item ∷ items) o
join-some item None = refl
join-some item (Some items) = refl

nat_le-suc : (m n : ℕ) → nat_le (suc m) (suc n) ≡ nat_le m n
nat_le-suc m n = elim (cases_Bool (nat_le m n)) as (λ _. nat_le (suc m) (suc n) ≡ nat_le m n) [
  | inl within ↦ le-leb (suc m) (suc n) (let le : m ≤ n = leb-true m n within in omega arith) ∙ sym within
  | inr above ↦ lt-leb (suc m) (suc n) (let lt : n < m = leb-false m n above in omega arith) ∙ sym above
]

module _ {A : Type 0} (c : ℕ) (f : List ℕ → Option A) where
  -- one part
  pub listed-one : (most : ℕ) (text : List ℕ) → lacks c text ≡ true → listed c (suc most) f text ≡ option_map (λ item. item ∷ []) (f text)
  listed-one most text h =
      let few : nat_le 1 (suc most) ≡ true = le-leb 1 (suc most) (omega arith) in
      rw (parts-one c text h, few) (join-one (f text))

  -- one part, and others behind it
  pub listed-more : (most : ℕ) (text more : List ℕ) (item : A) → lacks c text ≡ true → f text ≡ Some item → listed c (suc most) f (text ++ c ∷ more) ≡ option_map (λ items. item ∷ items) (listed c most f more)
  listed-more most text more item h e =
      rw (parts-at c text more h, e, nat_le-suc (length (parts c more)) most) (by_test (nat_le (length (parts c more)) most))
    where
      by_test : (t : Bool) → cond t (join (Some item) (all_of f (parts c more))) None ≡ option_map (λ items. item ∷ items) (cond t (all_of f (parts c more)) None)
      by_test true = join-some item (all_of f (parts c more))
      by_test false = refl

  -- a part that is none of the kind
  none_of : (most : ℕ) (text part : List ℕ) (others : List (List ℕ)) → parts c text ≡ part ∷ others → f part ≡ None → listed c most f text ≡ None
  none_of most text part others e h = rw (e, h) (either (nat_le (length (part ∷ others)) most))
    where
      either : (t : Bool) → cond {A = Option (List A)} t None None ≡ None
      either true = refl
      either false = refl

  pub listed-none : (most : ℕ) (text more : List ℕ) → lacks c text ≡ true → f text ≡ None → listed c most f (text ++ c ∷ more) ≡ None
  listed-none most text more h e = none_of most (text ++ c ∷ more) text (parts c more) (parts-at c text more h) e

  -- a part that no text of the kind begins with
  pub listed-stop : (most : ℕ) (text : List ℕ) (b : ℕ) → lacks c text ≡ true → (b ≡ c → ⊥) → ((rest : List ℕ) → f (text ++ b ∷ rest) ≡ None) → (rest : List ℕ) → listed c most f (text ++ b ∷ rest) ≡ None
  listed-stop most text b h apart stop rest =
      let rest_cut = cut c rest in
      let front : lacks c (text ++ b ∷ []) ≡ true = lacks-append c text (b ∷ []) h (rw (ne_eqb b c apart) refl) in
      let at : parts c (text ++ b ∷ rest) ≡ (text ++ b ∷ rest_cut.first) ∷ rest_cut.others = simp append_assoc at (parts-onto c (text ++ b ∷ []) rest rest_cut.first rest_cut.others front rest_cut.is) in
      none_of most (text ++ b ∷ rest) (text ++ b ∷ rest_cut.first) rest_cut.others at (stop rest_cut.first)

  -- more parts than may be
  pub listed-past : (text more : List ℕ) → lacks c text ≡ true → listed c 1 f (text ++ c ∷ more) ≡ None
  listed-past text more h =
      let more_cut = cut c more in
      let many : nat_le (length (text ∷ parts c more)) 1 ≡ false = lt-leb (length (text ∷ parts c more)) 1 (let e : length (parts c more) ≡ suc (length more_cut.others) = ap length more_cut.is in omega arith) in
      rw (parts-at c text more h, many) refl

  module _ (none : Lacks c f) where
    -- the part that is read is none of the kind, so the list is none
    pub reads_fault : (most : ℕ) (whole left : List ℕ) → Reads f whole left None → Reads (listed c (suc most) f) whole left None
    reads_fault most whole left r =
        let free = lacks-start c f r.bytes none r.start in
        let whole_part = lacks-append c r.bytes r.start.0 free in
        record {
          bytes = r.bytes;
          split = r.split;
          start = (r.start.0, ap is_some (listed-one most (r.bytes ++ r.start.0) (none (r.bytes ++ r.start.0) r.start.1)) ∙ is_some-option_map (λ item. item ∷ []) (f (r.bytes ++ r.start.0)) ∙ r.start.1);
          stop = stops left free r.stop;
          is = ap (option_map (λ item. item ∷ [])) r.is ∙ sym (listed-one most r.bytes free);
        }
      where
        stops : (left : List ℕ) → lacks c r.bytes ≡ true → IsStop f r.bytes left → IsStop (listed c (suc most) f) r.bytes left
        stops [] free stop = tt
        stops (b ∷ bs) free stop = λ rest. elim (cases_Bool (nat_eq b c)) as (λ _. listed c (suc most) f (r.bytes ++ b ∷ rest) ≡ None) [
          | inl same ↦ let e : b ≡ c = eqb-true b c same in rw e (listed-none (suc most) r.bytes rest free (sym r.is))
          | inr other ↦ listed-stop (suc most) r.bytes b free (eqb-false b c other) stop rest
        ]

    -- nothing may follow the part that is read
    abbrev pub IsEnd : ℕ → List ℕ → Type 0
    IsEnd most [] = Unit {0}
    IsEnd most (b ∷ bs) = (b ≡ c → ⊥) ⊎ (most ≡ 0)

    pub reads_last : (most : ℕ) (whole left : List ℕ) (item : A) → Reads f whole left (Some item) → IsEnd most left → Reads (listed c (suc most) f) whole left (Some (item ∷ []))
    reads_last most whole left item r end =
        let free = lacks-start c f r.bytes none r.start in
        let value : Some (item ∷ []) ≡ listed c (suc most) f r.bytes = ap (option_map (λ item. item ∷ [])) r.is ∙ sym (listed-one most r.bytes free) in
        record {
          bytes = r.bytes;
          split = r.split;
          start = ([], rw append-nil (ap is_some (sym value)));
          stop = stops left free end r.stop;
          is = value;
        }
      where
        stops : (left : List ℕ) → lacks c r.bytes ≡ true → IsEnd most left → IsStop f r.bytes left → IsStop (listed c (suc most) f) r.bytes left
        stops [] free end stop = tt
        stops (b ∷ bs) free end stop = λ rest. elim (cases_Bool (nat_eq b c)) as (λ _. listed c (suc most) f (r.bytes ++ b ∷ rest) ≡ None) [
          | inl same ↦ let e : b ≡ c = eqb-true b c same in elim end as (λ _. listed c (suc most) f (r.bytes ++ b ∷ rest) ≡ None) [
            | inl apart ↦ absurd (apart e)
            | inr full ↦ rw (e, full) (listed-past r.bytes rest free)
          ]
          | inr other ↦ listed-stop (suc most) r.bytes b free (eqb-false b c other) stop rest
        ]

    -- The list, part by part.
    pub partway-none : (most : ℕ) (whole : List ℕ) → 0 < most → IsPartway c most f whole whole []
    partway-none most whole h = record {
      bytes = [];
      split = refl;
      fewer = h;
      goes_on = λ more. let e : most - 0 ≡ most = omega arith in rw e (sym (option_map-id (listed c most f more)));
    }
      where
        option_map-id : {B : Type 0} (o : Option (List B)) → option_map (λ items. [] ++ items) o ≡ o
        option_map-id None = refl
        option_map-id (Some items) = refl

    pub partway-more : (most : ℕ) (whole left rest : List ℕ) (done : List A) (item : A) → IsPartway c most f whole left done → Reads f left (c ∷ rest) (Some item) → length done + 1 < most
        → IsPartway c most f whole rest (done ++ item ∷ [])
    partway-more most whole left rest done item p r fewer =
        let free = lacks-start c f r.bytes none r.start in
        let count : length (done ++ item ∷ []) ≡ length done + 1 = length-append done (item ∷ []) in
        let room : most - length done ≡ suc (most - length (done ++ item ∷ [])) = omega arith in
        record {
          bytes = p.bytes ++ r.bytes ++ c ∷ [];
          split = p.split ∙ ap (λ text. p.bytes ++ text) r.split ∙ simp append_assoc;
          fewer = omega arith;
          goes_on = λ more.
              let regroup : (p.bytes ++ r.bytes ++ c ∷ []) ++ more ≡ p.bytes ++ (r.bytes ++ c ∷ more) = simp append_assoc in
              let step : listed c (most - length done) f (r.bytes ++ c ∷ more) ≡ option_map (λ items. item ∷ items) (listed c (most - length (done ++ item ∷ [])) f more) = rw room (listed-more (most - length (done ++ item ∷ [])) r.bytes more item free (sym r.is)) in
              rw regroup (p.goes_on (r.bytes ++ c ∷ more) ∙ ap (option_map (λ items. done ++ items)) step ∙ twice (listed c (most - length (done ++ item ∷ [])) f more));
        }
      where
        twice : (o : Option (List A)) → option_map (λ items. done ++ items) (option_map (λ items. item ∷ items) o) ≡ option_map (λ items. (done ++ item ∷ []) ++ items) o
        twice None = refl
        twice (Some items) = ap Some (sym (append_assoc done (item ∷ []) items))

    pub partway-fault : (most : ℕ) (whole left rest : List ℕ) (done : List A) → IsPartway c most f whole left done → Reads f left rest None → Reads (listed c most f) whole rest None
    partway-fault most whole left rest done p r =
        let room : most - length done ≡ suc (most - length done - 1) = let fewer = p.fewer in omega arith in
        let all = reads_behind (listed c (suc (most - length done - 1)) f) (listed c most f) (λ items. done ++ items) p.bytes (λ text. p.goes_on text ∙ ap (λ n. option_map (λ items. done ++ items) (listed c n f text)) room) left rest None (reads_fault (most - length done - 1) left rest r) in
        rw p.split all

    pub partway-end : (most : ℕ) (whole left rest : List ℕ) (done : List A) (item : A) → IsPartway c most f whole left done → Reads f left rest (Some item) → IsEnd (most - length done - 1) rest
        → Reads (listed c most f) whole rest (Some (done ++ item ∷ []))
    partway-end most whole left rest done item p r end =
        let room : most - length done ≡ suc (most - length done - 1) = let fewer = p.fewer in omega arith in
        let all = reads_behind (listed c (suc (most - length done - 1)) f) (listed c most f) (λ items. done ++ items) p.bytes (λ text. p.goes_on text ∙ ap (λ n. option_map (λ items. done ++ items) (listed c n f text)) room) left rest (Some (item ∷ [])) (reads_last (most - length done - 1) left rest item r end) in
        rw p.split all
