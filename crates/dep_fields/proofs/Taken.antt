-- What a reader gives is in the grammar.
use Rattle.std.proofs.Common.{◌≡◌, ℕ, Bool, true, false, cond, ◌==◌, List, [], ◌∷◌, ◌++◌, refl, sym, ap, ◌∙◌, subst, inl, inr, eqb-true, append_assoc, append-nil}
use Rattle.std.specs.Prelude.{Option, Some, None, option_map}
use Rattle.std.specs.List.{list_all, prefix_len, take_while}
use Rattle.std.specs.Char.{is_ascii_alphanumeric}
use Rattle.std.proofs.lemmas.Bool.{and_from}
use Rattle.std.proofs.lemmas.List.{take-append-drop}
use Rattle.std.proofs.lemmas.List.Folds.{list_all-append}
use Rattle.deb_version.specs.Versions.{is_version, parts}
use Rattle.dep_fields.specs.declared.Op.{Op}
use Rattle.dep_fields.specs.declared.Op.TheVariants as op
use Rattle.dep_fields.specs.Tokens.{is_blank, is_name_byte, is_arch_byte, is_in_version, is_name, begins, behind, run_at, some_token, name_at, arch_at, version_at, less_at, more_at, op_at, close_at}
use Rattle.dep_fields.specs.Relationships.{Relationship, VersionBound, ◌>>=◌, bound_at, some_bound, rel_at, relationship_at}
use Rattle.dep_fields.specs.Grammar.{are_blanks, IsOp, arch_text, IsArch, IsItem}
use Rattle.lists.proofs.Tests.{list_all-prefix}
use Rattle.lists.proofs.Options.{option_map-some}

-- ---- options

pub bind-some : {A B : Type 0} (o : Option A) (f : A → Option B) (y : B) → (o >>= f) ≡ Some y → (x : A) × (o ≡ Some x) × (f x ≡ Some y)
bind-some None f y h = cc
bind-some (Some x) f y h = (x, refl, h)

some-same : {A : Type 0} (x y : A) → Some x ≡ Some y → x ≡ y
some-same x y h = cc

chosen : {A : Type 0} (b : Bool) (x y : A) → cond b (Some x) None ≡ Some y → (b ≡ true) × (x ≡ y)
chosen true x y h = (refl, cc)
chosen false x y h = cc

-- ---- tokens

blank-run : (text : List ℕ) → text ≡ take_while is_blank text ++ behind is_blank text
blank-run text = sym (take-append-drop (prefix_len is_blank text) text)

-- a run that was taken, and the rest
record Run (test : ℕ → Bool) (is_token : List ℕ → Bool) (text : List ℕ) (read : List ℕ × List ℕ) : Type 0 where
  whole : text ≡ read.0 ++ read.1
  passes : list_all test read.0 ≡ true
  token : is_token read.0 ≡ true

run-taken : (test : ℕ → Bool) (is_token : List ℕ → Bool) (text : List ℕ) (read : List ℕ × List ℕ) → run_at test is_token text ≡ Some read → Run test is_token text read
run-taken test is_token text read h =
    let c = chosen (is_token (take_while test text)) (take_while test text, behind test text) read h in
    let P : List ℕ × List ℕ → Type 0 = λ r. Run test is_token text r in
    subst P c.1 (record { whole = sym (take-append-drop (prefix_len test text) text); passes = list_all-prefix test text; token = c.0 })

-- the value and the rest that were read
abbrev TakesName : List ℕ → List ℕ × List ℕ → Type 0
TakesName text read = (text ≡ read.0 ++ read.1) × (is_name read.0 ≡ true)

name-taken : (text : List ℕ) (read : List ℕ × List ℕ) → name_at text ≡ Some read → TakesName text read
unfolding name_at
name-taken text read h =
    let run = run-taken is_name_byte (begins is_ascii_alphanumeric) text read h in
    (run.whole, and_from _ _ run.token run.passes)

abbrev TakesVersion : List ℕ → List ℕ × List ℕ → Type 0
TakesVersion text read = (text ≡ read.0 ++ read.1) × (is_version read.0 ≡ true)

version-taken : (text : List ℕ) (read : List ℕ × List ℕ) → version_at text ≡ Some read → TakesVersion text read
unfolding version_at
version-taken text read h =
    let run = run-taken is_in_version is_version text read h in
    (run.whole, run.token)

abbrev TakesArch : List ℕ → Option (List ℕ) × List ℕ → Type 0
TakesArch text read = (text ≡ arch_text read.0 ++ read.1) × IsArch read.0

arch-taken : (text : List ℕ) (read : Option (List ℕ) × List ℕ) → arch_at text ≡ Some read → TakesArch text read
unfolding arch_at
arch-taken [] read h = subst (λ (r : Option (List ℕ) × List ℕ). TakesArch [] r) (some-same (None, []) read h) (refl, tt)
arch-taken (byte ∷ text) read h = by (byte == 58) refl h
  where
    by : (b : Bool) → (byte == 58) ≡ b → cond b (option_map some_token (run_at is_arch_byte (begins is_arch_byte) text)) (Some (None, byte ∷ text)) ≡ Some read → TakesArch (byte ∷ text) read
    by true e h =
        let m = option_map-some some_token (run_at is_arch_byte (begins is_arch_byte) text) read h in
        let run = run-taken is_arch_byte (begins is_arch_byte) text m.0 m.1 in
        let whole : byte ∷ text ≡ 58 ∷ (m.0.0 ++ m.0.1) = ap (λ (b : ℕ). b ∷ text) (eqb-true byte 58 e) ∙ ap (λ (t : List ℕ). 58 ∷ t) run.whole in
        subst (λ (r : Option (List ℕ) × List ℕ). TakesArch (byte ∷ text) r) m.2 (whole, and_from _ _ run.token run.passes)
    by false e h = subst (λ (r : Option (List ℕ) × List ℕ). TakesArch (byte ∷ text) r) (some-same (None, byte ∷ text) read h) (refl, tt)

abbrev TakesOp : List ℕ → Op × List ℕ → Type 0
TakesOp text read = (sign : List ℕ) × IsOp read.0 sign × (text ≡ sign ++ read.1)

-- behind '<' and '>'
less-taken : (text : List ℕ) → TakesOp (60 ∷ text) (less_at text)
less-taken [] = (60 ∷ [], inr refl, refl)
less-taken (byte ∷ text) = by (byte == 60) (byte == 61) refl refl
  where
    by : (b c : Bool) → (byte == 60) ≡ b → (byte == 61) ≡ c → TakesOp (60 ∷ byte ∷ text) (cond b (op.Less, text) (cond c (op.AtMost, text) (op.AtMost, byte ∷ text)))
    by true c e d = (60 ∷ 60 ∷ [], refl, ap (λ (b : ℕ). 60 ∷ b ∷ text) (eqb-true byte 60 e))
    by false true e d = (60 ∷ 61 ∷ [], inl refl, ap (λ (b : ℕ). 60 ∷ b ∷ text) (eqb-true byte 61 d))
    by false false e d = (60 ∷ [], inr refl, refl)

more-taken : (text : List ℕ) → TakesOp (62 ∷ text) (more_at text)
more-taken [] = (62 ∷ [], inr refl, refl)
more-taken (byte ∷ text) = by (byte == 62) (byte == 61) refl refl
  where
    by : (b c : Bool) → (byte == 62) ≡ b → (byte == 61) ≡ c → TakesOp (62 ∷ byte ∷ text) (cond b (op.More, text) (cond c (op.AtLeast, text) (op.AtLeast, byte ∷ text)))
    by true c e d = (62 ∷ 62 ∷ [], refl, ap (λ (b : ℕ). 62 ∷ b ∷ text) (eqb-true byte 62 e))
    by false true e d = (62 ∷ 61 ∷ [], inl refl, ap (λ (b : ℕ). 62 ∷ b ∷ text) (eqb-true byte 61 d))
    by false false e d = (62 ∷ [], inr refl, refl)

op-taken : (text : List ℕ) (read : Op × List ℕ) → op_at text ≡ Some read → TakesOp text read
unfolding op_at
op-taken [] read h = cc
op-taken (byte ∷ text) read h = by (byte == 60) (byte == 61) (byte == 62) refl refl refl h
  where
    by : (b c d : Bool) → (byte == 60) ≡ b → (byte == 61) ≡ c → (byte == 62) ≡ d
        → cond b (Some (less_at text)) (cond c (Some (op.Equal, text)) (cond d (Some (more_at text)) None)) ≡ Some read → TakesOp (byte ∷ text) read
    by true c d e f g h =
        let P : Op × List ℕ → Type 0 = λ r. TakesOp (byte ∷ text) r in
        let Q : ℕ → Type 0 = λ b. TakesOp (b ∷ text) (less_at text) in
        subst P (some-same (less_at text) read h) (subst Q (sym (eqb-true byte 60 e)) (less-taken text))
    by false true d e f g h =
        let P : Op × List ℕ → Type 0 = λ r. TakesOp (byte ∷ text) r in
        subst P (some-same (op.Equal, text) read h) (61 ∷ [], refl, ap (λ (b : ℕ). b ∷ text) (eqb-true byte 61 f))
    by false false true e f g h =
        let P : Op × List ℕ → Type 0 = λ r. TakesOp (byte ∷ text) r in
        let Q : ℕ → Type 0 = λ b. TakesOp (b ∷ text) (more_at text) in
        subst P (some-same (more_at text) read h) (subst Q (sym (eqb-true byte 62 g)) (more-taken text))
    by false false false e f g h = cc

close-taken : (text rest : List ℕ) → close_at text ≡ Some rest → text ≡ 41 ∷ rest
unfolding close_at
close-taken [] rest h = cc
close-taken (byte ∷ text) rest h = by (byte == 41) refl h
  where
    by : (b : Bool) → (byte == 41) ≡ b → cond b (Some text) None ≡ Some rest → byte ∷ text ≡ 41 ∷ rest
    by true e h = ap (λ (b : ℕ). b ∷ text) (eqb-true byte 41 e) ∙ ap (λ (t : List ℕ). 41 ∷ t) (some-same text rest h)
    by false e h = cc

-- ---- a version bound

record TakesBound (text : List ℕ) (read : VersionBound × List ℕ) : Type 0 where
  blanks : List ℕ
  operator : List ℕ
  op_blanks : List ℕ
  version_blanks : List ℕ
  whole : text ≡ blanks ++ (operator ++ (op_blanks ++ (read.0.version ++ (version_blanks ++ (41 ∷ read.1)))))
  blanks_are : are_blanks blanks ≡ true
  op_blanks_are : are_blanks op_blanks ≡ true
  version_blanks_are : are_blanks version_blanks ≡ true
  operator_is : IsOp read.0.op operator
  version_is : is_version read.0.version ≡ true
  parts_are : read.0.parts ≡ parts read.0.version

joined : (a b c d e f g h i j k : List ℕ) → a ≡ b ++ c → c ≡ d ++ e → e ≡ f ++ g → g ≡ h ++ i → i ≡ j ++ k → a ≡ b ++ (d ++ (f ++ (h ++ (j ++ k))))
joined a b c d e f g h i j k p q r s t = p ∙ ap (λ (x : List ℕ). b ++ x) (q ∙ ap (λ (x : List ℕ). d ++ x) (r ∙ ap (λ (x : List ℕ). f ++ x) (s ∙ ap (λ (x : List ℕ). h ++ x) t)))

bound-taken : (text : List ℕ) (read : VersionBound × List ℕ) → bound_at text ≡ Some read → TakesBound text read
unfolding bound_at
bound-taken text read h =
    let a = bind-some (op_at (behind is_blank text)) _ read h in
    let b = bind-some (version_at (behind is_blank a.0.1)) _ read a.2 in
    let c = bind-some (close_at (behind is_blank b.0.1)) _ read b.2 in
    let sign = op-taken (behind is_blank text) a.0 a.1 in
    let version = version-taken (behind is_blank a.0.1) b.0 b.1 in
    let close = close-taken (behind is_blank b.0.1) c.0 c.1 in
    let P : VersionBound × List ℕ → Type 0 = λ r. TakesBound text r in
    subst P (some-same _ read c.2) (record {
      blanks = take_while is_blank text;
      operator = sign.0;
      op_blanks = take_while is_blank a.0.1;
      version_blanks = take_while is_blank b.0.1;
      whole = joined text _ _ sign.0 a.0.1 _ _ b.0.0 b.0.1 _ (41 ∷ c.0) (blank-run text) sign.2 (blank-run a.0.1) version.0 (blank-run b.0.1 ∙ ap (λ (x : List ℕ). take_while is_blank b.0.1 ++ x) close);
      blanks_are = list_all-prefix is_blank text;
      op_blanks_are = list_all-prefix is_blank a.0.1;
      version_blanks_are = list_all-prefix is_blank b.0.1;
      operator_is = sign.1;
      version_is = version.1;
      parts_are = refl;
    })

-- a version bound or none, and the rest
abbrev TakesRel : List ℕ → Option VersionBound → List ℕ → Type 0
TakesRel text None rest = text ≡ rest
TakesRel text (Some bound) rest = (inner : List ℕ) × (text ≡ 40 ∷ inner) × TakesBound inner (bound, rest)

rel-taken : (text : List ℕ) (read : Option VersionBound × List ℕ) → rel_at text ≡ Some read → TakesRel text read.0 read.1
unfolding rel_at
rel-taken [] read h = let P : Option VersionBound × List ℕ → Type 0 = λ r. TakesRel [] r.0 r.1 in subst P (some-same (None, []) read h) refl
rel-taken (byte ∷ text) read h = by (byte == 40) refl h
  where
    by : (b : Bool) → (byte == 40) ≡ b → cond b (option_map some_bound (bound_at text)) (Some (None, byte ∷ text)) ≡ Some read → TakesRel (byte ∷ text) read.0 read.1
    by true e h =
        let m = option_map-some some_bound (bound_at text) read h in
        let P : Option VersionBound × List ℕ → Type 0 = λ r. TakesRel (byte ∷ text) r.0 r.1 in
        subst P m.2 (text, ap (λ (b : ℕ). b ∷ text) (eqb-true byte 40 e), bound-taken text m.0 m.1)
    by false e h = let P : Option VersionBound × List ℕ → Type 0 = λ r. TakesRel (byte ∷ text) r.0 r.1 in subst P (some-same (None, byte ∷ text) read h) refl

-- ---- an item

-- an item at the front of a text, and the rest
abbrev pub Takes : List ℕ → Relationship → List ℕ → Type 0
Takes text item rest = (front : List ℕ) × IsItem front item × (text ≡ front ++ rest)

joined-none : (w n a v u r : List ℕ) → w ++ (n ++ (a ++ (v ++ (u ++ r)))) ≡ (w ++ (n ++ (a ++ ((v ++ u) ++ [])))) ++ r
joined-none w n a v u r = simp (append_assoc, append-nil)

joined-some : (w n a v b o c x d u r : List ℕ) → w ++ (n ++ (a ++ (v ++ (40 ∷ (b ++ (o ++ (c ++ (x ++ (d ++ (41 ∷ (u ++ r)))))))))))
    ≡ (w ++ (n ++ (a ++ (v ++ (40 ∷ (b ++ (o ++ (c ++ (x ++ (d ++ (41 ∷ u))))))))))) ++ r
joined-some w n a v b o c x d u r = simp append_assoc

item-from : (text blanks name : List ℕ) (arch : Option (List ℕ)) (name_blanks behind_blanks : List ℕ) (rel : Option VersionBound) (rest : List ℕ)
    → text ≡ blanks ++ (name ++ (arch_text arch ++ (name_blanks ++ behind_blanks)))
    → are_blanks blanks ≡ true → are_blanks name_blanks ≡ true → is_name name ≡ true → IsArch arch → TakesRel behind_blanks rel rest
    → Takes text (record { name = name; arch = arch; rel = rel }) (behind is_blank rest)
item-from text blanks name arch name_blanks behind_blanks None rest whole b n name_is arch_is rel =
    let more = take_while is_blank rest in
    let left : behind_blanks ≡ more ++ behind is_blank rest = rel ∙ blank-run rest in (
      blanks ++ (name ++ (arch_text arch ++ ((name_blanks ++ more) ++ []))),
      record {
        blanks = blanks;
        name_blanks = name_blanks ++ more;
        rel = [];
        whole = refl;
        blanks_are = b;
        name_blanks_are = list_all-append is_blank name_blanks more ∙ and_from _ _ n (list_all-prefix is_blank rest);
        name_is = name_is;
        arch_is = arch_is;
        rel_is = refl;
      },
      whole ∙ ap (λ (t : List ℕ). blanks ++ (name ++ (arch_text arch ++ (name_blanks ++ t)))) left
          ∙ joined-none blanks name (arch_text arch) name_blanks more (behind is_blank rest),
    )
item-from text blanks name arch name_blanks behind_blanks (Some bound) rest whole b n name_is arch_is rel =
    let more = take_while is_blank rest in
    let t = rel.2 in
    let bound_text : List ℕ = 40 ∷ (t.blanks ++ (t.operator ++ (t.op_blanks ++ (bound.version ++ (t.version_blanks ++ (41 ∷ more)))))) in
    let left : behind_blanks ≡ 40 ∷ (t.blanks ++ (t.operator ++ (t.op_blanks ++ (bound.version ++ (t.version_blanks ++ (41 ∷ (more ++ behind is_blank rest)))))))
    = rel.1 ∙ ap (λ (x : List ℕ). 40 ∷ x) (t.whole ∙ ap (λ (x : List ℕ). t.blanks ++ (t.operator ++ (t.op_blanks ++ (bound.version ++ (t.version_blanks ++ (41 ∷ x)))))) (blank-run rest)) in (
      blanks ++ (name ++ (arch_text arch ++ (name_blanks ++ bound_text))),
      record {
        blanks = blanks;
        name_blanks = name_blanks;
        rel = bound_text;
        whole = refl;
        blanks_are = b;
        name_blanks_are = n;
        name_is = name_is;
        arch_is = arch_is;
        rel_is = record {
          blanks = t.blanks;
          operator = t.operator;
          op_blanks = t.op_blanks;
          version_blanks = t.version_blanks;
          last_blanks = more;
          whole = refl;
          blanks_are = t.blanks_are;
          op_blanks_are = t.op_blanks_are;
          version_blanks_are = t.version_blanks_are;
          last_blanks_are = list_all-prefix is_blank rest;
          operator_is = t.operator_is;
          version_is = t.version_is;
          parts_are = t.parts_are;
        };
      },
      whole ∙ ap (λ (x : List ℕ). blanks ++ (name ++ (arch_text arch ++ (name_blanks ++ x)))) left
          ∙ joined-some blanks name (arch_text arch) name_blanks t.blanks t.operator t.op_blanks bound.version t.version_blanks more (behind is_blank rest),
    )

pub item-taken : (text : List ℕ) (read : Relationship × List ℕ) → relationship_at text ≡ Some read → Takes text read.0 read.1
unfolding relationship_at
item-taken text read h =
    let a = bind-some (name_at (behind is_blank text)) _ read h in
    let b = bind-some (arch_at a.0.1) _ read a.2 in
    let c = bind-some (rel_at (behind is_blank b.0.1)) _ read b.2 in
    let name = name-taken (behind is_blank text) a.0 a.1 in
    let arch = arch-taken a.0.1 b.0 b.1 in
    let rel = rel-taken (behind is_blank b.0.1) c.0 c.1 in
    let whole : text ≡ take_while is_blank text ++ (a.0.0 ++ (arch_text b.0.0 ++ (take_while is_blank b.0.1 ++ behind is_blank b.0.1)))
    = blank-run text ∙ ap (λ (x : List ℕ). take_while is_blank text ++ x) (name.0 ∙ ap (λ (x : List ℕ). a.0.0 ++ x) (arch.0 ∙ ap (λ (x : List ℕ). arch_text b.0.0 ++ x) (blank-run b.0.1))) in
    let P : Relationship × List ℕ → Type 0 = λ r. Takes text r.0 r.1 in
    subst P (some-same _ read c.2) (item-from text (take_while is_blank text) a.0.0 b.0.0 (take_while is_blank b.0.1) (behind is_blank b.0.1) c.0.0 c.0.1
    whole (list_all-prefix is_blank text) (list_all-prefix is_blank b.0.1) name.1 arch.1 rel)
