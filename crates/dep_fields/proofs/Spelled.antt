-- What is in the grammar is read.
use Rattle.std.proofs.Common.{◌≡◌, ℕ, Bool, true, false, cond, ◌||◌, ◌==◌, List, [], ◌∷◌, ◌++◌, length, take, refl, sym, ap, ◌∙◌, inl, inr, append_assoc}
use Rattle.std.specs.Prelude.{Option, Some, None, option_map}
use Rattle.std.specs.List.{list_all, take_while}
use Rattle.std.specs.Char.{is_ascii_alphanumeric}
use Rattle.std.proofs.lemmas.Bool.{and_parts}
use Rattle.deb_version.specs.Versions.{is_version, parts}
use Rattle.dep_fields.specs.declared.Op.{Op}
use Rattle.dep_fields.specs.declared.Op.TheVariants as op
use Rattle.dep_fields.specs.Tokens.{is_blank, is_name_byte, is_arch_byte, is_in_version, is_name, begins, behind, run_at, some_token, name_at, arch_at, version_at, less_at, more_at, op_at, close_at}
use Rattle.dep_fields.specs.Relationships.{Relationship, VersionBound, ◌>>=◌, bound_at, some_bound, rel_at, relationship_at}
use Rattle.dep_fields.specs.Grammar.{are_blanks, IsOp, arch_text, IsArch, IsRel, IsItem}
use Rattle.ascii.proofs.Bytes.{other_byte}
use Rattle.ascii.proofs.Texts.{begins-append, begins-other, prefix_len-run, behind-run}
use Rattle.lists.proofs.Tests.{list_all_weaker}
use Rattle.dep_fields.proofs.Bytes.{apart, blank-out}
use Rattle.deb_version.proofs.VersionBytes.{is_version_byte, version-bytes}

bind-on : {A B : Type 0} (o : Option A) (x : A) (f : A → Option B) → o ≡ Some x → (o >>= f) ≡ f x
bind-on o x f e = rw e refl

-- ---- tokens

take-front : (xs ys : List ℕ) → take (length xs) (xs ++ ys) ≡ xs
take-front [] ys = refl
take-front (x ∷ xs) ys = ap (λ (t : List ℕ). x ∷ t) (take-front xs ys)

run-spelled : (test : ℕ → Bool) (is_token : List ℕ → Bool) (run rest : List ℕ) → list_all test run ≡ true → is_token run ≡ true → begins test rest ≡ false
    → run_at test is_token (run ++ rest) ≡ Some (run, rest)
run-spelled test is_token run rest passes token stop =
    let len = prefix_len-run test run rest passes stop in
    let front : take_while test (run ++ rest) ≡ run = ap (λ n. take n (run ++ rest)) len ∙ take-front run rest in
    let back : behind test (run ++ rest) ≡ rest = behind-run test run rest passes stop in
    let ok : is_token (take_while test (run ++ rest)) ≡ true = ap is_token front ∙ token in
    ap (λ b. cond b (Some (take_while test (run ++ rest), behind test (run ++ rest))) None) ok ∙ ap (λ (r : List ℕ). Some (r, behind test (run ++ rest))) front ∙ ap (λ (r : List ℕ). Some (run, r)) back

name-spelled : (name rest : List ℕ) → is_name name ≡ true → begins is_name_byte rest ≡ false → name_at (name ++ rest) ≡ Some (name, rest)
unfolding name_at
name-spelled name rest h stop =
    let both = and_parts (begins is_ascii_alphanumeric name) (list_all is_name_byte name) h in
    run-spelled is_name_byte (begins is_ascii_alphanumeric) name rest both.1 both.0 stop

-- what may not stand behind an architecture that is missing
abbrev is_colon : ℕ → Bool
is_colon byte = byte == 58

arch-none : (rest : List ℕ) → begins is_colon rest ≡ false → arch_at rest ≡ Some (None, rest)
unfolding arch_at
arch-none [] h = refl
arch-none (byte ∷ rest) h = rw h refl

arch-spelled : (arch : Option (List ℕ)) (rest : List ℕ) → IsArch arch → begins is_colon rest ≡ false → begins is_arch_byte rest ≡ false
    → arch_at (arch_text arch ++ rest) ≡ Some (arch, rest)
unfolding arch_at
arch-spelled None rest h colon stop = arch-none rest colon
arch-spelled (Some arch) rest h colon stop =
    let both = and_parts (begins is_arch_byte arch) (list_all is_arch_byte arch) h in
    ap (option_map some_token) (run-spelled is_arch_byte (begins is_arch_byte) arch rest both.1 both.0 stop)

-- what may not stand behind '<' and '>'
abbrev is_sign : ℕ → Bool
is_sign byte = byte == 60 || (byte == 61 || byte == 62)

sign-parts : (b : ℕ) → is_sign b ≡ false → ((b == 60) ≡ false) × ((b == 61) ≡ false) × ((b == 62) ≡ false)
sign-parts b h = by (b == 60) (b == 61) (b == 62) h
  where
    by : (x y z : Bool) → (x || (y || z)) ≡ false → (x ≡ false) × (y ≡ false) × (z ≡ false)
    by true y z h = cc
    by false true z h = cc
    by false false true h = cc
    by false false false h = (refl, refl, refl)

less-alone : (rest : List ℕ) → begins is_sign rest ≡ false → less_at rest ≡ (op.AtMost, rest)
less-alone [] h = refl
less-alone (byte ∷ rest) h = let p = sign-parts byte h in rw (p.0, p.1) refl

more-alone : (rest : List ℕ) → begins is_sign rest ≡ false → more_at rest ≡ (op.AtLeast, rest)
more-alone [] h = refl
more-alone (byte ∷ rest) h = let p = sign-parts byte h in rw (p.2, p.1) refl

op-spelled : (o : Op) (sign rest : List ℕ) → IsOp o sign → begins is_sign rest ≡ false → op_at (sign ++ rest) ≡ Some (o, rest)
unfolding op_at
op-spelled op.Less sign rest h stop = rw h refl
op-spelled op.AtMost sign rest (inl h) stop = rw h refl
op-spelled op.AtMost sign rest (inr h) stop = rw h (ap Some (less-alone rest stop))
op-spelled op.Equal sign rest h stop = rw h refl
op-spelled op.AtLeast sign rest (inl h) stop = rw h refl
op-spelled op.AtLeast sign rest (inr h) stop = rw h (ap Some (more-alone rest stop))
op-spelled op.More sign rest h stop = rw h refl

-- an operator begins with no blank
op-stop : (o : Op) (sign rest : List ℕ) → IsOp o sign → begins is_blank (sign ++ rest) ≡ false
op-stop op.Less sign rest h = rw h refl
op-stop op.AtMost sign rest (inl h) = rw h refl
op-stop op.AtMost sign rest (inr h) = rw h refl
op-stop op.Equal sign rest h = rw h refl
op-stop op.AtLeast sign rest (inl h) = rw h refl
op-stop op.AtLeast sign rest (inr h) = rw h refl
op-stop op.More sign rest h = rw h refl

-- ---- bytes of versions

version-no-blank : (b : ℕ) → is_version_byte b ≡ true → is_blank b ≡ false
version-no-blank = apart is_version_byte refl refl refl refl

version-in : (b : ℕ) → is_version_byte b ≡ true → is_in_version b ≡ true
version-in b h = rw (version-no-blank b h, other_byte is_version_byte 41 refl b h) refl

version-no-sign : (b : ℕ) → is_version_byte b ≡ true → is_sign b ≡ false
version-no-sign b h = rw (other_byte is_version_byte 60 refl b h, other_byte is_version_byte 61 refl b h, other_byte is_version_byte 62 refl b h) refl

blank-no-sign : (b : ℕ) → is_blank b ≡ true → is_sign b ≡ false
blank-no-sign = blank-out is_sign refl refl refl refl

blank-not-in : (b : ℕ) → is_blank b ≡ true → is_in_version b ≡ false
blank-not-in b h = rw h refl

-- what a version does not begin with
version-stop : (test : ℕ → Bool) → ((b : ℕ) → is_version_byte b ≡ true → test b ≡ false) → (v rest : List ℕ) → is_version v ≡ true → begins test (v ++ rest) ≡ false
version-stop test w [] rest h = cc
version-stop test w (x ∷ v) rest h = w x (and_parts (is_version_byte x) (list_all is_version_byte v) (version-bytes (x ∷ v) h)).0

version-spelled : (v rest : List ℕ) → is_version v ≡ true → begins is_in_version rest ≡ false → version_at (v ++ rest) ≡ Some (v, rest)
unfolding version_at
version-spelled v rest h stop = run-spelled is_in_version is_version v rest (list_all_weaker is_version_byte is_in_version version-in v (version-bytes v h)) h stop

close-spelled : (rest : List ℕ) → close_at (41 ∷ rest) ≡ Some rest
unfolding close_at
close-spelled rest = refl

bound-spelled : (bound : VersionBound) (blanks sign op_blanks version_blanks rest : List ℕ)
    → are_blanks blanks ≡ true → are_blanks op_blanks ≡ true → are_blanks version_blanks ≡ true
    → IsOp bound.op sign → is_version bound.version ≡ true → bound.parts ≡ parts bound.version
    → bound_at (blanks ++ (sign ++ (op_blanks ++ (bound.version ++ (version_blanks ++ (41 ∷ rest)))))) ≡ Some (bound, rest)
unfolding bound_at
bound-spelled bound blanks sign op_blanks version_blanks rest b o v sign_is version_is parts_are =
    let third : List ℕ = version_blanks ++ (41 ∷ rest) in
    let second : List ℕ = bound.version ++ third in
    let first : List ℕ = op_blanks ++ second in
    let no_sign : begins is_sign first ≡ false = begins-append is_blank is_sign op_blanks second o blank-no-sign (version-stop is_sign version-no-sign bound.version third version_is) in
    let ended : begins is_in_version third ≡ false = begins-append is_blank is_in_version version_blanks (41 ∷ rest) v blank-not-in refl in
    let op_read : op_at (behind is_blank (blanks ++ (sign ++ first))) ≡ Some (bound.op, first)
    = ap op_at (behind-run is_blank blanks (sign ++ first) b (op-stop bound.op sign first sign_is)) ∙ op-spelled bound.op sign first sign_is no_sign in
    let version_read : version_at (behind is_blank first) ≡ Some (bound.version, third)
    = ap version_at (behind-run is_blank op_blanks second o (version-stop is_blank version-no-blank bound.version third version_is)) ∙ version-spelled bound.version third version_is ended in
    let closed : close_at (behind is_blank third) ≡ Some rest = ap close_at (behind-run is_blank version_blanks (41 ∷ rest) v refl) ∙ close-spelled rest in
    bind-on _ _ _ op_read ∙ bind-on _ _ _ version_read ∙ bind-on _ _ _ closed
    ∙ ap (λ p. Some (record { op = bound.op; version = bound.version; parts = p }, rest)) (sym parts_are)

-- ---- an item

-- what may stand behind an item: a byte that none of its tokens goes on with
pub record Stops (rest : List ℕ) : Type 0 where
  pub blank : begins is_blank rest ≡ false
  pub name : begins is_name_byte rest ≡ false
  pub arch : begins is_arch_byte rest ≡ false
  pub colon : begins is_colon rest ≡ false
  pub opening : begins (λ byte. byte == 40) rest ≡ false

rel-none : (rest : List ℕ) → begins (λ byte. byte == 40) rest ≡ false → rel_at rest ≡ Some (None, rest)
unfolding rel_at
rel-none [] h = refl
rel-none (byte ∷ rest) h = rw h refl

rel-some : (text : List ℕ) → rel_at (40 ∷ text) ≡ option_map some_bound (bound_at text)
unfolding rel_at
rel-some text = refl

regrouped : (b o c x d u r : List ℕ) → (40 ∷ (b ++ (o ++ (c ++ (x ++ (d ++ (41 ∷ u))))))) ++ r ≡ 40 ∷ (b ++ (o ++ (c ++ (x ++ (d ++ (41 ∷ (u ++ r)))))))
regrouped b o c x d u r = simp append_assoc

rel-spelled : (text : List ℕ) (rel : Option VersionBound) (rest : List ℕ) → IsRel text rel → Stops rest
    → (after : List ℕ) × (rel_at (text ++ rest) ≡ Some (rel, after)) × (behind is_blank after ≡ rest)
rel-spelled text None rest h stops =
    (rest, ap (λ (t : List ℕ). rel_at (t ++ rest)) h ∙ rel-none rest stops.opening, behind-run is_blank [] rest refl stops.blank)
rel-spelled text (Some bound) rest h stops =
    let after : List ℕ = h.last_blanks ++ rest in (
      after,
      ap rel_at (ap (λ (t : List ℕ). t ++ rest) h.whole ∙ regrouped h.blanks h.operator h.op_blanks bound.version h.version_blanks h.last_blanks rest)
          ∙ rel-some _ ∙ ap (option_map some_bound) (bound-spelled bound h.blanks h.operator h.op_blanks h.version_blanks after
          h.blanks_are h.op_blanks_are h.version_blanks_are h.operator_is h.version_is h.parts_are),
      behind-run is_blank h.last_blanks rest h.last_blanks_are stops.blank,
    )

-- what a version bound, or what stands in its place, does not begin with
rel-stop : (test : ℕ → Bool) (text : List ℕ) (rel : Option VersionBound) (rest : List ℕ) → IsRel text rel → test 40 ≡ false → begins test rest ≡ false
    → begins test (text ++ rest) ≡ false
rel-stop test text None rest h out stop = rw h stop
rel-stop test text (Some bound) rest h out stop = ap (λ (t : List ℕ). begins test (t ++ rest)) h.whole ∙ out

-- what an architecture, or what stands in its place, does not begin with
arch-stop : (arch : Option (List ℕ)) (rest : List ℕ) → begins is_name_byte rest ≡ false → begins is_name_byte (arch_text arch ++ rest) ≡ false
arch-stop None rest stop = stop
arch-stop (Some arch) rest stop = refl

spread : (w n a v s r : List ℕ) → (w ++ (n ++ (a ++ (v ++ s)))) ++ r ≡ w ++ (n ++ (a ++ (v ++ (s ++ r))))
spread w n a v s r = simp append_assoc

pub item-spelled : (front : List ℕ) (item : Relationship) (rest : List ℕ) → IsItem front item → Stops rest → relationship_at (front ++ rest) ≡ Some (item, rest)
unfolding relationship_at
item-spelled front item rest h stops =
    let third : List ℕ = h.rel ++ rest in
    let second : List ℕ = h.name_blanks ++ third in
    let first : List ℕ = arch_text item.arch ++ second in
    let stop : (test : ℕ → Bool) → test 32 ≡ false → test 9 ≡ false → test 10 ≡ false → test 13 ≡ false → test 40 ≡ false → begins test rest ≡ false → begins test second ≡ false
    = λ test s t n r o e. begins-append is_blank test h.name_blanks third h.name_blanks_are (blank-out test s t n r) (rel-stop test h.rel item.rel rest h.rel_is o e) in
    let begins = (and_parts (begins is_ascii_alphanumeric item.name) (list_all is_name_byte item.name) h.name_is).0 in
    let whole : front ++ rest ≡ h.blanks ++ (item.name ++ first)
    = ap (λ (t : List ℕ). t ++ rest) h.whole ∙ spread h.blanks item.name (arch_text item.arch) h.name_blanks h.rel rest in
    let name_read : name_at (behind is_blank (front ++ rest)) ≡ Some (item.name, first)
    = ap (λ (t : List ℕ). name_at (behind is_blank t)) whole
    ∙ ap name_at (behind-run is_blank h.blanks (item.name ++ first) h.blanks_are (begins-other is_ascii_alphanumeric is_blank item.name first begins (apart is_ascii_alphanumeric refl refl refl refl)))
    ∙ name-spelled item.name first h.name_is (arch-stop item.arch second (stop is_name_byte refl refl refl refl refl stops.name)) in
    let arch_read : arch_at first ≡ Some (item.arch, second)
    = arch-spelled item.arch second h.arch_is (stop is_colon refl refl refl refl refl stops.colon) (stop is_arch_byte refl refl refl refl refl stops.arch) in
    let rel = rel-spelled h.rel item.rel rest h.rel_is stops in
    let rel_read : rel_at (behind is_blank second) ≡ Some (item.rel, rel.0)
    = ap rel_at (behind-run is_blank h.name_blanks third h.name_blanks_are (rel-stop is_blank h.rel item.rel rest h.rel_is refl stops.blank)) ∙ rel.1 in
    bind-on _ _ _ name_read ∙ bind-on _ _ _ arch_read ∙ bind-on _ _ _ rel_read ∙ ap (λ (r : List ℕ). Some (item, r)) rel.2
