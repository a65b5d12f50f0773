-- What is found after a name was put to its place in the order, and after its text was added at the end of the list.
use Rattle.std.proofs.Common.{◌≡◌, ℕ, suc, ◌+◌, arith, add-zero, zero-add, List, [], ◌∷◌, ◌++◌, Bool, true, false, cond, Option, Some, None, refl, sym, ap, ◌∙◌, length, nat_eq}
use Rattle.std.specs.Global.{Vec}
use Rattle.std.specs.BTreeMap.{insert_entry}
use Rattle.std.specs.Cmp.Lexicographic.{slice_cmp, pointwise}
use Rattle.std.specs.List.{position, position_from}
use Rattle.std.specs.Map.{lookup}
use Rattle.std.specs.Ordering.{is_eq, match_ordering, nat_cmp}
use Rattle.std.specs.declared.cmp.Ordering.{Ordering}
use Rattle.std.specs.declared.cmp.Ordering.TheVariants.{Less, Equal, Greater}
use Rattle.std.proofs.lemmas.Bool.{and_parts, eqb-true}
use Rattle.std.proofs.lemmas.Bool.Decides.{nat_tests}
use Rattle.std.proofs.lemmas.Cmp.{same_from_slice_cmp, nat_list_eq_equiv}
use Rattle.std.proofs.lemmas.Iterator.Adapters.{position_from-zero}
use Rattle.ascii.specs.Texts.{is_same}
use Rattle.universe_parts.specs.Names.{is_key}

-- ---- which names are equal

is_eq-same : (a b : List ℕ) → is_eq (slice_cmp nat_cmp a b) ≡ is_same a b
is_eq-same a b =
    same_from_slice_cmp nat_cmp is_eq (λ xs ys. pointwise nat_eq xs ys) refl (λ _ _. refl) (λ _ _. refl) (λ x y xs ys o h. grind (arith, nat_tests)) a b (slice_cmp nat_cmp a b) refl

pub same-bytes : (a b : List ℕ) → is_same a b ≡ true → a ≡ b
same-bytes [] [] e = refl
same-bytes [] (y ∷ ys) e = absurd (cc)
same-bytes (x ∷ xs) [] e = absurd (cc)
same-bytes (x ∷ xs) (y ∷ ys) e = let p = and_parts (nat_eq x y) (is_same xs ys) e in ap (λ z. z ∷ xs) (eqb-true x y p.0) ∙ ap (λ zs. y ∷ zs) (same-bytes xs ys p.1)

-- ---- what is found after a name was put in

abbrev pub key_order : Vec ℕ → Vec ℕ → Ordering
key_order a b = slice_cmp nat_cmp a.items b.items

pub lookup-same : (name : List ℕ) (es : List (Vec ℕ × ℕ)) → lookup (λ (k : Vec ℕ). is_eq (slice_cmp nat_cmp name k.items)) es ≡ lookup (is_key name) es
lookup-same name [] = refl
lookup-same name (e ∷ es) =
    ap (λ b. cond b (Some e.1) (lookup (λ (k : Vec ℕ). is_eq (slice_cmp nat_cmp name k.items)) es)) (is_eq-same name e.0.items)
    ∙ ap (cond (is_key name e.0) (Some e.1)) (lookup-same name es)

equal-cases : (a b : Bool) (v w : ℕ) (rest : Option ℕ) → a ≡ b → cond a (Some v) rest ≡ cond b (Some v) (cond a (Some w) rest)
equal-cases true true v w rest e = refl
equal-cases true false v w rest e = absurd (cc)
equal-cases false true v w rest e = absurd (cc)
equal-cases false false v w rest e = refl

pub apart-cases : (a b : Bool) (v w : ℕ) (rest : Option ℕ) → (a ≡ true → b ≡ true → ⊥) → cond a (Some w) (cond b (Some v) rest) ≡ cond b (Some v) (cond a (Some w) rest)
apart-cases true true v w rest apart = absurd (apart refl refl)
apart-cases true false v w rest apart = refl
apart-cases false true v w rest apart = refl
apart-cases false false v w rest apart = refl

equal-keys : (k x : Vec ℕ) → key_order k x ≡ Equal → k.items ≡ x.items
equal-keys k x e = same-bytes k.items x.items (sym (is_eq-same k.items x.items) ∙ ap is_eq e)

both-keys : (name : List ℕ) (k x : Vec ℕ) → key_order k x ≡ Greater → is_key name x ≡ true → is_key name k ≡ true → ⊥
both-keys name k x e there new =
    let same : k.items ≡ x.items = sym (same-bytes name k.items new) ∙ same-bytes name x.items there in
    let yes : is_same k.items x.items ≡ true = ap (λ bytes. is_same bytes x.items) same ∙ nat_list_eq_equiv.refl x.items in
    let wrong : false ≡ true = sym (ap is_eq e) ∙ is_eq-same k.items x.items ∙ yes in
    absurd (cc)

insert-cases : (name : List ℕ) (k : Vec ℕ) (v : ℕ) (e : Vec ℕ × ℕ) (es : List (Vec ℕ × ℕ)) (o : Ordering) → key_order k e.0 ≡ o
    → lookup (is_key name) (insert_entry key_order es k v) ≡ cond (is_key name k) (Some v) (lookup (is_key name) es)
    → lookup (is_key name) (match_ordering o ((k, v) ∷ e ∷ es) ((e.0, v) ∷ es) (e ∷ insert_entry key_order es k v))
    ≡ cond (is_key name k) (Some v) (cond (is_key name e.0) (Some e.1) (lookup (is_key name) es))
insert-cases name k v e es Less is rest = refl
insert-cases name k v e es Equal is rest =
    equal-cases (is_key name e.0) (is_key name k) v e.1 (lookup (is_key name) es) (ap (is_same name) (sym (equal-keys k e.0 is)))
insert-cases name k v e es Greater is rest =
    ap (cond (is_key name e.0) (Some e.1)) rest
    ∙ apart-cases (is_key name e.0) (is_key name k) v e.1 (lookup (is_key name) es) (both-keys name k e.0 is)

pub lookup-insert : (name : List ℕ) (k : Vec ℕ) (v : ℕ) (es : List (Vec ℕ × ℕ))
    → lookup (is_key name) (insert_entry key_order es k v) ≡ cond (is_key name k) (Some v) (lookup (is_key name) es)
lookup-insert name k v [] = refl
lookup-insert name k v (e ∷ es) = insert-cases name k v e es (key_order k e.0) refl (lookup-insert name k v es)

-- ---- what is found after a text was added at the end

module _ {A : Type 0} (test : A → Bool) where
  from-keep : (i : ℕ) (xs : List A) (y : A) → test y ≡ false → position_from test i (xs ++ y ∷ []) ≡ position_from test i xs
  from-keep i [] y e = ap (λ b. cond b (Some i) None) e
  from-keep i (x ∷ xs) y e = ap (cond (test x) (Some i)) (from-keep (i + 1) xs y e)

  from-cases : (i : ℕ) (xs : List A) (y : A) (b : Bool)
      → (position_from test (i + 1) xs ≡ None → position_from test (i + 1) (xs ++ y ∷ []) ≡ Some (i + 1 + length xs))
      → cond b (Some i) (position_from test (i + 1) xs) ≡ None → cond b (Some i) (position_from test (i + 1) (xs ++ y ∷ [])) ≡ Some (i + suc (length xs))
  from-cases i xs y true rest none = absurd (cc)
  from-cases i xs y false rest none = rest none ∙ ap (λ n. Some n) (let next : i + 1 + length xs ≡ i + suc (length xs) = omega arith in next)

  from-new : (i : ℕ) (xs : List A) (y : A) → test y ≡ true → position_from test i xs ≡ None → position_from test i (xs ++ y ∷ []) ≡ Some (i + length xs)
  from-new i [] y e none = ap (λ b. cond b (Some i) None) e ∙ ap (λ n. Some n) (sym (add-zero i))
  from-new i (x ∷ xs) y e none = from-cases i xs y (test x) (from-new (i + 1) xs y e) none

push-cases : (name new : List ℕ) (names : List (List ℕ)) (b : Bool) → is_same name new ≡ b → position (is_same new) names ≡ None
    → position (is_same name) (names ++ new ∷ []) ≡ cond b (Some (length names)) (position (is_same name) names)
push-cases name new names true e none =
    let same : name ≡ new = same-bytes name new e in
    position_from-zero (is_same name) (names ++ new ∷ [])
    ∙ from-new (is_same name) 0 names new e (ap (λ bytes. position_from (is_same bytes) 0 names) same ∙ sym (position_from-zero (is_same new) names) ∙ none)
    ∙ ap (λ n. Some n) (zero-add (length names))
push-cases name new names false e none =
    position_from-zero (is_same name) (names ++ new ∷ []) ∙ from-keep (is_same name) 0 names new e ∙ sym (position_from-zero (is_same name) names)

pub position-push : (name new : List ℕ) (names : List (List ℕ)) → position (is_same new) names ≡ None
    → position (is_same name) (names ++ new ∷ []) ≡ cond (is_same name new) (Some (length names)) (position (is_same name) names)
position-push name new names none = push-cases name new names (is_same name new) refl none
