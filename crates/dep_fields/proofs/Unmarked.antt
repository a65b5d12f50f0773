-- No bar stands in an item: a text that spells one is the one part between bars.
use Rattle.std.proofs.Common.{◌≡◌, ℕ, Bool, true, false, not, ◌==◌, List, [], ◌∷◌, ◌++◌, refl, ap, ◌∙◌, inl, inr}
use Rattle.std.specs.Prelude.{Option, Some, None, Result, Ok}
use Rattle.std.specs.List.{list_all, onto_first}
use Rattle.std.specs.Option.{option_or}
use Rattle.std.specs.Char.{is_ascii_alphanumeric}
use Rattle.std.proofs.lemmas.Bool.{and_parts, not-true}
use Rattle.std.proofs.lemmas.List.Splits.{slice_split-cons_no}
use Rattle.ascii.proofs.Bytes.{other_byte}
use Rattle.lists.proofs.Tests.{list_all_weaker, list_all-join}
use Rattle.dep_fields.proofs.VersionBytes.{is_version_byte, version-bytes}
use Rattle.dep_fields.specs.declared.Op.{Op}
use Rattle.dep_fields.specs.declared.Op.TheVariants as op
use Rattle.dep_fields.specs.declared.RelKind.{RelKind}
use Rattle.dep_fields.specs.Tokens.{begins, is_blank, is_name_byte, is_arch_byte}
use Rattle.dep_fields.specs.Relationships.{Relationship, VersionBound, relationship_of}
use Rattle.dep_fields.specs.Fields.{bar, has_none, pieces, first_fault, part_fault, items_of}
use Rattle.dep_fields.specs.Grammar.{are_blanks, IsOp, arch_text, IsArch, IsRel, IsItem}
use Rattle.dep_fields.proofs.Laws.{reads-items}

-- no byte of a class that a bar is not of
of_class : (p : ℕ → Bool) → p 124 ≡ false → (xs : List ℕ) → list_all p xs ≡ true → has_none bar xs ≡ true
of_class p out xs h = list_all_weaker p (λ (byte : ℕ). not (byte == 124)) (λ b passes. ap not (other_byte p 124 out b passes)) xs h

joined : (xs ys : List ℕ) → has_none bar xs ≡ true → has_none bar ys ≡ true → has_none bar (xs ++ ys) ≡ true
joined = list_all-join (λ (byte : ℕ). not (byte == 124))

blanks-unmarked : (xs : List ℕ) → are_blanks xs ≡ true → has_none bar xs ≡ true
blanks-unmarked = of_class is_blank refl

op-unmarked : (o : Op) (sign : List ℕ) → IsOp o sign → has_none bar sign ≡ true
op-unmarked op.Less sign h = rw h refl
op-unmarked op.AtMost sign (inl h) = rw h refl
op-unmarked op.AtMost sign (inr h) = rw h refl
op-unmarked op.Equal sign h = rw h refl
op-unmarked op.AtLeast sign (inl h) = rw h refl
op-unmarked op.AtLeast sign (inr h) = rw h refl
op-unmarked op.More sign h = rw h refl

arch-unmarked : (arch : Option (List ℕ)) → IsArch arch → has_none bar (arch_text arch) ≡ true
arch-unmarked None h = refl
arch-unmarked (Some arch) h = of_class is_arch_byte refl arch (and_parts (begins is_arch_byte arch) (list_all is_arch_byte arch) h).1

rel-unmarked : (text : List ℕ) (rel : Option VersionBound) → IsRel text rel → has_none bar text ≡ true
rel-unmarked text None h = rw h refl
rel-unmarked text (Some bound) h =
    ap (has_none bar) h.whole
    ∙ joined h.blanks _ (blanks-unmarked h.blanks h.blanks_are) (joined h.operator _ (op-unmarked bound.op h.operator h.operator_is)
    (joined h.op_blanks _ (blanks-unmarked h.op_blanks h.op_blanks_are) (joined bound.version _ (of_class is_version_byte refl bound.version (version-bytes bound.version h.version_is))
    (joined h.version_blanks _ (blanks-unmarked h.version_blanks h.version_blanks_are) (blanks-unmarked h.last_blanks h.last_blanks_are)))))

item-unmarked : (text : List ℕ) (item : Relationship) → IsItem text item → has_none bar text ≡ true
item-unmarked text item h =
    ap (has_none bar) h.whole
    ∙ joined h.blanks _ (blanks-unmarked h.blanks h.blanks_are) (joined item.name _ (of_class is_name_byte refl item.name (and_parts (begins is_ascii_alphanumeric item.name) (list_all is_name_byte item.name) h.name_is).1)
    (joined (arch_text item.arch) _ (arch-unmarked item.arch h.arch_is) (joined h.name_blanks h.rel (blanks-unmarked h.name_blanks h.name_blanks_are) (rel-unmarked h.rel item.rel h.rel_is))))

one-piece : (mark : ℕ) (text : List ℕ) → has_none mark text ≡ true → pieces mark text ≡ text ∷ []
one-piece mark [] h = refl
one-piece mark (x ∷ xs) h =
    let parts = and_parts (not (x == mark)) (has_none mark xs) h in
    slice_split-cons_no (λ (b : ℕ). b == mark) x xs (not-true (x == mark) parts.0) ∙ ap (onto_first x) (one-piece mark xs parts.1)

-- a text that spells an item is the one part of its group
pub item_alone : (text : List ℕ) (item : Relationship) → relationship_of text ≡ Ok item → pieces bar text ≡ text ∷ []
item_alone text item h = one-piece bar text (item-unmarked text item ((reads-items text item).0 h))

-- the group has that item
pub items_alone : (text : List ℕ) (item : Relationship) → relationship_of text ≡ Ok item → items_of text ≡ item ∷ []
items_alone text item h = rw (item_alone text item h, h) refl

-- and no fault
pub sound_alone : (alternatives : Bool) (start : ℕ) (text : List ℕ) (item : Relationship) → relationship_of text ≡ Ok item → first_fault alternatives start (pieces bar text) ≡ None
sound_alone alternatives start text item h =
    ap (first_fault alternatives start) (item_alone text item h)
    ∙ ap (λ (read : Result Relationship RelKind). option_or (part_fault alternatives start text true read) None) h
    ∙ either alternatives
  where
    either : (alternatives : Bool) → option_or (part_fault alternatives start text true (Ok item)) None ≡ None
    either true = refl
    either false = refl
