-- The grammar of relationship fields (Debian Policy 7.1): what the text of an item, a group and a field is made of.
use Rattle.std.specs.Prelude.{◌≡◌, ◌⊎◌, ◌↔◌, ℕ, Bool, true, false, not, ◌||◌, ◌==◌, List, [], ◌∷◌, ◌++◌, length, codes, filter, Option, Some, None, Ok, Err}
use Rattle.std.specs.List.{list_all}
use Rattle.deb_version.specs.Versions.{is_version, parts}
use Rattle.dep_fields.specs.declared.Op.{Op}
use Rattle.dep_fields.specs.declared.Op.TheVariants as op
use Rattle.dep_fields.specs.declared.RelKind.TheVariants.{Restriction}
use Rattle.dep_fields.specs.Tokens.{is_blank, is_name, is_arch}
use Rattle.dep_fields.specs.Relationships.{Relationship, VersionBound, relationship_of}
use Rattle.dep_fields.specs.Fields.{pieces, comma, bar, is_empty_group, field_of}

abbrev pub are_blanks : List ℕ → Bool
are_blanks text = list_all is_blank text

-- how an operator is written
abbrev pub IsOp : Op → List ℕ → Type 0
IsOp op.Less text = text ≡ codes "<<"
IsOp op.AtMost text = (text ≡ codes "<=") ⊎ (text ≡ codes "<")
IsOp op.Equal text = text ≡ codes "="
IsOp op.AtLeast text = (text ≡ codes ">=") ⊎ (text ≡ codes ">")
IsOp op.More text = text ≡ codes ">>"

-- an architecture as it is written behind a name: none, or ':' and its bytes
abbrev pub arch_text : Option (List ℕ) → List ℕ
arch_text None = []
arch_text (Some arch) = 58 ∷ arch

abbrev pub IsArch : Option (List ℕ) → Type 0
IsArch None = Unit {0}
IsArch (Some arch) = is_arch arch ≡ true

-- '(', an operator, a version and ')', with blanks behind each
pub record IsBound (text : List ℕ) (bound : VersionBound) : Type 0 where
  pub blanks : List ℕ
  pub operator : List ℕ
  pub op_blanks : List ℕ
  pub version_blanks : List ℕ
  pub last_blanks : List ℕ
  pub whole : text ≡ 40 ∷ (blanks ++ (operator ++ (op_blanks ++ (bound.version ++ (version_blanks ++ (41 ∷ last_blanks))))))
  pub blanks_are : are_blanks blanks ≡ true
  pub op_blanks_are : are_blanks op_blanks ≡ true
  pub version_blanks_are : are_blanks version_blanks ≡ true
  pub last_blanks_are : are_blanks last_blanks ≡ true
  pub operator_is : IsOp bound.op operator
  pub version_is : is_version bound.version ≡ true
  pub parts_are : bound.parts ≡ parts bound.version

-- a version bound, or nothing
abbrev pub IsRel : List ℕ → Option VersionBound → Type 0
IsRel text None = text ≡ []
IsRel text (Some bound) = IsBound text bound

-- an item: blanks, a name with its architecture, blanks, a version bound
pub record IsItem (text : List ℕ) (item : Relationship) : Type 0 where
  pub blanks : List ℕ
  pub name_blanks : List ℕ
  pub rel : List ℕ
  pub whole : text ≡ blanks ++ (item.name ++ (arch_text item.arch ++ (name_blanks ++ rel)))
  pub blanks_are : are_blanks blanks ≡ true
  pub name_blanks_are : are_blanks name_blanks ≡ true
  pub name_is : is_name item.name ≡ true
  pub arch_is : IsArch item.arch
  pub rel_is : IsRel rel item.rel

-- a whole item with '[' or '<' behind it
pub record IsRestricted (text : List ℕ) : Type 0 where
  pub front : List ℕ
  pub item : Relationship
  pub sign : ℕ
  pub rest : List ℕ
  pub whole : text ≡ front ++ sign ∷ rest
  pub front_is : IsItem front item
  pub sign_is : (sign == 91 || sign == 60) ≡ true

-- items between bars
abbrev pub AreItems : List (List ℕ) → List Relationship → Type 0
AreItems [] [] = Unit {0}
AreItems [] (item ∷ items) = ⊥
AreItems (text ∷ texts) [] = ⊥
AreItems (text ∷ texts) (item ∷ items) = IsItem text item × AreItems texts items

-- a group, of one item where no alternatives are allowed
pub record IsGroup (alternatives : Bool) (text : List ℕ) (items : List Relationship) : Type 0 where
  pub items_are : AreItems (pieces bar text) items
  pub one : alternatives ≡ false → length items ≡ 1

abbrev pub AreGroups : Bool → List (List ℕ) → List (List Relationship) → Type 0
AreGroups alternatives [] [] = Unit {0}
AreGroups alternatives [] (group ∷ groups) = ⊥
AreGroups alternatives (text ∷ texts) [] = ⊥
AreGroups alternatives (text ∷ texts) (group ∷ groups) = IsGroup alternatives text group × AreGroups alternatives texts groups

-- groups between commas, of which empty ones do not count
abbrev pub IsField : Bool → List ℕ → List (List Relationship) → Type 0
IsField alternatives value groups = AreGroups alternatives (filter (λ text. not (is_empty_group text)) (pieces comma value)) groups

-- ---- laws

-- an item is read exactly where the grammar has it
abbrev pub ReadsItems : Type 0
ReadsItems = (text : List ℕ) (item : Relationship) → (relationship_of text ≡ Ok item) ↔ IsItem text item

-- a restriction is seen exactly where '[' or '<' follows a whole item
abbrev pub SeesRestrictions : Type 0
SeesRestrictions = (text : List ℕ) → (relationship_of text ≡ Err Restriction) ↔ IsRestricted text

-- a whole field without a fault is one of the grammar, with these groups, and the other way round
abbrev pub ReadsFields : Type 0
ReadsFields = (alternatives : Bool) (value : List ℕ) (groups : List (List Relationship)) →
    (field_of alternatives value ≡ record { groups = groups; fault = None }) ↔ IsField alternatives value groups
