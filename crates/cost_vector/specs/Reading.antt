-- How far a text can be read.
use Rattle.std.specs.List.{list_all}
use Rattle.std.specs.Prelude.{Bool, true, false, not, ◌&&◌, ◌==◌, ◌≡◌, ℕ, ◌-◌, ◌≤◌, ◌<◌, List, [], ◌∷◌, ◌++◌, length, take, Option, Some, None, Result, MatchResult, IsSome}
use Rattle.std.specs.Option.{option_map}
use Rattle.cost_vector.specs.declared.reader.Stop.{Stop}
use Rattle.cost_vector.specs.declared.reader.Stop.TheVariants.{Fault, NoMemory}
use Rattle.cost_vector.specs.Grammar.{listed, is_number, is_name_byte}

-- Throughout, f says what a whole text is, or that it is none of its kind.

-- some text of the kind begins with these bytes
abbrev pub IsStart : {A : Type 0} → (List ℕ → Option A) → List ℕ → Type 0
IsStart f bytes = (rest : List ℕ) × IsSome (f (bytes ++ rest))

-- the first `at` bytes are the longest prefix of the text that is a prefix of a text of the kind
pub record IsLongestStart {A : Type 0} (f : List ℕ → Option A) (text : List ℕ) (at : ℕ) : Type 0 where
  pub within : at ≤ length text
  pub start : IsStart f (take at text)
  pub longest : (n : ℕ) → n ≤ length text → IsStart f (take n text) → n ≤ at

-- no text of the kind goes on with the first of these bytes
abbrev pub IsStop : {A : Type 0} → (List ℕ → Option A) → List ℕ → List ℕ → Type 0
IsStop f bytes [] = Unit {0}
IsStop f bytes (b ∷ bs) = (rest : List ℕ) → f (bytes ++ b ∷ rest) ≡ None

-- The longest prefix of `whole` that is a prefix of a text of the kind was read; `left` is behind it, and `value` says
-- what was read.
pub record Reads {A : Type 0} (f : List ℕ → Option A) (whole left : List ℕ) (value : Option A) : Type 0 where
  pub bytes : List ℕ
  pub split : whole ≡ bytes ++ left
  pub start : IsStart f bytes
  pub stop : IsStop f bytes left
  pub is : value ≡ f bytes

-- Some parts were read, each with the byte c behind it; others are to come.
pub record IsPartway {A : Type 0} (c most : ℕ) (f : List ℕ → Option A) (whole left : List ℕ) (done : List A) : Type 0 where
  pub bytes : List ℕ
  pub split : whole ≡ bytes ++ left
  pub fewer : length done < most
  pub goes_on : (more : List ℕ) → listed c most f (bytes ++ more) ≡ option_map (λ items. done ++ items) (listed c (most - length done) f more)

-- whether the first byte passes
abbrev pub begins : (ℕ → Bool) → List ℕ → Bool
begins p [] = false
begins p (b ∷ bs) = p b

abbrev pub is_byte : ℕ → ℕ → Bool
is_byte c b = b == c

-- the longest run of bytes that pass, and what is left
pub record IsRun (p : ℕ → Bool) (whole run left : List ℕ) : Type 0 where
  pub split : whole ≡ run ++ left
  pub all : list_all p run ≡ true
  pub ends : begins p left ≡ false

-- the longest number at the front, and what is left
pub record IsNumberRun (whole run left : List ℕ) : Type 0 where
  pub split : whole ≡ run ++ left
  pub number : is_number run ≡ true
  pub ends : (b : ℕ) (bs : List ℕ) → left ≡ b ∷ bs → is_number (run ++ b ∷ []) ≡ false

-- Behind the bytes that were read, a text of the kind f makes one of the kind g.
pub record LeadsTo {A B : Type 0} (g : List ℕ → Option B) (f : List ℕ → Option A) (h : A → B) (whole left : List ℕ) : Type 0 where
  pub bytes : List ℕ
  pub split : whole ≡ bytes ++ left
  pub goes_on : (more : List ℕ) → g (bytes ++ more) ≡ option_map h (f more)

-- whether the text begins with the word `max`
abbrev pub begins_with_max : List ℕ → Bool
begins_with_max (a ∷ b ∷ c ∷ rest) = a == 109 && b == 97 && c == 120 && not (begins is_name_byte rest)
begins_with_max _ = false

-- P, where the reader stopped at a fault and not for want of memory
abbrev pub OrFault : Stop → Type 0 → Type 0
OrFault Fault P = P
OrFault NoMemory P = Unit {0}

-- what a reader's call answers: what it read, or that there is no such text
abbrev pub ReadsOr : {A : Type 0} → (List ℕ → Option A) → List ℕ → List ℕ → Result A Stop → Type 0
ReadsOr f whole left result = MatchResult result (λ value. Reads f whole left (Some value)) (λ stop. OrFault stop (Reads f whole left None))
