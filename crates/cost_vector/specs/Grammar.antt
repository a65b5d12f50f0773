-- What a cost spec is. Its levels stand between commas. A level is a sum, or the word `max` and a sum in brackets. The
-- terms of a sum stand between pluses. A term is a name, or a number, a star and a name. Spaces are free around each of
-- these. There are 1 to 16 levels, and in each 1 to 16 terms.
use Rattle.std.specs.Prelude.{ℕ, ◌+◌, ◌*◌, ◌-◌, Bool, true, false, not, ◌&&◌, ◌||◌, ◌==◌, nat_le, List, [], ◌∷◌, length, Option, Some, None, is_some, if◌then◌else◌}
use Rattle.std.specs.List.{slice_split, filter, fold, list_all}
use Rattle.std.specs.Option.{option_map}
use Rattle.std.specs.Char.{is_ascii_digit, is_ascii_lowercase}
use Rattle.cost_vector.specs.declared.cost_spec.Term.{Term}
use Rattle.cost_vector.specs.declared.cost_spec.Level.{Level}

-- the parts of a text between the bytes c
abbrev pub parts : ℕ → List ℕ → List (List ℕ)
parts c text = slice_split (λ b. b == c) text

abbrev pub is_empty : List ℕ → Bool
is_empty [] = true
is_empty (b ∷ bs) = false

-- the words of a text, between its spaces
abbrev pub words : List ℕ → List (List ℕ)
words text = filter (λ word. not (is_empty word)) (parts 32 text)

abbrev pub is_name_byte : ℕ → Bool
is_name_byte b = is_ascii_lowercase b || is_ascii_digit b || b == 45

-- the word "max"
abbrev pub is_max : List ℕ → Bool
is_max (a ∷ b ∷ c ∷ []) = a == 109 && b == 97 && c == 120
is_max _ = false

-- A name is a letter, then letters, digits and `-`. It is not the word `max`.
abbrev pub is_name : List ℕ → Bool
is_name [] = false
is_name (b ∷ bs) = is_ascii_lowercase b && list_all is_name_byte bs && not (is_max (b ∷ bs))

abbrev pub decimal_value : List ℕ → ℕ
decimal_value digits = fold (λ value b. value * 10 + (b - 48)) 0 digits

-- at most 7 digits, and at most 1,000,000
abbrev pub is_small : List ℕ → Bool
is_small digits = list_all is_ascii_digit digits && nat_le (length digits) 7 && nat_le (decimal_value digits) 1000000

-- A number is 1 to 7 digits, at most 1,000,000; zeros may lead.
abbrev pub is_number : List ℕ → Bool
is_number digits = not (is_empty digits) && is_small digits

-- the text's only word
abbrev pub only : List (List ℕ) → Option (List ℕ)
only (word ∷ []) = Some word
only _ = None

abbrev pub if_test : (List ℕ → Bool) → Option (List ℕ) → Option (List ℕ)
if_test test (Some word) = if test word then Some word else None
if_test test None = None

-- the text's only word, where it passes the test
abbrev pub word_of : (List ℕ → Bool) → List ℕ → Option (List ℕ)
word_of test text = if_test test (only (words text))

abbrev pub name_of : List ℕ → Option (List ℕ)
name_of text = word_of is_name text

abbrev pub number_of : List ℕ → Option ℕ
number_of text = option_map decimal_value (word_of is_number text)

abbrev pub term : ℕ → List ℕ → Term
term times name = record { times = times; name = name }

abbrev pub times_name : Option ℕ → Option (List ℕ) → Option Term
times_name (Some times) (Some name) = Some (term times name)
times_name _ _ = None

-- a name alone counts once
abbrev pub term_in : List (List ℕ) → Option Term
term_in (name ∷ []) = times_name (Some 1) (name_of name)
term_in (number ∷ name ∷ []) = times_name (number_of number) (name_of name)
term_in _ = None

abbrev pub term_of : List ℕ → Option Term
term_of text = term_in (parts 42 text)

abbrev pub join : {A : Type 0} → Option A → Option (List A) → Option (List A)
join (Some item) (Some items) = Some (item ∷ items)
join _ _ = None

-- what all of the parts are, if each is one
abbrev pub all_of : {A : Type 0} → (List ℕ → Option A) → List (List ℕ) → Option (List A)
all_of f [] = Some []
all_of f (part ∷ parts) = join (f part) (all_of f parts)

-- what the parts between the bytes c are, if there are no more than `most` and each is one
abbrev pub listed : {A : Type 0} → ℕ → ℕ → (List ℕ → Option A) → List ℕ → Option (List A)
listed c most f text = if nat_le (length (parts c text)) most then all_of f (parts c text) else None

abbrev pub sum_of : List ℕ → Option (List Term)
sum_of text = listed 43 16 term_of text

abbrev pub level : Bool → List Term → Level
level greatest terms = record { greatest = greatest; terms = terms }

abbrev pub has_no_word : List ℕ → Bool
has_no_word text = length (words text) == 0

abbrev pub is_max_alone : List ℕ → Bool
is_max_alone text = is_some (word_of is_max text)

-- a sum, a closing bracket, and no word behind it
abbrev pub closed_in : List (List ℕ) → Option (List Term)
closed_in (sum ∷ behind ∷ []) = if has_no_word behind then sum_of sum else None
closed_in _ = None

abbrev pub closed_of : List ℕ → Option (List Term)
closed_of text = closed_in (parts 41 text)

abbrev pub level_in : List (List ℕ) → Option Level
level_in (sum ∷ []) = option_map (level false) (sum_of sum)
level_in (before ∷ rest ∷ []) = if is_max_alone before then option_map (level true) (closed_of rest) else None
level_in _ = None

abbrev pub level_of : List ℕ → Option Level
level_of text = level_in (parts 40 text)

abbrev pub spec_of : List ℕ → Option (List Level)
spec_of text = listed 44 16 level_of text
