-- The lines of the dialogue, and the commands that they are.
use Rattle.std.specs.Prelude.{ℕ, ◌-◌, ◌^◌, Bool, not, cond, ◌&&◌, ◌==◌, List, [], ◌∷◌, length, nat_le, nat_lt, slice_index, Option, Some, None, Result, Ok, Err, codes}
use Rattle.std.specs.List.{list_all}
use Rattle.std.specs.Char.{is_ascii_digit}
use Rattle.std.specs.Str.Parse.{digits_value}
use Rattle.ascii.specs.Texts.{is_same, words}
use Rattle.resolver_model.specs.declared.marks.Mark.{Mark}
use Rattle.resolver_model.specs.declared.marks.Mark.TheVariants as mark
use Rattle.resolver_model.specs.declared.history.BadLine.{BadLine}
use Rattle.resolver_model.specs.declared.history.BadLine.TheVariants as bad
use Rattle.resolver_model.specs.declared.history.Command.{Command}
use Rattle.resolver_model.specs.declared.history.Command.TheVariants as command
use Rattle.resolver_model.specs.Problems.{Problem}
use Rattle.universe_model.specs.declared.TokenFault.{TokenFault}
use Rattle.universe_model.specs.declared.TokenFault.TheVariants as fault
use Rattle.universe_model.specs.Universes.{Universe}
use Rattle.universe_model.specs.Tokens.{choice_of}
use Rattle.dialogue.specs.declared.verbs.Verb.{Verb}
use Rattle.dialogue.specs.declared.verbs.Verb.TheVariants.{Plain, Marking, Capping}

-- what the first word of a line asks for
abbrev pub verb_of : List ℕ → Option Verb
verb_of word =
    cond (is_same word (codes "next")) (Some (Plain command.Next)) (
    cond (is_same word (codes "prev")) (Some (Plain command.Prev)) (
    cond (is_same word (codes "rules")) (Some (Plain command.Rules)) (
    cond (is_same word (codes "summary")) (Some (Plain command.Summary)) (
    cond (is_same word (codes "accept")) (Some (Plain command.Accept)) (
    cond (is_same word (codes "quit")) (Some (Plain command.Quit)) (
    cond (is_same word (codes "reject")) (Some (Marking mark.Rejected)) (
    cond (is_same word (codes "approve")) (Some (Marking mark.Approved)) (
    cond (is_same word (codes "free")) (Some (Marking mark.Free)) (
    cond (is_same word (codes "cap")) (Some Capping) None)))))))))

-- a command that stands alone
abbrev pub alone : Command → List (List ℕ) → Command
alone said [] = said
alone said _ = command.Bad bad.Words

abbrev pub marking : Mark → ℕ → Command
marking mark.Free c = command.Free c
marking mark.Approved c = command.Approve c
marking mark.Rejected c = command.Reject c

abbrev pub bad_token : TokenFault → BadLine
bad_token fault.NotAToken = bad.NotAToken
bad_token fault.NoSuchPackage = bad.NoSuchPackage
bad_token fault.NoSuchVersion = bad.NoSuchVersion
bad_token fault.NotAChoice = bad.NotAChoice

abbrev pub marking_of : Mark → Result ℕ TokenFault → Command
marking_of mark (Ok c) = marking mark c
marking_of mark (Err fault) = command.Bad (bad_token fault)

-- a command with one token
abbrev pub with_token : Universe → Problem → Mark → List (List ℕ) → Command
with_token u p mark (token ∷ []) = marking_of mark (choice_of u p token)
with_token u p mark _ = command.Bad bad.Words

-- a level of a cost, counted from 1: 1 or 2 digits, of which the first is not '0'
abbrev pub is_level : List ℕ → Bool
is_level digits = nat_le 1 (length digits) && nat_le (length digits) 2 && list_all is_ascii_digit digits && not (slice_index digits 0 == 48)

-- the level that a word names; levels are counted from 0 in a command
abbrev pub level_of : List ℕ → Option ℕ
level_of word = cond (is_level word) (Some (digits_value 10 word - 1)) None

-- the most of a cap: 1 to 20 digits, at most 18446744073709551615
abbrev pub is_most : List ℕ → Bool
is_most digits = nat_le 1 (length digits) && nat_le (length digits) 20 && list_all is_ascii_digit digits && nat_lt (digits_value 10 digits) (2 ^ 64)

-- a number to be set, or `off`
abbrev pub most_of : List ℕ → Option (Option ℕ)
most_of word =
    cond (is_same word (codes "off")) (Some None) (
    cond (is_most word) (Some (Some (digits_value 10 word))) None)

abbrev pub cap_with : Option ℕ → Option (Option ℕ) → Command
cap_with (Some level) (Some most) = command.Cap level most
cap_with _ _ = command.Bad bad.NotACap

-- `cap LEVEL N` or `cap LEVEL off`
abbrev pub cap_of : List (List ℕ) → Command
cap_of (level ∷ most ∷ []) = cap_with (level_of level) (most_of most)
cap_of _ = command.Bad bad.Words

abbrev pub said_by : Universe → Problem → Verb → List (List ℕ) → Command
said_by u p (Plain said) rest = alone said rest
said_by u p (Marking mark) rest = with_token u p mark rest
said_by u p Capping rest = cap_of rest

abbrev pub command_by : Universe → Problem → Option Verb → List (List ℕ) → Command
command_by u p (Some verb) rest = said_by u p verb rest
command_by u p None rest = command.Bad bad.Unknown

abbrev pub command_of_words : Universe → Problem → List (List ℕ) → Command
command_of_words u p (word ∷ rest) = command_by u p (verb_of word) rest
command_of_words u p [] = command.Bad bad.Unknown

-- the command that a line is
abbrev pub command_of : Universe → Problem → List ℕ → Command
command_of u p line = command_of_words u p (words line)
