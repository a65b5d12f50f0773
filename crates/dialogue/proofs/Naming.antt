-- The command of a line names choices of the problem alone.
use Rattle.std.proofs.Common.{◌≡◌, ℕ, Bool, true, false, cond, List, [], ◌∷◌, Option, Some, None, Result, Ok, Err, refl, codes}
use Rattle.ascii.specs.Texts.{is_same, words}
use Rattle.resolver_model.specs.declared.marks.Mark.{Mark}
use Rattle.resolver_model.specs.declared.marks.Mark.TheVariants as mark
use Rattle.resolver_model.specs.declared.history.Command.TheVariants as command
use Rattle.resolver_model.specs.Answers.{NamesChoice}
use Rattle.resolver_model.specs.Problems.{Problem}
use Rattle.universe_model.specs.Tokens.{choice_of}
use Rattle.universe_model.specs.Universes.{Universe, IsProblemOf}
use Rattle.universe_model.specs.declared.TokenFault.{TokenFault}
use Rattle.laws_universe.proofs.Choices.{tokens-choices}
use Rattle.dialogue.specs.declared.verbs.Verb.{Verb}
use Rattle.dialogue.specs.declared.verbs.Verb.TheVariants.{Plain, Marking, Capping}
use Rattle.dialogue.specs.Lines.{verb_of, marking_of, level_of, most_of, cap_with, command_by, command_of_words, command_of}

-- ---- the first word

-- a command that stands alone names no choice, or one of the problem
abbrev VerbNames : Problem → Option Verb → Type 0
VerbNames p (Some (Plain said)) = NamesChoice p said
VerbNames p (Some (Marking m)) = Unit {0}
VerbNames p (Some Capping) = Unit {0}
VerbNames p None = Unit {0}

record Names (p : Problem) (verb : Option Verb) : Type 0 where
  is : VerbNames p verb

either : {p : Problem} {y : Option Verb} (b : Bool) (x : Option Verb) → VerbNames p x → Names p y → Names p (cond b x y)
either true x h rest = record { is = h }
either false x h rest = rest

verb-names : (p : Problem) (word : List ℕ) → Names p (verb_of word)
verb-names p word =
    let none : Names p None = record { is = tt } in
    let cap = either (is_same word (codes "cap")) (Some Capping) tt none in
    let free = either (is_same word (codes "free")) (Some (Marking mark.Free)) tt cap in
    let approve = either (is_same word (codes "approve")) (Some (Marking mark.Approved)) tt free in
    let reject = either (is_same word (codes "reject")) (Some (Marking mark.Rejected)) tt approve in
    let quit = either (is_same word (codes "quit")) (Some (Plain command.Quit)) tt reject in
    let accept = either (is_same word (codes "accept")) (Some (Plain command.Accept)) tt quit in
    let summary = either (is_same word (codes "summary")) (Some (Plain command.Summary)) tt accept in
    let rules = either (is_same word (codes "rules")) (Some (Plain command.Rules)) tt summary in
    let prev = either (is_same word (codes "prev")) (Some (Plain command.Prev)) tt rules in
    either (is_same word (codes "next")) (Some (Plain command.Next)) tt prev

-- ---- the words behind it

cap-names : (p : Problem) (level : Option ℕ) (most : Option (Option ℕ)) → NamesChoice p (cap_with level most)
cap-names p (Some level) (Some most) = tt
cap-names p (Some level) None = tt
cap-names p None most = tt

module _ (u : Universe) (p : Problem) (beside : IsProblemOf u p) where
  mark-names : (m : Mark) (token : List ℕ) (found : Result ℕ TokenFault) → choice_of u p token ≡ found → NamesChoice p (marking_of m found)
  mark-names mark.Free token (Ok c) e = tokens-choices u p beside token c e
  mark-names mark.Approved token (Ok c) e = tokens-choices u p beside token c e
  mark-names mark.Rejected token (Ok c) e = tokens-choices u p beside token c e
  mark-names m token (Err fault) e = tt

  rest-names : (verb : Option Verb) → VerbNames p verb → (rest : List (List ℕ)) → NamesChoice p (command_by u p verb rest)
  rest-names (Some (Plain said)) h [] = h
  rest-names (Some (Plain said)) h (word ∷ more) = tt
  rest-names (Some (Marking m)) h [] = tt
  rest-names (Some (Marking m)) h (token ∷ []) = mark-names m token (choice_of u p token) refl
  rest-names (Some (Marking m)) h (token ∷ (word ∷ more)) = tt
  rest-names (Some Capping) h [] = tt
  rest-names (Some Capping) h (level ∷ []) = tt
  rest-names (Some Capping) h (level ∷ (most ∷ [])) = cap-names p (level_of level) (most_of most)
  rest-names (Some Capping) h (level ∷ (most ∷ (word ∷ more))) = tt
  rest-names None h rest = tt

  words-names : (ws : List (List ℕ)) → NamesChoice p (command_of_words u p ws)
  words-names [] = tt
  words-names (word ∷ rest) = rest-names (verb_of word) (verb-names p word).is rest

  pub line-names : (line : List ℕ) → NamesChoice p (command_of u p line)
  line-names line = words-names (words line)
