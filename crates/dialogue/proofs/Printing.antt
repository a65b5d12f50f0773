-- What is printed is of visible bytes, spaces and newlines.
use Rattle.std.proofs.Common.{◌≡◌, ℕ, ◌+◌, ◌-◌, Bool, true, false, cond, ◌||◌, ◌==◌, List, [], ◌∷◌, ◌++◌, length, refl, ap, ◌∙◌, decimal, codes}
use Rattle.std.specs.Char.{is_ascii_graphic}
use Rattle.std.specs.List.{list_all, flat_map}
use Rattle.std.proofs.lemmas.Bool.{or_left}
use Rattle.lists.proofs.Tests.{list_all_weaker, list_all-join}
use Rattle.problem.specs.declared.Kind.{Kind}
use Rattle.problem.specs.declared.Kind.TheVariants as kind
use Rattle.problem.specs.Kinds.{kind_of}
use Rattle.resolver_model.specs.declared.marks.Mark.{Mark}
use Rattle.resolver_model.specs.declared.marks.Mark.TheVariants.{Free, Approved, Rejected}
use Rattle.resolver_model.specs.declared.history.BadLine.{BadLine}
use Rattle.resolver_model.specs.declared.history.BadLine.TheVariants.{Unknown, Words, NotAToken, NoSuchPackage, NoSuchVersion, NotAChoice, NotACap}
use Rattle.resolver_model.specs.declared.history.Reply.{Reply}
use Rattle.resolver_model.specs.declared.history.Reply.TheVariants.{Solution, NoMore, NotYet, Marked, Rules, Summary, NotShown, AtFirst, RuledOut, OverCap, NoLevel, Accepted, Ended, Misread}
use Rattle.resolver_model.specs.Costs.{Table, cost}
use Rattle.resolver_model.specs.Problems.{Problem, version_count, package_count, dependency_count, is_choice, is_install, is_leave}
use Rattle.resolver_model.specs.Rules.{Cap}
use Rattle.universe_model.specs.Limits.{AreWithin}
use Rattle.universe_model.specs.Reading.{Texts}
use Rattle.universe_model.specs.Tokens.{token, token_by_kind}
use Rattle.universe_model.specs.Universes.{IsProblemOf, universe}
use Rattle.dialogue.specs.Alphabet.{is_printed}
use Rattle.dialogue.specs.Texts.{open_at_start, greeting, prompt, cost_text, choice_line, mark_word, mark_line, cap_line, fault_words, reply_text}
use Rattle.dialogue.proofs.Alphabets.{decimal-visible}
use Rattle.dialogue.proofs.Sayings.{token-graphic}

-- each byte of a text is printed
record IsPrinted (text : List ℕ) : Type 0 where
  all : list_all is_printed text ≡ true

visible-printed : (byte : ℕ) → is_ascii_graphic byte ≡ true → is_printed byte ≡ true
visible-printed byte h = or_left (is_ascii_graphic byte) (byte == 32 || byte == 10) h

visible : (text : List ℕ) → list_all is_ascii_graphic text ≡ true → IsPrinted text
visible text h = record { all = list_all_weaker is_ascii_graphic is_printed visible-printed text h }

literal : (text : List ℕ) → list_all is_printed text ≡ true → IsPrinted text
literal text h = record { all = h }

join : {xs ys : List ℕ} → IsPrinted xs → IsPrinted ys → IsPrinted (xs ++ ys)
join {xs = xs} {ys = ys} front back = record { all = list_all-join is_printed xs ys front.all back.all }

number : (n : ℕ) → IsPrinted (decimal n)
number n = visible (decimal n) (decimal-visible n)

each : {A : Type 0} (f : A → List ℕ) → ((x : A) → IsPrinted (f x)) → (xs : List A) → IsPrinted (flat_map f xs)
each f h [] = literal [] refl
each f h (x ∷ xs) = join (h x) (each f h xs)

greeting-is : (p : Problem) → IsPrinted (greeting p)
greeting-is p =
    let packages = join (literal (codes "aptres: ") refl) (number (package_count p)) in
    let versions = join (join packages (literal (codes " packages, ") refl)) (number (version_count p - package_count p)) in
    let dependencies = join (join versions (literal (codes " versions, ") refl)) (number (dependency_count p)) in
    let broken = join (join dependencies (literal (codes " dependencies, ") refl)) (number (length (open_at_start p))) in
    join broken (literal (codes " broken\n") refl)

pub greeting-printed : (p : Problem) → list_all is_printed (greeting p) ≡ true
greeting-printed p = (greeting-is p).all

-- a number between two texts
framed : {front back : List ℕ} → IsPrinted front → (n : ℕ) → IsPrinted back → IsPrinted (front ++ decimal n ++ back)
framed front n back = join (join front (number n)) back

prompt-is : (cursor deliveries : ℕ) → IsPrinted (prompt cursor deliveries)
prompt-is cursor deliveries =
    let shown = framed (literal (codes "[") refl) cursor (literal (codes "/") refl) in
    framed shown deliveries (literal (codes "]> ") refl)

pub prompt-printed : (cursor deliveries : ℕ) → list_all is_printed (prompt cursor deliveries) ≡ true
prompt-printed cursor deliveries = (prompt-is cursor deliveries).all

cap-printed : (cap : Cap) → IsPrinted (cap_line cap)
cap-printed cap =
    let level = framed (literal (codes "  cap ") refl) (cap.0 + 1) (literal (codes " ") refl) in
    framed level cap.1 (literal (codes "\n") refl)

mark-printed : (m : Mark) → IsPrinted (mark_word m)
mark-printed Free = literal (codes "free ") refl
mark-printed Approved = literal (codes "approve ") refl
mark-printed Rejected = literal (codes "reject ") refl

fault-printed : (kind : BadLine) → IsPrinted (fault_words kind)
fault-printed Unknown = literal (codes "unknown command\n") refl
fault-printed Words = literal (codes "wrong number of words\n") refl
fault-printed NotAToken = literal (codes "not a token\n") refl
fault-printed NoSuchPackage = literal (codes "no such package\n") refl
fault-printed NoSuchVersion = literal (codes "no such version\n") refl
fault-printed NotAChoice = literal (codes "not a choice\n") refl
fault-printed NotACap = literal (codes "not a cap\n") refl

cost-printed : (parts : List ℕ) → IsPrinted (cost_text parts)
cost-printed parts = each (λ part. codes " " ++ decimal part) (λ part. join (literal (codes " ") refl) (number part)) parts

module _ (texts : Texts) (within : AreWithin texts) (p : Problem) (beside : IsProblemOf (universe texts) p) where
  -- the token of a choice is one of visible bytes, and a number that is no choice has no bytes
  token-printed : (c : ℕ) → IsPrinted (token (universe texts) p c)
  token-printed c = by (is_install p c) (is_leave p c) refl refl (token-graphic texts within p beside c)
    where
      by : (a b : Bool) → is_install p c ≡ a → is_leave p c ≡ b → (is_choice p c ≡ true → list_all is_ascii_graphic (token (universe texts) p c) ≡ true)
          → IsPrinted (token (universe texts) p c)
      by true b e f graphic = visible (token (universe texts) p c) (graphic (or_left (is_install p c) (is_leave p c) e))
      by false true e f graphic = visible (token (universe texts) p c) (graphic (ap (λ a. a || is_leave p c) e ∙ f))
      by false false e f graphic =
          let leave : Kind = kind.Leave (c - version_count p) in
          let none : kind_of p c ≡ kind.NoChoice = ap (λ a. cond a (kind.Install c) (cond (is_leave p c) leave kind.NoChoice)) e ∙ ap (λ b. cond b leave kind.NoChoice) f in
          literal (token (universe texts) p c) (ap (λ k. list_all is_printed (token_by_kind (universe texts) p k)) none)

  token-line : {front : List ℕ} → IsPrinted front → (c : ℕ) → IsPrinted (front ++ token (universe texts) p c ++ codes "\n")
  token-line front c = join (join front (token-printed c)) (literal (codes "\n") refl)

  choices-printed : (set : List ℕ) → IsPrinted (flat_map (choice_line (universe texts) p) set)
  choices-printed set = each (choice_line (universe texts) p) (λ c. token-line (literal (codes "  ") refl) c) set

  marks-printed : (marks : List (ℕ × Mark)) → IsPrinted (flat_map (mark_line (universe texts) p) marks)
  marks-printed marks =
      each (mark_line (universe texts) p) (λ (m : ℕ × Mark). token-line (join (literal (codes "  ") refl) (mark-printed m.1)) m.0) marks

  reply-is : (table : Table) (reply : Reply) → IsPrinted (reply_text (universe texts) p table reply)
  reply-is table (Solution n set fresh) =
      let numbered = framed (literal (codes "Solution ") refl) n (literal (codes " cost") refl) in
      let priced = join numbered (cost-printed (cost table set)) in
      join (join priced (literal (codes "\n") refl)) (choices-printed set)
  reply-is table NoMore = literal (codes "No more solutions\n") refl
  reply-is table (NotYet steps) = framed (literal (codes "Not yet, ") refl) steps (literal (codes " steps\n") refl)
  reply-is table Marked = literal (codes "Marked\n") refl
  reply-is table (Rules marks caps) =
      let counted = framed (literal (codes "Rules ") refl) (length marks + length caps) (literal (codes "\n") refl) in
      join (join counted (marks-printed marks)) (each cap_line cap-printed caps)
  reply-is table (Summary deliveries choices) =
      let counted = framed (literal (codes "Summary: ") refl) deliveries (literal (codes " deliveries, ") refl) in
      framed counted choices (literal (codes " choices\n") refl)
  reply-is table NotShown = literal (codes "No solution is shown\n") refl
  reply-is table AtFirst = literal (codes "At the first solution\n") refl
  reply-is table (RuledOut c) = token-line (literal (codes "Ruled out by ") refl) c
  reply-is table (OverCap level) = framed (literal (codes "Over cap ") refl) (level + 1) (literal (codes "\n") refl)
  reply-is table NoLevel = literal (codes "No such level\n") refl
  reply-is table Accepted = literal (codes "Accepted\n") refl
  reply-is table Ended = literal (codes "Ended\n") refl
  reply-is table (Misread kind) = join (literal (codes "Bad line: ") refl) (fault-printed kind)

  pub reply-printed : (table : Table) (reply : Reply) → list_all is_printed (reply_text (universe texts) p table reply) ≡ true
  reply-printed table reply = (reply-is table reply).all
