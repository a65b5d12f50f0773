-- What hints do to the choices of a problem: which are marked, and how much is added at a cost name.
use Rattle.std.specs.Prelude.{ℕ, Bool, true, false, not, ◌&&◌, ◌==◌, nat_lt, List, [], if◌then◌else◌, fold}
use Rattle.std.specs.List.{filter, sum_by}
use Rattle.ascii.specs.Texts.{is_same}
use Rattle.problem.specs.Places.{absent_of}
use Rattle.resolver_model.specs.Problems.{Problem, version_count, package_of, choices}
use Rattle.resolver_model.specs.Rules.{Rules}
use Rattle.resolver_model.specs.declared.marks.Mark.{Mark}
use Rattle.resolver_model.specs.declared.marks.Mark.TheVariants.{Free, Approved, Rejected}
use Rattle.hint_effects.specs.declared.Target.{Target}
use Rattle.hint_effects.specs.declared.Target.TheVariants.{One, Whole, Nothing}
use Rattle.hint_effects.specs.declared.Hint.{Hint}
use Rattle.hint_effects.specs.declared.Hint.TheVariants.{Marks, Adds}

-- whether a choice installs a version other than absent, which is the first one of its package
abbrev pub is_present : Problem → ℕ → Bool
is_present p c = nat_lt c (version_count p) && not (absent_of p (package_of p c) == c)

-- Whether a target names the choice c: by its number, or as a version of its package other than absent.
abbrev pub names_choice : Problem → Target → ℕ → Bool
names_choice p (One n) c = c == n
names_choice p (Whole q) c = is_present p c && (package_of p c == q)
names_choice p Nothing c = false

-- ---- marks: a later one replaces an earlier one

abbrev pub mark_after : Problem → ℕ → Mark → Hint → Mark
mark_after p c before (Marks mark target) = if names_choice p target c then mark else before
mark_after p c before (Adds amount name target) = before

-- the mark of the choice c after all hints
abbrev pub mark_by : Problem → List Hint → ℕ → Mark
mark_by p hints c = fold (mark_after p c) Free hints

abbrev pub is_mark : Mark → Mark → Bool
is_mark Free Free = true
is_mark Approved Approved = true
is_mark Rejected Rejected = true
is_mark _ _ = false

-- the choices of a problem that have a mark after all hints, rising
abbrev pub marked : Problem → List Hint → Mark → List ℕ
marked p hints mark = filter (λ c. is_mark (mark_by p hints c) mark) (choices p)

-- the rules that hints set
abbrev pub rules_of : Problem → List Hint → Rules
rules_of p hints = record { approved = marked p hints Approved; rejected = marked p hints Rejected; caps = [] }

-- ---- amounts: those of several hints add up

-- what a hint adds for the choice c at a cost name
abbrev pub addition : Problem → List ℕ → ℕ → Hint → ℕ
addition p name c (Adds amount other target) = if is_same other name && names_choice p target c then amount else 0
addition p name c (Marks mark target) = 0

abbrev pub added : Problem → List Hint → List ℕ → ℕ → ℕ
added p hints name c = sum_by (addition p name c) hints
