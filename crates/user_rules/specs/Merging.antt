-- The marks that two sets of choices stand for.
use Rattle.std.specs.Prelude.{ℕ, List, []}
use Rattle.resolver_model.specs.Rules.{marks}
use Rattle.resolver_model.specs.declared.marks.Mark.{Mark}

-- the choices of both sets, rising, with their marks
abbrev pub marks_in : List ℕ → List ℕ → List (ℕ × Mark)
marks_in approved rejected = marks (record { approved = approved; rejected = rejected; caps = [] })
