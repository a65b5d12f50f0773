-- Lines that are within a set with one more choice.
use Rattle.std.specs.Prelude.{ℕ, Bool, true, false, ◌&&◌, List, [], ◌∷◌, ◌==◌, Option, Some, None, if◌then◌else◌}
use Rattle.lists.specs.Sets.{has}
use Rattle.resolver_model.specs.declared.lines.Line.{Line}
use Rattle.promotions.specs.declared.near.Lack.{Lack}
use Rattle.promotions.specs.declared.near.Lack.TheVariants.{Nothing, One, More}
use Rattle.promotions.specs.declared.near.Near.{Near}
use Rattle.promotions.specs.Strongest.{is_better}

-- what is lacking with one more choice
abbrev pub one_more : Lack → ℕ → Lack
one_more Nothing c = One c
one_more (One first) c = More
one_more More c = More

-- what a set lacks of a list, after what was lacking before it
abbrev pub lack_from : List ℕ → Lack → List ℕ → Lack
lack_from set lack [] = lack
lack_from set lack (c ∷ part) = lack_from set (if has set c then lack else one_more lack c) part

-- whether a set with this choice has what it lacks
abbrev pub makes_up : Lack → ℕ → Bool
makes_up Nothing c = true
makes_up (One first) c = first == c
makes_up More c = false

-- the better of the best so far and a line, if it is within the set with this choice
abbrev pub better_near : ℕ → Option Line → Near → Option Line
better_near c best near = if makes_up near.lack c && is_better near.line.now best then Some near.line.now else best

abbrev pub better_found : ℕ → Option Line → Option Near → Option Line
better_found c best (Some near) = better_near c best near
better_found c best None = best
