-- Workers, round after round.
use Rattle.std.proofs.Common.{inl, inr, ◌≡◌, ◌<◌, ℕ, suc, List, [], ◌∷◌, ◌++◌, length, refl, ap, ◌∙◌, arith}
use Rattle.std.specs.Prelude.{All, slice_index_or}
use Rattle.std.specs.List.{AllZip}
use Rattle.std.proofs.lemmas.List.Elements.{All-head, All-tail, All-cons}
use Rattle.resolver_model.specs.declared.history.Entry.TheVariants.{Say, Take, Put, Back}
use Rattle.resolver_model.specs.Histories.{History, out_at}
use Rattle.session_cell.specs.Passes.{Cell, Pass}
use Rattle.search_thread.specs.Slices.{ArePairs, CanWork, IsWorked, IsGivenUp}
use Rattle.talk.specs.Ends.{commands_in}
use Rattle.talk.proofs.Quiet.{commands_in-quiet}
use Rattle.shared_talk.specs.Turns.{HasWorked}

-- ---- lists, place by place

pub zip_from : {X : Type 0} (R : X → X → Type 0) (xs ys : List X) → length ys ≡ length xs → ((i : ℕ) (d : X) → i < length xs → R (slice_index_or xs i d) (slice_index_or ys i d)) → AllZip R xs ys
zip_from R [] [] e h = tt
zip_from R [] (y ∷ ys) e h = absurd (omega (arith, e))
zip_from R (x ∷ xs) [] e h = absurd (omega (arith, e))
zip_from R (x ∷ xs) (y ∷ ys) e h = (h 0 x (omega arith), zip_from R xs ys (omega (arith, e)) (λ i d lt. h (suc i) d (omega (arith, lt))))

zip_twice : {X : Type 0} (R : X → X → Type 0) → ((x y z : X) → R x y → R y z → R x z) → (xs ys zs : List X) → AllZip R xs ys → AllZip R ys zs → AllZip R xs zs
zip_twice R t [] [] [] a b = tt
zip_twice R t [] [] (z ∷ zs) a b = absurd b
zip_twice R t [] (y ∷ ys) zs a b = absurd a
zip_twice R t (x ∷ xs) [] zs a b = absurd a
zip_twice R t (x ∷ xs) (y ∷ ys) [] a b = absurd b
zip_twice R t (x ∷ xs) (y ∷ ys) (z ∷ zs) a b = (t x y z a.0 b.0, zip_twice R t xs ys zs a.1 b.1)

zip_all : {X : Type 0} (R : X → X → Type 0) (P : X → Type 0) → ((x y : X) → R x y → P x → P y) → (xs ys : List X) → AllZip R xs ys → All P xs → All P ys
zip_all R P f [] [] a h = h
zip_all R P f [] (y ∷ ys) a h = absurd a
zip_all R P f (x ∷ xs) [] a h = absurd a
zip_all R P f (x ∷ xs) (y ∷ ys) a h = All-cons P y ys (f x y a.0 (All-head P x xs h)) (zip_all R P f xs ys a.1 (All-tail P x xs h))

-- ---- workers

pairs_quiet : (actor : ℕ) (entries : History) → ArePairs actor entries → commands_in entries ≡ []
pairs_quiet actor [] p = refl
pairs_quiet actor (Take a leaf ∷ Put b split by learned ∷ es) p = pairs_quiet actor es p.3
pairs_quiet actor (Say a command reply ∷ es) p = absurd p
pairs_quiet actor (Put a n by learned ∷ es) p = absurd p
pairs_quiet actor (Back a n ∷ es) p = absurd p
pairs_quiet actor (Take a n ∷ []) p = absurd p
pairs_quiet actor (Take a n ∷ Say b command reply ∷ es) p = absurd p
pairs_quiet actor (Take a n ∷ Take b m ∷ es) p = absurd p
pairs_quiet actor (Take a n ∷ Back b m ∷ es) p = absurd p

given_up_quiet : (actor : ℕ) (entries : History) → IsGivenUp actor entries → commands_in entries ≡ []
given_up_quiet actor entries (inl none) = ap commands_in none
given_up_quiet actor entries (inr back) = ap commands_in back.1

pub worked : (old new : Pass) → IsWorked old new → HasWorked old new
worked old new w =
    let pairs = w.searched.entries in
    let quiet : commands_in (pairs ++ w.rest) ≡ [] =
    commands_in-quiet pairs w.rest (given_up_quiet old.hand.actor w.rest w.given_up) ∙ pairs_quiet old.hand.actor pairs w.searched.paired in
    record {
      same = w.same;
      quiet = ap commands_in w.searched.made ∙ commands_in-quiet old.hand.made (pairs ++ w.rest) quiet;
      idle = ap (λ (a : ℕ). out_at a new.hand.made) w.same.actor ∙ w.searched.idle;
    }

worked_twice : (p q r : Pass) → HasWorked p q → HasWorked q r → HasWorked p r
worked_twice p q r a b = record {
  same = record { table = b.same.table ∙ a.same.table; stops = b.same.stops ∙ a.same.stops; start = b.same.start ∙ a.same.start; actor = b.same.actor ∙ a.same.actor };
  quiet = b.quiet ∙ a.quiet;
  idle = b.idle;
}

can_after : (cell : Cell) (old new : Pass) → HasWorked old new → CanWork cell old → CanWork cell new
can_after cell old new w can = ((w.same.table ∙ can.0.0, w.same.stops ∙ can.0.1, w.same.start ∙ can.0.2), w.idle)

pub all_can : (cell : Cell) (olds news : List Pass) → AllZip HasWorked olds news → All (CanWork cell) olds → All (CanWork cell) news
all_can cell olds news zip can = zip_all HasWorked (CanWork cell) (λ old new w c. can_after cell old new w c) olds news zip can

pub rest_worked : (cell : Cell) (workers : List Pass) → All (CanWork cell) workers → AllZip HasWorked workers workers
rest_worked cell [] can = tt
rest_worked cell (w ∷ ws) can =
    (record { same = record { table = refl; stops = refl; start = refl; actor = refl }; quiet = refl; idle = (All-head (CanWork cell) w ws can).1 }, rest_worked cell ws (All-tail (CanWork cell) w ws can))

pub worked_further : (olds mids news : List Pass) → AllZip HasWorked olds mids → AllZip HasWorked mids news → AllZip HasWorked olds news
worked_further olds mids news a b = zip_twice HasWorked (λ p q r x y. worked_twice p q r x y) olds mids news a b

pub worked_all : (olds news : List Pass) → length news ≡ length olds → ((i : ℕ) (d : Pass) → i < length olds → IsWorked (slice_index_or olds i d) (slice_index_or news i d)) → AllZip HasWorked olds news
worked_all olds news same each = zip_from HasWorked olds news same (λ i d lt. worked (slice_index_or olds i d) (slice_index_or news i d) (each i d lt))
