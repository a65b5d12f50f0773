-- How what is left of a list of dependencies gets less.
use Rattle.std.proofs.Common.{inl, ◌≡◌, ◌<◌, ◌+◌, ℕ, List, [], ◌∷◌, ◌++◌, Bool, true, false, length, refl, ◌∙◌, arith, append_assoc, length-append, cond, subst}
use Rattle.std.specs.List.{filter}
use Rattle.std.proofs.lemmas.List.Sums.{sum_by-append}
use Rattle.std.proofs.lemmas.List.{append-nil}
use Rattle.problem.specs.Limits.{most_dependencies, most_targets}
use Rattle.universe_model.specs.Dependencies.{Requirement, Setting}
use Rattle.meeting_index.specs.Indexes.{Indexed}
use Rattle.requirement_list.specs.Settings.{setting_of}
use Rattle.universe_model.specs.declared.BuildEnd.{BuildEnd}
use Rattle.universe_model.specs.declared.BuildEnd.TheVariants.{NoMemory}
use Rattle.requirement_list.specs.declared.collected.Collected.{Collected}
use Rattle.requirement_list.specs.Collecting.{AreTables, AreKept, HasCome, HasEnded, IsPut}
use Rattle.requirement_list.specs.RequirementLists.{target_count}

-- want of memory may end every list
pub ended_memory : (rs : List Requirement) (old : Collected) (end : BuildEnd) → end ≡ NoMemory → HasEnded rs old end
ended_memory rs old end e = record { each = λ _ _ _. inl e }

-- ---- nothing, and one call after another

pub come_none : (rs : List Requirement) (c : Collected) → HasCome rs rs c c
come_none rs c = record { owners = refl; starts = refl; left = λ _ _ h. h }

pub come_more : (whole rs left : List Requirement) (a b c : Collected) → HasCome whole (rs ++ left) a b → HasCome rs [] b c → HasCome whole left a c
come_more whole rs left a b c h k = record {
  owners = k.owners ∙ h.owners;
  starts = k.starts ∙ h.starts;
  left = λ all rest l. k.left all (left ++ rest) (rw (← append_assoc rs left rest) (h.left all rest l));
}

pub ended_more : (whole rs left : List Requirement) (a b : Collected) (end : BuildEnd) → HasCome whole (rs ++ left) a b → HasEnded rs b end → HasEnded whole a end
ended_more whole rs left a b end h k =
    record { each = λ all rest l. k.each all (left ++ rest) (rw (← append_assoc rs left rest) (h.left all rest l)) }

-- the same where the installed versions are the same
pub ended_same : (index : Indexed) (old now : Collected) (f : Setting → List Requirement) (end : BuildEnd) → now.builder.starts ≡ old.builder.starts
    → HasEnded (f (setting_of index now)) now end → HasEnded (f (setting_of index old)) now end
ended_same index old now f end e h =
    let P : List ℕ → Type 0 = λ starts. HasEnded (f (record { native = index.native; versions = index.versions; installed = starts })) now end in
    subst P e h

pub come_same : (index : Indexed) (old now new : Collected) (f : Setting → List Requirement) → now.builder.starts ≡ old.builder.starts
    → HasCome (f (setting_of index now)) [] now new → HasCome (f (setting_of index old)) [] now new
come_same index old now new f e h =
    let P : List ℕ → Type 0 = λ starts. HasCome (f (record { native = index.native; versions = index.versions; installed = starts })) [] now new in
    subst P e h

-- one call after others, in the setting of the first
pub come_step : (index : Indexed) (a b c : Collected) (whole left : List Requirement) (f : Setting → List Requirement)
    → HasCome whole (f (setting_of index a) ++ left) a b → HasCome (f (setting_of index b)) [] b c → HasCome whole left a c
come_step index a b c whole left f h k = come_more whole (f (setting_of index a)) left a b c h (come_same index a b c f h.starts k)

pub ended_step : (index : Indexed) (a b : Collected) (whole left : List Requirement) (f : Setting → List Requirement) (end : BuildEnd)
    → HasCome whole (f (setting_of index a) ++ left) a b → HasEnded (f (setting_of index b)) b end → HasEnded whole a end
ended_step index a b whole left f end h k = ended_more whole (f (setting_of index a)) left a b end h (ended_same index a b f end h.starts k)

-- the last call
come_end : (whole rs : List Requirement) (a b : Collected) → HasCome whole rs a b → HasCome whole (rs ++ []) a b
come_end whole rs a b h = rw append-nil h

pub come_last : (index : Indexed) (a b c : Collected) (whole : List Requirement) (f : Setting → List Requirement)
    → HasCome whole (f (setting_of index a)) a b → HasCome (f (setting_of index b)) [] b c → HasCome whole [] a c
come_last index a b c whole f h k = come_step index a b c whole [] f (come_end whole (f (setting_of index a)) a b h) k

pub ended_last : (index : Indexed) (a b : Collected) (whole : List Requirement) (f : Setting → List Requirement) (end : BuildEnd)
    → HasCome whole (f (setting_of index a)) a b → HasEnded (f (setting_of index b)) b end → HasEnded whole a end
ended_last index a b whole f end h k = ended_step index a b whole [] f end (come_end whole (f (setting_of index a)) a b h) k

-- those that pass, with one more in front
pub filter-front : {A : Type 0} (p : A → Bool) (x : A) (xs : List A) → filter p (x ∷ xs) ≡ filter p (x ∷ []) ++ filter p xs
filter-front p x xs =
    elim (p x) as (λ r. cond r (x ∷ filter p xs) (filter p xs) ≡ cond r (x ∷ []) [] ++ filter p xs) [ true ↦ refl | false ↦ refl ]

-- ---- one dependency

target_count-more : (done : List Requirement) (r : Requirement) → most_targets < target_count done → most_targets < target_count (done ++ r ∷ [])
target_count-more done r h = omega (arith, sum_by-append (λ (r : Requirement). length r.dependency.targets) done (r ∷ []))

pub come_one : (r : Requirement) (old new : Collected) → old.count < most_dependencies → new.builder.owners ≡ old.builder.owners → new.builder.starts ≡ old.builder.starts
    → new.count ≡ old.count + 1 → ((done : List Requirement) → length done < most_dependencies → AreKept old.past done old → AreKept new.past (done ++ r ∷ []) new)
    → HasCome (r ∷ []) [] old new
come_one r old new few owners starts count kept = record {
  owners = owners;
  starts = starts;
  left = λ all rest h. record {
    done = h.done ++ r ∷ [];
    whole = append_assoc h.done (r ∷ []) rest ∙ h.whole;
    count = omega (arith, length-append h.done (r ∷ []), h.count, count);
    within = omega (arith, length-append h.done (r ∷ []), h.count, few);
    kept = kept h.done (omega (arith, h.count, few)) h.kept;
  };
}

-- it is only counted
pub come_counted : (r : Requirement) (old new : Collected) → old.past ≡ true → old.count < most_dependencies → new ≡ record old { count = old.count + 1 } → HasCome (r ∷ []) [] old new
come_counted r old new past few e =
    rw e (come_one r old (record old { count = old.count + 1 }) few refl refl refl (λ done lt h. rw past (target_count-more done r (rw past at h))))

-- it is put into the tables
pub come_put : (r : Requirement) (old new : Collected) → old.past ≡ false → old.count < most_dependencies → IsPut r (record old { count = old.count + 1 }) new → HasCome (r ∷ []) [] old new
come_put r old new past few put =
    come_one r old new few put.owners put.starts put.count (λ done lt h. put.kept done lt (same_tables done old.past past h))
  where
    same_tables : (done : List Requirement) (past : Bool) → past ≡ false → AreKept past done old → AreTables done (record old { count = old.count + 1 })
    same_tables done true e h = absurd (cc)
    same_tables done false e h = record { dependencies = h.dependencies; groups = h.groups; conflicts = h.conflicts }
