-- Shelves in memory.
use Rattle.std.proofs.Common.{◌≡◌, ◌≢◌, ℕ, ◌<◌, Bool, true, false, not, cond, List, [], ◌∷◌, ◌++◌, length, Option, Some, None, Result, Ok, Err, IfSome, IsSome, is_some, get_or, map, refl, sym, ap, subst, ◌∙◌, arith}
use Rattle.std.specs.Prelude.{◌&&◌, ◌==◌}
use Rattle.std.specs.Option.{option_map, unwrap_or}
use Rattle.std.specs.Str.{bytes_eq}
use Rattle.std.specs.List.{list_any}
use Rattle.std.proofs.lemmas.Slice.Eq.{bytes_eq-Decides}
use Rattle.std.proofs.lemmas.Bool.{false≢true, false_from_ne_true}
use Rattle.std.proofs.lemmas.Bool.Decides.{nat_tests}
use Rattle.std.specs.List.{slice_get, position}
use Rattle.std.proofs.lemmas.Option.{slice_get-get_or, slice_get_read}
use Rattle.std.proofs.lemmas.List.Quantifiers.{position-Some}
use Rattle.apt_base.specs.Bytes.{Takes}
use Rattle.apt_base.specs.Files.{ShelfState, IsOpening, IsFileRead, IsWhole, untold_state}
use Rattle.apt_base.specs.declared.calls.Failed.{Failed}
use Rattle.apt_base.specs.declared.calls.OpenEnd.{OpenEnd}
use Rattle.apt_base.specs.declared.calls.OpenEnd.TheVariants as open_end
use Rattle.std.specs.Io.KnownBytes.{prepend_known}
use Rattle.apt_base.proofs.Known.{prepend_known-nil}
use Rattle.apt_base.specs.Memory.{files_of}
use Rattle.apt_base.proofs.Names.{named_at, not_named}
use Rattle.apt_base.specs.Faults.{ByName, at_name, faults_of, raised, Rose, IsLater, CountsOnly, is_asked_for}
use Rattle.apt_base.specs.Asked.{with_name, with_fault}
use Rattle.std.proofs.Common.{string_bytes, Vec, String}
use Rattle.std.specs.declared.alloc.Global.{Global}
use Rattle.apt_base.specs.Opened.{is_asked, is_entered}
use Rattle.apt_base.specs.declared.mem_shelf.Opened.{Opened}
use Rattle.apt_base.specs.Memory.{none_failed}
use Rattle.apt_base.proofs.Counts.{IsLater-refl, CountsOnly-refl, CountsOnly-trans}

bytes_eq-same : (name : List ℕ) → bytes_eq name name ≡ true
bytes_eq-same name = (bytes_eq-Decides name name).1 refl

bytes_eq-true : (a b : List ℕ) → bytes_eq a b ≡ true → a ≡ b
bytes_eq-true a b same = (bytes_eq-Decides a b).0 same

bytes_eq-false : (a b : List ℕ) → a ≢ b → bytes_eq a b ≡ false
bytes_eq-false a b other = false_from_ne_true (bytes_eq a b) (λ same. other (bytes_eq-true a b same))

-- a name behind others
at_end_other : {X : Type 0} (xs : ByName X) (name other : List ℕ) (value : X) → other ≢ name → at_name (xs ++ (name, value) ∷ []) other ≡ at_name xs other
at_end_other [] name other value apart = let e = bytes_eq-false other name apart in rw e refl
at_end_other (x ∷ xs) name other value apart = ap (cond (bytes_eq other x.0) (Some x.1)) (at_end_other xs name other value apart)

at_end_step : {X : Type 0} (same : Bool) (first value : X) (rest longer : Option X) → (is_some rest ≡ false → longer ≡ Some value) → is_some (cond same (Some first) rest) ≡ false → cond same (Some first) longer ≡ Some value
at_end_step true first value rest longer later missing = cc
at_end_step false first value rest longer later missing = later missing

at_end_same : {X : Type 0} (xs : ByName X) (name : List ℕ) (value : X) → is_some (at_name xs name) ≡ false → at_name (xs ++ (name, value) ∷ []) name ≡ Some value
at_end_same [] name value missing = let e = bytes_eq-same name in rw e refl
at_end_same (x ∷ xs) name value missing = at_end_step (bytes_eq name x.0) x.1 value (at_name xs name) (at_name (xs ++ (name, value) ∷ []) name) (λ m. at_end_same xs name value m) missing

missing_count : (o : Option ℕ) → is_some o ≡ false → unwrap_or o 0 ≡ 0
missing_count None missing = refl
missing_count (Some n) missing = cc

entering : (there : Bool) (asked : ByName ℕ) (name : List ℕ) → is_some (at_name asked name) ≡ there → CountsOnly name asked (cond there asked (asked ++ (name, 0) ∷ [])) × IsSome (at_name (cond there asked (asked ++ (name, 0) ∷ [])) name) × (faults_of (cond there asked (asked ++ (name, 0) ∷ [])) name ≡ faults_of asked name)
entering true asked name is = (record { asked = λ h. h; later = IsLater-refl (faults_of asked name); others = λ _ _. refl }, is, refl)
entering false asked name is =
    let at = at_end_same asked name 0 is in
    let same : faults_of (asked ++ (name, 0) ∷ []) name ≡ faults_of asked name = ap (λ o. unwrap_or o 0) at ∙ sym (missing_count (at_name asked name) is) in (
      record {
        asked = λ _. ap is_some at;
        later = subst (IsLater (faults_of asked name)) (sym same) (IsLater-refl (faults_of asked name));
        others = λ other apart. at_end_other asked name other 0 apart;
      },
      ap is_some at,
      same,
    )

-- a name is entered: no count changes
pub entered : (asked : ByName ℕ) (name : List ℕ) → CountsOnly name asked (with_name asked name) × IsSome (at_name (with_name asked name) name) × (faults_of (with_name asked name) name ≡ faults_of asked name)
entered asked name = entering (is_some (at_name asked name)) asked name refl

fault_other_step : (same : Bool) (x : List ℕ × ℕ) (asked later : ByName ℕ) (name other : List ℕ) → bytes_eq name x.0 ≡ same → other ≢ name → at_name later other ≡ at_name asked other → at_name (cond same ((x.0, raised x.1) ∷ asked) (x ∷ later)) other ≡ at_name (x ∷ asked) other
fault_other_step true x asked later name other is apart same =
    let no : bytes_eq other x.0 ≡ false = bytes_eq-false other x.0 (λ e. apart (e ∙ sym (bytes_eq-true name x.0 is))) in
    rw no refl
fault_other_step false x asked later name other is apart same = ap (cond (bytes_eq other x.0) (Some x.1)) same

fault_same_step : (same : Bool) (x : List ℕ × ℕ) (asked later : ByName ℕ) (name : List ℕ) → bytes_eq name x.0 ≡ same → at_name later name ≡ option_map raised (at_name asked name) → at_name (cond same ((x.0, raised x.1) ∷ asked) (x ∷ later)) name ≡ option_map raised (at_name (x ∷ asked) name)
fault_same_step true x asked later name is same = rw is refl
fault_same_step false x asked later name is same = rw is same

fault_other : (asked : ByName ℕ) (name other : List ℕ) → other ≢ name → at_name (with_fault asked name) other ≡ at_name asked other
fault_other [] name other apart = refl
fault_other (x ∷ asked) name other apart = fault_other_step (bytes_eq name x.0) x asked (with_fault asked name) name other refl apart (fault_other asked name other apart)

fault_same : (asked : ByName ℕ) (name : List ℕ) → at_name (with_fault asked name) name ≡ option_map raised (at_name asked name)
fault_same [] name = refl
fault_same (x ∷ asked) name = fault_same_step (bytes_eq name x.0) x asked (with_fault asked name) name refl (fault_same asked name)

raised_count : (o : Option ℕ) → IsLater (unwrap_or o 0) (unwrap_or (option_map raised o) 0)
raised_count None = IsLater-refl 0
raised_count (Some n) = record { no_less = omega arith; stays = λ e. omega (arith, e) }

still_some : (o : Option ℕ) → IsSome o → IsSome (option_map raised o)
still_some None some = some
still_some (Some n) some = refl

rises : (o : Option ℕ) → IsSome o → Rose (unwrap_or o 0) (unwrap_or (option_map raised o) 0)
rises None some = absurd (false≢true some)
rises (Some n) some = omega arith

-- a name's count is raised
pub faulted : (asked : ByName ℕ) (name : List ℕ) → CountsOnly name asked (with_fault asked name)
faulted asked name =
    let same = fault_same asked name in
    record {
      asked = λ some. ap is_some same ∙ still_some (at_name asked name) some;
      later = subst (λ o. IsLater (faults_of asked name) (unwrap_or o 0)) (sym same) (raised_count (at_name asked name));
      others = λ other apart. fault_other asked name other apart;
    }

pub fault_rose : (asked : ByName ℕ) (name : List ℕ) → IsSome (at_name asked name) → Rose (faults_of asked name) (faults_of (with_fault asked name) name)
fault_rose asked name some = subst (λ o. Rose (faults_of asked name) (unwrap_or o 0)) (sym (fault_same asked name)) (rises (at_name asked name) some)

first_there : (file : List ℕ × List ℕ) (files : ByName (List ℕ)) → IsSome (at_name (file ∷ files) file.0)
first_there file files = let e = bytes_eq-same file.0 in rw e refl

later_step : (same : Bool) (bytes : List ℕ) (rest : Option (List ℕ)) → IsSome rest → IsSome (cond same (Some bytes) rest)
later_step true bytes rest some = refl
later_step false bytes rest some = some

later_there : (file : List ℕ × List ℕ) (files : ByName (List ℕ)) (name : List ℕ) → IsSome (at_name files name) → IsSome (at_name (file ∷ files) name)
later_there file files name some = later_step (bytes_eq name file.0) file.1 (at_name files name) some

-- whether no file has a fault depends on the counts of the files' names alone
pub none_failed-same : (a b : ByName ℕ) (files : ByName (List ℕ)) → ((name : List ℕ) → IsSome (at_name files name) → faults_of a name ≡ faults_of b name) → none_failed a files ≡ none_failed b files
none_failed-same a b [] each = refl
none_failed-same a b (file ∷ files) each =
    let here = each file.0 (first_there file files) in
    let rest = none_failed-same a b files (λ name some. each name (later_there file files name some)) in
    ap (λ n. (n == 0) && none_failed a files) here ∙ ap (λ r. (faults_of b file.0 == 0) && r) rest

pub fails_step : (xs : List ℕ) (call : ℕ) → list_any (λ x. x == call) xs ≡ true → (length xs == 0) ≡ false
fails_step [] call some = cc
fails_step (x ∷ xs) call some = grind (arith, nat_tests)

apart_names : (a b : List ℕ) → bytes_eq a b ≡ false → a ≢ b
apart_names a b no_match e = false≢true (sym no_match ∙ ap (bytes_eq a) (sym e) ∙ bytes_eq-same a)

counts_step : (same : Bool) (asked : ByName ℕ) (name n : List ℕ) → bytes_eq n name ≡ same → faults_of (with_name asked name) n ≡ faults_of asked n
counts_step true asked name n is =
    let e = bytes_eq-true n name is in
    let P : List ℕ → Type 0 = λ m. faults_of (with_name asked name) m ≡ faults_of asked m in
    subst P (sym e) (entered asked name).2
counts_step false asked name n is = ap (λ o. unwrap_or o 0) ((entered asked name).0.others n (apart_names n name is))

asked_step : (same : Bool) (name n : List ℕ) (a b : ByName ℕ) → bytes_eq n name ≡ same → CountsOnly name a b → IsSome (at_name a n) → IsSome (at_name b n)
asked_step true name n a b is only some =
    let e = bytes_eq-true n name is in
    let P : List ℕ → Type 0 = λ m. IsSome (at_name b m) in
    let Q : List ℕ → Type 0 = λ m. IsSome (at_name a m) in
    subst P (sym e) (only.asked (subst Q e some))
asked_step false name n a b is only some = ap is_some (only.others n (apart_names n name is)) ∙ some

-- every count is kept where a name is entered
pub entered_counts : (asked : ByName ℕ) (name n : List ℕ) → faults_of (with_name asked name) n ≡ faults_of asked n
entered_counts asked name n = counts_step (bytes_eq n name) asked name n refl

-- entering and raising a name keeps all other names
pub two_steps : (asked : ByName ℕ) (name : List ℕ) → CountsOnly name asked (with_fault (with_name asked name) name)
two_steps asked name = CountsOnly-trans name asked (with_name asked name) _ (entered asked name).0 (faulted (with_name asked name) name)

pub two_steps_rose : (asked : ByName ℕ) (name : List ℕ) → Rose (faults_of asked name) (faults_of (with_fault (with_name asked name) name) name)
two_steps_rose asked name =
    let e = entered asked name in
    let P : ℕ → Type 0 = λ n. Rose n (faults_of (with_fault (with_name asked name) name) name) in
    subst P e.2 (fault_rose (with_name asked name) name e.1)

-- a name that was asked stays, whatever happens to another
pub still_asked : (name n : List ℕ) (a b : ByName ℕ) → CountsOnly name a b → IsSome (at_name a n) → IsSome (at_name b n)
still_asked name n a b only some = asked_step (bytes_eq n name) name n a b refl only some

missing_kept : (asked : ByName ℕ) (name n : List ℕ) (files : ByName (List ℕ)) → at_name files name ≡ None → IsSome (at_name files n) → faults_of (with_fault (with_name asked name) name) n ≡ faults_of asked n
missing_kept asked name n files missing some =
    let apart : n ≢ name = λ e. false≢true (sym (ap is_some missing) ∙ sym (ap (λ m. is_some (at_name files m)) e) ∙ some) in
    ap (λ o. unwrap_or o 0) ((two_steps asked name).others n apart)

some_none : (n : ℕ) → Some n ≡ None → ⊥
some_none n same = cc

ok_err : {T E : Type 0} (x : T) (e : E) → ◌≡◌ {A = Result T E} (Ok x) (Err e) → ⊥
ok_err x e same = cc

-- an `open` that succeeds
pub open_ok : (old new : ShelfState) (name bytes : List ℕ) (files : ByName (List ℕ)) → old.files ≡ Some files → at_name files name ≡ Some bytes → new.sure ≡ old.sure → new.files ≡ old.files → new.asked ≡ with_name old.asked name → new.opened ≡ Some name → new.rest ≡ Some bytes → IsOpening old name (Ok tt) new
open_ok old new name bytes files told at sure kept asked opened rest =
    let e = entered old.asked name in
    let P : Option (ByName (List ℕ)) → Type 0 = λ f. IsWhole f name new.rest in
    let C : ByName ℕ → Type 0 = λ a. CountsOnly name old.asked a in
    let S : ByName ℕ → Type 0 = λ a. IsSome (at_name a name) in
    record {
      kept = record { sure = sure; files = kept };
      counts = subst C (sym asked) e.0;
      opened = opened;
      whole = subst P (sym told) (ap is_some rest, rest ∙ sym at);
      entered = λ _. subst S (sym asked) e.1;
      failed = λ h. absurd (ok_err _ _ h);
      no_memory = λ h. absurd (ok_err _ _ h);
    }

failed_memory : {T : Type 0} → ◌≡◌ {A = Result T OpenEnd} (Err open_end.Failed) (Err open_end.NoMemory) → ⊥
failed_memory same = cc

-- an `open` that fails
pub open_failed : (old new : ShelfState) (name : List ℕ) → new.sure ≡ old.sure → new.files ≡ old.files → new.asked ≡ with_fault (with_name old.asked name) name → new.opened ≡ old.opened → new.rest ≡ old.rest → IsOpening old name (Err open_end.Failed) new
open_failed old new name sure kept asked opened rest =
    let C : ByName ℕ → Type 0 = λ a. CountsOnly name old.asked a in
    let S : ByName ℕ → Type 0 = λ a. IsSome (at_name a name) in
    let R : ByName ℕ → Type 0 = λ a. Rose (faults_of old.asked name) (faults_of a name) in
    record {
      kept = record { sure = sure; files = kept };
      counts = subst C (sym asked) (two_steps old.asked name);
      opened = tt;
      whole = tt;
      entered = λ _. subst S (sym asked) ((faulted (with_name old.asked name) name).asked (entered old.asked name).1);
      failed = λ _. (subst R (sym asked) (two_steps_rose old.asked name), opened, rest);
      no_memory = λ h. absurd (failed_memory h);
    }

no_counts : (opened : Option (List ℕ)) (asked : ByName ℕ) → IfSome opened (λ name. CountsOnly name asked asked × Unit {0})
no_counts None asked = tt
no_counts (Some name) asked = (CountsOnly-refl name asked, tt)

-- a read of the open file that succeeds
pub read_ok : (old new : ShelfState) (count : ℕ) (buffer : List ℕ) → new.sure ≡ old.sure → new.files ≡ old.files → new.asked ≡ old.asked → new.opened ≡ old.opened → Takes old.rest (Ok count) buffer new.rest → IsFileRead old (Ok count) buffer new
read_ok old new count buffer sure kept asked opened bytes =
    let C : ByName ℕ → Type 0 = λ a. IfSome old.opened (λ name. CountsOnly name old.asked a × Unit {0}) in
    record {
      kept = record { sure = sure; files = kept };
      opened = opened;
      cause = subst C (sym asked) (no_counts old.opened old.asked);
      bytes = bytes;
    }

-- a read of the open file that fails
pub read_failed : (old new : ShelfState) (e : Failed) (name buffer : List ℕ) → new.sure ≡ old.sure → new.files ≡ old.files → old.opened ≡ Some name → IsSome (at_name old.asked name) → new.asked ≡ with_fault old.asked name → new.opened ≡ old.opened → new.rest ≡ old.rest → IsFileRead old (Err e) buffer new
read_failed old new e name buffer sure kept is_open there asked opened rest =
    let C : ByName ℕ → Type 0 = λ a. CountsOnly name old.asked a × Rose (faults_of old.asked name) (faults_of a name) in
    let O : Option (List ℕ) → Type 0 = λ o. IfSome o (λ n. CountsOnly n old.asked new.asked × Rose (faults_of old.asked n) (faults_of new.asked n)) in
    record {
      kept = record { sure = sure; files = kept };
      opened = opened;
      cause = subst O (sym is_open) (subst C (sym asked) (faulted old.asked name, fault_rose old.asked name there));
      bytes = record { within = tt; front = sym (ap (prepend_known []) rest ∙ prepend_known-nil old.rest); at_end = tt };
    }

-- whether a shelf is sure where a name was entered
pub sure_entered : (a b : Bool) (asked now : ByName ℕ) (name : List ℕ) (files : ByName (List ℕ)) → b ≡ a → now ≡ with_name asked name → (b && none_failed now files) ≡ (a && none_failed asked files)
sure_entered a b asked now name files plan is =
    ap (λ v. v && none_failed now files) plan ∙ ap (λ n. a && none_failed n files) is ∙ ap (λ r. a && r) (none_failed-same (with_name asked name) asked files (λ n some. entered_counts asked name n))

-- where a name failed that is not there
pub sure_missing : (a b : Bool) (asked now : ByName ℕ) (name : List ℕ) (files : ByName (List ℕ)) → b ≡ a → now ≡ with_fault (with_name asked name) name → at_name files name ≡ None → (b && none_failed now files) ≡ (a && none_failed asked files)
sure_missing a b asked now name files plan is missing =
    let each = λ (n : List ℕ) (some : IsSome (at_name files n)). missing_kept asked name n files missing some in
    ap (λ v. v && none_failed now files) plan ∙ ap (λ n. a && none_failed n files) is ∙ ap (λ r. a && r) (none_failed-same (with_fault (with_name asked name) name) asked files each)

-- where a call failed that was to fail
pub sure_planned : (a b : Bool) (x y : Bool) → b ≡ a → a ≡ false → (b && x) ≡ (a && y)
sure_planned a b x y plan fails = ap (λ v. v && x) (plan ∙ fails) ∙ sym (ap (λ v. v && y) fails)

-- the file whose place was found
pub file_found : {X V : Type 0} (key : X → List ℕ) (value : X → V) (name : List ℕ) (xs : List X) (place : ℕ) → Some place ≡ position (λ x. bytes_eq name (key x)) xs → (file : X) × (slice_get xs place ≡ Some file) × (key file ≡ name) × (at_name (map (λ x. (key x, value x)) xs) name ≡ Some (value file))
file_found key value name [] place at = absurd (some_none place at)
file_found key value name (x ∷ xs) place at =
    let here = position-Some (λ x. bytes_eq name (key x)) (x ∷ xs) place x (sym at) in
    (get_or (x ∷ xs) place x, slice_get-get_or (x ∷ xs) place x here.0, sym (bytes_eq-true name (key (get_or (x ∷ xs) place x)) here.1), named_at key value name (x ∷ xs) place x at)

-- what a clause says of an answer that was no error

none_asked : (files : ByName (List ℕ)) → none_failed [] files ≡ true
none_asked [] = refl
none_asked (file ∷ files) = none_asked files

answer_step : {A : Type 0} (there : Bool) (ok e : A) → e ≡ cond (there && false) ok e
answer_step true ok e = refl
answer_step false ok e = refl

-- a new shelf is sure by its plan alone
pub sure_new : (never : Bool) (files : ByName (List ℕ)) → (never && none_failed [] files) ≡ never
sure_new true files = none_asked files
sure_new false files = refl

-- what stands at the open file's place is among the names asked, still
pub entered_still : (o : Option (String Global × Vec ℕ Global)) (name : List ℕ) (a b : ByName ℕ) → CountsOnly name a b → is_asked a o ≡ true → is_asked b o ≡ true
entered_still None name a b only there = refl
entered_still (Some file) name a b only there = still_asked name (string_bytes file.0) a b only there

pub opened_still : (files : List (String Global × Vec ℕ Global)) (o : Option Opened) (name : List ℕ) (a b : ByName ℕ) → CountsOnly name a b → is_entered files a o ≡ true → is_entered files b o ≡ true
opened_still files None name a b only there = refl
opened_still files (Some opened) name a b only there = entered_still (slice_get files opened.file) name a b only there

-- what `open` answers
pub answer_ok : {A : Type 0} (there fails : Bool) (ok e : A) → there ≡ true → fails ≡ false → ok ≡ cond (there && not fails) ok e
answer_ok there fails ok e is goes = rw (is, goes) refl

pub answer_failed : {A : Type 0} (there fails : Bool) (ok e : A) → fails ≡ true → e ≡ cond (there && not fails) ok e
answer_failed there fails ok e goes = rw goes (answer_step there ok e)

pub answer_missing : {A : Type 0} (there fails : Bool) (ok e : A) → there ≡ false → e ≡ cond (there && not fails) ok e
answer_missing there fails ok e is = rw is refl

pub goes_on : (fails : Bool) (e : Failed) (most count : ℕ) → Ok count ≡ cond fails (Err e) (Ok most) → fails ≡ false
goes_on true e most count is = cc
goes_on false e most count is = refl

pub gives_up : (fails : Bool) (e f : Failed) (most : ℕ) → ◌≡◌ {A = Result ℕ Failed} (Err f) (cond fails (Err e) (Ok most)) → fails ≡ true
gives_up true e f most is = refl
gives_up false e f most is = cc

-- the file that was found on a shelf
pub file_on_shelf : (files ys : List (String Global × Vec ℕ Global)) (name : List ℕ) (place : ℕ) → ys ≡ files → Some place ≡ position (λ f. bytes_eq name (string_bytes f.0)) ys → (file : String Global × Vec ℕ Global) × (slice_get files place ≡ Some file) × (string_bytes file.0 ≡ name) × (at_name (files_of files) name ≡ Some file.1.items)
file_on_shelf files ys name place same at =
    let P : List (String Global × Vec ℕ Global) → Type 0 = λ l. Some place ≡ position (λ f. bytes_eq name (string_bytes f.0)) l in
    file_found (λ f. string_bytes f.0) (λ f. f.1.items) name files place (subst P same at)

pub no_file : (files ys : List (String Global × Vec ℕ Global)) (name : List ℕ) → ys ≡ files → None ≡ position (λ f. bytes_eq name (string_bytes f.0)) ys → at_name (files_of files) name ≡ None
no_file files ys name same at =
    let P : List (String Global × Vec ℕ Global) → Type 0 = λ l. None ≡ position (λ f. bytes_eq name (string_bytes f.0)) l in
    not_named (λ f. string_bytes f.0) (λ f. f.1.items) name files (subst P same at)

-- the file that was opened is among the names asked
pub entered_open : (files : List (String Global × Vec ℕ Global)) (place : ℕ) (file : String Global × Vec ℕ Global) (asked now : ByName ℕ) (name : List ℕ) → slice_get files place ≡ Some file → string_bytes file.0 ≡ name → now ≡ with_name asked name → is_asked now (slice_get files place) ≡ true
entered_open files place file asked now name get named is =
    let P : Option (String Global × Vec ℕ Global) → Type 0 = λ o. is_asked now o ≡ true in
    let Q : List ℕ → Type 0 = λ n. IsSome (at_name now n) in
    let R : ByName ℕ → Type 0 = λ a. IsSome (at_name a name) in
    subst P (sym get) (subst Q (sym named) (subst R (sym is) (entered asked name).1))

pub new_state : (never : Bool) (asked : ByName ℕ) (files : ByName (List ℕ)) → asked ≡ [] → ◌≡◌ {A = ShelfState} (record { sure = never && none_failed asked files; asked = asked; files = Some files; opened = None; rest = None }) (record { sure = never; asked = []; files = Some files; opened = None; rest = None })
new_state never asked files is =
    let f : Bool → ByName ℕ → ShelfState = λ sure a. record { sure = sure; asked = a; files = Some files; opened = None; rest = None } in
    ap (λ a. f (never && none_failed asked files) a) is ∙ ap (λ s. f s []) (ap (λ a. never && none_failed a files) is ∙ sure_new never files)

-- the file that `get` gave
pub got_file : {X : Type 0} (files ys : List X) (place : ℕ) (file : X) → ys ≡ files → place < length ys → file ≡ get_or ys place file → slice_get files place ≡ Some file
got_file {X} files ys place file same inside is =
    let P : List X → Type 0 = λ l. slice_get l place ≡ Some file in
    subst P same (slice_get_read ys (length ys) place file refl inside is)

pub takes_of : (old new : Option (List ℕ)) (before after buffer : List ℕ) (result : Result ℕ Failed) → old ≡ Some before → new ≡ Some after → Takes (Some before) result buffer (Some after) → Takes old result buffer new
takes_of old new before after buffer result first second takes =
    let P : Option (List ℕ) → Type 0 = λ o. Takes o result buffer new in
    let Q : Option (List ℕ) → Type 0 = λ o. Takes (Some before) result buffer o in
    subst P (sym first) (subst Q (sym second) takes)

-- the open file is one of those asked for
pub is_there : (files : List (String Global × Vec ℕ Global)) (o : Option Opened) (opened : Opened) (file : String Global × Vec ℕ Global) (asked : ByName ℕ) → o ≡ Some opened → slice_get files opened.file ≡ Some file → is_entered files asked o ≡ true → IsSome (at_name asked (string_bytes file.0))
is_there files o opened file asked at get entered_there =
    let P : Option Opened → Type 0 = λ v. is_entered files asked v ≡ true in
    let Q : Option (String Global × Vec ℕ Global) → Type 0 = λ v. is_asked asked v ≡ true in
    subst Q get (subst P at entered_there)

-- a shelf that tells nothing
pub named_entered : (asked now : ByName ℕ) (name copy : List ℕ) → now ≡ with_name asked name → copy ≡ name → IsSome (at_name now copy)
named_entered asked now name copy is same =
    let P : List ℕ → Type 0 = λ n. IsSome (at_name now n) in
    let R : ByName ℕ → Type 0 = λ a. IsSome (at_name a name) in
    subst P (sym same) (subst R (sym is) (entered asked name).1)

pub asked_for_still : (o : Option (List ℕ)) (name : List ℕ) (a b : ByName ℕ) → CountsOnly name a b → is_asked_for a o ≡ true → is_asked_for b o ≡ true
asked_for_still None name a b only there = refl
asked_for_still (Some n) name a b only there = still_asked name n a b only there

pub asked_for : (o : Option (List ℕ)) (name : List ℕ) (asked : ByName ℕ) → o ≡ Some name → is_asked_for asked o ≡ true → IsSome (at_name asked name)
asked_for o name asked at there =
    let P : Option (List ℕ) → Type 0 = λ v. is_asked_for asked v ≡ true in
    subst P at there

pub open_untold : (asked now : ByName ℕ) (o : Option (List ℕ)) (name copy : List ℕ) → now ≡ with_name asked name → copy ≡ name → IsOpening (untold_state asked o) name (Ok tt) (untold_state now (Some copy))
open_untold asked now o name copy is same =
    let e = entered asked name in
    let C : ByName ℕ → Type 0 = λ a. CountsOnly name asked a in
    let S : ByName ℕ → Type 0 = λ a. IsSome (at_name a name) in
    record {
      kept = record { sure = refl; files = refl };
      counts = subst C (sym is) e.0;
      opened = ap Some same;
      whole = refl;
      entered = λ _. subst S (sym is) e.1;
      failed = λ h. absurd (ok_err _ _ h);
      no_memory = λ h. absurd (ok_err _ _ h);
    }
