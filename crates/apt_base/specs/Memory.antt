-- Files in memory, by name.
use Rattle.std.specs.Prelude.{◌≡◌, ℕ, Bool, List, map, Option, ◌==◌, string_bytes, Vec}
use Rattle.std.specs.Prelude.{String}
use Rattle.std.specs.declared.alloc.Global.{Global}
use Rattle.std.specs.List.{list_all}
use Rattle.std.specs.Str.{bytes_eq}
use Rattle.std.specs.Prelude.{true, false, ◌&&◌, [], ◌∷◌, cond, IsTrue, IsSome, Some, refl}
use Rattle.std.proofs.lemmas.Bool.{eqb-true}
use Rattle.std.proofs.lemmas.Slice.Eq.{bytes_eq-Decides}
use Rattle.std.proofs.Common.{ap, ◌∙◌}
use Rattle.apt_base.specs.Faults.{ByName, at_name, faults_of}

-- a file's name and its bytes
abbrev pub file_of : String Global × Vec ℕ Global → List ℕ × List ℕ
file_of file = (string_bytes file.0, file.1.items)

abbrev pub files_of : List (String Global × Vec ℕ Global) → ByName (List ℕ)
files_of files = map file_of files

-- no file of these has a fault
abbrev pub none_failed : ByName ℕ → ByName (List ℕ) → Bool
none_failed asked files = list_all (λ file. faults_of asked file.0 == 0) files

both : (a b : Bool) → (a && b) ≡ true → (a ≡ true) × (b ≡ true)
both true b e = (refl, e)
both false b e = cc

at_file : (same : Bool) (asked : ByName ℕ) (file : List ℕ × List ℕ) (rest : Option (List ℕ)) (name : List ℕ) → bytes_eq name file.0 ≡ same → faults_of asked file.0 ≡ 0 → (IsSome rest → faults_of asked name ≡ 0) → IsSome (cond same (Some file.1) rest) → faults_of asked name ≡ 0
at_file true asked file rest name is none later there = ap (faults_of asked) ((bytes_eq-Decides name file.0).0 is) ∙ none
at_file false asked file rest name is none later there = later there

-- no file that is there has a fault
pub sure_of_files : (asked : ByName ℕ) (files : ByName (List ℕ)) → IsTrue (none_failed asked files) → (name : List ℕ) → IsSome (at_name files name) → faults_of asked name ≡ 0
sure_of_files asked [] sure name there = cc
sure_of_files asked (file ∷ files) sure name there =
    let parts = both (faults_of asked file.0 == 0) (none_failed asked files) sure in
    at_file (bytes_eq name file.0) asked file (at_name files name) name refl (eqb-true (faults_of asked file.0) 0 parts.0) (λ h. sure_of_files asked files parts.1 name h) there
