-- The command is a simple one, whose arguments have no rule on one another; so its matches and its faults are known.
use Rattle.std.proofs.Common.{◌≡◌, ◌⊎◌, ◌≢◌, inl, inr, true, List, [], ◌∷◌, refl, ap, ◌∙◌}
use Rattle.clap.specs.Words.{App, Kinds, Text, fault_of, matches_of, is_simple, is_simple_and_free, IsAmong}
use Rattle.clap.specs.declared.error.kind.ErrorKind.{ErrorKind}
use Rattle.clap.specs.declared.error.kind.ErrorKind.TheVariants.{OutOfMemory}
use Rattle.clap.proofs.OnLiterals.{clap_on_literals}
use Rattle.resolve_words.specs.ProgramCommand.{command, rows, faults}
use Rattle.resolve_words.specs.Checked.{kind_end}
use Rattle.resolve_words.specs.declared.ends.SettingsEnd.{SettingsEnd}
use Rattle.resolve_words.specs.declared.ends.SettingsEnd.TheVariants.{Usage, NoMemory}
use Rattle.resolve_words.specs.declared.ends.UsageFault.TheVariants.{Words}

is-simple : is_simple command ≡ true
unfolding command clap_on_literals
is-simple = refl

is-free : is_simple_and_free command ≡ true
unfolding command clap_on_literals
is-free = refl

module _ (a : App) (words : List Text) (same : a ≡ command) where
  pub simple-as : is_simple a ≡ true
  simple-as = ap is_simple same ∙ is-simple

  pub free-as : is_simple_and_free a ≡ true
  free-as = ap is_simple_and_free same ∙ is-free

  pub rows-as : matches_of a words ≡ rows words
  unfolding rows
  rows-as = ap (λ x. matches_of x words) same

  pub faults-as : fault_of a words ≡ faults words
  unfolding faults
  faults-as = ap (λ x. fault_of x words) same

two-ends : (k : ErrorKind) → (kind_end k ≡ NoMemory) ⊎ (kind_end k ≡ Usage Words)
two-ends OutOfMemory = inl refl
two-ends _ = inr refl

some-among : (k : ErrorKind) (kinds : Kinds) → IsAmong k kinds → kinds ≢ []
some-among k [] among = absurd among
some-among k (x ∷ xs) among = λ e. cc

pub end-as : (k : ErrorKind) (kinds : Kinds) (end : SettingsEnd) → end ≡ kind_end k → (k ≡ OutOfMemory) ⊎ IsAmong k kinds
    → (end ≡ NoMemory) ⊎ ((end ≡ Usage Words) × (kinds ≢ []))
end-as k kinds end is (inl memory) = inl (is ∙ ap kind_end memory)
end-as k kinds end is (inr among) =
    elim (two-ends k) [ inl e ↦ inl (is ∙ e) | inr e ↦ inr (is ∙ e, some-among k kinds among) ]
