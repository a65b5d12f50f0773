-- The value of Status in a dpkg status file: three words, a wish, a flag and a state.
use Rattle.std.specs.Prelude.{ℕ, Bool, cond, ◌&&◌, ◌||◌, List, [], ◌∷◌, Option, Some, None, codes}
pub use Rattle.ascii.specs.Texts.{is_same}
use Rattle.ascii.specs.Texts.{words}

-- what the administrator wishes for the package
abbrev pub is_wish : List ℕ → Bool
is_wish word =
    is_same word (codes "unknown") || (is_same word (codes "install") || (is_same word (codes "hold") || (is_same word (codes "deinstall") || is_same word (codes "purge"))))

abbrev pub is_hold : List ℕ → Bool
is_hold word = is_same word (codes "hold")

abbrev pub is_flag : List ℕ → Bool
is_flag word = is_same word (codes "ok") || is_same word (codes "reinstreq")

-- the states in which a version of the package is there
abbrev pub is_present_state : List ℕ → Bool
is_present_state word =
    is_same word (codes "unpacked")
    || (is_same word (codes "half-configured") || (is_same word (codes "triggers-awaited") || (is_same word (codes "triggers-pending") || is_same word (codes "installed"))))

-- those in which none is
abbrev pub is_absent_state : List ℕ → Bool
is_absent_state word = is_same word (codes "not-installed") || (is_same word (codes "config-files") || is_same word (codes "half-installed"))

abbrev pub is_state : List ℕ → Bool
is_state word = is_present_state word || is_absent_state word

-- what a status says: whether the package is to be kept as it is, and whether a version of it is there
pub record StatusText : Type 0 where
  pub hold : Bool
  pub present : Bool

abbrev pub status_of_words : List (List ℕ) → Option StatusText
status_of_words (wish ∷ flag ∷ state ∷ []) =
    cond (is_wish wish && (is_flag flag && is_state state)) (Some (record { hold = is_hold wish; present = is_present_state state })) None
status_of_words _ = None

-- the status that a value writes, if it writes one
abbrev pub status_of : List ℕ → Option StatusText
status_of value = status_of_words (words value)
