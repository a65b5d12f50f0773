-- One stanza more: what the two texts and the counts of their draws are one package on.
use Rattle.std.proofs.Common.{◌≡◌, ℕ, zero, suc, ◌+◌, List, [], ◌∷◌, ◌++◌, sym, ap, ◌∙◌, refl, add-zero, add-suc, add-one, zero-add}
use Rattle.std.proofs.lemmas.List.{map-id, append-nil}
use Rattle.std.proofs.lemmas.List.Concat.{flat_map-append}
use Rattle.std.proofs.lemmas.List.FromFn.{map-range_with_len_more}
use Rattle.std.proofs.lemmas.List.Sums.{sum_by_push}
use Rattle.std.specs.List.{flat_map, range_with_len, sum_by}
use Rattle.sample_maker.specs.Draws.{next, state, earlier, earlier_draws, conflict_draws}
use Rattle.sample_maker.specs.Samples.{installed_stanza, installed_draws, status_text, archive_stanza_at, archive_draws, archive_text}

-- m draws, and then n more
pub state-state : (x m n : ℕ) → state (state x m) n ≡ state x (m + n)
state-state x m zero = ap (state x) (sym (add-zero m))
state-state x m (suc n) = ap next (state-state x m n) ∙ ap (state x) (sym (add-suc m n))

range_with_len-more : (n : ℕ) → range_with_len 0 (n + 1) ≡ range_with_len 0 n ++ n ∷ []
range_with_len-more n =
    sym (map-id (range_with_len 0 (n + 1)))
    ∙ map-range_with_len_more (λ (i : ℕ). i) 0 n n (zero-add n)
    ∙ ap (λ (is : List ℕ). is ++ n ∷ []) (map-id (range_with_len 0 n))

flat_map-more : (f : ℕ → List ℕ) (n : ℕ) → flat_map f (range_with_len 0 (n + 1)) ≡ flat_map f (range_with_len 0 n) ++ f n
flat_map-more f n =
    ap (flat_map f) (range_with_len-more n)
    ∙ flat_map-append f (range_with_len 0 n) (n ∷ [])
    ∙ ap (λ (last : List ℕ). flat_map f (range_with_len 0 n) ++ last) (append-nil (f n))

pub status_text-more : (x n : ℕ) → status_text x (n + 1) ≡ status_text x n ++ installed_stanza n (earlier (state x (installed_draws n)) n)
status_text-more x n = flat_map-more (λ (i : ℕ). installed_stanza i (earlier (state x (installed_draws i)) i)) n

pub installed_draws-more : (n : ℕ) → installed_draws (n + 1) ≡ installed_draws n + earlier_draws n
installed_draws-more n =
    ap (sum_by earlier_draws) (range_with_len-more n) ∙ sum_by_push earlier_draws (range_with_len 0 n) n

pub archive_text-more : (x n : ℕ) → archive_text x (n + 1) ≡ archive_text x n ++ archive_stanza_at x (archive_draws x n) n
archive_text-more x n = flat_map-more (λ (i : ℕ). archive_stanza_at x (archive_draws x i) i) n

pub archive_draws-more : (x n : ℕ) → archive_draws x (n + 1) ≡ archive_draws x n + earlier_draws n + conflict_draws (state x (archive_draws x n + earlier_draws n)) n
archive_draws-more x n = rw add-one refl
