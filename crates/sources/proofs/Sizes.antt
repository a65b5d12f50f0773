-- The texts of a generated universe are short enough.
use Rattle.std.proofs.Common.{◌≡◌, ◌≤◌, ◌<◌, ◌+◌, ◌-◌, ◌*◌, ◌%◌, ◌==◌, ℕ, zero, suc, Bool, true, false, cond, List, [], ◌++◌, length, Option, Some, None, IfSome, refl, ap, subst, ◌∙◌, arith, add-one, length-append, codes, decimal}
use Rattle.std.proofs.lemmas.Fmt.{length-decimal-le}
use Rattle.apt_base.specs.Faults.{ByName}
use Rattle.resolve_words.specs.Given.{Given}
use Rattle.sample_maker.specs.Draws.{next, state, draw, earlier, has_conflict, conflict, earlier_draws}
use Rattle.sample_maker.specs.Samples.{relation, installed_stanza, installed_draws, status_text, archive_stanza, archive_stanza_at, archive_draws, archive_text}
use Rattle.sample_maker.proofs.More.{status_text-more, archive_text-more}
use Rattle.universe_model.specs.Limits.{most_file_bytes}
use Rattle.sources.specs.Sources.{IsReadIf, AreUniverse}

four : (a b c d : List ℕ) → length (a ++ b ++ c ++ d) ≡ length a + length b + length c + length d
four a b c d = length-append (a ++ b ++ c) d ∙ ap (λ n. n + length d) (length-append (a ++ b) c ∙ ap (λ n. n + length c) (length-append a b))

five : (a b c d e : List ℕ) → length (a ++ b ++ c ++ d ++ e) ≡ length a + length b + length c + length d + length e
five a b c d e = length-append (a ++ b ++ c ++ d) e ∙ ap (λ n. n + length e) (four a b c d)

six : (a b c d e f : List ℕ) → length (a ++ b ++ c ++ d ++ e ++ f) ≡ length a + length b + length c + length d + length e + length f
six a b c d e f = length-append (a ++ b ++ c ++ d ++ e) f ∙ ap (λ n. n + length f) (five a b c d e)

digits : (n : ℕ) → n < 100000 → length (decimal n) ≤ 5
digits n small = length-decimal-le 5 n (omega arith) small (omega (arith, small))

earlier_if : (first : Bool) (x i : ℕ) → IfSome (cond first None (Some (i - 1 - draw x (i % 10)))) (λ j. j ≤ i)
earlier_if true x i = tt
earlier_if false x i = omega arith

conflict_if : (any : Bool) (x i : ℕ) → IfSome (cond any (earlier (next x) i) None) (λ j. j ≤ i)
conflict_if true x i = earlier_if (i % 10 == 0) (next x) i
conflict_if false x i = tt

relation_short : (field versions : List ℕ) (n : Option ℕ) (i : ℕ) → i < 100000 → IfSome n (λ j. j ≤ i) → length field ≤ 10 → length versions ≤ 10 → length (relation field versions n) ≤ 40
relation_short field versions None i small below short few = omega arith
relation_short field versions (Some n) i small below short few =
    let number = digits n (omega (arith, small, below)) in
    let parts = five field (codes ": p") (decimal n) versions (codes "\n") in
    let colon : length (codes ": p") ≡ 3 = refl in
    let end : length (codes "\n") ≡ 1 = refl in
    omega (arith, parts, colon, end, number, short, few)

installed_short : (i : ℕ) (depends : Option ℕ) → i < 100000 → IfSome depends (λ j. j ≤ i) → length (installed_stanza i depends) ≤ 200
installed_short i depends small below =
    let number = digits i small in
    let field = relation_short (codes "Depends") [] depends i small below (omega arith) (omega arith) in
    let parts = five (codes "Package: p") (decimal i) (codes "\nStatus: install ok installed\nArchitecture: all\nVersion: 1\n") (relation (codes "Depends") [] depends) (codes "\n") in
    let head : length (codes "Package: p") ≡ 10 = refl in
    let middle : length (codes "\nStatus: install ok installed\nArchitecture: all\nVersion: 1\n") ≡ 59 = refl in
    let end : length (codes "\n") ≡ 1 = refl in
    omega (arith, parts, head, middle, end, number, field)

archive_short : (i : ℕ) (depends conflicts : Option ℕ) → i < 100000 → IfSome depends (λ j. j ≤ i) → IfSome conflicts (λ j. j ≤ i) → length (archive_stanza i depends conflicts) ≤ 200
archive_short i depends conflicts small below under =
    let number = digits i small in
    let field = relation_short (codes "Depends") (codes " (>= 2)") depends i small below (omega arith) (omega arith) in
    let other = relation_short (codes "Conflicts") (codes " (<< 2)") conflicts i small under (omega arith) (omega arith) in
    let parts = six (codes "Package: p") (decimal i) (codes "\nArchitecture: all\nVersion: 2\n") (relation (codes "Depends") (codes " (>= 2)") depends) (relation (codes "Conflicts") (codes " (<< 2)") conflicts) (codes "\n") in
    let head : length (codes "Package: p") ≡ 10 = refl in
    let middle : length (codes "\nArchitecture: all\nVersion: 2\n") ≡ 30 = refl in
    let end : length (codes "\n") ≡ 1 = refl in
    omega (arith, parts, head, middle, end, number, field, other)

status_short : (x n : ℕ) → n ≤ 100000 → length (status_text x n) ≤ n * 200
status_short x zero few = omega arith
status_short x (suc n) few =
    let before = status_short x n (omega (arith, few)) in
    let stanza = installed_short n (earlier (state x (installed_draws n)) n) (omega (arith, few)) (earlier_if (n % 10 == 0) (state x (installed_draws n)) n) in
    let more = ap length (status_text-more x n) ∙ length-append (status_text x n) (installed_stanza n (earlier (state x (installed_draws n)) n)) in
    subst (λ k. length (status_text x k) ≤ k * 200) (add-one n) (omega (arith, more, before, stanza))

archive_text_short : (x n : ℕ) → n ≤ 100000 → length (archive_text x n) ≤ n * 200
archive_text_short x zero few = omega arith
archive_text_short x (suc n) few =
    let before = archive_text_short x n (omega (arith, few)) in
    let draws = archive_draws x n in
    let stanza = archive_short n (earlier (state x draws) n) (conflict (state x (draws + earlier_draws n)) n) (omega (arith, few)) (earlier_if (n % 10 == 0) (state x draws) n)
    (conflict_if (has_conflict (state x (draws + earlier_draws n)) n) (state x (draws + earlier_draws n)) n) in
    let more = ap length (archive_text-more x n) ∙ length-append (archive_text x n) (archive_stanza_at x draws n) in
    subst (λ k. length (archive_text x k) ≤ k * 200) (add-one n) (omega (arith, more, before, stanza))

read_short : (files : Option (ByName (List ℕ))) (name : Option (List ℕ)) (text : List ℕ) → IsReadIf files name text → length text ≤ most_file_bytes
read_short files None text none = let e : length text ≡ 0 = ap length none in omega (arith, e)
read_short files (Some name) text read = read.small

-- the two texts are within the limit of a file
pub universe_short : (files : Option (ByName (List ℕ))) (g : Given) (status packages : List ℕ) (sample : Option (ℕ × ℕ)) → IfSome sample (λ s. s.1 ≤ 50000) → AreUniverse files g status packages sample
    → (length status ≤ most_file_bytes) × (length packages ≤ most_file_bytes)
universe_short files g status packages None few read = (read_short files g.status status read.0, read_short files g.packages packages read.1)
universe_short files g status packages (Some sample) few made =
    let one = status_short sample.0 sample.1 (omega (arith, few)) in
    let other = archive_text_short (state sample.0 (installed_draws sample.1)) sample.1 (omega (arith, few)) in
    let same = ap length made.0 in
    let alike = ap length made.1 in
    (omega (arith, one, same, few), omega (arith, other, alike, few))
