-- Each name that is crowded has a crowded row, or stands among the others.
use Rattle.std.proofs.Common.{◌≡◌, ◌<◌, ◌∙◌, ap, sym, refl, ℕ, List, [], Option, Some, None, true, get_or, arith, length, nat_lt, map}
use Rattle.std.specs.List.{position}
use Rattle.std.proofs.lemmas.Cmp.{nat_list_eq_equiv}
use Rattle.std.proofs.lemmas.List.{get_or-map}
use Rattle.std.proofs.lemmas.List.Quantifiers.{position-Some}
use Rattle.ascii.specs.Texts.{is_same}
use Rattle.meeting_index.specs.Carriers.{Carrier}
use Rattle.meeting_index.specs.Crowds.{ArePut, BeginsCrowd, HasCrowd, is_crowd}
use Rattle.meeting_index.specs.Provided.{carriers_listed}
use Rattle.meeting_index.specs.Rows.{chosen, row_numbers}
use Rattle.meeting_index.specs.NameTables.{numbers_at}
use Rattle.meeting_index.specs.Tables.{sorted_at}
use Rattle.meeting_index.specs.declared.crowds.Crowds.{Crowds}
use Rattle.meeting_index.specs.declared.named.Name.{Name}
use Rattle.meeting_index.specs.declared.named.Named.{Named}
use Rattle.meeting_index.specs.declared.rows.NamedNumbers.{NamedNumbers}
use Rattle.meeting_index.specs.declared.rows.NumberRow.{NumberRow}
use Rattle.meeting_index.proofs.CrowdLaws.{some-crowded, some-row}
use Rattle.meeting_index.proofs.Crowding.{crowd-begins, some-name}
use Rattle.meeting_index.proofs.NamedRuns.{same-bytes}
use Rattle.meeting_index.proofs.crowds.crowd_carriers.Goals as goal

module _ (carriers : List Carrier) (named : NamedNumbers) (crowds : Crowds)
    (rows : (k : ℕ) (d : NumberRow) → k < length named.rows.items → is_crowd (get_or named.rows.items k d).numbers.items ≡ true → ArePut carriers named crowds (get_or named.rows.items k d).bytes.now)
    (others : (k : ℕ) (d : Named) → BeginsCrowd named.others.names.items k → ArePut carriers named crowds (get_or named.others.names.items k d).bytes.now) where
  put-crowd : (bytes : List ℕ) (name : Name) → ArePut carriers named crowds bytes → bytes ≡ name.bytes.now → is_crowd (numbers_at named name.bytes.now) ≡ true → HasCrowd carriers named crowds name
  put-crowd bytes name put is many =
      put (ap (λ (b : List ℕ). is_crowd (numbers_at named b)) is ∙ many) name (ap (λ (b : List ℕ). is_same b name.bytes.now) is ∙ nat_list_eq_equiv.refl name.bytes.now)

  crowded : (name : Name) (found : Option ℕ) → position (is_same name.bytes.now) named.names.now ≡ found
      → is_crowd (chosen (map row_numbers named.rows.items) (sorted_at named.others name.bytes.now) found) ≡ true
      → is_crowd (numbers_at named name.bytes.now) ≡ true → HasCrowd carriers named crowds name
  crowded name None at here many =
      let names = named.others.names.items in
      let found = crowd-begins names name.bytes.now named.others.sorted here in
      let any = some-name names found.place (let within = found.begins.within in omega (arith, within)) in
      put-crowd (get_or names found.place any).bytes.now name (others found.place any found.begins)
      (same-bytes (get_or names found.place any).bytes.now name.bytes.now (found.here any)) many
  crowded name (Some n) at here many =
      let items = named.rows.items in
      let bytes = name.bytes.now in
      let found = position-Some (is_same bytes) named.names.now n [] at in
      let within : n < length items = let less = found.0 in omega (arith, less, named.rows_are.long) in
      let any = some-row items n within in
      let here_crowded : is_crowd (get_or items n any).numbers.items ≡ true = ap is_crowd (sym (get_or-map row_numbers items n any [] within)) ∙ here in
      let some : nat_lt 0 (length (get_or items n any).numbers.items) ≡ true = some-crowded (get_or items n any).numbers.items here_crowded in
      put-crowd (get_or items n any).bytes.now name (rows n any within here_crowded)
      (named.rows_are.bytes n any within some ∙ sym (same-bytes bytes (get_or named.names.now n []) found.1)) many

pub returns : goal.returns
returns c = λ name many.
    crowded (carriers_listed c.args.carriers.now) c.args.named.now c.crowd_others.new.crowds
    (λ k d lt here many other same. c.in_ok-crowd_others.ensures.stay other (c.in_ok-crowd_packages.ensures.there k d lt here many other same))
    c.in_ok-crowd_others.ensures.there name (position (is_same name.bytes.now) c.args.named.now.names.now) refl many many
