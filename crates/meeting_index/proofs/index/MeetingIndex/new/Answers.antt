-- The carriers are those of the versions and of what they provide.
use Rattle.std.proofs.Common.{subst, List, ◌≡◌, ◌∙◌, ap, sym, map, ◌++◌, ℕ, Bool}
use Rattle.std.specs.List.{list_any}
use Rattle.meeting_index.specs.Carriers.{Carrier, carriers, is_named, own}
use Rattle.meeting_index.specs.Crowds.{IsRealCrowd}
use Rattle.meeting_index.specs.Owners.{for_package}
use Rattle.meeting_index.specs.Provided.{carrier_of}
use Rattle.meeting_index.specs.NameTables.{numbers_at}
use Rattle.meeting_index.specs.declared.named.Name.{Name}
use Rattle.meeting_index.proofs.CarrierLists.{crowd-carriers}
use Rattle.meeting_index.proofs.Owners.{numbers-for_package}
use Rattle.universe_model.specs.Lists.{map_from, numbers_of}
use Rattle.universe_parts.specs.Listed.{version_listed}
use Rattle.meeting_index.proofs.index.MeetingIndex.new.Goals as goal

pub invariant_of-result : goal.invariant_of-result
invariant_of-result c =
    let native = c.args.native.now in
    let vs = map version_listed c.args.versions.now in
    let owns = map_from own 0 vs in
    let table = c.in_ok-named.named in
    let named : (name : Name) (test : ℕ → Bool) → list_any test (numbers_at table name.bytes.now) ≡ list_any test (numbers_of (is_named name.bytes.now) (carriers native vs)) =
    λ name test.
    c.in_ok-named.ensures name test
    ∙ ap (λ ps. list_any test (numbers_of (is_named name.bytes.now) (owns ++ ps))) (ap (map carrier_of) c.as_slice.ensures.value ∙ c.in_ok-provided.ensures) in
    record {
      few = c.requires;
      provided = c.in_ok-provided.ensures;
      named = named;
      crowds = λ name many bound n.
          (c.in_ok-crowds.ensures name many).finds bound n
          ∙ crowd-carriers (carriers native vs) (owns ++ map carrier_of c.as_slice-2.result.now) name.bytes.now (numbers_at table name.bytes.now) bound n
          (ap (λ ps. owns ++ ps) (ap (map carrier_of) c.as_slice-2.ensures.value ∙ c.in_ok-provided.ensures)) (named name);
      real = λ name many crowd there.
          subst (λ (cs : List Carrier). IsRealCrowd cs (numbers_at table name.bytes.now) crowd)
          (ap (λ ps. owns ++ ps) (ap (map carrier_of) c.as_slice-2.ensures.value ∙ c.in_ok-provided.ensures)) ((c.in_ok-crowds.ensures name many).real crowd there);
      owners = λ name many bound q.
          (c.in_ok-owners.ensures name many).finds bound q
          ∙ crowd-carriers (map (for_package vs) (carriers native vs)) (map (for_package vs) (owns ++ map carrier_of c.as_slice-3.result.now)) name.bytes.now (numbers_at table name.bytes.now) bound q
          (ap (λ ps. map (for_package vs) (owns ++ ps)) (ap (map carrier_of) c.as_slice-3.ensures.value ∙ c.in_ok-provided.ensures))
          (λ test. named name test ∙ ap (list_any test) (sym (numbers-for_package name.bytes.now vs (carriers native vs))));
    }
