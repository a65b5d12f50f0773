-- A name gets its crowd, or has it already.
use Rattle.std.proofs.Common.{◌≡◌, ◌∙◌, sym, subst, refl, List, ℕ, Option, Some, None, is_some, option_map, Bor}
use Rattle.std.proofs.lemmas.Result.{on_ok_weaker}
use Rattle.meeting_index.specs.Crowds.{IsCrowdOf}
use Rattle.meeting_index.specs.Provided.{carriers_listed}
use Rattle.meeting_index.specs.NameTables.{numbers_at}
use Rattle.meeting_index.specs.declared.crowd.Crowd.{Crowd}
use Rattle.meeting_index.proofs.CrowdLaws.{crowd-put, crowd-stay, crowd-there, crowds-right}
use Rattle.meeting_index.proofs.crowds.crowd_name.Goals as goal

some-now : (found : Option (Bor Crowd)) → is_some (option_map (λ (crowd : Bor Crowd). crowd.now) found) ≡ is_some found
some-now None = refl
some-now (Some crowd) = refl

pub returns-then-is_some-clause-there : goal.returns-then-is_some-clause-there
returns-then-is_some-clause-there c = λ many other same.
    crowd-there (carriers_listed c.args.carriers.now) c.args.named.now c.args.crowds.now (record { bytes = c.args.name }) other (option_map (λ (crowd : Bor Crowd). crowd.now) c.find.result)
    (some-now c.find.result ∙ sym c.is_some.ensures ∙ c.if-is_some.true) c.find.ensures c.requires same

pub returns-clause-right : goal.returns-clause-right
returns-clause-right c =
    let carriers = carriers_listed c.args.carriers.now in
    let named = c.args.named.now in
    let is : IsCrowdOf carriers (numbers_at named c.args.name.now) c.in_ok-crowd.crowd = subst (λ (ns : List ℕ). IsCrowdOf carriers ns c.in_ok-crowd.crowd) c.at-numbers.ensures c.in_ok-crowd.ensures in
    on_ok_weaker c.put.result (λ placed.
    crowds-right carriers named c.args.crowds.now (record { by_name = c.put.new.by_name }) (record { bytes = c.args.name }) c.in_ok-crowd.crowd placed is c.requires) c.put.ensures

pub returns-clause-there : goal.returns-clause-there
returns-clause-there c =
    let carriers = carriers_listed c.args.carriers.now in
    let named = c.args.named.now in
    let is : IsCrowdOf carriers (numbers_at named c.args.name.now) c.in_ok-crowd.crowd = subst (λ (ns : List ℕ). IsCrowdOf carriers ns c.in_ok-crowd.crowd) c.at-numbers.ensures c.in_ok-crowd.ensures in
    on_ok_weaker c.put.result (λ placed many other same.
    crowd-put carriers named c.args.crowds.now (record { by_name = c.put.new.by_name }) (record { bytes = c.args.name }) c.in_ok-crowd.crowd placed is other same) c.put.ensures

pub returns-clause-stay : goal.returns-clause-stay
returns-clause-stay c =
    let carriers = carriers_listed c.args.carriers.now in
    let named = c.args.named.now in
    let is : IsCrowdOf carriers (numbers_at named c.args.name.now) c.in_ok-crowd.crowd = subst (λ (ns : List ℕ). IsCrowdOf carriers ns c.in_ok-crowd.crowd) c.at-numbers.ensures c.in_ok-crowd.ensures in
    on_ok_weaker c.put.result (λ placed other has.
    crowd-stay carriers named c.args.crowds.now (record { by_name = c.put.new.by_name }) (record { bytes = c.args.name }) c.in_ok-crowd.crowd placed is other has) c.put.ensures
