use Rattle.std.proofs.Common.{◌≡◌, ◌<◌, ◌-◌, ◌++◌, ◌∙◌, ap, rules, length, take, replicate, vec_len, List, ℕ}
use Rattle.problem.specs.Rooms.{with_lists, no_span}
use Rattle.problem.proofs.Counting.{ends_reached}
use Rattle.problem.proofs.rooms.Rooms.reach_lists.Goals as goal

pub returns-in_ok-resize : goal.returns-in_ok-resize
returns-in_ok-resize c =
    let spans = c.self.inside.spans.items in
    let few : length spans < c.args.count = search rules in
    let size : vec_len c.self.inside.spans ≡ length spans = search rules in
    let more = c.in_ok-resize.ensures.items ∙ ap (λ n. take c.args.count spans ++ replicate (c.args.count - n) no_span) size in
    let same = ends_reached spans c.resize.new.self.items c.args.count few more in
    ap (λ (xs : List ℕ). record { places = xs; size = length c.self.inside.table.items }) same ∙ ap (λ r. with_lists r c.args.count) c.self.view_is
