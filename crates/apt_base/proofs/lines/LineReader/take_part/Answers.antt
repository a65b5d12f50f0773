use Rattle.std.proofs.Common.{◌≡◌, ◌+◌, ◌-◌, take, drop, ap, sym, ◌∙◌}
use Rattle.apt_base.proofs.Cuts.{found, part_found, part_not_found, part_rest, nothing_left}
use Rattle.apt_base.proofs.lines.LineReader.take_part.Goals as goal

pub returns-in_ok-extend_from_slice-in-Some : goal.returns-in_ok-extend_from_slice-in-Some
returns-in_ok-extend_from_slice-in-Some c =
    let i = c.self.inside in
    let held = take (i.end - i.start) (drop i.start c.deref.result.now) in
    let same : held ≡ c.args.self.now = ap (λ b. take (i.end - i.start) (drop i.start b)) c.deref.ensures.value ∙ c.self.view_is in
    let inside = (found held c.in-Some.place (sym c.in-Some.ensures)).0 in
    let rest = part_rest c.deref.result.now i.start i.end c.in-Some.place inside in
    let now = ap (λ b. take (i.end - (i.start + (c.in-Some.place + 1))) (drop (i.start + (c.in-Some.place + 1)) b)) c.deref.ensures.value in
    part_found held c.args.self.now _ _ _ c.in-Some.place same c.in-Some.ensures (sym (rest ∙ now)) c.in_ok-extend_from_slice-in-Some.ensures.items

pub returns-in_ok-extend_from_slice-in-None : goal.returns-in_ok-extend_from_slice-in-None
returns-in_ok-extend_from_slice-in-None c =
    let i = c.self.inside in
    let held = take (i.end - i.start) (drop i.start c.deref.result.now) in
    let same : held ≡ c.args.self.now = ap (λ b. take (i.end - i.start) (drop i.start b)) c.deref.ensures.value ∙ c.self.view_is in
    part_not_found held c.args.self.now _ _ _ same c.in-None.ensures (nothing_left i.end i.buffer.items) c.in_ok-extend_from_slice-in-None.ensures.items
