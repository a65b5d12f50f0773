use Rattle.std.proofs.Common.{◌≡◌, ◌==◌, min, ap, ◌∙◌, length, take, drop, arith}
use Rattle.std.specs.Prelude.{◌&&◌}
use Rattle.std.proofs.lemmas.Slice.{between_to_end}
use Rattle.apt_base.specs.Plan.{fails_never}
use Rattle.apt_base.proofs.Counts.{IsLater-refl}
use Rattle.apt_base.proofs.Planned.{planned_count, takes_front}
use Rattle.apt_base.proofs.mem_source.MemSourceSource.read.Goals as goal

pub returns-in-Ok-clause-read : goal.returns-in-Ok-clause-read
returns-in-Ok-clause-read c =
    let s = c.args.self.now in
    let n = c.call.ensures.next in
    let most = planned_count _ _ _ _ c.in-Ok.ensures.answer in
    let v = c.deref.ensures.value in
    let rest = between_to_end c.deref.result.now s.start (length c.deref.result.now) (omega arith) ∙ ap (drop s.start) v in
    let size = ap length rest in
    let e : c.min.result ≡ min (length c.copy_front.new.to) (length (drop s.start s.bytes.items)) = omega (arith, size, c.min.ensures) in
    record {
      sure = ap (λ p. fails_never p && (s.faults == 0)) n;
      cause = record { later = IsLater-refl s.faults; failed = tt };
      bytes = takes_front s.bytes.items c.copy_front.new.to s.start s.plan.piece c.in-Ok.count s.some (most ∙ ap (min s.plan.piece) e) (c.copy_front.ensures ∙ ap (take c.in-Ok.count) rest);
    }
