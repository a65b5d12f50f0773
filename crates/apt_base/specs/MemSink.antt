-- A sink in memory, as its caller sees it.
use Rattle.std.specs.Prelude.{◌≡◌, ℕ, ◌-◌, ◌<◌, ◌&&◌, ◌==◌, Bool, true, false, not, min, List, length, Some, None, Result, Err, if◌then◌else◌, refl}
use Rattle.std.proofs.lemmas.Bool.{eqb-true}
use Rattle.apt_base.specs.Bytes.{SinkState, IsSinkState}
use Rattle.apt_base.specs.Plan.{fails_never, planned}
use Rattle.apt_base.specs.declared.calls.Failed.{Failed}
use Rattle.apt_base.specs.declared.mem_sink.MemSink.{MemSink}

abbrev pub sink_state : MemSink → SinkState
sink_state sink = record {
  room = if fails_never sink.plan then Some sink.room else None;
  faults = sink.faults;
  written = Some sink.bytes.items;
}

-- how many bytes the sink could still take
abbrev pub room_left : MemSink → ℕ
room_left sink = sink.room - length sink.bytes.items

-- a write of a piece that is not empty fails where the room is full, and else by the plan
abbrev pub write_answer : MemSink → List ℕ → Result ℕ Failed
write_answer sink piece = if (room_left sink == 0) && not (length piece == 0) then Err (record {}) else planned sink.plan (min (length piece) (room_left sink))

law : (never : Bool) (room faults : ℕ) (bytes : List ℕ) → (never ≡ true → length bytes < room → faults ≡ 0) → IsSinkState (record { room = if never then Some room else None; faults = faults; written = Some bytes })
law true room faults bytes counted = counted refl
law false room faults bytes counted = tt

-- a sure sink has never failed while its bytes are fewer than its room
pub sink_law : (sink : MemSink) → IsSinkState (sink_state sink)
sink_law sink = law (fails_never sink.plan) sink.room sink.faults sink.bytes.items (λ never fewer. sink.counted (eqb-true (length sink.plan.failing.items) 0 never) fewer)
