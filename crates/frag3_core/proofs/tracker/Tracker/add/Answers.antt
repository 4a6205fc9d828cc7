-- Where no room is made, the length isn't known, or fewer bytes are held than it has places, so that one has none; so the
-- datagram is whole just where the room was filled (`datagram_by_room`).
use Rattle.std.proofs.Common.{◌≡◌, ◌*◌, ◌-◌, ◌^◌, ◌≤◌, ◌∷◌, [], ◌++◌, min, ap, ◌∙◌, arith}
use Rattle.std.specs.Option.{ForSome}
use Rattle.std.proofs.lemmas.Grind.{common_steps}
use Rattle.overlap_core.specs.Segments.{Segment}
use Rattle.overlap_core.specs.QueueState.{QueueState}
use Rattle.frag3_core.specs.Inside.{byte_count}
use Rattle.frag3_core.specs.Trackers.{TrackerState}
use Rattle.frag3_core.proofs.Bytes.{byte_count_push, datagram_by_room}
use Rattle.frag3_core.proofs.tracker.Tracker.add.Goals as goal

pub returns-clause-bytes : goal.returns-clause-bytes
returns-clause-bytes c =
    let old = c.self.inside in
    let queue = c.insert.new.self in
    let new : Segment = record { start = 8 * c.from-start.result; bytes = c.args.part.now } in
    let held = c.saturating_add-bytes.result in
    let t : TrackerState = record { preference = queue.preference; timeout = old.timeout; first = old.first.nanos; end = c.or-end.result; segments = queue.segments } in
    let segments : queue.segments ≡ old.queue.segments ++ new ∷ [] =
    ap (λ (q : QueueState). q.segments) c.in_ok-insert.ensures.ok in
    let pushed = byte_count_push old.queue.segments new old.bytes c.self.invariant.bytes in
    let counted : min (byte_count queue.segments) (2 ^ 64 - 1) ≤ held = omega (arith, pushed, ap byte_count segments) in
    let within : ForSome c.or-end.result (λ e. e ≤ 65535) = grind (arith, common_steps) in
    c.whole_bytes.ensures ∙ datagram_by_room t held c.in_ok-room.room within counted c.in_ok-room.ensures
