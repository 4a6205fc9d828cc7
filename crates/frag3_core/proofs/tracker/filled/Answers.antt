-- The bytes that `append_to` adds to the empty room are those at the places from 0 on (`bytes_at-appended`); where it adds
-- none, some place has no byte (`bytes_at-none`).
use Rattle.std.proofs.Common.{◌+◌, Some, ap, subst, sym, ◌∙◌}
use Rattle.std.specs.Option.{is_some}
use Rattle.std.proofs.lemmas.Bool.{false≢true}
use Rattle.overlap_core.specs.Overlap.{chosen_byte}
use Rattle.overlap_core.specs.Runs.{AppendsBytes}
use Rattle.frag3_core.proofs.Bytes.{bytes_at-appended, bytes_at-none}
use Rattle.frag3_core.proofs.tracker.filled.Goals as goal

pub returns-then-append_to : goal.returns-then-append_to
returns-then-append_to c =
    let byte = chosen_byte c.args.queue.now.preference c.args.queue.now.segments in
    let room = c.room.inside in
    let added = subst (λ floor. AppendsBytes byte floor room.len room.bytes.items c.append_to.new.out.items) c.requires c.if-append_to.ensures.bytes in
    rw (← c.room.view_is)
    (ap Some c.from_vec.ensures ∙ sym (bytes_at-appended byte room.len room.bytes.items c.append_to.new.out.items c.room.invariant.0 added))

pub returns-else-append_to : goal.returns-else-append_to
returns-else-append_to c =
    let byte = chosen_byte c.args.queue.now.preference c.args.queue.now.segments in
    rw (← c.room.view_is)
    (sym (bytes_at-none byte c.room.inside.len (λ each. false≢true (c.if-append_to.ensures.whole.1 (λ k below.
    ap (λ floor. is_some (byte (floor + k))) c.requires ∙ each k below)))))
