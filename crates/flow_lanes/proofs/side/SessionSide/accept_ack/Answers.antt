-- Where the acknowledgement flushes, its runs, cut, are the payloads of the definition (`acked-cut`); where it doesn't, the
-- definition has none either (`acked-none`).
use Rattle.std.proofs.Common.{ℕ, List, Ok, ◌++◌, sym, ap, subst, ◌∙◌}
use Rattle.std.proofs.lemmas.List.{append-nil}
use Rattle.overlap_core.specs.declared.segment.Run.{Run}
use Rattle.stream5_reassembly.specs.Segments.{Flushes, Stays, ack_place}
use Rattle.flow_lanes.specs.Items.{stream_head, stream_items}
use Rattle.flow_lanes.specs.Sides.{acked_payloads}
use Rattle.flow_lanes.specs.Streams.{payloads_of}
use Rattle.flow_lanes.proofs.Sessions.Sides.{acked-cut, acked-none}
use Rattle.flow_lanes.proofs.Sessions.ItemsWith.{pushed-are}
use Rattle.flow_lanes.proofs.side.SessionSide.accept_ack.Goals as goal

pub returns-then-not-flushed-clause-items : goal.returns-then-not-flushed-clause-items
returns-then-not-flushed-clause-items c =
    let side = c.args.self.now in
    let out = c.args.out.now.items in
    let none = acked-none side c.args.ack c.in_ok-flushed.flushed c.in_ok-flushed.ensures.flushes c.if-not-flushed.true in
    sym (ap (λ (payloads : List (List ℕ)). out ++ stream_items side c.args.of_client c.args.moment c.args.sizes payloads) none ∙ append-nil out)

pub returns-clause-items : goal.returns-clause-items
unfolding acked_payloads
returns-clause-items c =
    let side = c.args.self.now in
    let old = side.direction in
    let new = c.ack.new.self in
    let runs = c.ack.new.out.items in
    let cut =
    acked-cut old new c.args.ack runs c.in_ok-flushed.flushed c.in_ok-flushed.ensures.flushes
    (λ is. subst (λ (before : List Run). Flushes old new (ack_place old c.args.ack) before runs) c.new-runs.ensures.items (c.in_ok-flushed.ensures.yes (ap Ok is)))
    (λ is. subst (λ (before : List Run). Stays old new before runs) c.new-runs.ensures.items (c.in_ok-flushed.ensures.no (ap Ok is))) in
    pushed-are c.push_runs.result c.args.out.now.items c.push_runs.new.out.items c.head_between-head.result (stream_head side c.args.of_client c.args.moment c.args.sizes) (payloads_of runs)
    (acked_payloads side c.args.ack) c.head_between-head.ensures cut.0 c.push_runs.ensures
