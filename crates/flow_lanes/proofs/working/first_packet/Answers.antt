-- Nothing is kept of the flow, so that what is in its entry is the new flow that was put there: the packet is sound for it,
-- and its job is done as in any flow.
use Rattle.std.proofs.Common.{ℕ, List, ◌+◌, Option, Some, None, length, ap, subst, sym, ◌∙◌, rules}
use Rattle.std.specs.HashMap.Entry.{entry_value, map_with_value}
use Rattle.flow_lanes.specs.declared.job.Work.TheVariants as works
use Rattle.flow_lanes.specs.Detecting.{Leaves, gain_of}
use Rattle.flow_lanes.specs.Flows.{FlowState}
use Rattle.flow_lanes.specs.Given.{inspection_of, making_of, packet_of}
use Rattle.flow_lanes.specs.Sound.{FlowFacts}
use Rattle.flow_lanes.specs.LanesAfter.{KeptFlow}
use Rattle.flow_lanes.specs.Tried.{Tallied, so_far}
use Rattle.flow_lanes.specs.Whole.{IsDone}
use Rattle.flow_lanes.proofs.Jobs.IsDone.{do-packet}
use Rattle.flow_lanes.proofs.Jobs.KeptIn.{put-new, sets-from}
use Rattle.flow_lanes.proofs.Sessions.IsKeptBy.{sound-first}
use Rattle.flow_lanes.proofs.working.first_packet.Goals as goal

pub begin-requires-clause-sound : goal.begin-requires-clause-sound
begin-requires-clause-sound g c κs sound =
    let empty =
    put-new c.args.flow c.args.flows.now.entries (entry_value c.in_ok-flows.field-0) c.new.result c.or_insert-kept.result.now
    c.in_ok-flows.ensures.value c.requires.first c.or_insert-kept.ensures.value in
    sound-first (length c.args.settings.now.stream.now.engines)
    (packet_of c.args.p.now) c.or_insert-kept.result.now.facts
    (ap (λ (k : KeptFlow). k.facts) empty ∙ c.new.ensures.facts)
    c.requires.sound

pub returns : goal.returns
returns g c =
    let p = c.args.p.now in
    let by = inspection_of g.P.Pattern.finds c.args.inspector.now in
    let making = making_of c.args.settings.now in
    let old = c.args.flows.now.entries in
    let kept = c.begin.new.self in
    let put = (map_with_value c.in_ok-flows.field-0 kept).entries in
    let given = so_far c.in_ok-tally.tally in
    let empty = put-new c.args.flow old (entry_value c.in_ok-flows.field-0) c.new.result c.or_insert-kept.result.now c.in_ok-flows.ensures.value c.requires.first c.or_insert-kept.ensures.value in
    let none = ap (λ (k : KeptFlow). k.found) empty ∙ c.new.ensures.found in
    let done = do-packet by making p.moment c.args.flow p.head.now p.payload.now p.to_dst p.to_src old put None kept given
    (sym c.requires.first)
    (sets-from c.args.flow (Some kept) old put (λ other. (c.in_ok-flows.ensures.update.0 kept).0 other))
    (subst (λ (f : Option FlowState). Tallied by (gain_of making (packet_of p) f) given) none c.in_ok-tally.ensures.tallied)
    (λ means trying tried. subst (λ (f : Option FlowState). Leaves trying making (packet_of p) f kept.found) none (c.in_ok-tally.ensures.leaves means trying tried))
    (c.begin.ensures.facts ∙ ap (λ (f : FlowFacts). record { ends = f.ends; packets = f.packets + 1 }) (ap (λ (k : KeptFlow). k.facts) empty ∙ c.new.ensures.facts)) in
    subst
    (λ (new : List (ℕ × KeptFlow)). IsDone by making p.moment (works.Packet c.args.flow p.head.now p.payload.now p.to_dst p.to_src) old new given)
    (search rules) done
