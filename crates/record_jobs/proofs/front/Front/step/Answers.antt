-- A packet of version 4 that is no fragment brings itself alone, with the fields and payload as read in place, so what is
-- done here is what the definitions say of the record (`straight`).
use Rattle.std.proofs.Common.{◌≡◌, ℕ, ◌+◌, List, length, Option, Some, None, refl, sym, ap, ◌∙◌, subst, arith}
use Rattle.packet_decode.specs.Decoding.{decoded, fields_at, payload_at, placed}
use Rattle.stream5_sessions.specs.declared.key.Key.{Key}
use Rattle.record_jobs.specs.declared.counts.RecordCounts.{RecordCounts}
use Rattle.record_jobs.specs.declared.time.Time.{Time}
use Rattle.record_jobs.specs.Fronts.{FrontState}
use Rattle.record_jobs.specs.Inside.{front_of}
use Rattle.record_jobs.specs.Jobs.{works_by}
use Rattle.record_jobs.specs.Steps.{Adds, FindsTouch, SeesKey, Steps, one_if, read_item}
use Rattle.record_jobs.specs.Way.{linked, way_of}
use Rattle.record_jobs.proofs.Fronts.Straight.{from_bool-one_if, said-four, straight}
use Rattle.record_jobs.proofs.front.Front.step.Goals as goal

pub returns-clause-steps : goal.returns-clause-steps
returns-clause-steps c =
    let bytes = c.args.captured.now.bytes in
    let read = c.decode_at-skip.new.out in
    let way = way_of c.args.by.now in
    let r = linked c.args.link c.args.captured.now in
    let flows = c.self.inside.flows in
    let touch = c.in_ok-touch.touch in
    let items = c.args.out.now.items in
    let next = c.in_ok-self-inside.field-0 in
    let counts : RecordCounts = c.self.inside.counts in
    let new : FrontState = record {
      frag3 = c.self.inside.frag3;
      flows = c.touch_key.new.flows;
      begin = Some c.of-time.result.first;
      last = c.of-time.result.now;
      next = next;
      counts = record counts { records = counts.records + 1; flows = counts.flows + c.from.result };
    } in
    let none : c.decode_at-skip.result ≡ None = cc in
    let told =
    subst (λ (bs : List ℕ). placed bs c.decode_at-skip.result read ≡ decoded c.args.link bs c.args.by.now.checks)
    c.bytes-bytes.ensures c.decode_at-skip.ensures.told in
    let at_place : c.payload.result.now ≡ payload_at bytes read =
    c.payload.ensures.exact ∙ ap (λ (bs : List ℕ). payload_at bs read) c.bytes-bytes.ensures in
    let many : length (payload_at bytes read) ≡ read.len = ap length (sym at_place) ∙ c.payload.ensures.len in
    let lent : c.lent-payload.result ≡ payload_at bytes read = c.lent-payload.ensures ∙ at_place in
    let counted : c.from.result ≡ one_if c.is_fresh.result = c.from.ensures ∙ from_bool-one_if c.is_fresh.result in
    let added =
    subst (λ (time : Time). Adds c.self.inside.next time.now
    (works_by way time touch None (Some (read_item time.now read (payload_at bytes read)))) items next
    c.add_packet.new.out.items) c.of-time.ensures
    (subst (λ (payload : List ℕ). Adds c.self.inside.next c.of-time.result.now
    (works_by way c.of-time.result touch None (Some (read_item c.of-time.result.now read payload))) items next
    c.add_packet.new.out.items) lent c.in_ok-self-inside.ensures.added) in
    subst (λ (front : FrontState). Steps way front r new items c.add_packet.new.out.items) c.self.view_is
    (straight way (front_of c.self.inside) new r (fields_at bytes read) touch items c.add_packet.new.out.items
    (said-four way r c.decode_at-skip.result read told none)
    (sym c.is_fragment.ensures ∙ c.if-is_fragment.false)
    (omega (arith, many, c.decode_at-skip.ensures.small none))
    (subst (λ (key : Option Key). FindsTouch flows key touch) c.tracked_key-key.ensures c.in_ok-touch.ensures.found)
    (subst (λ (key : Option Key). SeesKey flows key c.touch_key.new.flows) c.tracked_key-key.ensures c.in_ok-touch.ensures.sees)
    c.in_ok-touch.ensures.most
    refl
    (ap (λ (time : Time). Some time.first) c.of-time.ensures)
    (ap (λ (time : Time). time.now) c.of-time.ensures)
    (ap (λ (n : ℕ). record counts { records = counts.records + 1; flows = counts.flows + n })
    (counted ∙ ap one_if c.is_fresh.ensures))
    added)
