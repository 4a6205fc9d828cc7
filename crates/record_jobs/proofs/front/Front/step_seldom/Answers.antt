-- What the record brings, its touch and its counts are each what the definitions say, so the works that are added are the
-- record's (`by_content`).
use Rattle.std.proofs.Common.{Option, Some, ap, subst}
use Rattle.stream5_sessions.specs.declared.key.Key.{Key}
use Rattle.record_jobs.specs.declared.time.Time.{Time}
use Rattle.record_jobs.specs.Fronts.{FrontState}
use Rattle.record_jobs.specs.Inside.{front_of}
use Rattle.record_jobs.specs.Jobs.{works_by}
use Rattle.record_jobs.specs.Steps.{Adds, FindsTouch, SeesKey, Steps}
use Rattle.record_jobs.specs.Way.{linked, way_of}
use Rattle.record_jobs.proofs.Fronts.Straight.{by_content}
use Rattle.record_jobs.proofs.front.Front.step_seldom.Goals as goal

pub returns-clause-steps : goal.returns-clause-steps
returns-clause-steps c =
    let way = way_of c.args.by.now in
    let r = linked c.args.link c.args.captured.now in
    let flows = c.self.inside.flows in
    let content = c.read_record.new.content in
    let touch = c.in_ok-touch.touch in
    let items = c.args.out.now.items in
    let next = c.in_ok-self-inside.field-0 in
    let new : FrontState = record {
      frag3 = c.read_record.new.frag3;
      flows = c.touch_key.new.flows;
      begin = Some c.of-time.result.first;
      last = c.of-time.result.now;
      next = next;
      counts = c.with_record-self-inside.result;
    } in
    subst (λ (front : FrontState). Steps way front r new items c.add_works.new.out.items) c.self.view_is
    (by_content way (front_of c.self.inside) new r content touch items c.add_works.new.out.items
    c.in_ok-read_record.ensures.content
    (subst (λ (key : Option Key). FindsTouch flows key touch) c.content_key-key.ensures c.in_ok-touch.ensures.found)
    (subst (λ (key : Option Key). SeesKey flows key c.touch_key.new.flows) c.content_key-key.ensures c.in_ok-touch.ensures.sees)
    c.in_ok-touch.ensures.most
    c.in_ok-read_record.ensures.after
    (ap (λ (time : Time). Some time.first) c.of-time.ensures)
    (ap (λ (time : Time). time.now) c.of-time.ensures)
    c.with_record-self-inside.ensures.value
    (subst (λ (time : Time). Adds c.self.inside.next time.now (works_by way time touch content.fragment content.packet) items next
    c.add_works.new.out.items) c.of-time.ensures c.in_ok-self-inside.ensures.added)
    c.in_ok-read_record.ensures.short)
