-- The five groups, of time, flow, alert, packet and run, are added one after another: `event-group`.
use Rattle.alert_json.specs.Facts.{event_facts, run_facts}
use Rattle.alert_json.proofs.Groups.{event-group}
use Rattle.alert_json.proofs.line.push_members.Goals as goal

pub returns-clause-added : goal.returns-clause-added
returns-clause-added c =
    event-group (event_facts c.args.event) (run_facts c.args.run) _ _ _ _ _ _ c.in_ok-push_time.ensures.added
    c.in_ok-push_flow.ensures.added c.in_ok-push_alert.ensures.added c.in_ok-push_packet.ensures.added
    c.in_ok-push_run.ensures.added
