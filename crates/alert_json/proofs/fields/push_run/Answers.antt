-- The member of the host and then that of the capture's name, each where there is one, are those of the run: `run-group`.
use Rattle.std.proofs.lemmas.Result.{on_ok_weaker}
use Rattle.alert_json.specs.Facts.{run_facts}
use Rattle.alert_json.proofs.Groups.{run-group}
use Rattle.alert_json.proofs.fields.push_run.Goals as goal

pub returns-clause-added : goal.returns-clause-added
returns-clause-added c =
    on_ok_weaker c.push_name-2.result (λ e. run-group (run_facts c.args.run) _ _ _ c.in_ok-push_name.ensures.added e) c.push_name-2.ensures.added
