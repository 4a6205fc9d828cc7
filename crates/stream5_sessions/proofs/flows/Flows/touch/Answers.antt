-- What the kept keys tell of a touch and become by it is what the touches tell (`found_of`, `seen_of`), for they are the
-- recent keys with their numbers, as many as may live.
use Rattle.stream5_sessions.proofs.Bounds.{bounded_of}
use Rattle.stream5_sessions.proofs.KeptValues.{found_of, seen_of, looked_up-known}
use Rattle.stream5_sessions.proofs.Liveness.Numbers.{live_count-le}
use Rattle.stream5_sessions.proofs.flows.Flows.touch.Goals as goal

pub returns-clause-found : goal.returns-clause-found
returns-clause-found c = found_of c.touch_kept.result c.args.self.now c.args.key c.touch_kept.ensures.value

pub returns-clause-seen : goal.returns-clause-seen
returns-clause-seen c = seen_of c.touch_kept.result c.args.self.now c.touch_kept.new.self c.args.key c.touch_kept.ensures.after

pub returns-clause-bound : goal.returns-clause-bound
returns-clause-bound c = λ touches seen tcp. live_count-le c.touch_kept.new.self.max tcp touches

pub returns-clause-kept : goal.returns-clause-kept
returns-clause-kept c = λ bounded. bounded_of c.touch_kept.result c.args.self.now c.touch_kept.new.self c.args.key c.touch_kept.ensures.after c.touch_kept.ensures.err bounded

pub returns-clause-known : goal.returns-clause-known
returns-clause-known c = λ known. c.touch_kept.ensures.known (looked_up-known c.args.self.now c.args.key known)
