-- The front has no record where it has no frame, or a frame of no record; else that record is the front's, and is appended.
use Rattle.unified2_out.proofs.Walks.{front-no_frame, front-no_record, front-record}
use Rattle.unified2_out.proofs.read.push_front.Goals as goal

pub returns-in_default-clause-found : goal.returns-in_default-clause-found
returns-in_default-clause-found c = front-no_frame c.args.bytes.now c.in_default.ensures

pub returns-in_default-2-clause-found : goal.returns-in_default-2-clause-found
returns-in_default-2-clause-found c =
    front-no_record c.args.bytes.now c.in-Some.frame.kind c.in-Some.frame.body.now c.in-Some.ensures (rw c.in_default-2.is at c.in_ok-entry.ensures)

pub returns-clause-found : goal.returns-clause-found
returns-clause-found c =
    front-record c.args.bytes.now c.in-Some.frame.kind c.in-Some.frame.body.now c.in-Some-2.entry c.args.out.now.items
    c.push.new.self.items c.in-Some.ensures (rw c.in-Some-2.is at c.in_ok-entry.ensures)
    c.in_ok-push.ensures.items
