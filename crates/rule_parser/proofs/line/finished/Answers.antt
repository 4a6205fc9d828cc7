-- The draft's class is one of the classes, and `told` hands on the same, so its priority is there.
use Rattle.std.proofs.Common.{length}
use Rattle.rule_parser.proofs.Classing.{told-there}
use Rattle.rule_parser.proofs.line.finished.Goals as goal

pub class_priority-class_priority-requires : goal.class_priority-class_priority-requires
class_priority-class_priority-requires c =
    told-there (length c.args.classes.now) c.args.draft.sid c.args.draft.class c.in_ok-sid.sid c.in_ok-sid.class c.requires c.in_ok-sid.ensures.gives
