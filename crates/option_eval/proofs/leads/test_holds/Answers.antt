-- A test that is none of the four kinds asked here asks nothing of the payload, so it leads from each place to that place.
use Rattle.std.proofs.Common.{refl}
use Rattle.option_eval.proofs.Walks.Leading.{stays_otherwise}
use Rattle.option_eval.specs.Sets.{point}
use Rattle.option_eval.proofs.leads.test_holds.Goals as goal

pub returns-in_default : goal.returns-in_default
returns-in_default g c = λ means made.
    let stays =
    stays_otherwise means c.args.payload.now c.args.option.now (point c.args.values.now c.args.place) c.requires.test
    c.in_default.not-Content c.in_default.not-Pcre c.in_default.not-ByteTest c.in_default.not-IsDataAt in
    (λ yes. stays, λ led. refl)
