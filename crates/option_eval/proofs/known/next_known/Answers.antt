-- What is known of an option is so from any state; what is asked anew from one
-- state is so from all where the option counts from the start and reads no value.
use Rattle.std.proofs.Common.{◌+◌, Bool, length, subst}
use Rattle.option_eval.specs.Known.{LeadsAlike}
use Rattle.option_eval.specs.Kinds.{needs_place}
use Rattle.option_eval.specs.Next.{RisesTo}
use Rattle.option_eval.specs.Trying.{LeadsTo}
use Rattle.option_eval.proofs.Extractions.Knowing.{found_known, fixed, leads_all}
use Rattle.option_eval.proofs.known.next_known.Goals as goal

pub returns-in-Some-clause-found : goal.returns-in-Some-clause-found
returns-in-Some-clause-found g c = λ means made known.
    found_known (LeadsAlike means c.args.at.now.payload.now c.args.option.now (needs_place c.args.later.now)) _
    c.in-Some.next c.in-Some.ensures.value known c.args.at.now.values.now c.args.at.now.places.now c.args.at.now.two
    c.args.at.now.some

pub returns-in-Some-clause-alike : goal.returns-in-Some-clause-alike
returns-in-Some-clause-alike g c = λ means made known free.
    found_known (LeadsAlike means c.args.at.now.payload.now c.args.option.now (needs_place c.args.later.now)) _ c.in-Some.next c.in-Some.ensures.value known

pub returns-in-Some-clause-rising : goal.returns-in-Some-clause-rising
returns-in-Some-clause-rising g c = found_known (RisesTo (length c.args.at.now.payload.now + 1)) _ c.in-Some.next c.in-Some.ensures.value (c.requires.known_rising (length c.args.later.now))

pub returns-clause-found : goal.returns-clause-found
returns-clause-found g c = λ means made known.
    subst (λ (every : Bool). LeadsTo means c.args.option.now every c.args.at.now c.in_ok-next.next) c.needs_place.ensures
    (c.in_ok-next.ensures.after.found means made)

pub returns-clause-alike : goal.returns-clause-alike
returns-clause-alike g c = λ means made known free.
    let at = c.args.at.now in
    let found =
    subst (λ (every : Bool). LeadsTo means c.args.option.now every at c.in_ok-next.next) c.needs_place.ensures
    (c.in_ok-next.ensures.after.found means made) in
    leads_all means at.payload.now c.args.option.now c.requires.plain free (needs_place c.args.later.now)
    c.in_ok-next.next at.values.now at.places.now at.two at.some
    (c.in_ok-next.ensures.after.apart (fixed means at.payload.now c.args.option.now c.requires.plain free)) found

pub returns-clause-rising : goal.returns-clause-rising
returns-clause-rising g c = c.in_ok-next.ensures.after.rising
