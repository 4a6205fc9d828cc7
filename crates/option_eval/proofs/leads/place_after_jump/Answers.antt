-- Two kinds of options jump: a `pcre`, whose pattern is made alike with `!`
-- and without, and a `byte_jump`, whose `post` means the same in 32 bits.
use Rattle.std.proofs.Common.{ℤ, false, subst, rules}
use Rattle.std.proofs.lemmas.Int.{to_z-of_z}
use Rattle.std.specs.Int.{w32}
use mir.Val.{SFits}
use Rattle.rule_types.specs.declared.option.Opt.TheVariants as opt
use Rattle.option_eval.specs.Ready.{pattern_of}
use Rattle.option_eval.proofs.Walks.Leading.{made_either}
use Rattle.option_eval.specs.Sets.{LeadsFrom, LeadsOnlyTo}
use Rattle.option_eval.proofs.leads.place_after_jump.Goals as goal

pub returns-in-Pcre-clause-only : goal.returns-in-Pcre-clause-only
returns-in-Pcre-clause-only g c = λ means made.
    let plain = rw c.in-Pcre.is at c.requires.jumps in
    let found = made_either g.P.Pattern.finds means c.in-Pcre.text c.in-Pcre.flags c.in-Pcre.relative c.in-Pcre.negated false (pattern_of c.args.made.now) (rw c.in-Pcre.is at made) in
    rw (c.in-Pcre.is, plain) (c.place_after_pcre.ensures.only c.in-Pcre.text c.in-Pcre.flags means c.args.values.now found)

pub returns-in-ByteJump-clause-only : goal.returns-in-ByteJump-clause-only
returns-in-ByteJump-clause-only g c = λ means made.
    let fits : SFits w32 c.in-ByteJump.post = search rules in
    rw c.in-ByteJump.is
    (subst (λ (z : ℤ). LeadsOnlyTo
    (LeadsFrom means c.args.payload.now c.args.values.now
    (opt.ByteJump c.in-ByteJump.fetch c.in-ByteJump.times c.in-ByteJump.align c.in-ByteJump.beginning z)
    c.args.place)
    c.place_after_byte_jump.result)
    (to_z-of_z w32 c.in-ByteJump.post fits) (c.place_after_byte_jump.ensures.only means))
