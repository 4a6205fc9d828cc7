-- Without a number the jump leads nowhere; else it leads to one whole number,
-- if that is a place of the payload, and `post` means the same in 32 bits.
use Rattle.std.proofs.Common.{ℤ, pos, ◌+ℤ◌, ◌+◌, cond, length, subst}
use Rattle.std.specs.Int.{w32}
use Rattle.std.proofs.lemmas.Int.{to_z-of_z}
use Rattle.option_eval.specs.Places.{byte_jump_len}
use Rattle.option_eval.specs.Sets.{PlaceIn}
use Rattle.option_eval.proofs.Walks.Leading.{byte_jump_none, byte_jump_some}
use Rattle.option_eval.proofs.leads.place_after_byte_jump.Goals as goal

pub returns-in-None-clause-only : goal.returns-in-None-clause-only
returns-in-None-clause-only c = λ means.
    byte_jump_none means c.args.payload.now c.args.values.now c.args.place c.args.fetch.now c.args.times c.args.align c.args.beginning c.args.post c.in-None.ensures.value

pub returns-in-Some-clause-only : goal.returns-in-Some-clause-only
returns-in-Some-clause-only c = λ means.
    byte_jump_some means c.args.payload.now c.args.values.now c.args.place c.args.fetch.now c.args.times c.args.align
    c.args.beginning c.args.post _ c.byte_jump_place.result c.in-Some.ensures.value
    (subst (λ (z : ℤ). PlaceIn
    (pos ((cond c.args.beginning 0 c.in-Some.read.stop) + byte_jump_len c.args.times c.args.align c.in-Some.read.number) +ℤ z)
    (length c.args.payload.now) c.byte_jump_place.result) (to_z-of_z w32 c.args.post c.ranges.post) c.byte_jump_place.ensures)
