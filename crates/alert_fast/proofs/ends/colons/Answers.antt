-- A word that `Ipv6Addr` parses is the text of at most the address that it parses, so that writing this one
-- again decides whether it is.
use Rattle.std.proofs.Common.{◌≡◌, ◌^◌, ◌<◌, sym, ◌∙◌, arith, true≢false}
use Rattle.alert_fast.proofs.ReadBack.EndWords.{v6_whole, v6_none, v6_no}
use Rattle.alert_fast.proofs.ends.colons.Goals as goal

pub returns-then-branch : goal.returns-then-branch
returns-then-branch c = v6_whole c.args.word.now c.in-Ok.address c.to_bits-address.result c.in-Ok.ensures c.to_bits-address.ensures (omega arith) (c.in_ok-is_colons-in-Ok.ensures.0 c.if-branch.true)

pub returns-else-branch : goal.returns-else-branch
returns-else-branch c =
    v6_no c.args.word.now c.in-Ok.address c.to_bits-address.result c.in-Ok.ensures c.to_bits-address.ensures
    (λ e. true≢false (sym (c.in_ok-is_colons-in-Ok.ensures.1 e) ∙ c.if-branch.false))

pub returns-in-Err : goal.returns-in-Err
returns-in-Err c = v6_none c.args.word.now c.in-Err.ensures
