-- The walk from each header on is the whole walk's, so a header that is wrong is its fault.
use Rattle.std.proofs.Common.{◌≡◌, true, sym, ◌∙◌}
use Rattle.std.proofs.lemmas.Result.{err_from_is_err_and}
use Rattle.ipv6_decode.specs.Headers.{is_at_header}
use Rattle.ipv6_decode.proofs.Walks.{failed}
use Rattle.ipv6_decode.proofs.walk.walk_end.Goals as goal

pub returns-in_err-walk-clause-exact : goal.returns-in_err-walk-clause-exact
returns-in_err-walk-clause-exact c =
    let p = err_from_is_err_and c.from_residual.result c.from_residual.ensures.1 in
    let there : is_at_header c.loop-walk.walk ≡ true = cc in
    let fault = failed c.loop-walk.left c.loop-walk.walk c.in_err-walk.field-0.0 c.args.packet.now there c.if-left-eq0.false (sym c.after_header.ensures.exact ∙ c.in_err-walk.was) in
    rw (p.1, p.2) (sym fault ∙ c.loop-walk.invariant.same)
