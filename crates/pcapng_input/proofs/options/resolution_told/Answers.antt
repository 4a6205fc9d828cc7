-- Each option is the one that comes first in the options that are left.
use Rattle.std.proofs.Common.{ℕ, sym, ap, ◌∙◌, arith}
use Rattle.std.proofs.lemmas.List.{length-take, length-drop}
use Rattle.pcapng_input.specs.Options.{padded}
use Rattle.pcapng_input.proofs.OptionLists.{Reads, tells_start, tells_end, tells_stop, reads_past, reads_none, reads_more}
use Rattle.pcapng_input.proofs.options.resolution_told.Goals as goal

pub loop-rest-init : goal.loop-rest-init
loop-rest-init c = tells_start c.args.swapped c.args.options.now

pub returns-then-code-eq-END : goal.returns-then-code-eq-END
returns-then-code-eq-END c =
    sym (tells_stop _ _ _ _ c.loop-rest.invariant (omega arith) (sym c.u16_at-code.ensures ∙ c.if-code-eq-END.true))

pub returns-then-rest-end : goal.returns-then-rest-end
returns-then-rest-end c =
    let reads : Reads c.args.swapped c.loop-rest.rest.now c.u16_at-code.result c.u16_at-size.result c.padded-end.result =
    record { code_is = c.u16_at-code.ensures; size_is = c.u16_at-size.ensures; full_is = c.padded-end.ensures } in
    reads_past _ _ _ _ _ _ _ c.loop-rest.invariant reads (omega arith) c.if-code-eq-END.false (omega arith)

pub returns-in_err-found : goal.returns-in_err-found
returns-in_err-found c =
    let reads : Reads c.args.swapped c.loop-rest.rest.now c.u16_at-code.result c.from.result c.padded-end.result =
    record { code_is = c.u16_at-code.ensures; size_is = c.from.ensures ∙ c.u16_at-size.ensures; full_is = c.padded-end.ensures ∙ ap padded (sym c.from.ensures) } in
    rw c.from_residual.ensures (reads_none _ _ _ _ _ _ _ c.loop-rest.invariant reads (omega arith) c.if-code-eq-END.false (omega arith) c.in_err-found.ensures)

pub loop-rest-smaller : goal.loop-rest-smaller
loop-rest-smaller c = omega (arith, length-take {A = ℕ}, length-drop {A = ℕ})

pub loop-rest-preserved : goal.loop-rest-preserved
loop-rest-preserved c =
    let reads : Reads c.args.swapped c.loop-rest.rest.now c.u16_at-code.result c.from.result c.padded-end.result =
    record { code_is = c.u16_at-code.ensures; size_is = c.from.ensures ∙ c.u16_at-size.ensures; full_is = c.padded-end.ensures ∙ ap padded (sym c.from.ensures) } in
    reads_more _ _ _ _ _ _ _ _ c.loop-rest.invariant reads (omega arith) c.if-code-eq-END.false (omega arith) c.in_ok-found.ensures

pub returns : goal.returns
returns c = sym (tells_end _ _ _ _ c.loop-rest.invariant (omega arith))
