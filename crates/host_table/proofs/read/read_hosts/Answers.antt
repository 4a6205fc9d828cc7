-- One line is taken at each turn: it is passed over where it has no content, its entry is added, or it is refused; what the
-- rest gives after it is what the text gives.
use Rattle.std.proofs.Common.{◌+◌, sym, ap, ◌∙◌, arith}
use Rattle.std.proofs.lemmas.Result.{err_from_is_err_and}
use Rattle.std.specs.Str.Lines.{lines}
use Rattle.net_lists.specs.Lines.{kept}
use Rattle.host_table.specs.Lines.{numbered_lines}
use Rattle.host_table.specs.Hosts.{hosts_of, hosts_after}
use Rattle.host_table.proofs.Turns.{given-fault, hosts_after-nil, turn-skipped, turn-taken, turn-refused, hosts_of-lines}
use Rattle.host_table.proofs.read.read_hosts.Goals as goal

pub loop-line-init : goal.loop-line-init
loop-line-init c =
    let text = c.args.text.now in
    (omega arith, hosts_of-lines text ∙ ap (λ es. hosts_after es (kept (numbered_lines 1 (lines text)))) (sym c.empty-hosts.ensures))

pub returns-in_err-entry : goal.returns-in_err-entry
returns-in_err-entry c =
    let p = err_from_is_err_and c.from_residual.result c.from_residual.ensures.1 in
    let fault = c.in_err-entry.field-0.0 in
    let meant =
    c.loop-line.invariant.1
    ∙ turn-refused c.loop-line.hosts (c.loop-line.number + 1) c.loop-line.rest.now c.in-Some.line.now c.in-Some.after.now
    c.trimmed-line.result.now c.in-Some.ensures.cut c.trimmed-line.ensures c.if-has_content.ensures fault
    c.in_err-entry.ensures.entry in
    rw (p.1, p.2) (given-fault fault (hosts_of c.args.text.now) meant)

pub loop-line-preserved-then-has_content : goal.loop-line-preserved-then-has_content
loop-line-preserved-then-has_content c =
    let entry = c.in_ok-entry.entry in
    let meant =
    turn-taken c.loop-line.hosts (c.loop-line.number + 1) c.loop-line.rest.now c.in-Some.line.now c.in-Some.after.now
    c.trimmed-line.result.now c.in-Some.ensures.cut c.trimmed-line.ensures c.if-has_content.ensures entry
    c.in_ok-entry.ensures.entry in (
      omega (arith, c.in-Some.ensures.shorter),
      c.loop-line.invariant.1
          ∙ meant
          ∙ ap (λ es. hosts_after es (kept (numbered_lines (c.loop-line.number + 1 + 1) (lines c.in-Some.after.now))))
          (sym c.in_ok-hosts.ensures),
    )

pub loop-line-preserved : goal.loop-line-preserved
loop-line-preserved c = (
  omega (arith, c.in-Some.ensures.shorter),
  c.loop-line.invariant.1
      ∙ turn-skipped c.loop-line.hosts (c.loop-line.number + 1) c.loop-line.rest.now c.in-Some.line.now c.in-Some.after.now
      c.trimmed-line.result.now c.in-Some.ensures.cut c.trimmed-line.ensures c.if-has_content.ensures,
)

pub returns : goal.returns
returns c =
    let none = c.in_default.ensures.cut in
    c.loop-line.invariant.1 ∙ ap (λ ls. hosts_after c.loop-line.hosts (kept (numbered_lines (c.loop-line.number + 1) ls))) none ∙ hosts_after-nil c.loop-line.hosts (c.loop-line.number + 1)
