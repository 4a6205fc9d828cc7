-- Once no bytes are left the lines so far are all lines of the file.
use Rattle.std.proofs.Common.{sym, ◌∙◌, eqb-true}
use Rattle.conf_parser.specs.Lines.{content_lines}
use Rattle.conf_parser.proofs.Joining.{kept-end}
use Rattle.conf_parser.proofs.lines.content_lines.Goals as goal

pub returns : goal.returns
unfolding content_lines
returns c = sym (c.lines.invariant.so_far ∙ kept-end c.lines.all c.lines.number c.lines.rest.now (eqb-true _ _ (sym c.is_empty.ensures ∙ c.lines-test.false)))
