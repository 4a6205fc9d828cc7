-- How a line that goes on, and one that does not, lengthen what is joined.
use Rattle.std.proofs.Common.{◌≡◌, ◌∷◌, ◌++◌, ◌+◌, cond, true, false, sym, ap, ◌∙◌, arith, eqb-true}
use Rattle.std.specs.Str.Lines.{lines}
use Rattle.net_lists.specs.Lines.{numbered}
use Rattle.conf_parser.specs.Lines.{is_open, without_last, joined_onto, joined_lines}
use Rattle.conf_parser.proofs.Joining.{joined_lines-start, joined_onto-open, joined_onto-closed, joined_onto-end}
use Rattle.conf_parser.proofs.lines.joined_line.Goals as goal

pub joining-init : goal.joining-init
joining-init c = record {
  so_far =
      joined_lines-start c.args.number c.args.text.now c.requires.some
      ∙ ap (λ f. joined_onto c.args.number f (joined_lines c.args.number (lines c.args.text.now)))
      (sym c.new-joined.ensures.items);
  few = omega arith;
  shorter = omega arith;
}

pub returns-then-not-goes_on-clause-line : goal.returns-then-not-goes_on-clause-line
returns-then-not-goes_on-clause-line c =
    let line = c.cut_line.result.0.now in
    let more = lines c.cut_line.result.1.now in
    let closed : is_open line ≡ false = sym c.is_open-goes_on.ensures ∙ c.if-not-goes_on.true in
    c.joining.invariant.so_far
    ∙ ap (λ ls. joined_onto c.args.number c.joining.joined.items (joined_lines c.joining.next ls)) c.cut_line.ensures.cut
    ∙ joined_onto-closed c.args.number c.joining.next c.joining.joined.items line more closed
    ∙ ap (λ text. numbered c.args.number text ∷ joined_lines (c.joining.next + 1) more)
    (sym (c.in_ok-joined.ensures ∙ ap (λ b. c.joining.joined.items ++ cond b (without_last line) line) c.if-not-goes_on.true))

pub joining-preserved : goal.joining-preserved
joining-preserved c =
    let line = c.cut_line.result.0.now in
    let more = lines c.cut_line.result.1.now in
    let goes_on : is_open line ≡ true = sym c.is_open-goes_on.ensures ∙ c.if-not-goes_on.false in
    record {
      so_far =
          c.joining.invariant.so_far
          ∙ ap (λ ls. joined_onto c.args.number c.joining.joined.items (joined_lines c.joining.next ls)) c.cut_line.ensures.cut
          ∙ joined_onto-open c.args.number c.joining.next c.joining.joined.items line more goes_on
          ∙ ap (λ text. joined_onto c.args.number text (joined_lines (c.joining.next + 1) more))
          (sym (c.in_ok-joined.ensures ∙ ap (λ b. c.joining.joined.items ++ cond b (without_last line) line) c.if-not-goes_on.false));
      few = omega (arith, c.cut_line.ensures.shorter);
      shorter = omega (arith, c.cut_line.ensures.shorter);
    }

pub returns-clause-line : goal.returns-clause-line
returns-clause-line c =
    c.joining.invariant.so_far
    ∙ joined_onto-end c.args.number c.joining.next c.joining.joined.items c.joining.rest.now (eqb-true _ _ (sym c.is_empty.ensures ∙ c.joining-test.false))
