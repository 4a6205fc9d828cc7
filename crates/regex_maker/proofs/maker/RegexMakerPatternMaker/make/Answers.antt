-- The tree that was read matches as the text does, so the leftmost match of the program is what the text finds
-- (`span_in-regex_span`); a text that was read is a pattern (`IsPattern-read`).
use Rattle.std.proofs.Common.{ap, ◌∙◌}
use Rattle.regex_meta.specs.Programs.{pattern_of}
use Rattle.regex_meta.specs.declared.program.Program.{Program}
use Rattle.regex_maker.proofs.Spans.{span_in-regex_span, IsPattern-read}
use Rattle.regex_maker.specs.Meaning.{span_in}
use Rattle.regex_maker.proofs.maker.RegexMakerPatternMaker.make.Goals as goal

pub returns-in_ok-new-in-Ok-clause-made : goal.returns-in_ok-new-in-Ok-clause-made
returns-in_ok-new-in-Ok-clause-made c = λ bytes.
    ap (λ (program : Program). span_in (pattern_of program) bytes) c.in_ok-new-in-Ok.ensures
    ∙ span_in-regex_span c.args.text.now c.args.flags c.in-Ok.program.hir c.in-Ok.ensures bytes

pub returns-in_ok-new-in-Ok-clause-spelled : goal.returns-in_ok-new-in-Ok-clause-spelled
returns-in_ok-new-in-Ok-clause-spelled c = IsPattern-read c.args.text.now c.args.flags c.in-Ok.program.hir c.in-Ok.ensures
