-- The numbers of a payload are bytes, so the ends that `ends` gives are the span of the leftmost match (`span_in-found`), in
-- order and within the bytes (`first_match_span`).
use Rattle.std.proofs.Common.{Some, None, sym, ◌∙◌}
use Rattle.regex_meta.proofs.ProgramLemmas.{first_match_span}
use Rattle.regex_meta.specs.Programs.{pattern_of}
use Rattle.regex_maker.proofs.Spans.{span_in-found}
use Rattle.regex_maker.proofs.made.RegexPatternPattern.find.Goals as goal

pub returns-in-None-clause-found : goal.returns-in-None-clause-found
returns-in-None-clause-found c =
    span_in-found (pattern_of c.args.self.now.program.value) c.args.bytes.now None (λ place. c.type_inv.bytes place) (sym c.in-None.is ∙ c.in_ok-ends.ensures)

pub returns-in-Some-clause-found : goal.returns-in-Some-clause-found
returns-in-Some-clause-found c =
    span_in-found (pattern_of c.args.self.now.program.value) c.args.bytes.now (Some (c.in-Some.start, c.in-Some.end)) (λ place. c.type_inv.bytes place)
    (sym c.in-Some.is ∙ c.in_ok-ends.ensures)

pub returns-in-Some-clause-in_order : goal.returns-in-Some-clause-in_order
returns-in-Some-clause-in_order c =
    (first_match_span c.args.self.now.program.value c.args.bytes.now 0 c.in-Some.start c.in-Some.end (sym c.in_ok-ends.ensures ∙ c.in-Some.is)).0

pub returns-in-Some-clause-within : goal.returns-in-Some-clause-within
returns-in-Some-clause-within c =
    (first_match_span c.args.self.now.program.value c.args.bytes.now 0 c.in-Some.start c.in-Some.end (sym c.in_ok-ends.ensures ∙ c.in-Some.is)).1
