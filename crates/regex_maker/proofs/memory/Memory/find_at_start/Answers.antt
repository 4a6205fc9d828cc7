-- An anchored expression has its leftmost match at place 0, ending where the forward automaton ends (`IsLocated_anchored`),
-- or has none (`anchored_none`).
use Rattle.std.proofs.Common.{sym, ap, subst, refl, true, false, option_map, arith}
use Rattle.regex_meta.proofs.PlansLemmas.{anchored_none}
use Rattle.regex_meta.proofs.ProgramLemmas.{IsLocated_anchored, attempt_no_end}
use Rattle.regex_meta.proofs.SearcherLemmas.{Ended}
use Rattle.regex_meta.specs.Programs.{pattern_of}
use Rattle.regex_vm.specs.Found.{span}
use Rattle.regex_maker.proofs.memory.Memory.find_at_start.Goals as goal

pub returns-in-At-clause-found : goal.returns-in-At-clause-found
returns-in-At-clause-found c =
    let ended = subst (Ended c.args.bytes.now 0 true false c.args.program.now) c.in-At.is c.find_end.ensures.end in
    let located = IsLocated_anchored c.args.program.now c.args.bytes.now 0 c.in-At.end false (omega arith) ended.0 ended.1 in
    sym (located.1 refl)

pub returns-in-NoMatch-clause-found : goal.returns-in-NoMatch-clause-found
returns-in-NoMatch-clause-found c =
    let none = subst (Ended c.args.bytes.now 0 true false c.args.program.now) c.in-NoMatch.is c.find_end.ensures.end in
    sym (ap (option_map span) (anchored_none (pattern_of c.args.program.now) c.args.bytes.now c.requires.anchored (attempt_no_end c.args.program.now c.args.bytes.now 0 none)))
