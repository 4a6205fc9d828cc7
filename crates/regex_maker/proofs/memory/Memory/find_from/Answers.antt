-- The forward automaton finds where the leftmost match ends (`IsLocated_end`), and the reverse one the least start of a
-- match that ends there, which is the leftmost's own (`span_from_least`).
use Rattle.std.proofs.Common.{sym, ap, subst, refl, false, option_map}
use Rattle.regex_meta.proofs.LeftmostLemmas.{are_bytes}
use Rattle.regex_meta.proofs.ProgramLemmas.{IsLocated_end, leftmost_no_end, span_from_least}
use Rattle.regex_meta.proofs.SearcherLemmas.{Ended, Started}
use Rattle.regex_vm.specs.Found.{span}
use Rattle.regex_maker.proofs.memory.Memory.find_from.Goals as goal

pub returns-in-NoMatch-clause-found : goal.returns-in-NoMatch-clause-found
returns-in-NoMatch-clause-found c =
    let none = subst (Ended c.args.bytes.now c.args.start false false c.args.program.now) c.in-NoMatch.is c.find_end.ensures.end in
    sym (ap (option_map span) (leftmost_no_end c.args.program.now c.args.bytes.now (are_bytes _ c.type_inv.bytes) c.args.start c.requires.start none))

pub returns-in-At-find_start-clause-found : goal.returns-in-At-find_start-clause-found
returns-in-At-find_start-clause-found c =
    let ended = subst (Ended c.args.bytes.now c.args.start false false c.args.program.now) c.in-At.is c.find_end.ensures.end in
    let located = IsLocated_end c.args.program.now c.args.bytes.now (are_bytes _ c.type_inv.bytes) c.args.start c.in-At.end false ended.2 ended.3 ended.0 ended.1 in
    let least = subst (Started c.args.bytes.now c.args.start c.in-At.end c.args.program.now) c.in-At-find_start.is c.find_start.ensures.least in
    span_from_least c.args.program.now c.args.bytes.now c.args.start c.in-At.end c.in-At-find_start.from (located.1 refl) least.0 least.2 least.3
