-- Each byte goes on with the walk by `step` and `note` (`walks-more`), and at the end of the text no pattern is left
-- unended, so all are covered (`covers-whole`).
use Rattle.std.proofs.Common.{slice_index, refl}
use Rattle.pattern_search.proofs.Finding.Walking.{walks-none, walks-more}
use Rattle.pattern_search.proofs.Finding.Covering.{covers-whole}
use Rattle.pattern_search.proofs.automaton.Automaton.mark_in_one_walk.Goals as goal

pub loop-byte-init : goal.loop-byte-init
loop-byte-init c = walks-none c.args.self.now c.args.bytes.now c.args.seen.now c.args.hits.now.items

pub loop-byte-preserved : goal.loop-byte-preserved
loop-byte-preserved c =
    let automaton = c.args.self.now in
    let bytes = c.args.bytes.now in
    let l = c.loop-byte in
    let letter = slice_index automaton.letters (slice_index bytes l.byte-index) in
    walks-more automaton bytes l.byte-index l.at letter c.step-entry.result c.args.seen.now l.seen c.note.new.seen
    c.args.hits.now.items l.hits.items c.note.new.hits.items l.invariant c.loop-byte-test.true refl c.step-entry.ensures
    c.in_ok-note.ensures

pub returns : goal.returns
returns c =
    let l = c.loop-byte in
    covers-whole c.args.self.now c.args.bytes.now l.byte-index l.at c.args.seen.now l.seen c.args.hits.now.items l.hits.items c.loop-byte-test.false l.invariant
