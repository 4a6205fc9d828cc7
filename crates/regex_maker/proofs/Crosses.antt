-- A pattern may move to another thread, and threads may share it: a compiled expression does, level by level
-- from its syntax tree up. Each level's proof is apart, since
-- a single search through all of them finds no end.
use denote.Param.Send.{IsSend, IsSync, sendable}
use Rattle.std.proofs.Crossing as heap
use Rattle.regex_class.proofs.Class.TheSendSync as class
use Rattle.regex_hir.proofs.look.Look.TheSendSync as look
use Rattle.regex_hir.proofs.hir.Hir.TheLaws.TheKnot as knot
use Rattle.regex_hir.specs.contracts.hir.Hir as Hir
use Rattle.regex_dfa.proofs.dfa.Dfa.TheSendSync as dfa
use Rattle.regex_extract.proofs.frames.Frame.TheSendSync as frame
use Rattle.regex_literal.proofs.byte_set.ByteSet.TheSendSync as byte_set
use Rattle.regex_literal.proofs.caseless.Caseless.TheSendSync as caseless
use Rattle.regex_literal.proofs.ladder.Ladder.TheSendSync as ladder
use Rattle.regex_literal.proofs.prefilter.Prefilter.TheSendSync as prefilter
use Rattle.regex_meta.proofs.plan.Role.TheSendSync as role
use Rattle.regex_meta.specs.contracts.plan.Plan as Plan
use Rattle.regex_meta.specs.contracts.plan.Plans as Plans
use Rattle.regex_meta.specs.contracts.program.Program as Program
use Rattle.regex_meta.specs.contracts.signs.Signs as Signs
use Rattle.regex_dfa.proofs.forward.Forward.TheSendSync as forward
use Rattle.regex_dfa.proofs.reverse.Reverse.TheSendSync as reverse
use Rattle.counted_slot.proofs.Counted.TheSendSync as slot
use Rattle.regex_maker.specs.contracts.made.RegexPattern as RegexPattern
use Rattle.regex_maker.specs.contracts.memory.Memory as Memory
use Rattle.regex_maker.specs.contracts.shelf.Kept as Kept
use Rattle.regex_maker.specs.contracts.shelf.Shelf as Shelf
use Rattle.regex_maker.specs.contracts.sieve.MatchTests as MatchTests
use Rattle.regex_maker.specs.contracts.tally.MemoryCount as MemoryCount
use Rattle.regex_maker.specs.contracts.tally.MemoryTally as MemoryTally

Hir-send : IsSend Hir.the_field.row
Hir-send = search (sendable, heap.crosses, knot.crosses, class.the_field_send, look.the_field_send) depth 40

Plan-send : IsSend Plan.the_field.row
Plan-send = search (sendable, Hir-send, role.the_field_send, prefilter.the_send, frame.the_field_send, ladder.the_field_send) depth 40

Plans-send : IsSend Plans.the_field.row
Plans-send = search (sendable, heap.crosses, Plan-send) depth 40

Signs-send : IsSend Signs.the_field.row
Signs-send = search (sendable, heap.crosses, Hir-send, caseless.the_send) depth 40

Program-send : IsSend Program.the_field.row
Program-send = search (sendable, heap.crosses, Hir-send, dfa.the_field_send, Plans-send, Signs-send, byte_set.the_send) depth 40

MemoryTally-send : IsSend MemoryTally.the_field.row
MemoryTally-send = search (sendable, heap.crosses) depth 40

MemoryTally-sync : IsSync MemoryTally.the_field.row
MemoryTally-sync = search (sendable, heap.crosses) depth 40

MemoryCount-send : IsSend MemoryCount.the_field.row
MemoryCount-send = search (sendable, heap.crosses, MemoryTally-send, MemoryTally-sync) depth 40

Memory-send : IsSend Memory.the_field.row
Memory-send = search (sendable, forward.the_field_send, reverse.the_field_send, MemoryCount-send) depth 40

Kept-send : IsSend Kept.the_field.row
Kept-send = search (sendable, heap.crosses, Memory-send) depth 40

Shelf-send : IsSend Shelf.the_field.row
Shelf-send = search (sendable, heap.crosses, slot.the_send, Kept-send) depth 40

MatchTests-send : IsSend MatchTests.the_field.row
MatchTests-send = search (sendable, prefilter.the_send, ladder.the_field_send) depth 40

pub RegexPattern-send : IsSend RegexPattern.the_row
RegexPattern-send = search (sendable, heap.crosses, Program-send, MatchTests-send, Shelf-send, MemoryTally-send, MemoryTally-sync) depth 40

Hir-sync : IsSync Hir.the_field.row
Hir-sync = search (sendable, heap.crosses, knot.crosses, class.the_field_sync, look.the_field_sync) depth 40

Plan-sync : IsSync Plan.the_field.row
Plan-sync = search (sendable, Hir-sync, role.the_field_sync, prefilter.the_sync, frame.the_field_sync, ladder.the_field_sync) depth 40

Plans-sync : IsSync Plans.the_field.row
Plans-sync = search (sendable, heap.crosses, Plan-sync) depth 40

Signs-sync : IsSync Signs.the_field.row
Signs-sync = search (sendable, heap.crosses, Hir-sync, caseless.the_sync) depth 40

Program-sync : IsSync Program.the_field.row
Program-sync = search (sendable, heap.crosses, Hir-sync, dfa.the_field_sync, Plans-sync, Signs-sync, byte_set.the_sync) depth 40

MemoryCount-sync : IsSync MemoryCount.the_field.row
MemoryCount-sync = search (sendable, heap.crosses, MemoryTally-send, MemoryTally-sync) depth 40

Memory-sync : IsSync Memory.the_field.row
Memory-sync = search (sendable, forward.the_field_sync, reverse.the_field_sync, MemoryCount-sync) depth 40

Kept-sync : IsSync Kept.the_field.row
Kept-sync = search (sendable, heap.crosses, Memory-sync) depth 40

Shelf-sync : IsSync Shelf.the_field.row
Shelf-sync = search (sendable, heap.crosses, slot.the_sync, Kept-sync, Kept-send) depth 40

MatchTests-sync : IsSync MatchTests.the_field.row
MatchTests-sync = search (sendable, prefilter.the_sync, ladder.the_field_sync) depth 40

pub RegexPattern-sync : IsSync RegexPattern.the_row
RegexPattern-sync = search (sendable, heap.crosses, Program-sync, MatchTests-sync, Shelf-sync, MemoryTally-send, MemoryTally-sync) depth 40
