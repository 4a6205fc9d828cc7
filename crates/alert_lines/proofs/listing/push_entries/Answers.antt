-- The line of one record more comes after those of the records before it (`entries_more`); in the end all records are taken.
use Rattle.std.proofs.Common.{◌≡◌, take, arith, append-nil, sym}
use Rattle.std.proofs.lemmas.List.{take_all}
use Rattle.alert_lines.proofs.Records.{entries_more}
use Rattle.alert_lines.proofs.listing.push_entries.Goals as goal

pub loop-entry-init : goal.loop-entry-init
loop-entry-init c = record { lines = sym (append-nil c.args.out.now.items) }

pub loop-entry-preserved : goal.loop-entry-preserved
loop-entry-preserved c = record {
  lines =
      entries_more c.args.entries.now c.loop-entry.entry-index c.entry-item.result c.args.out.now.items _ _ c.loop-entry-test.true
      c.entry-item.is c.loop-entry.invariant.lines c.in_ok-push_entry.ensures;
}

pub returns : goal.returns
returns c =
    let all : take c.loop-entry.entry-index c.args.entries.now ≡ c.args.entries.now = take_all c.loop-entry.entry-index c.args.entries.now (omega arith) in
    rw all at c.loop-entry.invariant.lines
