-- What the head of an opened capture gives is what the opening gives.
use Rattle.std.proofs.Common.{ℕ, List, Option, Result, Ok, Err, ap}
use Rattle.edge_io.specs.Files.{Files, IsOpened}
use Rattle.pcap_input.specs.declared.capture.CaptureHead.{CaptureHead}
use Rattle.pcap_input.specs.declared.capture.CaptureFault.{CaptureFault}
use Rattle.pcap_input.specs.declared.capture.CaptureFault.TheVariants as fault
use Rattle.pcap_input.specs.Savefile.{head_of}
use Rattle.pcap_input.specs.Reader.{Opens, TakesHead, reader_of}
use Rattle.pcap_input.specs.Pieces.{Reads, TakesFileHeader}

pub opens_from : (answer head : Result CaptureHead CaptureFault) → Reads answer head → Opens (reader_of answer) head
opens_from (Ok h) head reads = ap reader_of reads
opens_from (Err fault.NotPcap) head reads = reads
opens_from (Err (fault.LinkType link)) head reads = reads
opens_from (Err (fault.Truncated at)) head reads = reads
opens_from (Err (fault.TooLong at len)) head reads = reads
opens_from (Err fault.TooMany) head reads = reads
opens_from (Err fault.Failed) head reads = tt
opens_from (Err fault.NoMemory) head reads = reads

pub takes_from : (seen : Option Files) (name : List ℕ) (whole left : Option (List ℕ)) (answer : Result CaptureHead CaptureFault) → IsOpened seen name whole → TakesFileHeader answer whole left
    → TakesHead seen name (reader_of answer) left
takes_from seen name whole left answer opened takes = record {
  whole = whole;
  opened = opened;
  taken = takes.taken;
  took = takes.took;
  few = takes.few;
  answers = opens_from answer (head_of takes.taken) takes.answers;
}
