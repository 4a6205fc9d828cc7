-- What a head makes of a capture.
use Rattle.std.proofs.Common.{◌≡◌, ℕ, List, Option, Ok, Err, drop, refl}
use Rattle.pcap_input.specs.declared.capture.CaptureHead.{CaptureHead}
use Rattle.pcap_input.specs.declared.capture.CaptureFault.{CaptureFault}
use Rattle.pcap_input.specs.Cut.{first_records}
use Rattle.pcap_input.specs.Savefile.{head_of, records_left, savefile}

-- a capture whose head is accepted
pub savefile-ok : (bytes : List ℕ) (limit : Option ℕ) (head : CaptureHead) → head_of bytes ≡ Ok head
    → savefile bytes limit ≡ Ok (record { head = head; cut = first_records limit (records_left head 0 24 (drop 24 bytes)) })
unfolding savefile
savefile-ok bytes limit head is = rw (is, savefile) refl

-- a capture whose head is refused
pub savefile-err : (bytes : List ℕ) (limit : Option ℕ) (why : CaptureFault) → head_of bytes ≡ Err why → savefile bytes limit ≡ Err why
unfolding savefile
savefile-err bytes limit why is = rw (is, savefile) refl
