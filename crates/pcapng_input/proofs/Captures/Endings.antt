-- What a limit leaves of a capture's records, and what its first block makes of it.
use Rattle.std.proofs.Common.{◌≡◌, ℕ, List, Option, Some, None, Ok, Err, length, refl, ap}
use Rattle.pcapng_input.specs.declared.capture.NgRecord.{NgRecord}
use Rattle.pcapng_input.specs.declared.capture.NgFault.{NgFault}
use Rattle.pcapng_input.specs.declared.walk.Walk.{Walk}
use Rattle.pcap_input.specs.Cut.{Cut, first_records}
use Rattle.pcap_input.proofs.Cuts.{first_records-none, first_records-below}
use Rattle.pcapng_input.specs.Blocks.{Skips, refused, first_walk, opening, records_left, ng_records}
use Rattle.pcapng_input.specs.Calls.{IsBelow}
use Rattle.pcapng_input.proofs.Captures.Nexts.{next_of-skips}
use Rattle.pcapng_input.proofs.Captures.Records.{records_left-same}
use Rattle.pcapng_input.proofs.Captures.Numbers.{opening_section}

-- fewer records than the limit says, if it says anything, are all given
pub below_limit : (limit : Option ℕ) (cut : Cut NgRecord NgFault) → IsBelow limit (length cut.records) → first_records limit cut ≡ cut
below_limit None cut below = first_records-none cut
below_limit (Some limit) cut below = first_records-below limit cut below

-- a first block that is skipped: the records are those after it
pub ng_records-skips : (bytes : List ℕ) (limit : Option ℕ) (walk : Walk) (more : List ℕ) → opening bytes ≡ Skips walk more
    → ng_records bytes limit ≡ Ok (first_records limit (records_left walk more))
unfolding ng_records
ng_records-skips bytes limit walk more is =
    let same = records_left-same first_walk walk bytes more (next_of-skips first_walk bytes walk more (opening_section bytes walk more is).step) in
    rw (is, ng_records) (ap (λ (cut : Cut NgRecord NgFault). Ok (first_records limit cut)) same)

-- a first block that is refused
pub ng_records-refused : (bytes : List ℕ) (limit : Option ℕ) (why : NgFault) → opening bytes ≡ refused why
    → ng_records bytes limit ≡ Err why
unfolding ng_records
ng_records-refused bytes limit why is = rw (is, ng_records) refl
