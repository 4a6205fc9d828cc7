-- The records that a plan reads of bytes hold bytes, and no more than a record may have.
use Rattle.std.proofs.Common.{◌≡◌, ℕ, ◌^◌, ◌<◌, Bool, true, false, List, Option, Result, Ok, Err, map, drop, refl, sym, subst}
use Rattle.std.specs.List.{All}
use Rattle.std.proofs.lemmas.List.Elements.{All-drop, All-map, All-nil, All-weaker}
use Rattle.edge_io.specs.declared.link.Link.{Link}
use Rattle.pcap_input.specs.Cut.{Refused, Clean, first_records}
use Rattle.pcap_input.specs.declared.capture.CaptureHead.{CaptureHead}
use Rattle.pcap_input.specs.declared.capture.CaptureFault.{CaptureFault}
use Rattle.pcap_input.specs.declared.capture.Record.{Record}
use Rattle.pcap_input.specs.Savefile as classic
use Rattle.pcap_input.specs.Savefile.{head_of, savefile}
use Rattle.pcap_input.proofs.Cuts.{first_records-all}
use Rattle.pcap_input.proofs.Endings.{savefile-ok, savefile-err}
use Rattle.pcapng_input.specs.declared.capture.NgRecord.{NgRecord}
use Rattle.pcapng_input.specs.Blocks as blocks
use Rattle.pcapng_input.specs.Blocks.{first_walk, ng_records, opening}
use Rattle.pcapng_input.proofs.Captures.Endings.{ng_records-refused}
use Rattle.record_jobs.specs.Way.{linked}
use Rattle.unified2_out.specs.Records.{AllFit}
use Rattle.snort_engine.specs.Course.{Plan}
use Rattle.snort_engine.specs.Records.{is_of_blocks, recording_in, recording_in_blocks, records_in, records_of, with_link}
use Rattle.snort_engine.specs.ReadBack.{FitsRecord}
use Rattle.snort_engine.proofs.Fits.Savefiles.{FitsCaptured, savefile_fits}
use Rattle.snort_engine.proofs.Fits.Blocks.{FitsGiven, blocks_fit}

-- records with their link layers fit
linked_fit : (link : Link) (records : List Record) → All FitsCaptured records → All FitsRecord (map (linked link) records)
linked_fit link records all =
    All-map FitsRecord (linked link) records
    (All-weaker FitsCaptured (λ (r : Record). FitsRecord (linked link r)) (λ r fits. record { short = fits.short; bytes = fits.bytes }) records all)

given_fit : (records : List NgRecord) → All FitsGiven records → All FitsRecord (map with_link records)
given_fit records all =
    All-map FitsRecord with_link records
    (All-weaker FitsGiven (λ (r : NgRecord). FitsRecord (with_link r)) (λ r fits. record { short = fits.short; bytes = fits.bytes }) records all)

savefile_by : (limit : Option ℕ) (bytes : List ℕ) (read : Result CaptureHead CaptureFault) → head_of bytes ≡ read → AllFit 1 bytes → All FitsRecord (recording_in (savefile bytes limit)).records
savefile_by limit bytes (Ok head) is all =
    let rest = drop 24 bytes in
    let cut = classic.records_left head 0 24 rest in
    let own = savefile_fits head rest (All-drop (λ value. value < 256 ^ 1) 24 bytes all) in
    subst (λ read. All FitsRecord (recording_in read).records) (sym (savefile-ok bytes limit head is))
    (linked_fit head.link (first_records limit cut).records (first_records-all FitsCaptured limit cut own))
savefile_by limit bytes (Err why) is all = subst (λ read. All FitsRecord (recording_in read).records) (sym (savefile-err bytes limit why is)) (All-nil FitsRecord)

kept_fits : (limit : Option ℕ) (bytes : List ℕ) → AllFit 1 bytes → ng_records bytes limit ≡ Ok (first_records limit (blocks.records_left first_walk bytes))
    → All FitsRecord (recording_in_blocks (ng_records bytes limit)).records
kept_fits limit bytes all is =
    let cut = blocks.records_left first_walk bytes in
    subst (λ read. All FitsRecord (recording_in_blocks read).records) (sym is)
    (given_fit (first_records limit cut).records (first_records-all FitsGiven limit cut (blocks_fit first_walk bytes all)))

blocks_by : (limit : Option ℕ) (bytes : List ℕ) (step : blocks.Step) → opening bytes ≡ step → AllFit 1 bytes → All FitsRecord (recording_in_blocks (ng_records bytes limit)).records
unfolding ng_records
blocks_by limit bytes (blocks.Stops (Refused why)) is all =
    subst (λ read. All FitsRecord (recording_in_blocks read).records) (sym (ng_records-refused bytes limit why is)) (All-nil FitsRecord)
blocks_by limit bytes (blocks.Stops Clean) is all = kept_fits limit bytes all (rw (is, ng_records) refl)
blocks_by limit bytes (blocks.Skips after more) is all = kept_fits limit bytes all (rw (is, ng_records) refl)
blocks_by limit bytes (blocks.Gives given after more) is all = kept_fits limit bytes all (rw (is, ng_records) refl)

either_fits : (limit : Option ℕ) (bytes : List ℕ) (test : Bool) → is_of_blocks bytes ≡ test → AllFit 1 bytes → All FitsRecord (records_in limit bytes).records
unfolding records_in
either_fits limit bytes true is all = rw is (blocks_by limit bytes _ refl all)
either_fits limit bytes false is all = rw is (savefile_by limit bytes _ refl all)

pub records_fit : (plan : Plan) (bytes : List ℕ) → AllFit 1 bytes → All FitsRecord (records_of plan bytes).records
records_fit plan bytes all = either_fits plan.limit bytes _ refl all
