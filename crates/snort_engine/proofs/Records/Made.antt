-- What a plan reads of a capture that is made: as many records as were asked for, up to its limit, and a clean ending.
use Rattle.std.proofs.Common.{ℕ, drop, sym, ap, subst, ◌∙◌}
use Rattle.std.proofs.lemmas.List.{length-map}
use Rattle.pcap_input.specs.declared.capture.Record.{Record}
use Rattle.pcap_input.specs.declared.capture.CaptureFault.{CaptureFault}
use Rattle.pcap_input.specs.Cut.{Cut, limited, IsWhole, ending_by}
use Rattle.pcap_input.proofs.Cuts.{first_records-whole}
use Rattle.pcap_input.specs.Generated.{generated, made_cut, made_head}
use Rattle.pcap_input.specs.Reader.{new_reader}
use Rattle.pcap_input.proofs.Made.Captures.{generated-head, made_cut-whole}
use Rattle.record_jobs.specs.Way.{linked}
use Rattle.snort_engine.specs.declared.reader.RecordReader.TheVariants.{Savefile}
use Rattle.pcapng_input.specs.Faults.{of_savefile}
use Rattle.snort_engine.specs.Records.{recording_of, MadeIsWhole}
use Rattle.snort_engine.specs.Steps.Reader.{recording_for}
use Rattle.snort_engine.proofs.Records.Opening.{records_in-ok}

-- a cut that is whole, as a recording
recording_whole : (count : ℕ) (cut : Cut Record CaptureFault) → IsWhole count cut → IsWhole count (recording_of made_head.link cut)
recording_whole count cut whole = record {
  count_is = length-map cut.records (linked made_head.link) ∙ whole.count_is;
  clean = ap (ending_by of_savefile) whole.clean;
}

pub made_is_whole : MadeIsWhole
unfolding recording_for
made_is_whole plan seed count few =
    subst (IsWhole (limited plan.limit count)) (sym (records_in-ok plan.limit (generated seed count) made_head (generated-head seed count)))
    (first_records-whole plan.limit count (recording_for (Savefile (new_reader made_head)) (drop 24 (generated seed count)))
    (recording_whole count (made_cut seed count) (made_cut-whole seed count few)))
