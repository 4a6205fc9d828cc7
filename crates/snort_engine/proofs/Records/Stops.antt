-- What a reader refused.
use Rattle.std.proofs.Common.{◌≡◌, Option, Some, sym, ap, ◌∙◌}
use Rattle.std.specs.Option.{option_map}
use Rattle.pcap_input.specs.declared.capture.CaptureFault.{CaptureFault}
use Rattle.pcap_input.specs.Reader as classic_reader
use Rattle.pcapng_input.specs.declared.capture.NgFault.{NgFault}
use Rattle.pcapng_input.specs.Reader as blocks_reader
use Rattle.pcapng_input.specs.declared.fault.ReadFault.{ReadFault}
use Rattle.snort_engine.specs.declared.reader.RecordReader.TheVariants.{Savefile, Blocks}
use Rattle.pcapng_input.specs.Faults.{of_savefile, of_blocks}
use Rattle.snort_engine.specs.Steps.Reader.{refusal_of}

-- a reader keeps what it refused
pub savefile_keeps : (old new : classic_reader.Reading) (why : CaptureFault) (so : ReadFault) → so ≡ of_savefile why → new ≡ classic_reader.after_refusal old why → refusal_of (Savefile new) ≡ Some so
savefile_keeps old new why so is same = ap (λ (r : classic_reader.Reading). option_map of_savefile r.refused) same ∙ ap (λ (f : ReadFault). Some f) (sym is)

pub blocks_keep : (new : blocks_reader.Reading) (why : NgFault) (so : ReadFault) → so ≡ of_blocks why → new.refused ≡ Some why → refusal_of (Blocks new) ≡ Some so
blocks_keep new why so is same = ap (λ (r : Option NgFault). option_map of_blocks r) same ∙ ap (λ (f : ReadFault). Some f) (sym is)
