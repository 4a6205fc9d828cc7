-- Why a capture is not read, or not read on, in either format, and the message of one that is refused.
--
-- What a savefile is refused for (pcap_input specs/Savefile) and what blocks are (`Blocks`) is the same, but that only a block
-- can be bad; of blocks without a byte-order magic it is said that they are no savefile. The message is a line of its own
-- with a line feed at its end; the wording is this project's own.
-- To try it on: of the first 23 bytes of a savefile or of a section header the message is
-- `ERROR: capture is truncated at byte 0`.
use Rattle.std.specs.Prelude.{ℕ, List, ◌++◌, codes, decimal}
use Rattle.pcap_input.specs.declared.capture.CaptureFault.{CaptureFault}
use Rattle.pcap_input.specs.declared.capture.CaptureFault.TheVariants as savefile
use Rattle.pcapng_input.specs.declared.capture.NgFault.{NgFault}
use Rattle.pcapng_input.specs.declared.capture.NgFault.TheVariants as blocks
use Rattle.pcapng_input.specs.declared.fault.BadCapture.{BadCapture}
use Rattle.pcapng_input.specs.declared.fault.BadCapture.TheVariants.{NotPcap, LinkType, Truncated, BadBlock, TooLong, TooMany}
use Rattle.pcapng_input.specs.declared.fault.ReadFault.{ReadFault}
use Rattle.pcapng_input.specs.declared.fault.ReadFault.TheVariants.{Bad, Failed, NoMemory}

-- why a savefile is not read, or not read on
abbrev pub of_savefile : CaptureFault → ReadFault
of_savefile savefile.NotPcap = Bad NotPcap
of_savefile (savefile.LinkType link) = Bad (LinkType link)
of_savefile (savefile.Truncated at) = Bad (Truncated at)
of_savefile (savefile.TooLong at len) = Bad (TooLong at len)
of_savefile savefile.TooMany = Bad TooMany
of_savefile savefile.Failed = Failed
of_savefile savefile.NoMemory = NoMemory

-- why blocks are not read, or not read on
abbrev pub of_blocks : NgFault → ReadFault
of_blocks blocks.NotPcapng = Bad NotPcap
of_blocks (blocks.Truncated at) = Bad (Truncated at)
of_blocks (blocks.BadBlock at) = Bad (BadBlock at)
of_blocks (blocks.LinkType at link) = Bad (LinkType link)
of_blocks (blocks.TooLong at len) = Bad (TooLong at len)
of_blocks blocks.TooMany = Bad TooMany
of_blocks blocks.Failed = Failed
of_blocks blocks.NoMemory = NoMemory

-- a text, a number and the end of their line
abbrev pub numbered_line : List ℕ → ℕ → List ℕ
numbered_line text number = text ++ decimal number ++ codes "\n"

-- the message of a capture that is refused for this
unfoldable pub bad_capture_text : BadCapture → List ℕ
bad_capture_text NotPcap = codes "ERROR: capture is not a pcap file\n"
bad_capture_text (LinkType link) = numbered_line (codes "ERROR: capture has link type ") link
bad_capture_text (Truncated at) = numbered_line (codes "ERROR: capture is truncated at byte ") at
bad_capture_text (BadBlock at) = numbered_line (codes "ERROR: capture has a bad block at byte ") at
bad_capture_text (TooLong at len) =
    codes "ERROR: capture has a record of " ++ decimal len ++ numbered_line (codes " bytes at byte ") at
bad_capture_text TooMany = codes "ERROR: capture has too many records\n"
