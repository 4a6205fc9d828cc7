-- The file header is the capture before its first record; each turn appends
-- the next frame's record, and with no frame left nothing is to come.
use Rattle.std.proofs.Common.{◌≡◌, ◌+◌, ◌-◌, List, ℕ, ◌++◌, ap, ◌∙◌, arith}
use Rattle.pcap_input.specs.Generated.{header_bytes, frames, record_bytes, records_from, generated}
use Rattle.pcap_input.proofs.Made.Making.{records-first, records-step, records-end}
use Rattle.pcap_input.proofs.generate.make_capture.Goals as goal

pub loop-millis-init : goal.loop-millis-init
loop-millis-init c =
    let bytes_are : c.extend_from_slice.new.self.items ≡ header_bytes =
    c.in_ok-extend_from_slice.ensures.items ∙ ap (λ (bytes : List ℕ). bytes ++ header_bytes) c.in_ok-bytes.ensures.items in
    records-first c.args.seed c.args.count c.new-traffic.result c.extend_from_slice.new.self.items bytes_are c.new-traffic.ensures

pub loop-millis-preserved : goal.loop-millis-preserved
loop-millis-preserved c =
    let millis = c.loop-millis.millis in
    let before = c.loop-millis.bytes.items in
    let after = c.frame.new.self in
    let added : c.add_record.new.bytes.items ≡ before ++ record_bytes millis c.in_ok-frame.frame.items =
    c.in_ok-add_record.ensures ∙ ap (λ (frame : List ℕ). before ++ record_bytes millis frame) c.deref.ensures.value in
    ap (λ (bytes : List ℕ). bytes ++ records_from (millis + 1) (frames (c.args.count - (millis + 1)) after)) added
    ∙ records-step (c.args.count - millis) (c.args.count - (millis + 1)) millis c.loop-millis.traffic after
    c.in_ok-frame.frame.items before (generated c.args.seed c.args.count) (omega arith) c.in_ok-frame.ensures.made
    c.loop-millis.invariant

pub returns : goal.returns
returns c =
    records-end (c.args.count - c.loop-millis.millis) c.loop-millis.millis c.loop-millis.traffic c.loop-millis.bytes.items _ (omega arith) c.loop-millis.invariant
