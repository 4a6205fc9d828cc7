-- First the event's text is appended and then its packet's, which together are the text of the alert's records.
use Rattle.std.proofs.Common.{◌++◌, ◌∙◌, ℕ, List, ap, ap₂, append_assoc}
use Rattle.std.proofs.lemmas.Result.{on_ok_weaker}
use Rattle.unified2_out.specs.declared.record.U2Event.{U2Event}
use Rattle.unified2_out.specs.declared.record.U2Packet.{U2Packet}
use Rattle.unified2_out.specs.declared.record.U2.TheVariants.{Event as an_event, Packet as a_packet}
use Rattle.unified2_out.specs.Records.{packet_of, unified2_text}
use Rattle.alert_lines.specs.Unified2.{records_text}
use Rattle.alert_lines.proofs.unified2.push_records.Goals as goal

pub returns : goal.returns
unfolding records_text
returns c =
    let out = c.args.out.now.items in
    let packet = packet_of c.packet_record.result in
    on_ok_weaker c.write_packet.result
    (λ e. e ∙ ap (λ (x : List ℕ). x ++ unified2_text (a_packet packet)) c.in_ok-write_record.ensures.appended
    ∙ append_assoc out (unified2_text (an_event c.event_record.result)) (unified2_text (a_packet packet))
    ∙ ap₂ (λ (event : U2Event) (p : U2Packet). out ++ (unified2_text (an_event event) ++ unified2_text (a_packet p))) c.event_record.ensures c.packet_record.ensures)
    c.write_packet.ensures.appended
