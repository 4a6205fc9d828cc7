-- The items of a part's records are those that they have in the whole capture.
use Rattle.std.proofs.Common.{◌≡◌, true, List, [], ◌∷◌, ◌++◌, Option, sym, ap, ◌∙◌, append_assoc}
use Rattle.std.specs.List.{filter}
use Rattle.flow_lanes.specs.Flows.{Detection}
use Rattle.frag3_core.specs.declared.answer.Datagram.{Datagram}
use Rattle.record_jobs.specs.Packets.{packet_from, packet_in, said_by}
use Rattle.record_jobs.specs.Splitting.{IsSplit, Part, of_part, record_items}
use Rattle.record_jobs.specs.Way.{LinkedRecord, Way}
use Rattle.record_jobs.proofs.Splits.Fragments.{same-datagram}
use Rattle.record_jobs.proofs.Splits.Jobs.{items-plain, room-at}
use Rattle.record_jobs.proofs.Splits.Parts.{filter-kept, plain-same}
use Rattle.record_jobs.proofs.Splits.Room.{part-room}

module _ (way : Way) (part : Part) (records : List LinkedRecord) (split : IsSplit way part records) where
  pub same-packet : (before : List LinkedRecord) (r : LinkedRecord) (rest : List LinkedRecord) → before ++ r ∷ rest ≡ records → part r ≡ true
      → packet_in way (filter part before) r ≡ packet_in way before r
  unfolding packet_in
  same-packet before r rest are of =
      ap (λ (o : Option Datagram). packet_from way r.captured.moment o (said_by way r)) (same-datagram way part records split.by_pair split.join before r rest are of)

  pub same-items : (d : Detection) (before : List LinkedRecord) (r : LinkedRecord) (rest : List LinkedRecord) → before ++ r ∷ rest ≡ records → part r ≡ true
      → record_items d way (of_part part before) r ≡ record_items d way before r
  same-items d before r rest are of =
      let here = room-at way records (before ++ r ∷ []) rest split.room (append_assoc before (r ∷ []) rest ∙ are) in
      let kept : filter part before ++ r ∷ filter part rest ≡ filter part records = sym (filter-kept part before r rest of) ∙ ap (filter part) are in
      let own_room = part-room way part records same-packet split.room in
      let own_here = room-at way (filter part records) (filter part before ++ r ∷ []) (filter part rest) own_room (append_assoc (filter part before) (r ∷ []) (filter part rest) ∙ kept) in
      items-plain d way (filter part before) r own_here
      ∙ plain-same way part records split.by_pair split.start same-packet d before r rest are of
      ∙ sym (items-plain d way before r here)
