-- What a record brings: by what it says, and after the records before it.
use Rattle.std.proofs.Common.{◌≡◌, Bool, true, false, cond, List, Option, Some, None, Ok, Err, refl, ap}
use Rattle.std.specs.Prelude.{is_some, option_and_then}
use Rattle.std.specs.Option.{option_map, option_or}
use Rattle.edge_io.specs.declared.moment.Moment.{Moment}
use Rattle.packet_decode.specs.declared.item.ItemKind.TheVariants as kind
use Rattle.packet_decode.specs.declared.skip.Skip.{Skip}
use Rattle.packet_decode.specs.Decoding.{Fields}
use Rattle.frag3_core.specs.declared.answer.Datagram.{Datagram}
use Rattle.frag3_core.specs.Trackers.{Frag3State}
use Rattle.record_jobs.specs.declared.content.RecordContent.{RecordContent}
use Rattle.record_jobs.specs.Packets.{datagram_in, datagram_item, datagram_of_fragment, datagram_skip, fragment_fields, fragment_item, frag3_after, is_fragment, item_of, packet_in, said_by, skip_in}
use Rattle.record_jobs.specs.Steps.{content_from, content_key, fragment_content, packet_content, record_content}
use Rattle.record_jobs.specs.Touches.{item_key, key_in}
use Rattle.record_jobs.specs.Way.{LinkedRecord, Way}

-- ---- by what the record says

-- what is brought where these fields were read, of a fragment or not
abbrev brought : Way → Option Frag3State → Moment → Fields → Bool → RecordContent
brought way waiting moment fields fragmented =
    let datagram : Option Datagram = option_and_then (datagram_of_fragment way waiting moment) (cond fragmented (Some fields) None) in record {
      fragment = option_map (item_of kind.Fragment moment) (cond fragmented (Some fields) None);
      packet = option_or (option_map (item_of kind.Packet moment) (cond fragmented None (Some fields))) (datagram_item way.checks moment datagram);
      skip = datagram_skip way.checks datagram;
      rebuilt = is_some datagram;
    }

pub content_from-fragment : (way : Way) (waiting : Option Frag3State) (moment : Moment) (fields : Fields) → is_fragment fields.body ≡ true
    → content_from way waiting moment (Ok fields) ≡ fragment_content way.checks moment fields (datagram_of_fragment way waiting moment fields)
unfolding content_from
content_from-fragment way waiting moment fields is = ap (brought way waiting moment fields) is

pub content_from-packet : (way : Way) (waiting : Option Frag3State) (moment : Moment) (fields : Fields) → is_fragment fields.body ≡ false
    → content_from way waiting moment (Ok fields) ≡ packet_content moment fields
unfolding content_from
content_from-packet way waiting moment fields is = ap (brought way waiting moment fields) is

pub content_from-skip : (way : Way) (waiting : Option Frag3State) (moment : Moment) (reason : Skip)
    → content_from way waiting moment (Err reason) ≡ record { fragment = None; packet = None; skip = Some reason; rebuilt = false }
unfolding content_from
content_from-skip way waiting moment reason = refl

pub ruleset contents = (content_from-fragment, content_from-packet, content_from-skip)

-- ---- after the records before

pub content-packet : (way : Way) (before : List LinkedRecord) (r : LinkedRecord) → (record_content way (frag3_after way before) r).packet ≡ packet_in way before r
unfolding record_content content_from packet_in datagram_in
content-packet way before r = refl

pub content-skip : (way : Way) (before : List LinkedRecord) (r : LinkedRecord) → (record_content way (frag3_after way before) r).skip ≡ skip_in way before r
unfolding record_content content_from skip_in datagram_in
content-skip way before r = refl

pub content-fragment : (way : Way) (before : List LinkedRecord) (r : LinkedRecord) → (record_content way (frag3_after way before) r).fragment ≡ fragment_item way r
unfolding record_content content_from fragment_item
content-fragment way before r = refl

is_some-map : {A B : Type 0} (f : A → B) (o : Option A) → is_some (option_map f o) ≡ is_some o
is_some-map f None = refl
is_some-map f (Some a) = refl

pub content-is_fragment : (way : Way) (before : List LinkedRecord) (r : LinkedRecord) → is_some (record_content way (frag3_after way before) r).fragment ≡ is_some (fragment_fields (said_by way r))
unfolding record_content content_from
content-is_fragment way before r = is_some-map (item_of kind.Fragment r.captured.moment) (fragment_fields (said_by way r))

pub content-rebuilt : (way : Way) (before : List LinkedRecord) (r : LinkedRecord) → (record_content way (frag3_after way before) r).rebuilt ≡ is_some (datagram_in way before r)
unfolding record_content content_from datagram_in
content-rebuilt way before r = refl

pub content-key : (way : Way) (before : List LinkedRecord) (r : LinkedRecord) → content_key way (record_content way (frag3_after way before) r) ≡ key_in way before r
unfolding key_in
content-key way before r = ap (option_and_then (item_key way)) (content-packet way before r)
