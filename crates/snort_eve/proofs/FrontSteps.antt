-- What stands at the front of bytes, of which more may come.
use Rattle.std.proofs.Common.{◌≡◌, ℕ, ◌+◌, ◌<◌, ◌≤◌, List, [], ◌∷◌, ◌++◌, length, take, drop, refl, sym, ap, ◌∙◌, append_assoc, append-nil, length-append, arith}
use Rattle.std.proofs.lemmas.List.{length-take, length-drop, take-append-drop, take_at, drop-append-le, take-append-le}
use Rattle.std.proofs.lemmas.List.Elements.{All-nil, All-cons}
use Rattle.byteorder.specs.Endian.{big_number}
use Rattle.byteorder.specs.Numbers.{big_from-append}
use Rattle.unified2_out.specs.declared.record.U2.{U2}
use Rattle.unified2_out.specs.Records.{unified2_text, kind_of, body_of, most_body_bytes}
use Rattle.unified2_out.specs.Reading.{IsRecord, joined_text, AreRecordsOf, IsBadAt, AddsRecords}
use Rattle.unified2_out.specs.Fronts.{IsFrontFrame, IsFrontRecord, HasNoRecord, AddsFront}
use Rattle.unified2_out.proofs.Bodies.{kind-fits, body-short}
use Rattle.unified2_out.proofs.Frames.{frame-long, frame-size, length-frame_text}
use Rattle.unified2_out.proofs.Laws.{length-unified2_text, bad-no_records}
use Rattle.snort_eve.specs.Streams.{body_length, IsForeign}

frame-of : (bytes : List ℕ) (size : ℕ) (entry : U2) → IsFrontRecord bytes size entry → IsFrontFrame bytes (kind_of entry) (body_of entry)
unfolding unified2_text
frame-of bytes size entry front = record { kind_fits = kind-fits entry front.is; short = body-short entry front.is; rest = front.rest; is = front.begins }

text-size : (entry : U2) → length (unified2_text entry) ≡ 8 + length (body_of entry)
unfolding unified2_text
text-size entry = length-frame_text (kind_of entry) (body_of entry)

-- a record at the front is as long as its header says
pub record HasSize (bytes : List ℕ) (size : ℕ) : Type 0 where
  pub told : size ≡ 8 + body_length bytes
  pub within : size ≤ length bytes
  pub short : body_length bytes ≤ most_body_bytes

pub front-sized : (bytes : List ℕ) (size : ℕ) (entry : U2) → IsFrontRecord bytes size entry → HasSize bytes size
front-sized bytes size entry front =
    let frame = frame-of bytes size entry front in
    let says : body_length bytes ≡ length (body_of entry) = frame-size bytes (kind_of entry) (body_of entry) frame in
    let long = frame-long bytes (kind_of entry) (body_of entry) frame in
    let few : length (body_of entry) ≤ most_body_bytes = frame.short in
    let whole = sym front.size_is ∙ text-size entry in
    record { told = omega (arith, says, whole); within = omega (arith, long, whole); short = omega (arith, says, few) }

-- too few bytes
pub waits-none : (bytes : List ℕ) → (8 ≤ length bytes → length bytes < 8 + body_length bytes) → HasNoRecord bytes
waits-none bytes few size entry front =
    let sized = front-sized bytes size entry front in
    let lacking = few (omega (arith, sized.told, sized.within)) in
    omega (arith, sized.told, sized.within, lacking)

-- the header stands, whatever follows
pub length-holds : (bytes more : List ℕ) → 8 ≤ length bytes → body_length (bytes ++ more) ≡ body_length bytes
length-holds bytes more long =
    ap (big_number 4) (drop-append-le 4 bytes more (omega arith))
    ∙ big_from-append 4 (drop 4 bytes) more (omega (arith, length-drop 4 bytes))

-- too long a body
pub large-none : (bytes : List ℕ) → 8 ≤ length bytes → most_body_bytes < body_length bytes → IsForeign bytes
large-none bytes long large =
    record {
      long = long;
      none = λ more size entry front.
          let sized = front-sized (bytes ++ more) size entry front in
          omega (arith, sized.short, length-holds bytes more long, large);
    }

-- no bytes are no records
no_more : (entries : List U2) → length (joined_text entries) ≡ 0 → entries ≡ []
no_more [] none = refl
no_more (entry ∷ entries) none =
    absurd (omega (arith, none, length-append (unified2_text entry) (joined_text entries), length-unified2_text entry))

-- of bytes that are as long as their header says one record is all
pub whole-record : (bytes : List ℕ) (size : ℕ) (old new : List U2) → 8 ≤ length bytes → size ≡ 8 + body_length bytes → size ≤ length bytes
    → AddsRecords (take size bytes) old new → AddsFront bytes old new size
whole-record bytes size old new long told within adds = by adds.entries adds.are adds.added where
  by : (entries : List U2) → AreRecordsOf (take size bytes) entries → new ≡ old ++ entries → AddsFront bytes old new size
  by [] are added =
      let none = ap length are.joined ∙ length-take size bytes in
      absurd (omega (arith, none, told, within))
  by (entry ∷ entries) are added =
      let text = unified2_text entry in
      let here : bytes ≡ text ++ (joined_text entries ++ drop size bytes) =
      sym (take-append-drop size bytes) ∙ ap (λ (b : List ℕ). b ++ drop size bytes) (sym are.joined) ∙ append_assoc text (joined_text entries) (drop size bytes) in
      let front : IsFrontRecord bytes (length text) entry =
      record { is = are.each 0 entry (omega arith); size_is = refl; rest = joined_text entries ++ drop size bytes; begins = here } in
      let sized = front-sized bytes (length text) entry front in
      let one : length text ≡ size = omega (arith, sized.told, told) in
      let all = sym (length-append text (joined_text entries)) ∙ ap length are.joined ∙ length-take size bytes in
      let last : length (joined_text entries) ≡ 0 = omega (arith, all, one, within) in
      let nothing = no_more entries last in
      record {
        entry = entry;
        front = record { is = front.is; size_is = one; rest = front.rest; begins = here };
        added = added ∙ ap (λ (l : List U2). old ++ entry ∷ l) nothing;
      }

-- and where they are none, none ever begins there
pub whole-foreign : (bytes : List ℕ) (size place : ℕ) → 8 ≤ length bytes → size ≡ 8 + body_length bytes → size ≤ length bytes
    → IsBadAt (take size bytes) place → IsForeign bytes
whole-foreign bytes size place long told within bad = record { long = long; none = none } where
  none : (more : List ℕ) → HasNoRecord (bytes ++ more)
  none more other entry front =
      let sized = front-sized (bytes ++ more) other entry front in
      let same : other ≡ size = omega (arith, sized.told, told, length-holds bytes more long) in
      let text = unified2_text entry in
      let is : text ≡ take size bytes =
      sym (take_at text front.rest size (front.size_is ∙ same)) ∙ ap (take size) (sym front.begins) ∙ take-append-le size bytes more within in
      let are : AreRecordsOf (take size bytes) (entry ∷ []) = record {
        each = All-cons IsRecord entry [] front.is (All-nil IsRecord);
        joined = append-nil text ∙ is;
      } in
      bad-no_records (take size bytes) place (entry ∷ []) bad are
