-- The reading step by step: what the front of the bytes tells, a record more, and the end.
use Rattle.std.proofs.Common.{◌≡◌, ℕ, suc, ◌+◌, ◌-◌, ◌<◌, ◌≤◌, List, [], ◌∷◌, ◌++◌, length, take, drop, refl, sym, ap, ◌∙◌, append_assoc, append-nil, length-append, arith}
use Rattle.std.specs.List.{All}
use Rattle.std.proofs.lemmas.List.{length-take, take-append-drop, take_at, take_all, take_rest}
use Rattle.std.proofs.lemmas.List.Elements.{All-push}
use Rattle.std.proofs.lemmas.Grind.{flat_map-append}
use Rattle.unified2_out.specs.declared.record.U2.{U2}
use Rattle.unified2_out.specs.Records.{frame_text, unified2_text, kind_of, body_of}
use Rattle.unified2_out.specs.Reading.{IsRecord, joined_text, RecordsEndAt, IsBadAt, AddsRecords}
use Rattle.unified2_out.specs.Fronts.{IsFrontFrame, HasNoFrame, IsRecordOf, IsOfNoRecord, IsFrontRecord, HasNoRecord, AddsFront}
use Rattle.unified2_out.proofs.Bodies.{kind-fits, body-short}
use Rattle.unified2_out.proofs.Frames.{frame-split, length-frame_text}
use Rattle.unified2_out.proofs.Laws.{text-split, length-unified2_text}

-- the frame of the record at the front
frame-of : (bytes : List ℕ) (size : ℕ) (entry : U2) → IsFrontRecord bytes size entry → IsFrontFrame bytes (kind_of entry) (body_of entry)
unfolding unified2_text
frame-of bytes size entry front =
    record {
      kind_fits = kind-fits entry front.is;
      short = body-short entry front.is;
      rest = front.rest;
      is = front.begins;
    }

-- without a frame there is no record
pub front-no_frame : (bytes : List ℕ) → HasNoFrame bytes → HasNoRecord bytes
front-no_frame bytes none size entry front = none (kind_of entry) (body_of entry) (frame-of bytes size entry front)

-- where the frame is of no record there is no record
pub front-no_record : (bytes : List ℕ) (kind : ℕ) (body : List ℕ) → IsFrontFrame bytes kind body → IsOfNoRecord kind body → HasNoRecord bytes
front-no_record bytes kind body frame none size entry front =
    let own = frame-of bytes size entry front in
    let same = frame-split (kind_of entry) kind (body_of entry) body own.rest frame.rest own.kind_fits frame.kind_fits own.short frame.short (sym own.is ∙ frame.is) in
    none entry (record { is = front.is; kind_is = same.0; body_is = same.1 })

-- the record of the frame is at the front
pub front-record : (bytes : List ℕ) (kind : ℕ) (body : List ℕ) (entry : U2) (old new : List U2) → IsFrontFrame bytes kind body → IsRecordOf kind body entry
    → new ≡ old ++ entry ∷ [] → AddsFront bytes old new (8 + length body)
unfolding unified2_text
front-record bytes kind body entry old new frame of added =
    let text : frame_text (kind_of entry) (body_of entry) ≡ frame_text kind body = ap (λ (k : ℕ). frame_text k (body_of entry)) of.kind_is ∙ ap (frame_text kind) of.body_is in
    record {
      entry = entry;
      front = record {
        is = of.is;
        size_is = ap length text ∙ length-frame_text kind body;
        rest = frame.rest;
        begins = frame.is ∙ sym (ap (λ (t : List ℕ). t ++ frame.rest) text);
      };
      added = added;
    }

-- where bytes begin with no record, no list of records reaches further
no_further : (firsts seconds : List U2) (rest more : List ℕ) → All IsRecord firsts → All IsRecord seconds → HasNoRecord rest
    → joined_text firsts ++ rest ≡ joined_text seconds ++ more → length (joined_text seconds) ≤ length (joined_text firsts)
no_further firsts [] rest more are as_well none same = omega arith
no_further [] (second ∷ seconds) rest more are as_well none same =
    let begins = same ∙ append_assoc (unified2_text second) (joined_text seconds) more in
    absurd (none (length (unified2_text second)) second (record { is = as_well 0 second (omega arith); size_is = refl; rest = joined_text seconds ++ more; begins = begins }))
no_further (first ∷ firsts) (second ∷ seconds) rest more are as_well none same =
    let moved = sym (append_assoc (unified2_text first) (joined_text firsts) rest) ∙ same ∙ append_assoc (unified2_text second) (joined_text seconds) more in
    let heads = text-split first second (joined_text firsts ++ rest) (joined_text seconds ++ more) (are 0 first (omega arith)) (as_well 0 second (omega arith)) moved in
    let sizes = ap (λ (r : U2). length (unified2_text r)) heads.0 in
    let tails = no_further firsts seconds rest more (λ k d h. are (suc k) d (omega arith)) (λ k d h. as_well (suc k) d (omega arith)) none heads.1 in
    omega (arith, sizes, tails, length-append (unified2_text first) (joined_text firsts), length-append (unified2_text second) (joined_text seconds))

-- a reading that has come to a place: the records that end there were added
pub record IsWalk (bytes : List ℕ) (old new : List U2) (place : ℕ) : Type 0 where
  pub reached : RecordsEndAt bytes place
  pub added : new ≡ old ++ reached.entries

-- a reading that begins: no record was added yet
pub walk-start : (bytes : List ℕ) (old : List U2) → IsWalk bytes old old 0
walk-start bytes old =
    record {
      reached = record { within = omega arith; entries = []; are = record { each = λ k d h. absurd (omega arith); joined = refl } };
      added = sym (append-nil old);
    }

-- a record has bytes
pub front-size : (bytes : List ℕ) (old new : List U2) (size : ℕ) → AddsFront bytes old new size → 8 ≤ size
front-size bytes old new size adds = omega (arith, length-unified2_text adds.entry, adds.front.size_is)

-- a reading that has come one record further
pub walk-step : (bytes : List ℕ) (old mid new : List U2) (place size : ℕ) → IsWalk bytes old mid place
    → AddsFront (take (length bytes - place) (drop place bytes)) mid new size → IsWalk bytes old new (place + size)
walk-step bytes old mid new place size walk adds =
    let entries = walk.reached.entries in
    let text = unified2_text adds.entry in
    let rest = adds.front.rest in
    let after : drop place bytes ≡ text ++ rest = sym (take_rest bytes place) ∙ adds.front.begins in
    let whole : take place bytes ++ text ++ rest ≡ bytes =
    append_assoc (take place bytes) text rest ∙ ap (λ (b : List ℕ). take place bytes ++ b) (sym after) ∙ take-append-drop place bytes in
    let size_here : length (take place bytes) ≡ place = omega (arith, walk.reached.within, length-take place bytes) in
    let size_next : length (take place bytes ++ text) ≡ place + size = omega (arith, size_here, adds.front.size_is, length-append (take place bytes) text) in
    let inside : place + size ≤ length bytes = omega (arith, size_next, ap length whole, length-append (take place bytes ++ text) rest) in
    let joined : joined_text (entries ++ adds.entry ∷ []) ≡ take (place + size) bytes =
    flat_map-append unified2_text entries (adds.entry ∷ [])
    ∙ ap (λ (b : List ℕ). joined_text entries ++ b) (append-nil text)
    ∙ ap (λ (b : List ℕ). b ++ text) walk.reached.are.joined
    ∙ sym (take_at (take place bytes ++ text) rest (place + size) size_next)
    ∙ ap (take (place + size)) whole in
    record {
      reached = record {
        within = inside;
        entries = entries ++ adds.entry ∷ [];
        are = record { each = All-push IsRecord entries adds.entry walk.reached.are.each adds.front.is; joined = joined };
      };
      added = adds.added ∙ ap (λ (l : List U2). l ++ adds.entry ∷ []) walk.added ∙ append_assoc old entries (adds.entry ∷ []);
    }

-- the end of the bytes
pub walk-end : (bytes : List ℕ) (old new : List U2) (place : ℕ) → IsWalk bytes old new place → length bytes ≤ place → AddsRecords bytes old new
walk-end bytes old new place walk all =
    record {
      entries = walk.reached.entries;
      are = record { each = walk.reached.are.each; joined = walk.reached.are.joined ∙ take_all place bytes all };
      added = walk.added;
    }

-- a reading that has come to a place where there is no record
pub walk-bad : (bytes : List ℕ) (old new : List U2) (place : ℕ) → IsWalk bytes old new place → place < length bytes
    → HasNoRecord (take (length bytes - place) (drop place bytes)) → IsBadAt bytes place
walk-bad bytes old new place walk inside none =
    let after = take (length bytes - place) (drop place bytes) in
    let here = walk.reached in
    let furthest : (other : ℕ) → RecordsEndAt bytes other → other ≤ place =
    λ (other : ℕ) (there : RecordsEndAt bytes other).
    let first : joined_text here.entries ++ after ≡ bytes =
    ap (λ (b : List ℕ). b ++ after) here.are.joined ∙ ap (λ (b : List ℕ). take place bytes ++ b) (take_rest bytes place) ∙ take-append-drop place bytes in
    let second : joined_text there.entries ++ drop other bytes ≡ bytes =
    ap (λ (b : List ℕ). b ++ drop other bytes) there.are.joined ∙ take-append-drop other bytes in
    let least = no_further here.entries there.entries after (drop other bytes) here.are.each there.are.each none (first ∙ sym second) in
    omega (arith, least, here.within, there.within, ap length here.are.joined, ap length there.are.joined, length-take place bytes, length-take other bytes) in
    record { reached = here; furthest = furthest; left = inside }

-- what was there is there still
pub walk-kept : (bytes : List ℕ) (old new : List U2) (place : ℕ) → IsWalk bytes old new place → take (length old) new ≡ old
walk-kept bytes old new place walk = ap (take (length old)) walk.added ∙ take_at old walk.reached.entries (length old) refl
