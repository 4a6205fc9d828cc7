-- What a limit leaves of a capture's records, after those that were given.
use Rattle.std.proofs.Common.{◌≡◌, ℕ, zero, suc, ◌+◌, ◌-◌, ◌<◌, ◌≤◌, List, [], ◌++◌, Option, Some, None, length, refl, sym, ap, ◌∙◌, arith, inl, inr, ◌⊎◌, ⊎_elim}
use Rattle.std.proofs.lemmas.Bool.{cases_lt}
use Rattle.std.proofs.lemmas.List.{append-nil, length-append, nil_from_length}
use Rattle.record_jobs.specs.Way.{LinkedRecord}
use Rattle.pcapng_input.specs.declared.fault.ReadFault.{ReadFault}
use Rattle.pcap_input.specs.Cut.{AreWithin, Ending, Clean, no_more, first_records, with_front}
use Rattle.pcap_input.proofs.Cuts.{first_records-none, first_records-zero, first_records-no_more, first_records-front, front_of_none}
use Rattle.snort_engine.specs.Records.{Recording}
use Rattle.snort_engine.specs.ReadAhead.{batch, AreBatches, before_last_batch}
use Rattle.snort_engine.specs.Steps.Showing.{IsRoom, most_at, room_after}

-- the records that were given come first, and then those that may still be read
pub limit-front : (limit room : Option ℕ) (given : List LinkedRecord) (recording : Recording)
    → IsRoom limit (length given) room
    → first_records limit (with_front given recording) ≡ with_front given (first_records room recording)
limit-front None room given recording is =
    first_records-none (with_front given recording)
    ∙ ap (with_front given) (sym (ap (λ (r : Option ℕ). first_records r recording) is ∙ first_records-none recording))
limit-front (Some limit) None given recording is = absurd is
limit-front (Some limit) (Some room) given recording is = first_records-front limit room given recording is

-- a recording of these records and this ending, and one of no record
recording_with : List LinkedRecord → Ending ReadFault → Recording
recording_with records ending = record { records = records; ending = ending }

abbrev ends : Ending ReadFault → Recording
ends ending = no_more ending

-- where some record may still be read, an ending after those that were given stays
none_left : (room : Option ℕ) (ending : Ending ReadFault) → 0 < most_at room → first_records room (ends ending) ≡ ends ending
none_left None ending some = first_records-none (ends ending)
none_left (Some room) ending some =
    let below : room ≡ (room - 1) + 1 = omega (arith, some) in
    ap (λ (n : ℕ). first_records (Some n) (ends ending)) below ∙ first_records-no_more (room - 1) ending

-- the records that were given and the ending after them, where more might have been read
pub below_limit : (limit room : Option ℕ) (given : List LinkedRecord) (ending : Ending ReadFault) → IsRoom limit (length given) room → 0 < most_at room
    → first_records limit (record { records = given; ending = ending }) ≡ record { records = given; ending = ending }
below_limit limit room given ending is some =
    ap (first_records limit) (sym (front_of_none given ending)) ∙ limit-front limit room given (ends ending) is
    ∙ ap (with_front given) (none_left room ending some) ∙ front_of_none given ending

-- where no more may be read, the capture ends cleanly after the records that were given
pub at_limit : (limit room : Option ℕ) (given : List LinkedRecord) (recording : Recording) → IsRoom limit (length given) room → most_at room ≡ 0
    → first_records limit (with_front given recording) ≡ record { records = given; ending = Clean }
at_limit limit None given recording is none = absurd (omega (arith, none))
at_limit limit (Some room) given recording is none =
    let zero_left : room ≡ 0 = omega (arith, none) in
    limit-front limit (Some room) given recording is
    ∙ ap (λ (n : ℕ). with_front given (first_records (Some n) recording)) zero_left
    ∙ ap (with_front given) (first_records-zero recording) ∙ front_of_none given Clean

-- a limit leaves no record of none
none_of_none : (room : Option ℕ) (ending : Ending ReadFault) → (first_records room (ends ending)).records ≡ []
none_of_none None ending = ap (λ (recording : Recording). recording.records) (first_records-none (ends ending))
none_of_none (Some room) ending = ⊎_elim
    (λ (is : room ≡ 0). ap (λ (n : ℕ). (first_records (Some n) (ends ending)).records) is ∙ ap (λ (recording : Recording). recording.records) (first_records-zero (ends ending)))
    (λ (some : 0 < room). ap (λ (recording : Recording). recording.records) (none_left (Some room) ending (omega (arith, some))))
    (zero_or_more room)
  where
    zero_or_more : (n : ℕ) → (n ≡ 0) ⊎ (0 < n)
    zero_or_more zero = inl refl
    zero_or_more (suc n) = inr (omega arith)

-- records that may all be read stay
pub within_limit : (limit room : Option ℕ) (given : List LinkedRecord) (recording : Recording)
    → IsRoom limit (length given) room
    → recording.records ≡ given
    → (first_records limit recording).records ≡ given
unfolding recording_with
within_limit limit room given recording is are =
    ap (λ (records : List LinkedRecord). (first_records limit (recording_with records recording.ending)).records) are
    ∙ ap (λ (c : Recording). (first_records limit c).records) (sym (front_of_none given recording.ending))
    ∙ ap (λ (c : Recording). c.records) (limit-front limit room given (ends recording.ending) is)
    ∙ ap (λ (records : List LinkedRecord). given ++ records) (none_of_none room recording.ending) ∙ append-nil given

-- as many were given as may be read
pub room_within : (limit room : Option ℕ) (given : List LinkedRecord) → IsRoom limit (length given) room → AreWithin limit given
room_within None room given is = tt
room_within (Some limit) None given is = absurd is
room_within (Some limit) (Some room) given is = omega (arith, is)

-- no record is given yet
pub room_first : (limit : Option ℕ) → IsRoom limit 0 limit
room_first None = refl
room_first (Some limit) = omega arith

-- a batch more was given
pub room_further : (limit room : Option ℕ) (given batch : List LinkedRecord)
    → IsRoom limit (length given) room
    → length batch ≤ most_at room
    → IsRoom limit (length (given ++ batch)) (room_after room (length batch))
room_further None None given batch is few = refl
room_further None (Some room) given batch is few = absurd cc
room_further (Some limit) None given batch is few = absurd is
room_further (Some limit) (Some room) given batch is few = omega (arith, is, few, length-append given batch)

-- a batch that was not full leaves room
pub room_left : (room : Option ℕ) (count : ℕ) → count < most_at room → 0 < most_at (room_after room count)
room_left None count few = omega arith
room_left (Some room) count few = omega (arith, few)

-- ---- whole batches

-- no record is one
pub batches_none : AreBatches []
batches_none = (0, refl)

-- after whole batches a full one ends another, or was the last that may be read
pub batches_further : (room : Option ℕ) (given records : List LinkedRecord) → AreBatches given ⊎ (most_at room ≡ 0) → length records ≡ most_at room
    → AreBatches (given ++ records) ⊎ (most_at (room_after room (length records)) ≡ 0)
batches_further None given records (inl (count, is)) full = inl (count + 1, omega (arith, is, full, length-append given records))
batches_further None given records (inr none) full = absurd (omega (arith, none))
batches_further (Some room) given records (inl (count, is)) full = ⊎_elim
    (λ (short : room < batch). inr (omega (arith, short, full)))
    (λ (long : batch ≤ room). inl (count + 1, omega (arith, is, full, long, length-append given records)))
    (cases_lt room batch)
batches_further (Some room) given records (inr none) full = inr (omega (arith, none, full))

-- what is read after whole batches, or, where no more may be read, nothing
pub batches_last : (room : Option ℕ) (given last : List LinkedRecord) → AreBatches given ⊎ (most_at room ≡ 0) → length last ≤ most_at room → AreBatches given ⊎ (last ≡ [])
batches_last room given last (inl whole) few = inl whole
batches_last room given last (inr none) few = inr (nil_from_length last (omega (arith, none, few)))

-- before the last record's batch lie no more than those that were given, if these are whole batches and at most one
-- more follows them, or none
pub before_last : (given last : List LinkedRecord) → AreBatches given ⊎ (last ≡ []) → length last ≤ batch → before_last_batch (length (given ++ last)) ≤ length given
before_last given last (inl (count, is)) few = omega (arith, is, few, length-append given last)
before_last given last (inr none) few = let size : length last ≡ 0 = ap length none in omega (arith, size, length-append given last)
