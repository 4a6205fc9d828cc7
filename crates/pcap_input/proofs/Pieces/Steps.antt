-- What the inner steps of the reader show, over plain bytes.
use Rattle.std.proofs.Common.{◌≡◌, ℕ, ◌<◌, ◌≤◌, List, [], ◌++◌, Option, Some, None, Ok, Err, length, sym, ap, append_assoc, ◌∙◌, arith}
use Rattle.std.proofs.lemmas.List.{length-append}
use Rattle.edge_io.specs.Told.{before, NothingLeft}
use Rattle.edge_io.proofs.Told.{before-before}
use Rattle.pcap_input.specs.declared.capture.CaptureHead.{CaptureHead}
use Rattle.pcap_input.specs.declared.capture.Record.{Record}
use Rattle.pcap_input.specs.declared.capture.CaptureFault.{CaptureFault}
use Rattle.pcap_input.specs.declared.capture.CaptureFault.TheVariants.{NotPcap, LinkType, Truncated, TooLong, TooMany, Failed, NoMemory}
use Rattle.edge_io.specs.declared.moment.Moment.{Moment}
use Rattle.pcap_input.specs.Cut.{Clean, Refused}
use Rattle.pcap_input.specs.Savefile.{number_at, moment_of, captured_length, record_of, Next, Ends, Follows, next_after, next_of}
use Rattle.pcap_input.specs.Reader.{reader_at, Gives, Shows, TakesRecord, TakesNone}
use Rattle.pcap_input.specs.Pieces.{GivesOne, TakesBytes, TakesFewer, TakesLess}
use Rattle.pcap_input.proofs.Told.{split_told, all_taken, none_taken}
use Rattle.pcap_input.proofs.Laws.{bytes_follow, after_too_long, after_truncated, next_of_header, next_of_nothing, next_of_too_many, next_of_truncated}

-- after a header that says too much, nothing is taken
pub too_long_fewer : (head : CaptureHead) (number place : ℕ) (header : List ℕ) (old : Option (List ℕ)) → 262144 < captured_length head header
    → TakesFewer head number place header (TooLong place (captured_length head header)) old old
too_long_fewer head number place header old long =
    record { taken = []; took = none_taken old; shows = after_too_long head number place header [] long }

-- a read of captured bytes that stopped early, where the bytes are told
pub less_gives : (head : CaptureHead) (number place len : ℕ) (header : List ℕ) (why : CaptureFault) (old new : Option (List ℕ))
    → captured_length head header ≡ len → len ≤ 262144 → TakesLess place len why old new
    → (rest : List ℕ) → old ≡ Some rest → GivesOne (Err why) (next_after head number place header rest)
less_gives head number place len header NotPcap old new is short less rest told = absurd (less.stops)
less_gives head number place len header (LinkType link_type) old new is short less rest told = absurd (less.stops)
less_gives head number place len header (Truncated at) old new is short less rest told =
    let all = all_taken old new less.taken rest less.took less.stops.1 told in
    let fewer : length rest < captured_length head header = omega (arith, less.less, ap length all) in
    rw (less.stops.0) (after_truncated head number place header rest (omega arith) fewer)
less_gives head number place len header (TooLong at more) old new is short less rest told = absurd (less.stops)
less_gives head number place len header TooMany old new is short less rest told = absurd (less.stops)
less_gives head number place len header Failed old new is short less rest told = tt
less_gives head number place len header NoMemory old new is short less rest told = tt

-- a read of captured bytes that stopped early shows why
pub less_shows : (head : CaptureHead) (number place len : ℕ) (header : List ℕ) (why : CaptureFault) (old new : Option (List ℕ))
    → captured_length head header ≡ len → len ≤ 262144 → (less : TakesLess place len why old new)
    → Shows why (next_after head number place header less.taken)
less_shows head number place len header NotPcap old new is short less = absurd (less.stops)
less_shows head number place len header (LinkType link_type) old new is short less = absurd (less.stops)
less_shows head number place len header (Truncated at) old new is short less =
    rw (less.stops.0) (after_truncated head number place header less.taken (omega arith) (omega (arith, less.less)))
less_shows head number place len header (TooLong at more) old new is short less = absurd (less.stops)
less_shows head number place len header TooMany old new is short less = absurd (less.stops)
less_shows head number place len header Failed old new is short less =
    (Refused (Truncated place), after_truncated head number place header less.taken (omega arith) (omega (arith, less.less)))
less_shows head number place len header NoMemory old new is short less =
    (Refused (Truncated place), after_truncated head number place header less.taken (omega arith) (omega (arith, less.less)))

pub less_fewer : (head : CaptureHead) (number place len : ℕ) (header : List ℕ) (why : CaptureFault) (old new : Option (List ℕ))
    → captured_length head header ≡ len → len ≤ 262144 → TakesLess place len why old new → TakesFewer head number place header why old new
less_fewer head number place len header why old new is short less =
    record { taken = less.taken; took = less.took; shows = less_shows head number place len header why old new is short less }

-- the answer, and what was taken, of a read that got all captured bytes
pub whole_gives : (head : CaptureHead) (number place : ℕ) (header bytes : List ℕ) (given : Record) (old new : Option (List ℕ))
    → captured_length head header ≡ length bytes → length bytes ≤ 262144 → given ≡ record_of head number header bytes → old ≡ before bytes new
    → (rest : List ℕ) → old ≡ Some rest → (left : List ℕ) × (next_after head number place header rest ≡ Follows given left)
whole_gives head number place header bytes given old new is short made took rest told =
    let split = split_told old new bytes rest took told in
    (split.rest, ap (next_after head number place header) split.joined ∙ bytes_follow head number place header bytes split.rest is short ∙ ap (λ r. Follows r split.rest) (sym made))

pub whole_takes : (head : CaptureHead) (number place : ℕ) (header bytes : List ℕ) (given : Record) (old new : Option (List ℕ))
    → captured_length head header ≡ length bytes → length bytes ≤ 262144 → given ≡ record_of head number header bytes → given.bytes ≡ bytes → old ≡ before bytes new
    → TakesBytes head number place header given old new
whole_takes head number place header bytes given old new is short made holds took = record {
  taken = bytes;
  took = took;
  size = ap length (sym holds);
  goes = λ more. bytes_follow head number place header bytes more is short ∙ ap (λ r. Follows r more) (sym made);
}

-- after a header that was taken comes what `next_after` says: the told answer
pub header_next : (head : CaptureHead) (number place : ℕ) (header : List ℕ) (old mid : Option (List ℕ))
    → length header ≡ 16 → number < 4294967295 → old ≡ before header mid → (rest : List ℕ) → old ≡ Some rest
    → (bytes : List ℕ) × (mid ≡ Some bytes) × (next_of head number place rest ≡ next_after head number place header bytes)
header_next head number place header old mid whole few took rest told =
    let split = split_told old mid header rest took told in
    (split.rest, split.still, ap (next_of head number place) split.joined ∙ next_of_header head number place header split.rest whole few)

-- the record with its header
pub with_header : (head : CaptureHead) (number place : ℕ) (header : List ℕ) (given : Record) (old mid new : Option (List ℕ))
    → length header ≡ 16 → number < 4294967295 → old ≡ before header mid → TakesBytes head number place header given mid new
    → TakesRecord (reader_at head number place) given old new
with_header head number place header given old mid new whole few took takes = record {
  taken = header ++ takes.taken;
  took = took ∙ ap (before header) takes.took ∙ before-before header takes.taken new;
  size = omega (arith, length-append header takes.taken, takes.size);
  goes = λ more. ap (next_of head number place) (append_assoc header takes.taken more)
      ∙ next_of_header head number place header (takes.taken ++ more) whole few ∙ takes.goes more;
}

-- a part of a record with its header
pub fewer_with_header : (head : CaptureHead) (number place : ℕ) (header : List ℕ) (why : CaptureFault) (old mid new : Option (List ℕ))
    → length header ≡ 16 → number < 4294967295 → old ≡ before header mid → TakesFewer head number place header why mid new
    → TakesNone (reader_at head number place) why old new
fewer_with_header head number place header why old mid new whole few took takes = record {
  taken = header ++ takes.taken;
  took = took ∙ ap (before header) takes.took ∙ before-before header takes.taken new;
  shows = rw (next_of_header head number place header takes.taken whole few) takes.shows;
}

-- the told answers of the two
pub gives_with_header : (head : CaptureHead) (number place : ℕ) (header : List ℕ) (given : Record) (old mid : Option (List ℕ))
    → length header ≡ 16 → number < 4294967295 → old ≡ before header mid
    → ((bytes : List ℕ) → mid ≡ Some bytes → GivesOne (Ok given) (next_after head number place header bytes))
    → (rest : List ℕ) → old ≡ Some rest → Gives (Ok (Some given)) (next_of head number place rest)
gives_with_header head number place header given old mid whole few took gives rest told =
    let next = header_next head number place header old mid whole few took rest told in
    let one = gives next.0 next.1 in
    (one.0, next.2 ∙ one.1)

fault_gives : (why : CaptureFault) (next : Next) → GivesOne (Err why) next → Gives (Err why) next
fault_gives NotPcap next gives = gives
fault_gives (LinkType link_type) next gives = gives
fault_gives (Truncated at) next gives = gives
fault_gives (TooLong at len) next gives = gives
fault_gives TooMany next gives = gives
fault_gives Failed next gives = tt
fault_gives NoMemory next gives = tt

pub refuses_with_header : (head : CaptureHead) (number place : ℕ) (header : List ℕ) (why : CaptureFault) (old mid : Option (List ℕ))
    → length header ≡ 16 → number < 4294967295 → old ≡ before header mid
    → ((bytes : List ℕ) → mid ≡ Some bytes → GivesOne (Err why) (next_after head number place header bytes))
    → (rest : List ℕ) → old ≡ Some rest → Gives (Err why) (next_of head number place rest)
refuses_with_header head number place header why old mid whole few took gives rest told =
    let next = header_next head number place header old mid whole few took rest told in
    let one : Gives (Err why) (next_after head number place header next.0) = fault_gives why _ (gives next.0 next.1) in
    rw (next.2) one

-- no byte was there
pub none_gives : (head : CaptureHead) (number place : ℕ) (old new : Option (List ℕ)) → old ≡ new → NothingLeft new
    → (rest : List ℕ) → old ≡ Some rest → next_of head number place rest ≡ Ends Clean
none_gives head number place old None same nothing rest told = cc
none_gives head number place old (Some left) same nothing rest told =
    let empty : rest ≡ [] = cc in
    ap (next_of head number place) empty ∙ next_of_nothing head number place

-- a byte was there after the last record that may be
pub too_many_gives : (head : CaptureHead) (number place : ℕ) (taken : List ℕ) (old new : Option (List ℕ)) → 0 < length taken → 4294967295 ≤ number → old ≡ before taken new
    → (rest : List ℕ) → old ≡ Some rest → next_of head number place rest ≡ Ends (Refused TooMany)
too_many_gives head number place taken old new some many took rest told =
    let split = split_told old new taken rest took told in
    let longer : 0 < length rest = omega (arith, ap length split.joined, length-append taken split.rest) in
    next_of_too_many head number place rest longer many

-- a part of a header was there
pub truncated_gives : (head : CaptureHead) (number place : ℕ) (taken : List ℕ) (old new : Option (List ℕ)) → 0 < length taken → length taken < 16 → number < 4294967295
    → old ≡ before taken new → NothingLeft new
    → (rest : List ℕ) → old ≡ Some rest → next_of head number place rest ≡ Ends (Refused (Truncated place))
truncated_gives head number place taken old new some fewer few took nothing rest told =
    ap (next_of head number place) (all_taken old new taken rest took nothing told)
    ∙ next_of_truncated head number place taken some fewer few

-- memory lacks only where a byte was wanted, and then nothing is taken
pub lacking_less : (place len : ℕ) (old : Option (List ℕ)) → (len ≡ 0 → ⊥) → TakesLess place len NoMemory old old
lacking_less place len old some = record { taken = []; took = none_taken old; less = omega (arith, some); stops = tt }

-- a record of these parts is the header's
pub record_made : (head : CaptureHead) (number : ℕ) (header bytes : List ℕ) (moment : Moment) (original : ℕ)
    → moment.nanos ≡ moment_of head header → original ≡ number_at head.swapped 12 4 header
    → (let made : Record = record { number = number; moment = moment; original = original; bytes = bytes } in made) ≡ record_of head number header bytes
unfolding record_of
record_made head number header bytes moment original nanos_is original_is =
    let made : ℕ → ℕ → Record = λ n o. record { number = number; moment = record { nanos = n }; original = o; bytes = bytes } in
    ap (λ n. made n original) nanos_is ∙ ap (made (moment_of head header)) original_is
