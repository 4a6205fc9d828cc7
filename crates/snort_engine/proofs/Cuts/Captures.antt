-- A capture cut after one of its records: that it can be cut so, and what is read of the cut.
use Rattle.std.proofs.Common.{◌≡◌, ℕ, ◌+◌, ◌-◌, ◌<◌, ◌≤◌, Bool, true, false, List, [], ◌∷◌, ◌++◌, Option, Some, None, Result, Ok}
use Rattle.std.proofs.Common.{Err, length, map, take, drop, refl, sym, ap, ◌∙◌, append_assoc, length-append, arith}
use Rattle.std.proofs.lemmas.List.{length-map, length-take-le, take-append-drop, take_at, drop_at, drop-append-le, take-map}
use Rattle.std.proofs.lemmas.Bool.Decides.{nat_tests}
use Rattle.edge_io.specs.declared.link.Link.{Link}
use Rattle.pcap_input.specs.declared.capture.CaptureHead.{CaptureHead}
use Rattle.pcap_input.specs.declared.capture.CaptureFault.{CaptureFault}
use Rattle.pcap_input.specs.declared.capture.Record.{Record}
use Rattle.pcap_input.specs.Savefile as classic
use Rattle.pcap_input.specs.Savefile.{head_of, number_at, savefile}
use Rattle.pcap_input.proofs.Cuts.{first_records-none, first_records-enough, first_records-below, first_records-told}
use Rattle.pcap_input.proofs.Endings.{savefile-ok, savefile-err}
use Rattle.pcap_input.proofs.Laws.{head_of-append, number_at-append}
use Rattle.pcapng_input.specs.declared.capture.NgFault.{NgFault}
use Rattle.pcapng_input.specs.declared.capture.NgRecord.{NgRecord}
use Rattle.pcapng_input.specs.declared.walk.Walk.{Walk}
use Rattle.pcapng_input.specs.Blocks as blocks
use Rattle.pcapng_input.specs.Blocks.{section_type, first_walk, opening, ng_records}
use Rattle.pcapng_input.proofs.Captures.Endings.{ng_records-refused}
use Rattle.pcapng_input.proofs.Captures.Numbers.{opening_section}
use Rattle.record_jobs.specs.Way.{LinkedRecord, linked}
use Rattle.pcap_input.specs.Cut.{Clean, Refused, no_more, first_records, Cut, clean_with}
use Rattle.pcapng_input.specs.Faults.{of_savefile, of_blocks}
use Rattle.snort_engine.specs.Records.{Recording, recording_of, recording_in, recording_of_blocks, recording_in_blocks, with_link, is_of_blocks, records_in}
use Rattle.snort_engine.specs.CutCaptures.{Holds, IsCutAfter, bytes_of, end_of}
use Rattle.snort_engine.proofs.Records.Opening.{long_enough, other_head}
use Rattle.snort_engine.proofs.Cuts.Savefiles as of_savefiles
use Rattle.snort_engine.proofs.Cuts.Blocks as of_walks

-- a recording of these records, with a clean ending
abbrev clean : List LinkedRecord → Recording
clean records = clean_with records

-- all records of these bytes
abbrev all_in : List ℕ → List LinkedRecord
all_in bytes = (records_in None bytes).records

-- ---- which of the two they are

as_blocks : (limit : Option ℕ) (bytes : List ℕ) → is_of_blocks bytes ≡ true → records_in limit bytes ≡ recording_in_blocks (ng_records bytes limit)
unfolding records_in
as_blocks limit bytes is = rw is refl

as_savefile : (limit : Option ℕ) (bytes : List ℕ) → is_of_blocks bytes ≡ false → records_in limit bytes ≡ recording_in (savefile bytes limit)
unfolding records_in
as_savefile limit bytes is = rw is refl

-- a file that is a savefile has no blocks
not_blocks : (bytes : List ℕ) (head : CaptureHead) (test : Bool) → head_of bytes ≡ Ok head → is_of_blocks bytes ≡ test → is_of_blocks bytes ≡ false
not_blocks bytes head true is blocks_are = let other = sym is ∙ other_head bytes blocks_are in cc
not_blocks bytes head false is blocks_are = blocks_are

-- what begins blocks is that of blocks
pub blocks_front : (front back : List ℕ) → is_of_blocks (front ++ back) ≡ true → 24 ≤ length front → is_of_blocks front ≡ true
blocks_front front back is long =
    let begins : number_at false 0 4 (front ++ back) ≡ section_type = grind (arith, nat_tests, is) in
    let own : number_at false 0 4 front ≡ section_type = sym (number_at-append false 0 4 front back (omega arith)) ∙ begins in
    grind (arith, nat_tests, own, long)

-- what begins with the beginning of blocks is of blocks
pub blocks_more : (front back : List ℕ) → is_of_blocks front ≡ true → is_of_blocks (front ++ back) ≡ true
blocks_more front back is =
    let begins : number_at false 0 4 front ≡ section_type = grind (arith, nat_tests, is) in
    let long : 24 ≤ length front = grind (arith, nat_tests, is) in
    let all : number_at false 0 4 (front ++ back) ≡ section_type = number_at-append false 0 4 front back (omega arith) ∙ begins in
    let longer : 24 ≤ length (front ++ back) = omega (arith, length-append front back) in
    grind (arith, nat_tests, all, longer)

-- ---- a savefile

-- the recording of a savefile's records
abbrev recording_at : CaptureHead → List ℕ → Recording
recording_at head rest = recording_of head.link (classic.records_left head 0 24 rest)

of_head : (limit : Option ℕ) (bytes : List ℕ) (head : CaptureHead) → head_of bytes ≡ Ok head → records_in limit bytes ≡ first_records limit (recording_at head (drop 24 bytes))
of_head limit bytes head is =
    as_savefile limit bytes (not_blocks bytes head _ is refl) ∙ ap recording_in (savefile-ok bytes limit head is)
    ∙ first_records-told (linked head.link) of_savefile limit (classic.records_left head 0 24 (drop 24 bytes))

all_of_head : (bytes : List ℕ) (head : CaptureHead) → head_of bytes ≡ Ok head → records_in None bytes ≡ recording_at head (drop 24 bytes)
all_of_head bytes head is = of_head None bytes head is ∙ first_records-none (recording_at head (drop 24 bytes))

of_refused : (limit : Option ℕ) (bytes : List ℕ) (why : CaptureFault) → head_of bytes ≡ Err why → is_of_blocks bytes ≡ false → records_in limit bytes ≡ no_more (Refused (of_savefile why))
of_refused limit bytes why is other = as_savefile limit bytes other ∙ ap recording_in (savefile-err bytes limit why is)

-- bytes that hold a record have a head
pub record HasHead (bytes : List ℕ) : Type 0 where
  pub head : CaptureHead
  pub is : head_of bytes ≡ Ok head

head_by : (bytes : List ℕ) (read : Result CaptureHead CaptureFault) → head_of bytes ≡ read → is_of_blocks bytes ≡ false → 0 < length (all_in bytes) → HasHead bytes
head_by bytes (Ok head) is other some = record { head = head; is = is }
head_by bytes (Err why) is other some =
    let none = ap (λ (r : Recording). length r.records) (of_refused None bytes why is other) in
    absurd (omega (arith, some, none))

has_head : (bytes : List ℕ) → is_of_blocks bytes ≡ false → 0 < length (all_in bytes) → HasHead bytes
has_head bytes other some = head_by bytes _ refl other some

-- ---- blocks

-- bytes whose first block isn't refused
blocks_by : (limit : Option ℕ) (bytes : List ℕ) (after : Walk) (more : List ℕ) → opening bytes ≡ blocks.Skips after more
    → ng_records bytes limit ≡ Ok (first_records limit (blocks.records_left first_walk bytes))
unfolding ng_records
blocks_by limit bytes after more is = rw (is, ng_records) refl

of_walk : (limit : Option ℕ) (bytes : List ℕ) (after : Walk) (more : List ℕ) → opening bytes ≡ blocks.Skips after more
    → is_of_blocks bytes ≡ true → records_in limit bytes ≡ first_records limit (recording_of_blocks (blocks.records_left first_walk bytes))
of_walk limit bytes after more is blocks_are =
    as_blocks limit bytes blocks_are ∙ ap recording_in_blocks (blocks_by limit bytes after more is)
    ∙ first_records-told with_link of_blocks limit (blocks.records_left first_walk bytes)

all_of_walk : (bytes : List ℕ) (after : Walk) (more : List ℕ) → opening bytes ≡ blocks.Skips after more
    → is_of_blocks bytes ≡ true → records_in None bytes ≡ recording_of_blocks (blocks.records_left first_walk bytes)
all_of_walk bytes after more is blocks_are =
    of_walk None bytes after more is blocks_are ∙ first_records-none (recording_of_blocks (blocks.records_left first_walk bytes))

-- bytes whose records are those of all their blocks
kept_by : (bytes : List ℕ) (cut : Cut NgRecord NgFault) → blocks.records_left first_walk bytes ≡ cut → ng_records bytes None ≡ Ok (first_records None (blocks.records_left first_walk bytes))
    → is_of_blocks bytes ≡ true → 0 < length (all_in bytes) → 0 < length (of_walks.records_at first_walk bytes)
kept_by bytes cut is all blocks_are some =
    let are = as_blocks None bytes blocks_are ∙ ap recording_in_blocks all
    ∙ first_records-told with_link of_blocks None (blocks.records_left first_walk bytes) ∙ first_records-none (recording_of_blocks (blocks.records_left first_walk bytes)) in
    let size = ap (λ (r : Recording). length r.records) are ∙ length-map (of_walks.records_at first_walk bytes) with_link in
    omega (arith, some, size)

-- bytes whose records are counted, by the first block
counted_by : (bytes : List ℕ) (step : blocks.Step) → opening bytes ≡ step → is_of_blocks bytes ≡ true → 0 < length (all_in bytes) → 0 < length (of_walks.records_at first_walk bytes)
unfolding ng_records
counted_by bytes (blocks.Stops (Refused why)) is blocks_are some =
    let none = ap (λ (r : Recording). length r.records) (as_blocks None bytes blocks_are ∙ ap recording_in_blocks (ng_records-refused bytes None why is)) in
    absurd (omega (arith, some, none))
counted_by bytes (blocks.Stops Clean) is blocks_are some = kept_by bytes _ refl (rw (is, ng_records) refl) blocks_are some
counted_by bytes (blocks.Skips after more) is blocks_are some = kept_by bytes _ refl (rw (is, ng_records) refl) blocks_are some
counted_by bytes (blocks.Gives given after more) is blocks_are some = kept_by bytes _ refl (rw (is, ng_records) refl) blocks_are some

-- bytes of blocks that hold a record begin with a section header
begins_section : (bytes : List ℕ) → is_of_blocks bytes ≡ true → number_at false 0 4 bytes ≡ section_type
begins_section bytes is = grind (arith, nat_tests, is)

whole_section : (bytes : List ℕ) → is_of_blocks bytes ≡ true → 0 < length (all_in bytes) → of_walks.BeginsWhole bytes
whole_section bytes is some = of_walks.begins_whole bytes (begins_section bytes is) (counted_by bytes _ refl is some)

-- ---- a limit

-- a limit leaves the first of all records
pub limited_by : (limit : ℕ) (bytes : List ℕ) (test : Bool) → is_of_blocks bytes ≡ test → 0 < limit → Holds bytes limit → records_in (Some limit) bytes ≡ clean (take limit (all_in bytes))
limited_by limit bytes false is some holds =
    let h = has_head bytes is (omega (arith, some, holds)) in
    let all = all_of_head bytes h.head h.is in
    of_head (Some limit) bytes h.head h.is ∙ ap (first_records (Some limit)) (sym all) ∙ first_records-enough limit (records_in None bytes) holds
limited_by limit bytes true is some holds =
    let h = whole_section bytes is (omega (arith, some, holds)) in
    let all = all_of_walk bytes h.after h.more h.is is in
    of_walk (Some limit) bytes h.after h.more h.is is ∙ ap (first_records (Some limit)) (sym all) ∙ first_records-enough limit (records_in None bytes) holds

-- ---- the cut

-- the beginning of a capture that ends with the last of this many records
pub record Beginning (count : ℕ) (bytes : List ℕ) : Type 0 where
  pub front : List ℕ
  pub left : List ℕ
  pub joined : bytes ≡ front ++ left
  pub exact : records_in None front ≡ clean (take count (all_in bytes))
  pub size : is_of_blocks bytes ≡ false → length front ≡ end_of (take count (all_in bytes))
  pub shortest : (xs ys : List ℕ) → bytes ≡ xs ++ ys → Holds xs count → length front ≤ length xs

bytes_of-linked : (link : Link) (records : List Record) → bytes_of (map (linked link) records) ≡ of_savefiles.size_of records
bytes_of-linked link [] = refl
bytes_of-linked link (first ∷ later) = ap (λ (n : ℕ). (16 + length first.bytes) + n) (bytes_of-linked link later)

-- another beginning of a savefile that holds as many records is at least as long
savefile_shortest : (count : ℕ) (bytes : List ℕ) (head : CaptureHead) (f : of_savefiles.Front head 0 24 count (drop 24 bytes)) → head_of bytes ≡ Ok head → 0 < count
    → (xs ys : List ℕ) (test : Bool) → is_of_blocks xs ≡ test → bytes ≡ xs ++ ys → Holds xs count → 24 + length f.own ≤ length xs
savefile_shortest count bytes head f is some xs ys true blocks_are split holds =
    let all = ap is_of_blocks split ∙ blocks_more xs ys blocks_are in
    let other = not_blocks bytes head _ is refl in
    cc
savefile_shortest count bytes head f is some xs ys false other split holds =
    let own = has_head xs other (omega (arith, some, holds)) in
    let long = long_enough xs own.head own.is in
    let same : Ok head ≡ Ok own.head = sym is ∙ ap head_of split ∙ head_of-append xs ys long ∙ own.is in
    let head_is : own.head ≡ head = cc in
    let xs_head : head_of xs ≡ Ok head = own.is ∙ ap Ok head_is in
    let counted = ap (λ (r : Recording). length r.records) (all_of_head xs head xs_head)
    ∙ length-map (of_savefiles.records_at head 0 24 (drop 24 xs)) (linked head.link) in
    let rest = ap (drop 24) split ∙ drop-append-le 24 xs ys long in
    let few = f.shortest (drop 24 xs) ys rest (omega (arith, holds, counted)) in
    let size = length-append (take 24 xs) (drop 24 xs) in
    let whole = ap length (take-append-drop 24 xs) in
    omega (arith, few, size, whole, length-take-le 24 xs long)

savefile_cut : (count : ℕ) (bytes : List ℕ) (head : CaptureHead) → head_of bytes ≡ Ok head → 0 < count → Holds bytes count → Beginning count bytes
savefile_cut count bytes head is some holds =
    let long = long_enough bytes head is in
    let first = take 24 bytes in
    let records = of_savefiles.records_at head 0 24 (drop 24 bytes) in
    let all = all_of_head bytes head is in
    let counted = ap (λ (r : Recording). length r.records) all ∙ length-map records (linked head.link) in
    let f = of_savefiles.front head 0 24 count (drop 24 bytes) (omega (arith, holds, counted)) in
    let first_size : length first ≡ 24 = length-take-le 24 bytes long in
    let joined : bytes ≡ (first ++ f.own) ++ f.left =
    sym (take-append-drop 24 bytes) ∙ ap (λ (xs : List ℕ). first ++ xs) f.joined ∙ sym (append_assoc first f.own f.left) in
    let size = length-append first f.own in
    let front_head : head_of (first ++ f.own) ≡ Ok head =
    sym (head_of-append (first ++ f.own) f.left (omega (arith, size, first_size))) ∙ ap head_of (sym joined) ∙ is in
    let kept : map (linked head.link) (take count records) ≡ take count (all_in bytes) =
    sym (take-map (linked head.link) count records) ∙ ap (λ (r : Recording). take count r.records) (sym all) in
    let bytes_are = sym (bytes_of-linked head.link (take count records)) ∙ ap bytes_of kept in
    record {
      front = first ++ f.own;
      left = f.left;
      joined = joined;
      exact = all_of_head (first ++ f.own) head front_head
          ∙ ap (recording_at head) (drop_at first f.own 24 first_size)
          ∙ ap (recording_of head.link) f.exact
          ∙ ap clean kept;
      size = λ other. let own = f.size in omega (arith, size, first_size, own, bytes_are);
      shortest = λ xs ys split few.
          let less = savefile_shortest count bytes head f is some xs ys _ refl split few in
          omega (arith, less, size, first_size);
    }

-- another beginning of blocks that holds as many records is at least as long
blocks_shortest : (count : ℕ) (bytes : List ℕ) (f : of_walks.Front first_walk count bytes) → is_of_blocks bytes ≡ true → 0 < count
    → (xs ys : List ℕ) (test : Bool) → is_of_blocks xs ≡ test → bytes ≡ xs ++ ys → Holds xs count → length f.own ≤ length xs
blocks_shortest count bytes f is some xs ys false other split holds =
    let own = has_head xs other (omega (arith, some, holds)) in
    let all = blocks_front xs ys (sym (ap is_of_blocks split) ∙ is) (long_enough xs own.head own.is) in
    cc
blocks_shortest count bytes f is some xs ys true blocks_are split holds =
    let h = whole_section xs blocks_are (omega (arith, some, holds)) in
    let counted = ap (λ (r : Recording). length r.records) (all_of_walk xs h.after h.more h.is blocks_are)
    ∙ length-map (of_walks.records_at first_walk xs) with_link in
    f.shortest xs ys split (omega (arith, holds, counted))

blocks_cut : (count : ℕ) (bytes : List ℕ) → is_of_blocks bytes ≡ true → 0 < count → Holds bytes count → Beginning count bytes
blocks_cut count bytes is some holds =
    let h = whole_section bytes is (omega (arith, some, holds)) in
    let records = of_walks.records_at first_walk bytes in
    let all = all_of_walk bytes h.after h.more h.is is in
    let counted = ap (λ (r : Recording). length r.records) all ∙ length-map records with_link in
    let f = of_walks.front first_walk count bytes (omega (arith, holds, counted)) in
    let own_count : length (of_walks.records_at first_walk f.own) ≡ count =
    ap (λ (cut : Cut NgRecord NgFault). length cut.records) f.exact ∙ length-take-le count records (omega (arith, holds, counted)) in
    let begins = own_begins bytes f.own f.left f.joined is (omega (arith, some, own_count)) in
    let own = of_walks.begins_whole f.own begins (omega (arith, some, own_count)) in
    let section = opening_section f.own own.after own.more own.is in
    let own_is : is_of_blocks f.own ≡ true = blocks_front f.own f.left (sym (ap is_of_blocks f.joined) ∙ is) (omega (arith, section.long)) in
    let kept : map with_link (take count records) ≡ take count (all_in bytes) =
    sym (take-map with_link count records) ∙ ap (λ (r : Recording). take count r.records) (sym all) in
    record {
      front = f.own;
      left = f.left;
      joined = f.joined;
      exact = all_of_walk f.own own.after own.more own.is own_is ∙ ap recording_of_blocks f.exact ∙ ap clean kept;
      size = λ other. absurd (let both = sym is ∙ other in cc);
      shortest = λ xs ys split few. blocks_shortest count bytes f is some xs ys _ refl split few;
    }
  where
    -- four bytes at least hold a record, so the type of the first block is among them
    own_begins : (whole front back : List ℕ) → whole ≡ front ++ back → is_of_blocks whole ≡ true → 0 < length (of_walks.records_at first_walk front)
        → number_at false 0 4 front ≡ section_type
    own_begins whole front back joined whole_is holds_one =
        sym (number_at-append false 0 4 front back (of_walks.four_at_least front holds_one)) ∙ ap (number_at false 0 4) (sym joined) ∙ begins_section whole whole_is

pub cut_after : (count : ℕ) (bytes : List ℕ) (test : Bool) → is_of_blocks bytes ≡ test → 0 < count → Holds bytes count → Beginning count bytes
cut_after count bytes false other some holds = let h = has_head bytes other (omega (arith, some, holds)) in savefile_cut count bytes h.head h.is some holds
cut_after count bytes true is some holds = blocks_cut count bytes is some holds

-- ---- the law

pub cut_is : (count : ℕ) (bytes : List ℕ) (cut : Beginning count bytes) → Holds bytes count → IsCutAfter count bytes cut.front
cut_is count bytes cut holds = record {
  begins = (cut.left, sym cut.joined);
  holds = let size = ap (λ (r : Recording). length r.records) cut.exact ∙ length-take-le count (all_in bytes) holds in omega (arith, size);
  shortest = λ other begins few. cut.shortest other begins.0 (sym begins.1) few;
}

-- a capture is cut after its records in one way
pub cut_one : (count : ℕ) (bytes front : List ℕ) (cut : Beginning count bytes) → Holds bytes count → IsCutAfter count bytes front → front ≡ cut.front
cut_one count bytes front cut holds is =
    let here = cut_is count bytes cut holds in
    let less = is.shortest cut.front here.begins here.holds in
    let more = here.shortest front is.begins is.holds in
    let whole : front ++ is.begins.0 ≡ cut.front ++ cut.left = is.begins.1 ∙ cut.joined in
    sym (take_at front is.begins.0 (length front) refl) ∙ ap (take (length front)) whole ∙ take_at cut.front cut.left (length front) (omega (arith, less, more))

pub exists_cut : (count : ℕ) (bytes : List ℕ) → 0 < count → Holds bytes count → (front : List ℕ) × IsCutAfter count bytes front
exists_cut count bytes some holds =
    let cut = cut_after count bytes _ refl some holds in
    (cut.front, cut_is count bytes cut holds)

pub cut_records : (count : ℕ) (bytes front : List ℕ) → 0 < count → Holds bytes count → IsCutAfter count bytes front → records_in None front ≡ clean (take count (all_in bytes))
cut_records count bytes front some holds is =
    let cut = cut_after count bytes _ refl some holds in
    ap (records_in None) (cut_one count bytes front cut holds is) ∙ cut.exact

pub limit_is_cut : (limit : ℕ) (bytes front : List ℕ) → 0 < limit → Holds bytes limit → IsCutAfter limit bytes front → records_in (Some limit) bytes ≡ records_in None front
limit_is_cut limit bytes front some holds is =
    limited_by limit bytes _ refl some holds ∙ sym (cut_records limit bytes front some holds is)

pub cut_place : (count : ℕ) (bytes front : List ℕ) → 0 < count → Holds bytes count → IsCutAfter count bytes front → is_of_blocks bytes ≡ false
    → length front ≡ end_of (take count (all_in bytes))
cut_place count bytes front some holds is other =
    let cut = cut_after count bytes _ refl some holds in
    ap length (cut_one count bytes front cut holds is) ∙ cut.size other

-- ---- where the limit isn't reached

savefile_unreached : (limit : ℕ) (bytes : List ℕ) (read : Result CaptureHead CaptureFault) → head_of bytes ≡ read → is_of_blocks bytes ≡ false → length (all_in bytes) < limit
    → records_in (Some limit) bytes ≡ records_in None bytes
savefile_unreached limit bytes (Ok head) is other fewer =
    let all = all_of_head bytes head is in
    of_head (Some limit) bytes head is ∙ ap (first_records (Some limit)) (sym all) ∙ first_records-below limit (records_in None bytes) fewer
savefile_unreached limit bytes (Err why) is other fewer = of_refused (Some limit) bytes why is other ∙ sym (of_refused None bytes why is other)

kept_unreached : (limit : ℕ) (bytes : List ℕ) → is_of_blocks bytes ≡ true
    → ((l : Option ℕ) → ng_records bytes l ≡ Ok (first_records l (blocks.records_left first_walk bytes)))
    → length (all_in bytes) < limit → records_in (Some limit) bytes ≡ records_in None bytes
kept_unreached limit bytes is kept fewer =
    let cut = blocks.records_left first_walk bytes in
    let first : (l : Option ℕ) → records_in l bytes ≡ first_records l (recording_of_blocks cut) =
    λ l. as_blocks l bytes is ∙ ap recording_in_blocks (kept l) ∙ first_records-told with_link of_blocks l cut in
    let all = first None ∙ first_records-none (recording_of_blocks cut) in
    first (Some limit) ∙ ap (first_records (Some limit)) (sym all) ∙ first_records-below limit (records_in None bytes) fewer

blocks_unreached : (limit : ℕ) (bytes : List ℕ) (step : blocks.Step) → opening bytes ≡ step → is_of_blocks bytes ≡ true → length (all_in bytes) < limit
    → records_in (Some limit) bytes ≡ records_in None bytes
unfolding ng_records
blocks_unreached limit bytes (blocks.Stops (Refused why)) is blocks_are fewer =
    as_blocks (Some limit) bytes blocks_are ∙ ap recording_in_blocks (ng_records-refused bytes (Some limit) why is ∙ sym (ng_records-refused bytes None why is))
    ∙ sym (as_blocks None bytes blocks_are)
blocks_unreached limit bytes (blocks.Stops Clean) is blocks_are fewer = kept_unreached limit bytes blocks_are (λ l. rw (is, ng_records) refl) fewer
blocks_unreached limit bytes (blocks.Skips after more) is blocks_are fewer = kept_unreached limit bytes blocks_are (λ l. rw (is, ng_records) refl) fewer
blocks_unreached limit bytes (blocks.Gives given after more) is blocks_are fewer = kept_unreached limit bytes blocks_are (λ l. rw (is, ng_records) refl) fewer

unreached_by : (limit : ℕ) (bytes : List ℕ) (test : Bool) → is_of_blocks bytes ≡ test → length (all_in bytes) < limit → records_in (Some limit) bytes ≡ records_in None bytes
unreached_by limit bytes false other fewer = savefile_unreached limit bytes _ refl other fewer
unreached_by limit bytes true is fewer = blocks_unreached limit bytes _ refl is fewer

pub unreached : (limit : ℕ) (bytes : List ℕ) → length (all_in bytes) < limit → records_in (Some limit) bytes ≡ records_in None bytes
unreached limit bytes fewer = unreached_by limit bytes _ refl fewer
