-- What a limit leaves of a capture's records, whatever its format.
use Rattle.std.proofs.Common.{◌≡◌, ℕ, suc, ◌+◌, ◌<◌, ◌≤◌, Bool, true, false, List, [], ◌∷◌, ◌++◌, Option, Some, None, length, take, refl, sym, ap, ◌∙◌, append_assoc, length-append, arith, ⊎_elim}
use Rattle.std.specs.Prelude.{min, nat_le}
use Rattle.std.specs.List.{All}
use Rattle.std.proofs.lemmas.List.{append-nil, length-map, length-take-le, take-map, take_at}
use Rattle.std.proofs.lemmas.List.Elements.{All-take}
use Rattle.std.proofs.lemmas.Bool.{cases_lt}
use Rattle.std.proofs.lemmas.Bool.Decides.{nat_tests}
use Rattle.pcap_input.specs.Cut.{Ending, Clean, Cut, no_more, clean_with, with_first, with_front, first_records, limited, IsWhole, cut_by}

-- without a limit all is given
pub first_records-none : {R F : Type 0} (cut : Cut R F) → first_records None cut ≡ cut
unfolding first_records
first_records-none cut = refl

-- where there are as many records as the limit says, these are given, and a clean ending
pub first_records-enough : {R F : Type 0} (limit : ℕ) (cut : Cut R F) → limit ≤ length cut.records → first_records (Some limit) cut ≡ clean_with (take limit cut.records)
unfolding first_records
first_records-enough limit cut enough =
    let reached : nat_le limit (length cut.records) ≡ true = grind (arith, nat_tests, enough) in
    rw reached refl

-- where there are fewer, all are given
pub first_records-below : {R F : Type 0} (limit : ℕ) (cut : Cut R F) → length cut.records < limit → first_records (Some limit) cut ≡ cut
unfolding first_records
first_records-below limit cut fewer =
    let below : nat_le limit (length cut.records) ≡ false = grind (arith, nat_tests, fewer) in
    rw below refl

-- as many records as the limit says are given, and a clean ending, whatever is left after them
pub first_records-reached : {R F : Type 0} (given : List R) (cut : Cut R F) → first_records (Some (length given)) (with_front given cut) ≡ clean_with given
first_records-reached given cut =
    first_records-enough (length given) (with_front given cut) (omega (arith, length-append given cut.records))
    ∙ ap clean_with (take_at given cut.records (length given) refl)

-- at the limit the ending is clean, whatever is left
pub first_records-zero : {R F : Type 0} (cut : Cut R F) → first_records (Some 0) cut ≡ no_more Clean
first_records-zero cut = first_records-enough 0 cut (omega arith)

-- an ending without records comes before a limit above 0
pub first_records-no_more : {R F : Type 0} (limit : ℕ) (ending : Ending F) → first_records {R = R} (Some (limit + 1)) (no_more ending) ≡ no_more ending
first_records-no_more limit ending = first_records-below (limit + 1) (no_more ending) (omega arith)

first_records_by : {R F : Type 0} (limit : ℕ) (first : R) (cut : Cut R F) (test : Bool) → nat_le limit (length cut.records) ≡ test
    → first_records (Some (limit + 1)) (with_first first cut) ≡ with_first first (first_records (Some limit) cut)
unfolding first_records
first_records_by limit first cut true is =
    let more : nat_le (limit + 1) (suc (length cut.records)) ≡ true = grind (arith, nat_tests, is) in
    let step : limit + 1 ≡ suc limit = omega arith in
    rw (more, is, step) refl
first_records_by limit first cut false is =
    let more : nat_le (limit + 1) (suc (length cut.records)) ≡ false = grind (arith, nat_tests, is) in
    rw (more, is) refl

-- a record counts once
pub first_records-with_first : {R F : Type 0} (limit : ℕ) (first : R) (cut : Cut R F) → first_records (Some (limit + 1)) (with_first first cut) ≡ with_first first (first_records (Some limit) cut)
first_records-with_first limit first cut = first_records_by limit first cut (nat_le limit (length cut.records)) refl

-- ---- records in front

-- records after which nothing is left
pub front_of_none : {R F : Type 0} (given : List R) (ending : Ending F) → with_front given (no_more ending) ≡ record { records = given; ending = ending }
front_of_none {R} {F} given ending = ap (λ (records : List R). let cut : Cut R F = record { records = records; ending = ending } in cut) (append-nil given)

-- some in front of others
pub front_of_front : {R F : Type 0} (front back : List R) (cut : Cut R F) → with_front front (with_front back cut) ≡ with_front (front ++ back) cut
front_of_front {R} {F} front back cut =
    ap (λ (records : List R). let c : Cut R F = record { records = records; ending = cut.ending } in c) (sym (append_assoc front back cut.records))

-- records after which none is left
pub front_of_nothing : {R F : Type 0} (given : List R) (cut : Cut R F) → cut.records ≡ [] → (with_front given cut).records ≡ given
front_of_nothing {R} given cut nothing = ap (λ (records : List R). given ++ records) nothing ∙ append-nil given

-- none in front
pub front_none : {R F : Type 0} (cut : Cut R F) → with_front [] cut ≡ cut
front_none cut = refl

one_counted : {R F : Type 0} (limit room count : ℕ) (first : R) (cut : Cut R F)
    → suc count + room ≡ limit
    → first_records (Some limit) (with_first first cut) ≡ with_first first (first_records (Some (count + room)) cut)
one_counted {R} {F} limit room count first cut is =
    let step : limit ≡ (count + room) + 1 = omega (arith, is) in
    ap (λ (n : ℕ). first_records (Some n) (with_first first cut)) step ∙ first_records-with_first (count + room) first cut

-- records in front count against a limit
pub first_records-front : {R F : Type 0} (limit room : ℕ) (given : List R) (cut : Cut R F) → length given + room ≡ limit
    → first_records (Some limit) (with_front given cut) ≡ with_front given (first_records (Some room) cut)
first_records-front {R} {F} limit room [] cut is =
    let same : limit ≡ room = omega (arith, is) in
    ap (λ (n : ℕ). first_records (Some n) (with_front [] cut)) same
    ∙ ap (first_records (Some room)) (front_none cut) ∙ sym (front_none (first_records (Some room) cut))
first_records-front {R} {F} limit room (first ∷ given) cut is =
    one_counted limit room (length given) first (with_front given cut) is
    ∙ ap (with_first first) (first_records-front (length given + room) room given cut refl)

-- ---- what stays

-- a limit leaves of a whole cut a whole one
pub first_records-whole : {R F : Type 0} (limit : Option ℕ) (count : ℕ) (cut : Cut R F) → IsWhole count cut → IsWhole (limited limit count) (first_records limit cut)
unfolding first_records
first_records-whole None count cut whole = whole
first_records-whole (Some limit) count cut whole = by_test (nat_le limit (length cut.records)) refl
  where
    by_test : (test : Bool) → nat_le limit (length cut.records) ≡ test → IsWhole (min limit count) (first_records (Some limit) cut)
    by_test true is =
        let enough : limit ≤ length cut.records = grind (arith, nat_tests) in
        let first : length (take limit cut.records) ≡ limit = length-take-le limit cut.records enough in
        rw is (record { count_is = omega (arith, first, enough, whole.count_is); clean = refl })
    by_test false is =
        let fewer : length cut.records < limit = grind (arith, nat_tests) in
        rw is (record { count_is = omega (arith, fewer, whole.count_is); clean = whole.clean })

-- what holds of all records holds of the first
pub first_records-all : {R F : Type 0} (Holds : R → Type 0) (limit : Option ℕ) (cut : Cut R F) → All Holds cut.records → All Holds (first_records limit cut).records
unfolding first_records
first_records-all Holds None cut all = all
first_records-all Holds (Some limit) cut all = by_test (nat_le limit (length cut.records)) refl
  where
    by_test : (test : Bool) → nat_le limit (length cut.records) ≡ test → All Holds (first_records (Some limit) cut).records
    by_test true is = rw (first_records, is) (All-take Holds limit cut.records all)
    by_test false is = rw (first_records, is) all

-- the first records, told otherwise, are the first of those told so
pub first_records-told : {R S F G : Type 0} (given : R → S) (told : F → G) (limit : Option ℕ) (cut : Cut R F)
    → cut_by given told (first_records limit cut) ≡ first_records limit (cut_by given told cut)
first_records-told given told None cut = ap (cut_by given told) (first_records-none cut) ∙ sym (first_records-none (cut_by given told cut))
first_records-told given told (Some limit) cut = ⊎_elim
    (λ (fewer : length cut.records < limit).
    ap (cut_by given told) (first_records-below limit cut fewer)
    ∙ sym (first_records-below limit (cut_by given told cut) (omega (arith, fewer, length-map cut.records given))))
    (λ (enough : limit ≤ length cut.records).
    ap (cut_by given told) (first_records-enough limit cut enough)
    ∙ ap clean_with (sym (take-map given limit cut.records))
    ∙ sym (first_records-enough limit (cut_by given told cut) (omega (arith, enough, length-map cut.records given))))
    (cases_lt (length cut.records) limit)
