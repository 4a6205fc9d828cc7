-- The records of a savefile hold bytes of it, and no more than a record may have.
use Rattle.std.proofs.Common.{◌≡◌, ℕ, zero, suc, ◌+◌, ◌^◌, ◌<◌, ◌≤◌, List, length, take, drop, refl, sym, subst, arith}
use Rattle.std.specs.List.{All}
use Rattle.std.proofs.lemmas.List.{length-take}
use Rattle.std.proofs.lemmas.List.Elements.{All-cons, All-drop, All-nil, All-take}
use Rattle.pcap_input.specs.declared.capture.CaptureHead.{CaptureHead}
use Rattle.pcap_input.specs.declared.capture.Record.{Record}
use Rattle.pcap_input.specs.Savefile.{Ends, Next, Follows, captured_length, cut_up, next_of, place_after, record_of, records_left}
use Rattle.pcap_input.proofs.Laws.{IsAfter, after_means, next_means}
use Rattle.unified2_out.specs.Records.{AllFit}

-- what is known of a captured record
pub record FitsCaptured (r : Record) : Type 0 where
  pub short : length r.bytes ≤ 262144
  pub bytes : AllFit 1 r.bytes

-- one byte
abbrev pub IsByte : ℕ → Type 0
IsByte value = value < 256 ^ 1

captured_by : (head : CaptureHead) (number : ℕ) (header bytes : List ℕ) (given : Record) (rest : List ℕ) → IsAfter head number header bytes given rest → AllFit 1 bytes
    → FitsCaptured given × AllFit 1 rest
unfolding record_of
captured_by head number header bytes given rest after all =
    let count = captured_length head header in
    let short = after.short in
    let few : length (take count bytes) ≤ 262144 = omega (arith, short, length-take count bytes) in
    let fits : FitsCaptured (record_of head number header (take count bytes)) = record {
      short = few;
      bytes = All-take IsByte count bytes all;
    } in
    (subst FitsCaptured (sym after.is) fits, subst (AllFit 1) (sym after.left) (All-drop IsByte count bytes all))

next_fits : (head : CaptureHead) (number place : ℕ) (rest : List ℕ) (first : Record) (more : List ℕ) → next_of head number place rest ≡ Follows first more
    → AllFit 1 rest → FitsCaptured first × AllFit 1 more
next_fits head number place rest first more is all =
    let next = next_means head number place rest first more is in
    captured_by head number (take 16 rest) (drop 16 rest) first more (after_means head number place (take 16 rest) (drop 16 rest) first more next.after)
    (All-drop IsByte 16 rest all)

cut_by : (most : ℕ) (head : CaptureHead) (number place : ℕ) (rest : List ℕ) → AllFit 1 rest
    → ((n p : ℕ) (more : List ℕ) → AllFit 1 more → All FitsCaptured (cut_up most head n p more).records)
    → (next : Next) → next_of head number place rest ≡ next → All FitsCaptured (cut_up (suc most) head number place rest).records
unfolding cut_up
cut_by most head number place rest all on (Ends ending) is = rw (cut_up, is) (All-nil FitsCaptured)
cut_by most head number place rest all on (Follows first more) is =
    let both = next_fits head number place rest first more is all in
    let later = cut_up most head (number + 1) (place_after place first) more in
    rw (cut_up, is) (All-cons FitsCaptured first later.records both.0 (on (number + 1) (place_after place first) more both.1))

cut_fits : (most : ℕ) (head : CaptureHead) (number place : ℕ) (rest : List ℕ) → AllFit 1 rest → All FitsCaptured (cut_up most head number place rest).records
unfolding cut_up
cut_fits zero head number place rest all = All-nil FitsCaptured
cut_fits (suc most) head number place rest all =
    cut_by most head number place rest all (λ n p more fit. cut_fits most head n p more fit) (next_of head number place rest) refl

-- the records of a savefile
pub savefile_fits : (head : CaptureHead) (rest : List ℕ) → AllFit 1 rest → All FitsCaptured (records_left head 0 24 rest).records
unfolding records_left
savefile_fits head rest all = cut_fits (length rest + 1) head 0 24 rest all
