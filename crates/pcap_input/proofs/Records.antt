-- The laws of a capture's records that callers use: how what is left goes on with what comes next,
-- what a record takes, and where an ending lies.
use Rattle.std.proofs.Common.{◌≡◌, ℕ, zero, suc, ◌+◌, ◌<◌, ◌≤◌, List, ◌∷◌, ◌++◌, length, take, drop, refl, sym, ap, append_assoc, ◌∙◌, arith}
use Rattle.std.proofs.lemmas.List.{length-append, length-take-le, take-append-drop}
use Rattle.pcap_input.specs.declared.capture.CaptureHead.{CaptureHead}
use Rattle.pcap_input.specs.declared.capture.Record.{Record}
use Rattle.pcap_input.specs.declared.capture.CaptureFault.{CaptureFault}
use Rattle.pcap_input.specs.declared.capture.CaptureFault.TheVariants.{NotPcap, LinkType, Truncated, TooLong, TooMany, Failed, NoMemory}
use Rattle.pcap_input.specs.Cut.{Ending, Refused, Cut, no_more, with_first}
use Rattle.pcap_input.specs.Savefile.{captured_length, record_of, Next, Ends, Follows, next_of, place_after, cut_up, records_left}
use Rattle.pcap_input.specs.Reader.{Shows}
use Rattle.pcap_input.proofs.Laws.{after_means, bytes_follow, next_means, next_of_header}

-- a record that is there: its own bytes, and that it is there whatever follows them
pub record Parts (head : CaptureHead) (number place : ℕ) (bytes : List ℕ) (given : Record) (rest : List ℕ) : Type 0 where
  pub own : List ℕ
  pub joined : bytes ≡ own ++ rest
  pub size : length own ≡ 16 + length given.bytes
  pub goes : (more : List ℕ) → next_of head number place (own ++ more) ≡ Follows given more
  pub numbered : given.number ≡ number
  pub few : number < 4294967295
  pub short : length given.bytes ≤ 262144

-- the parts of a record of a header
record_of-number : (head : CaptureHead) (number : ℕ) (header bytes : List ℕ) → (record_of head number header bytes).number ≡ number
unfolding record_of
record_of-number head number header bytes = refl

record_of-bytes : (head : CaptureHead) (number : ℕ) (header bytes : List ℕ) → (record_of head number header bytes).bytes ≡ bytes
unfolding record_of
record_of-bytes head number header bytes = refl

pub follows_parts : (head : CaptureHead) (number place : ℕ) (bytes : List ℕ) (given : Record) (rest : List ℕ)
    → next_of head number place bytes ≡ Follows given rest → Parts head number place bytes given rest
follows_parts head number place bytes given rest is =
    let next = next_means head number place bytes given rest is in
    let after = after_means head number place (take 16 bytes) (drop 16 bytes) given rest next.after in
    let captured = captured_length head (take 16 bytes) in
    let body = take captured (drop 16 bytes) in
    let whole : length (take 16 bytes) ≡ 16 = length-take-le 16 bytes next.header in
    let size : length body ≡ captured = length-take-le captured (drop 16 bytes) after.whole in
    let holds : given.bytes ≡ body = ap (λ (r : Record). r.bytes) after.is ∙ record_of-bytes head number (take 16 bytes) body in
    record {
      own = take 16 bytes ++ body;
      joined = sym (take-append-drop 16 bytes) ∙ ap (λ xs. take 16 bytes ++ xs) (sym (take-append-drop captured (drop 16 bytes)))
          ∙ sym (append_assoc (take 16 bytes) body (drop captured (drop 16 bytes))) ∙ ap (λ xs. (take 16 bytes ++ body) ++ xs) (sym after.left);
      size = omega (arith, length-append (take 16 bytes) body, ap length holds);
      goes = λ more. ap (next_of head number place) (append_assoc (take 16 bytes) body more)
          ∙ next_of_header head number place (take 16 bytes) (body ++ more) whole next.few
          ∙ bytes_follow head number place (take 16 bytes) body more (sym size) (omega (arith, after.short))
          ∙ ap (λ r. Follows r more) (sym after.is);
      numbered = ap (λ (r : Record). r.number) after.is ∙ record_of-number head number (take 16 bytes) body;
      few = next.few;
      short = omega (arith, ap length holds, after.short);
    }

-- a cut after one more step
cut_on : ℕ → CaptureHead → ℕ → ℕ → Next → Cut Record CaptureFault
cut_on most head number place (Ends ending) = no_more ending
cut_on most head number place (Follows first more) = with_first first (cut_up most head (number + 1) (place_after place first) more)

cut_up-suc : (most : ℕ) (head : CaptureHead) (number place : ℕ) (rest : List ℕ) (next : Next) → next_of head number place rest ≡ next
    → cut_up (suc most) head number place rest ≡ cut_on most head number place next
unfolding cut_up cut_on
cut_up-suc most head number place rest (Ends ending) is = rw (is, cut_up) refl
cut_up-suc most head number place rest (Follows first more) is = rw (is, cut_up) refl

-- any number of steps above the number of bytes gives the same
enough_by : (some more_steps : ℕ) (head : CaptureHead) (number place : ℕ) (rest : List ℕ)
    → ((n p : ℕ) (more : List ℕ) → length more < some → length more < more_steps → cut_up some head n p more ≡ cut_up more_steps head n p more)
    → length rest < suc some → length rest < suc more_steps
    → (next : Next) → next_of head number place rest ≡ next → cut_on some head number place next ≡ cut_on more_steps head number place next
unfolding cut_on
enough_by some more_steps head number place rest same fits fits_more (Ends ending) is = refl
enough_by some more_steps head number place rest same fits fits_more (Follows first more) is =
    let parts = follows_parts head number place rest first more is in
    let less : 16 + length more ≤ length rest = omega (arith, ap length parts.joined, length-append parts.own more, parts.size) in
    ap (with_first first) (same (number + 1) (place_after place first) more (omega arith) (omega arith))

enough : (some more_steps : ℕ) (head : CaptureHead) (number place : ℕ) (rest : List ℕ) → length rest < some → length rest < more_steps
    → cut_up some head number place rest ≡ cut_up more_steps head number place rest
enough zero more_steps head number place rest fits fits_more = absurd (omega arith)
enough (suc some) zero head number place rest fits fits_more = absurd (omega arith)
enough (suc some) (suc more_steps) head number place rest fits fits_more =
    let next = next_of head number place rest in
    cut_up-suc some head number place rest next refl
    ∙ enough_by some more_steps head number place rest (λ n p more f m. enough some more_steps head n p more f m) fits fits_more next refl
    ∙ sym (cut_up-suc more_steps head number place rest next refl)

-- what is left is the ending where that comes next
pub records_left-ends : (head : CaptureHead) (number place : ℕ) (rest : List ℕ) (ending : Ending CaptureFault) → next_of head number place rest ≡ Ends ending
    → records_left head number place rest ≡ no_more ending
unfolding records_left cut_on
records_left-ends head number place rest ending is =
    let step : length rest + 1 ≡ suc (length rest) = omega arith in
    ap (λ (n : ℕ). cut_up n head number place rest) step ∙ cut_up-suc (length rest) head number place rest (Ends ending) is

-- what is left is the record that comes next, and then what is left after it
pub records_left-follows : (head : CaptureHead) (number place : ℕ) (rest : List ℕ) (first : Record) (more : List ℕ) → next_of head number place rest ≡ Follows first more
    → records_left head number place rest ≡ with_first first (records_left head (number + 1) (place_after place first) more)
unfolding records_left cut_on
records_left-follows head number place rest first more is =
    let step : length rest + 1 ≡ suc (length rest) = omega arith in
    let parts = follows_parts head number place rest first more is in
    let less : 16 + length more ≤ length rest = omega (arith, ap length parts.joined, length-append parts.own more, parts.size) in
    ap (λ (n : ℕ). cut_up n head number place rest) step ∙ cut_up-suc (length rest) head number place rest (Follows first more) is
    ∙ ap (with_first first) (enough (length rest) (length more + 1) head (number + 1) (place_after place first) more (omega arith) (omega arith))

-- bytes that hold a refusal, or that memory lacked for or a host failed at, hold no record
pub shows_ending : (why : CaptureFault) (next : Next) → Shows why next → (ending : Ending CaptureFault) × (next ≡ Ends ending)
shows_ending NotPcap next shows = (Refused NotPcap, shows)
shows_ending (LinkType link_type) next shows = (Refused (LinkType link_type), shows)
shows_ending (Truncated at) next shows = (Refused (Truncated at), shows)
shows_ending (TooLong at len) next shows = (Refused (TooLong at len), shows)
shows_ending TooMany next shows = (Refused TooMany, shows)
shows_ending Failed next shows = shows
shows_ending NoMemory next shows = shows
