-- Where the first records of a savefile end: the shortest beginning of the bytes that holds them.
use Rattle.std.proofs.Common.{◌≡◌, ℕ, zero, suc, ◌+◌, ◌≤◌, List, [], ◌∷◌, ◌++◌, length, take, refl, sym, ap, ◌∙◌, append_assoc, length-append, arith}
use Rattle.pcap_input.specs.declared.capture.CaptureHead.{CaptureHead}
use Rattle.pcap_input.specs.declared.capture.Record.{Record}
use Rattle.pcap_input.specs.declared.capture.CaptureFault.{CaptureFault}
use Rattle.pcap_input.specs.Cut.{Ending, Clean, Cut, clean_with, with_first}
use Rattle.pcap_input.specs.Savefile.{Next, Ends, Follows, next_of, place_after, record_header, records_left}
use Rattle.pcap_input.proofs.Laws.{next_of_nothing}
use Rattle.pcap_input.proofs.Records.{records_left-ends, records_left-follows, follows_parts}

-- how many bytes these records take
abbrev pub size_of : List Record → ℕ
size_of [] = 0
size_of (first ∷ later) = (record_header + length first.bytes) + size_of later

-- what a savefile is cut to: these records, and a clean ending
abbrev pub clean_cut : List Record → Cut Record CaptureFault
clean_cut records = clean_with records

-- the records of what is left
abbrev pub records_at : CaptureHead → ℕ → ℕ → List ℕ → List Record
records_at head number place rest = (records_left head number place rest).records

-- the bytes of the first `count` records; no shorter beginning holds as many
pub record Front (head : CaptureHead) (number place count : ℕ) (rest : List ℕ) : Type 0 where
  pub own : List ℕ
  pub left : List ℕ
  pub joined : rest ≡ own ++ left
  pub exact : records_left head number place own ≡ clean_cut (take count (records_at head number place rest))
  pub size : length own ≡ size_of (take count (records_at head number place rest))
  pub shortest : (xs ys : List ℕ) → rest ≡ xs ++ ys → count ≤ length (records_at head number place xs) → length own ≤ length xs

-- where nothing comes next, there is no record
none_at : (head : CaptureHead) (number place count : ℕ) (rest : List ℕ) (ending : Ending CaptureFault) → next_of head number place rest ≡ Ends ending
    → suc count ≤ length (records_at head number place rest) → ⊥
none_at head number place count rest ending is enough =
    let none = ap (λ (cut : Cut Record CaptureFault). length cut.records) (records_left-ends head number place rest ending is) in
    omega (arith, none, enough)

shortest_by : (head : CaptureHead) (number place count : ℕ) (rest own : List ℕ) (first : Record) (more : List ℕ)
    → next_of head number place rest ≡ Follows first more → rest ≡ own ++ more → (after : Front head (number + 1) (place_after place first) count more)
    → (xs ys : List ℕ) → rest ≡ xs ++ ys → suc count ≤ length (records_at head number place xs)
    → (next : Next) → next_of head number place xs ≡ next → length (own ++ after.own) ≤ length xs
shortest_by head number place count rest own first more holds joined after xs ys split enough (Ends ending) is =
    absurd (none_at head number place count xs ending is enough)
shortest_by head number place count rest own first more holds joined after xs ys split enough (Follows other later) is =
    let parts = follows_parts head number place xs other later is in
    let whole : rest ≡ parts.own ++ (later ++ ys) = split ∙ ap (λ (zs : List ℕ). zs ++ ys) parts.joined ∙ append_assoc parts.own later ys in
    let same : Follows first more ≡ Follows other (later ++ ys) = sym holds ∙ ap (next_of head number place) whole ∙ parts.goes (later ++ ys) in
    let first_is : first ≡ other = cc in
    let more_is : more ≡ later ++ ys = cc in
    let counted = ap (λ (cut : Cut Record CaptureFault). length cut.records) (records_left-follows head number place xs other later is) in
    let placed = ap (λ (r : Record). length (records_at head (number + 1) (place_after place r) later)) first_is in
    let few = after.shortest later ys more_is (omega (arith, enough, counted, placed)) in
    let a = ap length joined ∙ length-append own more in
    let b = ap length whole ∙ length-append parts.own (later ++ ys) in
    let c = ap length more_is in
    let d = length-append own after.own in
    let e = ap length parts.joined ∙ length-append parts.own later in
    omega (arith, few, a, b, c, d, e)

front_by : (head : CaptureHead) (number place count : ℕ) (rest : List ℕ)
    → ((n p : ℕ) (more : List ℕ) → count ≤ length (records_at head n p more) → Front head n p count more)
    → suc count ≤ length (records_at head number place rest)
    → (next : Next) → next_of head number place rest ≡ next → Front head number place (suc count) rest
front_by head number place count rest on enough (Ends ending) is = absurd (none_at head number place count rest ending is enough)
front_by head number place count rest on enough (Follows first more) is =
    let all = ap (λ (cut : Cut Record CaptureFault). cut.records) (records_left-follows head number place rest first more is) in
    let parts = follows_parts head number place rest first more is in
    let after = on (number + 1) (place_after place first) more (omega (arith, enough, ap length all)) in
    record {
      own = parts.own ++ after.own;
      left = after.left;
      joined = parts.joined ∙ ap (λ (xs : List ℕ). parts.own ++ xs) after.joined ∙ sym (append_assoc parts.own after.own after.left);
      exact = records_left-follows head number place (parts.own ++ after.own) first after.own (parts.goes after.own)
          ∙ ap (with_first first) after.exact
          ∙ ap (λ (records : List Record). clean_cut (take (suc count) records)) (sym all);
      size = length-append parts.own after.own ∙ ap (λ (n : ℕ). n + length after.own) parts.size
          ∙ ap (λ (n : ℕ). (record_header + length first.bytes) + n) after.size
          ∙ ap (λ (records : List Record). size_of (take (suc count) records)) (sym all);
      shortest = λ xs ys split few. shortest_by head number place count rest parts.own first more is parts.joined after xs ys split few _ refl;
    }

pub front : (head : CaptureHead) (number place count : ℕ) (rest : List ℕ) → count ≤ length (records_at head number place rest) → Front head number place count rest
front head number place zero rest enough = record {
  own = [];
  left = rest;
  joined = refl;
  exact = records_left-ends head number place [] Clean (next_of_nothing head number place);
  size = refl;
  shortest = λ xs ys split few. omega arith;
}
front head number place (suc count) rest enough =
    front_by head number place count rest (λ n p more few. front head n p count more few) enough (next_of head number place rest) refl
