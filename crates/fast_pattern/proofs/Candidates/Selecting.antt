-- The hits and the rules without a pattern, in order, as far as their headers fit: the candidates.
use Rattle.std.proofs.Common.{◌≡◌, ℕ, suc, ◌+◌, ◌<◌, Bool, true, false, ◌&&◌, ◌||◌, cond, ltb, eqb, ◌==◌, Option, Some, None}
use Rattle.std.proofs.Common.{List, [], ◌∷◌, ◌++◌, length, map, get_or, slice_get, sym, refl, ap, subst, ◌∙◌, arith, ⊎_elim}
use Rattle.std.specs.List.{filter, dedup, Contains}
use Rattle.std.specs.List.Sorted.{IsPermutation, IsSorted, IsStrictlyIncreasing}
use Rattle.std.specs.Ordering.{nat_cmp}
use Rattle.std.proofs.lemmas.Option.{slice_get-get_or}
use Rattle.std.proofs.lemmas.List.{length-map, get_or-map, get_or_default}
use Rattle.std.proofs.lemmas.List.Sorted.{list_any-IsPermutation}
use Rattle.std.proofs.lemmas.List.Folds.{Any-from_list_any, list_any_at, list_any-append}
use Rattle.std.proofs.lemmas.List.Kept.{Contains-dedup_nat, Contains-from_dedup}
use Rattle.std.proofs.lemmas.Map.Keys.{IsStrictlyIncreasing-dedup}
use Rattle.std.proofs.lemmas.Bool.{false≢true, eqb-true, eq-eqb, or_cases, cases_lt, cases_Bool, lt-ltb, le-ltb, and_parts}
use Rattle.packet_decode.specs.declared.packet.Body.{Body}
use Rattle.packet_decode.specs.declared.packet.Body.TheVariants as body
use Rattle.rule_types.specs.declared.rule.Proto.{Proto}
use Rattle.rule_types.specs.declared.rule.Proto.TheVariants as proto
use Rattle.rule_types.specs.declared.rule.Rule.{Rule}
use Rattle.fast_pattern.specs.declared.header.RuleHead.{RuleHead}
use Rattle.fast_pattern.specs.declared.groups.Groups.{Groups}
use Rattle.fast_pattern.specs.FastPattern.{pattern_of}
use Rattle.fast_pattern.specs.Candidates.{header_fits, fits, occurs_if_any, is_candidate, places_from, candidates}
use Rattle.pattern_search.specs.Words.{word_at}
use Rattle.pattern_search.specs.Occurring.{is_found, numbers, occurring}
use Rattle.pattern_search.specs.Finding.{AreHits}
use Rattle.fast_pattern.specs.Kinds.{kind_of, is_for, is_for_some, is_plain}
use Rattle.fast_pattern.specs.Blocks.{has}
use Rattle.fast_pattern.specs.declared.sides.PacketSide.TheVariants as side
use Rattle.fast_pattern.specs.declared.sides.Sides.{Sides}
use Rattle.fast_pattern.specs.Sides.{is_due, is_asked, AreSides, AddSought}
use Rattle.fast_pattern.specs.Grouping.{asked_of, fits_some, fits_at, is_due_at, text_of, texts_of, AreFor}
use Rattle.pattern_search.specs.Occurring.{occurs}
use Rattle.pattern_search.proofs.Finding.Occurring.{empty-occurs}
use Rattle.fast_pattern.proofs.Candidates.Ordering.{increasing-is, numbers-tell, numbers-have, filter-numbers}
use Rattle.fast_pattern.proofs.Ports.Siding.{fits-due, plain-past}
use Rattle.pattern_search.proofs.States.Words.{same_bools}

-- places and numbers
places-numbers : {X : Type 0} (test : X → Bool) (number : ℕ → Bool) (from : ℕ) (xs : List X)
    → ((k : ℕ) (d : X) → k < length xs → test (get_or xs k d) ≡ number (from + k))
    → places_from from test xs ≡ numbers number from (length xs)
unfolding numbers
places-numbers test number from [] same = refl
places-numbers test number from (x ∷ xs) same =
    let here : from + 0 ≡ from = omega arith in
    let first : test x ≡ number from = same 0 x (omega arith) ∙ ap number here in
    let rest = places-numbers test number (from + 1) xs (λ k d h. let e : from + suc k ≡ from + 1 + k = omega arith in same (suc k) d (omega arith) ∙ ap number e) in
    ap (λ b. cond b (from ∷ places_from (from + 1) test xs) (places_from (from + 1) test xs)) first ∙ ap (λ ns. cond (number from) (from ∷ ns) ns) rest

-- a header that fits may fit the kind
fits-kind : (protocol : Proto) (rule : Rule) (carried : Body) → header_fits protocol rule.sports rule.dports rule.both carried ≡ true → is_for (kind_of carried) protocol ≡ true
fits-kind proto.Ip rule carried e = refl
fits-kind proto.Tcp rule (body.Tcp head) e = refl
fits-kind proto.Tcp rule (body.Stream sport dport) e = refl
fits-kind proto.Tcp rule (body.Udp sport dport) e = e
fits-kind proto.Tcp rule (body.Icmp kind code id seq) e = e
fits-kind proto.Tcp rule body.Other e = e
fits-kind proto.Tcp rule body.Fragment e = e
fits-kind proto.Udp rule (body.Tcp head) e = e
fits-kind proto.Udp rule (body.Stream sport dport) e = e
fits-kind proto.Udp rule (body.Udp sport dport) e = refl
fits-kind proto.Udp rule (body.Icmp kind code id seq) e = e
fits-kind proto.Udp rule body.Other e = e
fits-kind proto.Udp rule body.Fragment e = e
fits-kind proto.Icmp rule (body.Tcp head) e = e
fits-kind proto.Icmp rule (body.Stream sport dport) e = e
fits-kind proto.Icmp rule (body.Udp sport dport) e = e
fits-kind proto.Icmp rule (body.Icmp kind code id seq) e = refl
fits-kind proto.Icmp rule body.Other e = e
fits-kind proto.Icmp rule body.Fragment e = e

fits-for : (rule : Rule) (carried : Body) → fits rule carried ≡ true → is_for (kind_of carried) rule.proto ≡ true
unfolding fits
fits-for rule carried so = fits-kind rule.proto rule carried so

-- what a rule's pattern and header say, of bytes
chosen-by : (pattern : Option (List ℕ)) (payload : List ℕ)
    → occurs_if_any pattern payload ≡
    ((ltb 0 (length (text_of pattern)) && occurs (text_of pattern) payload) || ltb (length (text_of pattern)) 1)
chosen-by None payload = refl
chosen-by (Some []) payload = empty-occurs payload
chosen-by (Some (x ∷ xs)) payload =
    sym (ap (λ b. (ltb 0 (length (x ∷ xs)) && occurs (x ∷ xs) payload) || b) (le-ltb (length (x ∷ xs)) 1 (omega arith))
    ∙ ap (λ b. (b && occurs (x ∷ xs) payload) || false) (lt-ltb 0 (length (x ∷ xs)) (omega arith))
    ∙ or-none (occurs (x ∷ xs) payload))
  where
    or-none : (b : Bool) → (b || false) ≡ b
    or-none true = refl
    or-none false = refl

-- a list without its repeats has what it had
has-tells : (xs : List ℕ) (place : ℕ) → has xs place ≡ true → Contains xs place
has-tells xs place e = let a = Any-from_list_any (λ x. x == place) xs e in (a.0, a.2, get_or_default xs a.0 place a.1 a.2 ∙ a.3 ∙ eqb-true a.1 place a.4)

has-from : (xs : List ℕ) (place : ℕ) → Contains xs place → has xs place ≡ true
has-from xs place c = list_any_at (λ x. x == place) xs c.0 place c.1 (eq-eqb (get_or xs c.0 place) place c.2)

has-dedup : (xs : List ℕ) (place : ℕ) → has (dedup eqb xs) place ≡ has xs place
has-dedup xs place = same_bools (has (dedup eqb xs) place) (has xs place)
    (λ e. has-from xs place (Contains-from_dedup eqb xs place (has-tells (dedup eqb xs) place e)))
    (λ e. has-from (dedup eqb xs) place (Contains-dedup_nat xs place (has-tells xs place e)))

module _ (groups : Groups) (rules : List Rule) (carried : Body) (payload : List ℕ) (hold : AreFor groups rules) where
  abbrev texts : List (List ℕ)
  texts = texts_of rules

  abbrev occurs_at : ℕ → Bool
  occurs_at = λ place. is_found (word_at texts place) payload

  abbrev plain : ℕ → Bool
  plain = is_plain groups.rules.items texts (kind_of carried)

  abbrev due : ℕ → Bool
  due = is_due_at groups.rules.items texts carried

  count : length texts ≡ length rules
  count = length-map rules (λ rule. text_of (pattern_of rule.opts))

  module _ (place : ℕ) (d : Rule) (h : place < length rules) where
    abbrev rule : Rule
    rule = get_or rules place d

    text-is : word_at texts place ≡ text_of (pattern_of rule.opts)
    text-is = get_or-map (λ (r : Rule). text_of (pattern_of r.opts)) rules place d [] h

    asked-is : slice_get groups.rules.items place ≡ Some (asked_of rule)
    asked-is =
        ap (λ (xs : List RuleHead). slice_get xs place) hold.asked
        ∙ slice_get-get_or (map asked_of rules) place (asked_of d) (omega (arith, length-map rules asked_of))
        ∙ ap Some (get_or-map asked_of rules place d (asked_of d) h)

    fits-is : fits_at groups.rules.items carried place ≡ fits rule carried
    unfolding fits_at fits
    fits-is = ap (fits_some carried) asked-is

    found-is : occurs_at place ≡ (ltb 0 (length (text_of (pattern_of rule.opts))) && occurs (text_of (pattern_of rule.opts)) payload)
    unfolding is_found
    found-is = ap (λ (t : List ℕ). ltb 0 (length t) && occurs t payload) text-is

    plain-is : plain place ≡ (ltb (length (text_of (pattern_of rule.opts))) 1 && is_for (kind_of carried) rule.proto)
    unfolding is_plain
    plain-is =
        ap (λ (t : List ℕ). ltb (length t) 1 && is_for_some (kind_of carried) (slice_get groups.rules.items place)) text-is
        ∙ ap (λ o. ltb (length (text_of (pattern_of rule.opts))) 1 && is_for_some (kind_of carried) o) asked-is

    due-is : is_due carried (Some (asked_of rule)) ≡ true → due place ≡ plain place
    unfolding is_due_at
    due-is so = ap (λ o. plain place && is_due carried o) asked-is ∙ ap (λ b. plain place && b) so ∙ and-one (plain place)
      where
        and-one : (b : Bool) → (b && true) ≡ b
        and-one true = refl
        and-one false = refl

    fits-is-due : fits rule carried ≡ true → is_due carried (Some (asked_of rule)) ≡ true
    unfolding fits
    fits-is-due so = fits-due rule.sports rule.dports rule.both rule.proto carried so

    one : is_candidate carried payload rule ≡ ((occurs_at place || due place) && fits_at groups.rules.items carried place)
    unfolding is_candidate
    one =
        let p = pattern_of rule.opts in
        ⊎_elim
        (λ so.
        let kind = fits-for rule carried so in
        ap (λ b. b && occurs_if_any p payload) so ∙ chosen-by p payload
        ∙ sym (ap (λ b. (occurs_at place || due place) && b) (fits-is ∙ so) ∙ and-true (occurs_at place || due place) ∙
        ap (λ b. occurs_at place || b) (due-is (fits-is-due so)) ∙ ap (λ b. b || plain place) found-is ∙
        ap (λ b. (ltb 0 (length (text_of p)) && occurs (text_of p) payload) || b)
        (plain-is ∙ ap (λ b. ltb (length (text_of p)) 1 && b) kind ∙ and-true (ltb (length (text_of p)) 1))))
        (λ never. ap (λ b. b && occurs_if_any p payload) never ∙
        sym (ap (λ b. (occurs_at place || due place) && b) (fits-is ∙ never) ∙ and-false (occurs_at place || due place)))
        (cases_Bool (fits rule carried))
      where
        and-true : (b : Bool) → (b && true) ≡ b
        and-true true = refl
        and-true false = refl

        and-false : (b : Bool) → (b && false) ≡ false
        and-false true = refl
        and-false false = refl

  asked-count : length groups.rules.items ≡ length rules
  asked-count = ap length hold.asked ∙ length-map rules asked_of

  due-within : (place : ℕ) → due place ≡ true → place < length rules
  unfolding is_due_at
  due-within place e = ⊎_elim
      (λ low. low)
      (λ high. absurd
      (false≢true (sym (plain-past groups.rules.items texts (kind_of carried) place (omega (arith, high, asked-count))) ∙
      (and_parts (plain place) (is_due carried (slice_get groups.rules.items place)) e).0)))
      (cases_lt place (length rules))

  hits-are : (hits : List ℕ) → AreHits groups.automaton payload hits → IsPermutation (numbers occurs_at 0 (length texts)) hits
  unfolding occurring
  hits-are hits are = are.found texts hold.finds

  -- the places that were found, each once and in order, and of these those whose headers fit
  pub candidates-are : (hits found sorted places : List ℕ)
      → AreHits groups.automaton payload hits
      → ((place : ℕ) → has found place ≡ (has hits place || due place))
      → IsPermutation found sorted
      → IsSorted nat_cmp sorted
      → places ≡ dedup eqb sorted
      → filter (fits_at groups.rules.items carried) places ≡ candidates rules carried payload
  unfolding candidates
  candidates-are hits found sorted places are joined permutation order once =
      let n = length rules in
      let test : ℕ → Bool = fits_at groups.rules.items carried in
      ap (filter test) (increasing-is n places increasing within)
      ∙ filter-numbers test (has places) 0 n
      ∙ sym (places-numbers (is_candidate carried payload) (λ place. has places place && test place) 0 rules
      (λ k d h.
      let e : k ≡ 0 + k = omega arith in
      one k d h ∙ ap (λ b. b && test k) (sym (same k h)) ∙ ap (λ (a : ℕ). has places a && test a) e))
    where
      found-are : IsPermutation (numbers occurs_at 0 (length rules)) hits
      found-are = let P : ℕ → Type 0 = λ m. IsPermutation (numbers occurs_at 0 m) hits in subst P count (hits-are hits are)

      increasing : IsStrictlyIncreasing places
      increasing = let P : List ℕ → Type 0 = λ ps. IsStrictlyIncreasing ps in subst P (sym once) (IsStrictlyIncreasing-dedup sorted order)

      all : (place : ℕ) → has places place ≡ (has (numbers occurs_at 0 (length rules)) place || due place)
      all place =
          ap (λ ps. has ps place) once
          ∙ has-dedup sorted place
          ∙ sym (list_any-IsPermutation (λ x. x == place) found sorted permutation)
          ∙ joined place
          ∙ ap (λ b. b || due place) (sym (list_any-IsPermutation (λ x. x == place) (numbers occurs_at 0 (length rules)) hits found-are))

      within : (place : ℕ) → has places place ≡ true → place < length rules
      within place e = ⊎_elim
          (λ a. omega (arith, (numbers-tell occurs_at 0 (length rules) place a).1))
          (λ b. due-within place b)
          (or_cases (has (numbers occurs_at 0 (length rules)) place) (due place) (sym (all place) ∙ e))

      same : (place : ℕ) → place < length rules → has places place ≡ (occurs_at place || due place)
      same place h =
          all place
          ∙ ap (λ b. b || due place) (same_bools (has (numbers occurs_at 0 (length rules)) place) (occurs_at place)
          (λ e. (numbers-tell occurs_at 0 (length rules) place e).2)
          (λ e. numbers-have occurs_at 0 (length rules) place (omega arith) (omega arith) e))

-- the rules of a kind without ports
pub list-due : (groups : Groups) (rules : List Rule) (carried : Body) (listed old new : List ℕ)
    → AreFor groups rules
    → listed ≡ numbers (is_plain groups.rules.items (texts_of rules) (kind_of carried)) 0 (length rules)
    → ((asked : Option RuleHead) → is_due carried asked ≡ true)
    → new ≡ old ++ listed
    → (place : ℕ)
    → has new place ≡ (has old place || is_due_at groups.rules.items (texts_of rules) carried place)
unfolding is_due_at
list-due groups rules carried listed old new hold is due pushed place =
    let plain = is_plain groups.rules.items (texts_of rules) (kind_of carried) in
    let n = length rules in
    ap (λ (xs : List ℕ). has xs place) pushed
    ∙ list_any-append (λ x. x == place) old listed
    ∙ ap (λ (xs : List ℕ). has old place || has xs place) is
    ∙ ap (λ b. has old place || b) (same_bools (has (numbers plain 0 n) place) (plain place)
    (λ e. (numbers-tell plain 0 n place e).2)
    (λ e. ⊎_elim
    (λ low. numbers-have plain 0 n place (omega arith) (omega (arith, low)) e)
    (λ high. absurd (false≢true (sym (plain-past groups.rules.items (texts_of rules) (kind_of carried) place (omega (arith, high, ap length hold.asked, length-map rules asked_of))) ∙ e)))
    (cases_lt place n))
    ∙ sym (ap (λ b. plain place && b) (due (slice_get groups.rules.items place)) ∙ and-one (plain place)))
  where
    and-one : (b : Bool) → (b && true) ≡ b
    and-one true = refl
    and-one false = refl

-- the rules of a kind with ports
pub sides-due : (asked : List RuleHead) (texts : List (List ℕ)) (carried : Body) (sport dport : ℕ) (old new : List ℕ) (sides : Sides)
    → AreSides asked texts (kind_of carried) sides
    → AddSought sides sport dport old new
    → ((one : Option RuleHead) → is_due carried one ≡ (is_asked side.Source sport one || is_asked side.Destination dport one))
    → (place : ℕ)
    → has new place ≡ (has old place || is_due_at asked texts carried place)
unfolding is_due_at
sides-due asked texts carried sport dport old new sides are adds due place =
    adds.added asked texts (kind_of carried) are place
    ∙ ap (λ b. has old place || b)
    (and-or (is_plain asked texts (kind_of carried) place)
    (is_asked side.Source sport (slice_get asked place))
    (is_asked side.Destination dport (slice_get asked place)) ∙
    ap (λ b. is_plain asked texts (kind_of carried) place && b) (sym (due (slice_get asked place))))
  where
    and-or : (a b c : Bool) → ((a && b) || (a && c)) ≡ (a && (b || c))
    and-or true b c = refl
    and-or false b c = refl
