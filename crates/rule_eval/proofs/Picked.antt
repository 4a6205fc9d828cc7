-- Where only the candidates among the rules are tried, all rules that match are found.
use Rattle.std.proofs.Common.{◌≡◌, ℕ, suc, ◌+◌, ◌<◌, Bool, true, false, cond, List, [], ◌∷◌, ◌++◌, length, Option, Some, refl, sym, ap, ◌∙◌, arith, slice_get}
use Rattle.std.proofs.lemmas.List.{append-nil}
use Rattle.std.specs.Prelude.{All}
use Rattle.std.specs.Option.{option_map_or}
use Rattle.std.proofs.lemmas.Bool.{false≢true}
use Rattle.std.proofs.lemmas.List.Elements.{All-nil, All-cons, All-weaker}
use Rattle.std.proofs.lemmas.List.Sums.{fold-append}
use Rattle.packet_decode.specs.declared.packet.Body.{Body}
use Rattle.rule_types.specs.declared.rule.Rule.{Rule}
use Rattle.option_eval.specs.Places.{Means}
use Rattle.fast_pattern.specs.Candidates.{candidates, is_candidate, places_from as candidates_from}
use Rattle.rule_eval.specs.Hits.{AreHits, Bits, Item, Tells, Test, bits_after, bits_seen, places_from}
use Rattle.rule_eval.specs.Picking.{Picks, PicksAll, bits_after_all, bits_after_at, come_to, matches_at, picked}
use Rattle.rule_eval.proofs.AreHits.{places_from-are}
use Rattle.rule_eval.proofs.Candidates.{matching-candidate}

-- the places of candidates are places of rules
candidates_from-below : (test : Rule → Bool) (place : ℕ) (rules : List Rule) → All (λ p. p < place + length rules) (candidates_from place test rules)
candidates_from-below test place [] = All-nil (λ p. p < place + 0)
candidates_from-below test place (rule ∷ rules) =
    by_case (test rule)
    (All-weaker (λ p. p < place + 1 + length rules) (λ p. p < place + suc (length rules)) (λ p below. omega arith)
    (candidates_from (place + 1) test rules) (candidates_from-below test (place + 1) rules))
  where
    by_case : (b : Bool) → All (λ p. p < place + suc (length rules)) (candidates_from (place + 1) test rules)
        → All (λ p. p < place + suc (length rules)) (cond b (place ∷ candidates_from (place + 1) test rules) (candidates_from (place + 1) test rules))
    by_case true later = All-cons (λ p. p < place + suc (length rules)) place (candidates_from (place + 1) test rules) (omega arith) later
    by_case false later = later

pub candidates-below : (rules : List Rule) (carried : Body) (payload : List ℕ) → All (λ p. p < length rules) (candidates rules carried payload)
unfolding candidates
candidates-below rules carried payload =
    All-weaker (λ p. p < 0 + length rules) (λ p. p < length rules) (λ p below. omega arith)
    (candidates_from 0 (is_candidate carried payload) rules)
    (candidates_from-below (is_candidate carried payload) 0 rules)

module _ (test : Test) (all : List Rule) (item : Item) where
  -- where every rule that matches is a candidate, those of the candidates are all that match
  picked-all : (candidate : Rule → Bool) → ((rule : Rule) (bits : Bits) → test rule item bits ≡ true → candidate rule ≡ true)
      → (place : ℕ) (rules : List Rule) (bits : Option Bits) → ((k : ℕ) → slice_get all (place + k) ≡ slice_get rules k)
      → places_from test item place rules bits ≡ picked test all item bits (candidates_from place candidate rules)
  unfolding places_from picked
  picked-all candidate needs place [] bits same = refl
  picked-all candidate needs place (rule ∷ rules) bits same =
      let first : place ≡ place + 0 = omega arith in
      let next : (k : ℕ) → place + 1 + k ≡ place + suc k = λ k. omega arith in
      let here : slice_get all place ≡ Some rule = ap (slice_get all) first ∙ same 0 in
      let later = λ (b : Option Bits). picked-all candidate needs (place + 1) rules b (λ k. ap (slice_get all) (next k) ∙ same (suc k)) in
      by_case (candidate rule) (test rule item (bits_seen bits)) here (needs rule (bits_seen bits)) refl refl (later (bits_after bits rule)) (later bits)
    where
      tried : List ℕ
      tried = candidates_from (place + 1) candidate rules

      step : Option Rule → List ℕ
      step found =
          cond (option_map_or (λ (r : Rule). test r item (bits_seen bits)) found false)
          (place ∷ picked test all item (option_map_or (λ (r : Rule). bits_after bits r) found bits) tried)
          (picked test all item bits tried)

      by_case : (c t : Bool) → slice_get all place ≡ Some rule → (test rule item (bits_seen bits) ≡ true → candidate rule ≡ true)
          → candidate rule ≡ c → test rule item (bits_seen bits) ≡ t
          → places_from test item (place + 1) rules (bits_after bits rule) ≡ picked test all item (bits_after bits rule) tried
          → places_from test item (place + 1) rules bits ≡ picked test all item bits tried
          → cond (test rule item (bits_seen bits)) (place ∷ places_from test item (place + 1) rules (bits_after bits rule)) (places_from test item (place + 1) rules bits)
          ≡ picked test all item bits (cond c (place ∷ tried) tried)
      by_case true t here needed is_c is_t matched missed =
          ap (λ m. cond (test rule item (bits_seen bits)) (place ∷ m) (places_from test item (place + 1) rules bits)) matched
          ∙ ap (λ m. cond (test rule item (bits_seen bits)) (place ∷ picked test all item (bits_after bits rule) tried) m) missed
          ∙ ap step (sym here)
      by_case false true here needed is_c is_t matched missed = absurd (false≢true (sym is_c ∙ needed is_t))
      by_case false false here needed is_c is_t matched missed =
          ap (λ b. cond b (place ∷ places_from test item (place + 1) rules (bits_after bits rule)) (places_from test item (place + 1) rules bits)) is_t ∙ missed

-- the candidates at which the rule matches are all hits
pub picked-hits : (means : Means) (test : Test)
    → Tells means test
    → (rules : List Rule) (item : Item) (bits : Option Bits)
    → AreHits means rules item bits (picked test rules item bits (candidates rules item.head.body item.payload))
unfolding candidates
picked-hits means test tells rules item bits =
    let start : (k : ℕ) → slice_get rules (0 + k) ≡ slice_get rules k = λ k. let e : 0 + k ≡ k = omega arith in ap (slice_get rules) e in
    let same = picked-all test rules item (is_candidate item.head.body item.payload)
    (λ rule b is. matching-candidate means rule item b ((tells rule item b).0 is)) 0 rules bits start in
    rw (← same) (places_from-are means test tells item 0 rules bits)

-- The steps of the loop over the candidates.

-- one more place is tried
picked-more : (test : Test) (rules : List Rule) (item : Item) (bits : Option Bits) (xs : List ℕ) (place : ℕ)
    → picked test rules item bits (xs ++ place ∷ [])
    ≡ picked test rules item bits xs ++ cond (matches_at test rules item (bits_after_all rules bits (picked test rules item bits xs)) place) (place ∷ []) []
unfolding picked
picked-more test rules item bits [] place = refl
picked-more test rules item bits (x ∷ xs) place =
    by_case (matches_at test rules item bits x) (picked-more test rules item (bits_after_at rules bits x) xs place) (picked-more test rules item bits xs place)
  where
    after : Option Bits
    after = bits_after_at rules bits x

    by_case : (m : Bool)
        → picked test rules item after (xs ++ place ∷ []) ≡
        picked test rules item after xs ++
        cond (matches_at test rules item (bits_after_all rules after (picked test rules item after xs)) place) (place ∷ []) []
        → picked test rules item bits (xs ++ place ∷ []) ≡
        picked test rules item bits xs ++
        cond (matches_at test rules item (bits_after_all rules bits (picked test rules item bits xs)) place) (place ∷ []) []
        → cond m (x ∷ picked test rules item after (xs ++ place ∷ [])) (picked test rules item bits (xs ++ place ∷ []))
        ≡ cond m (x ∷ picked test rules item after xs) (picked test rules item bits xs)
        ++ cond (matches_at test rules item
        (bits_after_all rules bits (cond m (x ∷ picked test rules item after xs) (picked test rules item bits xs))) place)
        (place ∷ []) []
    by_case true matched missed = ap (λ places. x ∷ places) matched
    by_case false matched missed = missed

-- a place is found, or it isn't
found_if : (m : Bool) (found : List ℕ) (place : ℕ) → cond m (found ++ place ∷ []) found ≡ found ++ cond m (place ∷ []) []
found_if true found place = refl
found_if false found place = sym (append-nil found)

bits_if : (rules : List Rule) (m : Bool) (old mid : Option Bits) (found : List ℕ) (place : ℕ) → mid ≡ bits_after_all rules old found
    → cond m (bits_after_at rules mid place) mid ≡ bits_after_all rules old (cond m (found ++ place ∷ []) found)
bits_if rules true old mid found place is =
    ap (λ b. bits_after_at rules b place) is ∙ sym (fold-append (bits_after_at rules) old found (place ∷ []))
bits_if rules false old mid found place is = is

pub picks_all-none : (test : Test) (rules : List Rule) (item : Item) (bits : Option Bits) → PicksAll test rules item [] bits bits []
unfolding picked
picks_all-none test rules item bits = record { found = refl; bits = refl }

pub picks_all-more : (test : Test) (rules : List Rule) (item : Item) (xs : List ℕ) (place : ℕ) (old mid new : Option Bits) (found after : List ℕ)
    → PicksAll test rules item xs old mid found → Picks test rules item place (come_to mid found) (come_to new after)
    → PicksAll test rules item (xs ++ place ∷ []) old new after
picks_all-more test rules item xs place old mid new found after all one = record {
  found =
      one.found ∙ found_if (matches_at test rules item mid place) found place
      ∙ ap (λ m. found ++ cond (matches_at test rules item m place) (place ∷ []) []) all.bits
      ∙ ap (λ f. f ++ cond (matches_at test rules item (bits_after_all rules old f) place) (place ∷ []) []) all.found
      ∙ sym (picked-more test rules item old xs place);
  bits =
      one.bits ∙ bits_if rules (matches_at test rules item mid place) old mid found place all.bits
      ∙ ap (bits_after_all rules old) (sym one.found);
}
