-- Items of one session that are tried one after another.
use Rattle.std.proofs.Common.{◌≡◌, ℕ, suc, ◌+◌, ◌<◌, ◌≤◌, Bool, false, List, [], ◌∷◌, ◌++◌, get_or, length, take, Option, refl, sym, ap, subst, ◌∙◌, add-zero, append_assoc, arith, length-append}
use Rattle.std.proofs.lemmas.List.{append-nil, take_more}
use Rattle.std.proofs.lemmas.List.Sums.{fold-append, sum_by-append}
use Rattle.rule_types.specs.declared.rule.Rule.{Rule}
use Rattle.fast_pattern.specs.Candidates.{candidates}
use Rattle.option_eval.specs.Places.{Means}
use Rattle.option_eval.specs.RuleSet.{FindWhatIsMeant}
use Rattle.rule_eval.specs.declared.item.Item.{Item}
use Rattle.rule_eval.specs.Hits.{AreHits, Bits, Tells, Trying, matching, places_from}
use Rattle.rule_eval.specs.Picking.{bits_after_all, picked}
use Rattle.rule_eval.proofs.AreHits.{AreMatches-unique, places_from-are}
use Rattle.rule_eval.proofs.Picked.{picked-hits}
use Rattle.rule_eval.proofs.Tells.{test_of, test_of-tells}
use Rattle.flow_lanes.specs.declared.answer.Hits.{Hits}
use Rattle.flow_lanes.specs.Given.{Inspection}
use Rattle.flow_lanes.specs.ItemHits.{bits_after_item, bits_after_items, hit, hits_of, told}
use Rattle.flow_lanes.specs.Tried.{ByTest, Gain, SoFar, Tallied, Tallies, Tries, candidates_of, of_session}
use Rattle.flow_lanes.specs.Work.{visits_on, visits_over}
use Rattle.flow_lanes.proofs.ItemHits.Told.{told-append, told-none}

-- the list of all rules that match is the one that the test finds
matching-is : (means : Means) (trying : Trying) (rules : List Rule) (item : Item) (bits : Option Bits) (places : List ℕ)
    → trying.rules ≡ rules
    → Tells means trying.matches
    → AreHits means rules item bits places
    → places ≡ matching trying item bits
unfolding matching
matching-is means trying rules item bits places same told are =
    AreMatches-unique means item 0 rules bits places (places_from trying.matches item 0 rules bits) are (places_from-are means trying.matches told item 0 rules bits)
    ∙ ap (λ (rs : List Rule). places_from trying.matches item 0 rs bits) (sym same)

-- a list without a length has no element
pub no_element : (xs : List ℕ) → length xs ≡ 0 → xs ≡ []
no_element [] is = refl
no_element (x ∷ xs) is = absurd (omega (arith, is))

hits_of-append : (trying : Trying) (bits : Option Bits) (xs ys : List Item) → hits_of trying bits (xs ++ ys) ≡ hits_of trying bits xs ++ hits_of trying (bits_after_items trying bits xs) ys
unfolding hits_of
hits_of-append trying bits [] ys = refl
hits_of-append trying bits (item ∷ xs) ys = ap (λ (hs : List Hits). hit trying bits item ∷ hs) (hits_of-append trying (bits_after_item trying bits item) xs ys)

-- each item of a session has its rules
pub length-hits_of : (trying : Trying) (bits : Option Bits) (items : List Item) → length (hits_of trying bits items) ≡ length items
unfolding hits_of
length-hits_of trying bits [] = refl
length-hits_of trying bits (item ∷ items) = ap suc (length-hits_of trying (bits_after_item trying bits item) items)

pub candidates_of-append : (rules : List Rule) (xs ys : List Item) → candidates_of rules (xs ++ ys) ≡ candidates_of rules xs + candidates_of rules ys
candidates_of-append rules xs ys = sum_by-append (λ (item : Item). length (candidates rules item.head.body item.payload)) xs ys

module _ {P : Type 0} (by : Inspection P) where
  -- what is gained twice is gained together
  pub tallies-then : (g h both : Gain) (one two three : SoFar) → both.items ≡ g.items ++ h.items → ByTest by (λ trying. both.hits trying ≡ g.hits trying ++ h.hits trying)
      → Tallies by g one two → Tallies by h two three → Tallies by both one three
  tallies-then g h both one two three items hits first second = record {
    hits = λ means trying tried.
        second.hits means trying tried ∙ ap (λ (hs : List Hits). hs ++ told by.all (h.hits trying)) (first.hits means trying tried)
        ∙ append_assoc one.hits (told by.all (g.hits trying)) (told by.all (h.hits trying))
        ∙ ap (λ (hs : List Hits). one.hits ++ hs) (sym (told-append by.all (g.hits trying) (h.hits trying)) ∙ ap (told by.all) (sym (hits means trying tried)));
    more = let first_more = first.more in let second_more = second.more in omega (arith, first_more, second_more);
    items =
        let first_items = first.items in
        let second_items = second.items in
        let are : length both.items ≡ length g.items + length h.items = ap length items ∙ length-append g.items h.items in
        omega (arith, first_items, second_items, are);
    tries =
        let first_tries = first.tries in
        let second_tries = second.tries in
        let are : candidates_of by.set.rules both.items ≡ candidates_of by.set.rules g.items + candidates_of by.set.rules h.items =
        ap (candidates_of by.set.rules) items ∙ candidates_of-append by.set.rules g.items h.items in
        omega (arith, first_tries, second_tries, are);
    visits = λ means made.
        let first_visits = first.visits means made in
        let second_visits = second.visits means made in
        let are : visits_over by.set.rules both.items ≡ visits_over by.set.rules g.items + visits_over by.set.rules h.items =
        ap (visits_over by.set.rules) items ∙ sum_by-append (visits_on by.set.rules) g.items h.items in
        omega (arith, first_visits, second_visits, are);
  }

  -- what gives the same is gained
  pub tallies-same : (g h : Gain) (one two : SoFar) → h.items ≡ g.items → ByTest by (λ trying. h.hits trying ≡ g.hits trying) → Tallies by g one two → Tallies by h one two
  tallies-same g h one two items hits gained = record {
    hits = λ means trying tried. gained.hits means trying tried ∙ ap (λ (hs : List Hits). one.hits ++ told by.all hs) (sym (hits means trying tried));
    more = gained.more;
    items = gained.items ∙ ap (λ (xs : List Item). one.items + length xs) (sym items);
    tries = gained.tries ∙ ap (λ (xs : List Item). one.tries + candidates_of by.set.rules xs) (sym items);
    visits = λ means made. subst (λ (xs : List Item). two.visits ≤ one.visits + visits_over by.set.rules xs) (sym items) (gained.visits means made);
  }

  -- a tally that had nothing has what it gains
  pub tallied-new : (gain : Gain) (none all : SoFar) → none.hits ≡ [] → none.items ≡ 0 → none.tries ≡ 0 → none.visits ≡ 0 → Tallies by gain none all → Tallied by gain all
  tallied-new gain none all hits items tries visits gained = record {
    hits = λ means trying tried. gained.hits means trying tried ∙ ap (λ (hs : List Hits). hs ++ told by.all (gain.hits trying)) hits;
    items = let more = gained.items in omega (arith, items, more);
    tries = let more = gained.tries in omega (arith, tries, more);
    visits = λ means made. let more = gained.visits means made in omega (arith, visits, more);
  }

  -- no item gives nothing
  pub tallies-none : (bits : Option Bits) (one : SoFar) → Tallies by (of_session bits []) one one
  unfolding hits_of
  tallies-none bits one = record {
    hits = λ means trying tried. sym (append-nil one.hits) ∙ ap (λ (none : List Hits). one.hits ++ none) (sym (told-none by.all));
    more = omega arith;
    items = sym (add-zero one.items);
    tries = sym (add-zero one.tries);
    visits = λ means made. omega arith;
  }

  pub tries-none : (bits : Option Bits) (one : SoFar) → Tries by [] bits bits one one
  tries-none bits one = record { tallies = tallies-none bits one; bits = λ means trying tried. refl }

  -- an item is tried
  pub tries-one : (item : Item) (old new : Option Bits) (places : List ℕ) (one two : SoFar)
      → ((means : Means) → FindWhatIsMeant by.finds means by.set → AreHits means by.set.rules item old places)
      → ((means : Means) → FindWhatIsMeant by.finds means by.set → new ≡ bits_after_all by.set.rules old places)
      → two.hits ≡ one.hits ++ told by.all (record { head = item.head; rules = places } ∷ []) → length one.hits ≤ length two.hits
      → two.items ≡ one.items + 1 → two.tries ≡ one.tries + length (candidates by.set.rules item.head.body item.payload)
      → ((means : Means) → FindWhatIsMeant by.finds means by.set → two.visits ≤ one.visits + visits_on by.set.rules item) → Tries by (item ∷ []) old new one two
  unfolding hits_of
  tries-one item old new places one two are bits hits more items tries visits = record {
    tallies = record {
      hits = λ means trying tried.
          let is = matching-is means trying by.set.rules item old places tried.rules tried.told (are means tried.made) in
          hits ∙ ap (λ (ps : List ℕ). one.hits ++ told by.all (record { head = item.head; rules = ps } ∷ [])) is;
      more = more;
      items = items;
      tries = omega (arith, tries);
      visits = λ means made. let few = visits means made in omega (arith, few);
    };
    bits = λ means trying tried.
        let is = matching-is means trying by.set.rules item old places tried.rules tried.told (are means tried.made) in
        bits means tried.made ∙ (λ i. bits_after_all (sym tried.rules i) old (is i));
  }

  -- an item without a candidate is matched by no rule: where those that a rule matches are told, it is counted alone
  pub tries-nothing : (item : Item) (bits : Option Bits) (one two : SoFar) → by.all ≡ false → candidates by.set.rules item.head.body item.payload ≡ [] → two.hits ≡ one.hits
      → two.items ≡ one.items + 1 → two.tries ≡ one.tries → two.visits ≡ one.visits → Tries by (item ∷ []) bits bits one two
  unfolding picked
  tries-nothing item bits one two matched none kept items tries visits =
      tries-one item bits bits [] one two
      (λ means made. subst (λ (places : List ℕ). AreHits means by.set.rules item bits (picked (test_of means) by.set.rules item bits places)) none
      (picked-hits means (test_of means) (test_of-tells means) by.set.rules item bits))
      (λ means made. refl)
      (kept ∙ sym (append-nil one.hits) ∙ ap (λ (b : Bool). one.hits ++ told b (record { head = item.head; rules = [] } ∷ [])) (sym matched))
      (let same = ap length kept in omega (arith, same))
      items
      (let count = ap length none in omega (arith, tries, count))
      (λ means made. omega (arith, visits))

  -- items and then others
  pub tries-append : (xs ys : List Item) (a b c : Option Bits) (one two three : SoFar) → Tries by xs a b one two → Tries by ys b c two three → Tries by (xs ++ ys) a c one three
  tries-append xs ys a b c one two three first second = record {
    tallies =
        tallies-then (of_session a xs) (of_session b ys) (of_session a (xs ++ ys)) one two three refl
        (λ means trying tried. hits_of-append trying a xs ys ∙ ap (λ (bits : Option Bits). hits_of trying a xs ++ hits_of trying bits ys) (sym (first.bits means trying tried)))
        first.tallies second.tallies;
    bits = λ means trying tried.
        second.bits means trying tried ∙ ap (λ (bits : Option Bits). bits_after_items trying bits ys) (first.bits means trying tried)
        ∙ sym (fold-append (bits_after_item trying) a xs ys);
  }

  -- an item more of a list
  pub tries-more : (xs : List Item) (i : ℕ) (item : Item) (payload : List ℕ) (a b c : Option Bits) (one two three : SoFar) → i < length xs → item ≡ get_or xs i item → payload ≡ item.payload
      → Tries by (take i xs) a b one two → Tries by (record { head = item.head; payload = payload } ∷ []) b c two three → Tries by (take (i + 1) xs) a c one three
  tries-more xs i item payload a b c one two three below is same so_far now =
      subst (λ (items : List Item). Tries by items a c one three) (sym (take_more xs i item below))
      (tries-append (take i xs) (get_or xs i item ∷ []) a b c one two three so_far
      (subst (λ (x : Item). Tries by (x ∷ []) b c two three) is
      (subst (λ (bytes : List ℕ). Tries by (record { head = item.head; payload = bytes } ∷ []) b c two three) same now)))
