-- It is decided whether some way leads through a rule's options: from a point an option leads to few.
use Rattle.std.proofs.Common.{◌≡◌, ℕ, suc, ◌+◌, ◌*◌, ◌<◌, ◌≤◌, ℤ, pos, negsuc, ◌+ℤ◌, ◌<ℤ◌, ◌≤ℤ◌, Bool, true, false, cond, List}
use Rattle.std.proofs.Common.{[], ◌∷◌, length, drop, Option, Some, None, refl, sym, ap, subst, ◌∙◌, arith, MatchBool, bit_and}
use Rattle.std.proofs.Common.{slice_index, slice_set}
use Rattle.memchr.specs.Find.{OccursAt}
use Rattle.edge_io.specs.declared.pattern.Span.{Span}
use Rattle.edge_io.specs.Matching.{folded}
use Rattle.rule_types.specs.declared.option.Cmp.{Cmp}
use Rattle.rule_types.specs.declared.option.Cmp.TheVariants as cmp
use Rattle.rule_types.specs.declared.option.Opt.{Opt}
use Rattle.rule_types.specs.declared.option.Opt.TheVariants as opt
use Rattle.rule_types.specs.declared.rule.Rule.{Rule}
use Rattle.option_eval.specs.Numbers.{Point, Fetched, fetched, number_of, origin, rounded_up}
use Rattle.option_eval.specs.Places.{Means, Sought, IsFoundAt, Leads, Compares, SharesBit, Unless, IsWay, PayloadMatches, at_place, byte_jump_len, is_only, sought, start}
use Rattle.option_eval.specs.Walks.{MatchesFrom}
use Rattle.option_eval.proofs.Sets.Sweeping.{occurs_fits}
use Rattle.rule_eval.proofs.Decided.{Decided, decided_yes, decided_no, decided_like, decided_both, decided_three, decided_not}
use Rattle.rule_eval.proofs.Decided.{decided_same, decided_le, decided_same_z, decided_lt_z, decided_le_z, decided_if}
use Rattle.rule_eval.proofs.Decided.{decided_if_some, decided_each_below, decided_some}

decided_none : (found : Option Span) → Decided (found ≡ None)
decided_none None = decided_yes refl
decided_none (Some span) = decided_no (λ is. cc)

-- it is decided whether bytes are at a place
decided_occurs : (hay needle : List ℕ) (k : ℕ) → Decided (OccursAt hay needle k)
decided_occurs hay needle k =
    decided_like (λ h. record { fits = h.0; reads = h.1 }) (λ h. (h.fits, h.reads))
    (decided_both (decided_le (k + length needle) (length hay))
    (decided_each_below (λ j. slice_index hay (k + j) ≡ slice_index needle j) (λ j. decided_same (slice_index hay (k + j)) (slice_index needle j)) (length needle)))

decided_is_found : (bytes payload : List ℕ) (how : Sought) (i : ℕ) → Decided (IsFoundAt bytes payload how i)
decided_is_found bytes payload how i =
    decided_like (λ h. record { from = h.0; until = h.1; occurs = h.2 }) (λ h. (h.from, h.until, h.occurs))
    (decided_three (decided_le_z how.from (pos i))
    (decided_if_some how.until (λ end. pos (i + length bytes) ≤ℤ end) (λ end. decided_le_z (pos (i + length bytes)) end))
    (decided_occurs (folded how.nocase payload) (folded how.nocase bytes) i))

is_found_below : (bytes payload : List ℕ) (how : Sought) (i : ℕ) → IsFoundAt bytes payload how i → i < suc (length payload)
is_found_below bytes payload how i h = let fits = occurs_fits how.nocase payload bytes i h.occurs in omega arith

decided_shares : (number : ℕ) (value : ℤ) → Decided (SharesBit number value)
decided_shares number (pos value) = decided_not (decided_same (bit_and number value) 0)
decided_shares number (negsuc value) = decided_no (λ h. h)

decided_compares : (how : Cmp) (number : ℕ) (value : ℤ) → Decided (Compares how number value)
decided_compares cmp.Eq number value = decided_same_z (pos number) value
decided_compares cmp.Ne number value = decided_not (decided_same_z (pos number) value)
decided_compares cmp.Lt number value = decided_lt_z (pos number) value
decided_compares cmp.Gt number value = decided_lt_z value (pos number)
decided_compares cmp.Le number value = decided_le_z (pos number) value
decided_compares cmp.Ge number value = decided_le_z value (pos number)
decided_compares cmp.And number value = decided_shares number value
decided_compares cmp.Within number value = decided_same_z (pos number) value

decided_unless : (negated : Bool) (P : Type 0) → Decided P → Decided (Unless negated P)
decided_unless negated P p = decided_if negated (¬ P) P (decided_not p) p

-- a point with this place and these values
same_point : (s : Point) (place : ℕ) (values : List ℕ) → s.place ≡ place → s.values ≡ values → s ≡ record { place = place; values = values }
same_point s place values place_is values_is = λ i. record { place = place_is i; values = values_is i }

-- Where options lead: a fact about some point after an option is decided, if it is so of each point.
module _ (Q : Point → Type 0) (each : (s : Point) → Decided (Q s)) where
  -- an option that leads to one point, where a fact holds
  to_one : (C : Type 0) (following : Point) → Decided C → Decided ((after : Point) × (C × (after ≡ following)) × Q after)
  to_one C following c =
      decided_like
      (λ h. (following, (h.0, refl), h.1))
      (λ h. let led = h.1 in (led.0, subst Q led.1 h.2))
      (decided_both c (each following))

  content_led : (negated only : Bool) (bytes payload : List ℕ) (how : Sought) (before : Point)
      → Decided ((after : Point)
      × MatchBool negated
      (((i : ℕ) → ¬ IsFoundAt bytes payload how i) × (after ≡ before))
      ((i : ℕ) × IsFoundAt bytes payload how i × (after ≡ cond only before (at_place before (i + length bytes))))
      × Q after)
  content_led true only bytes payload how before =
      to_one ((i : ℕ) → ¬ IsFoundAt bytes payload how i) before
      (decided_like (λ none i here. none (i, here)) (λ none some. none some.0 some.1)
      (decided_not (decided_some (λ i. IsFoundAt bytes payload how i) (decided_is_found bytes payload how) (suc (length payload)) (is_found_below bytes payload how))))
  content_led false only bytes payload how before =
      let target : ℕ → Point = λ i. cond only before (at_place before (i + length bytes)) in
      decided_like
      (λ h. (target h.0, (h.0, h.1.0, refl), h.1.1))
      (λ h. let led = h.1 in (led.0, (led.1, subst Q led.2 h.2)))
      (decided_some (λ i. IsFoundAt bytes payload how i × Q (target i))
      (λ i. decided_both (decided_is_found bytes payload how i) (each (target i)))
      (suc (length payload))
      (λ i h. is_found_below bytes payload how i h.0))

  pattern_led : (found : Option Span) (negated : Bool) (from : ℕ) (before : Point)
      → Decided ((after : Point)
      × MatchBool negated
      ((found ≡ None) × (after ≡ before))
      ((span : Span) × (found ≡ Some span) × (after ≡ at_place before (from + span.end)))
      × Q after)
  pattern_led found true from before = to_one (found ≡ None) before (decided_none found)
  pattern_led None false from before = decided_no (λ h. let e = h.1.1 in cc)
  pattern_led (Some span) false from before =
      decided_like
      (λ q. (at_place before (from + span.end), (span, refl, refl), q))
      (λ h.
      let led = h.1 in
      let e = led.1 in
      let same : led.0 ≡ span = cc in
      subst Q (led.2 ∙ ap (λ (s : Span). at_place before (from + s.end)) same) h.2)
      (each (at_place before (from + span.end)))

  test_led : (got : Option Fetched) (C : Fetched → Type 0) → ((read : Fetched) → Decided (C read)) → (before : Point)
      → Decided ((after : Point) × ((read : Fetched) × (got ≡ Some read) × C read × (after ≡ before)) × Q after)
  test_led None C c before = decided_no (λ h. let e = h.1.1 in cc)
  test_led (Some read) C c before =
      decided_like
      (λ h. (h.0, (read, refl, h.1.0, h.1.1), h.2))
      (λ h.
      let led = h.1 in
      let e = led.1 in
      let same : led.0 ≡ read = cc in
      (h.0, (subst C same led.2, led.3), h.2))
      (to_one (C read) before (c read))

  extract_led : (got : Option Fetched) (following : Fetched → Point)
      → Decided ((after : Point) × ((read : Fetched) × (got ≡ Some read) × (after ≡ following read)) × Q after)
  extract_led None following = decided_no (λ h. let e = h.1.1 in cc)
  extract_led (Some read) following =
      decided_like
      (λ q. (following read, (read, refl, refl), q))
      (λ h.
      let led = h.1 in
      let e = led.1 in
      let same : led.0 ≡ read = cc in
      subst Q (led.2 ∙ ap following same) h.2)
      (each (following read))

  -- to the place of a whole number, if it lies in the payload
  jump_to : (target to : ℤ) (size : ℕ) (values : List ℕ) → target ≡ to
      → Decided ((after : Point) × ((after.values ≡ values) × (after.place ≤ size) × (pos after.place ≡ target)) × Q after)
  jump_to target (pos place) size values is =
      decided_like
      (λ h. (record { place = place; values = values }, (refl, h.0, sym is), h.1))
      (λ h.
      let led = h.1 in
      let there : pos h.0.place ≡ pos place = led.2 ∙ is in
      let at : h.0.place ≡ place = cc in
      (subst (λ (p : ℕ). p ≤ size) at led.1, subst Q (same_point h.0 place values at led.0) h.2))
      (decided_both (decided_le place size) (each (record { place = place; values = values })))
  jump_to target (negsuc below) size values is =
      decided_no (λ h. let there : pos h.0.place ≡ negsuc below = h.1.2 ∙ is in cc)

  jump_led : (got : Option Fetched) (target : Fetched → ℤ) (size : ℕ) (values : List ℕ)
      → Decided ((after : Point) × ((read : Fetched) × (got ≡ Some read) × (after.values ≡ values) × (after.place ≤ size) × (pos after.place ≡ target read)) × Q after)
  jump_led None target size values = decided_no (λ h. let e = h.1.1 in cc)
  jump_led (Some read) target size values =
      decided_like
      (λ h. (h.0, (read, refl, h.1.0, h.1.1, h.1.2), h.2))
      (λ h.
      let led = h.1 in
      let e = led.1 in
      let same : led.0 ≡ read = cc in
      (h.0, (led.2, led.3, led.4 ∙ ap target same), h.2))
      (jump_to (target read) (target read) size values refl)

  stays_led : (before : Point) → Decided ((after : Point) × (after ≡ before) × Q after)
  stays_led before = decided_like (λ q. (before, refl, q)) (λ h. subst Q h.1 h.2) (each before)

  led : (means : Means) (payload : List ℕ) (option : Opt) (before : Point) → Decided ((after : Point) × Leads means payload option before after × Q after)
  unfolding Leads
  led means payload (opt.Content content) before = content_led content.negated (is_only content.fast) content.bytes payload (sought content before) before
  led means payload (opt.Pcre text flags relative negated) before = pattern_led (means text flags (drop (origin relative before) payload)) negated (origin relative before) before
  led means payload (opt.ByteTest fetch not how value) before =
      test_led (fetched payload fetch before) (λ read. Unless not (Compares how read.number (number_of before.values value)))
      (λ read. decided_unless not (Compares how read.number (number_of before.values value)) (decided_compares how read.number (number_of before.values value))) before
  led means payload (opt.ByteJump fetch times align beginning post) before =
      jump_led (fetched payload fetch before) (λ read. pos ((cond beginning 0 read.stop) + byte_jump_len times align read.number) +ℤ post) (length payload) before.values
  led means payload (opt.ByteExtract fetch name times align) before =
      extract_led (fetched payload fetch before) (λ read. record { place = read.stop; values = slice_set before.values name (rounded_up align (read.number * times)) })
  led means payload (opt.IsDataAt at relative negated) before =
      to_one (Unless negated ((pos (origin relative before) +ℤ number_of before.values at) <ℤ pos (length payload))) before
      (decided_unless negated ((pos (origin relative before) +ℤ number_of before.values at) <ℤ pos (length payload))
      (decided_lt_z (pos (origin relative before) +ℤ number_of before.values at) (pos (length payload))))
  led means payload _ before = stays_led before

-- some way leads through the options
decided_from : (means : Means) (payload : List ℕ) (options : List Opt) (before : Point) → Decided (MatchesFrom means payload options before)
decided_from means payload [] before = decided_yes ([], tt)
decided_from means payload (option ∷ options) before =
    decided_like there (λ h. back h.0 h.1)
    (led (MatchesFrom means payload options) (decided_from means payload options) means payload option before)
  where
    there : (after : Point) × Leads means payload option before after × MatchesFrom means payload options after → MatchesFrom means payload (option ∷ options) before
    there h = (h.0 ∷ h.2.0, (h.1, h.2.1))

    back : (way : List Point) → IsWay means payload (option ∷ options) before way → (after : Point) × Leads means payload option before after × MatchesFrom means payload options after
    back [] h = absurd h
    back (after ∷ later) h = (after, h.0, (later, h.1))

pub decided_payload : (means : Means) (rule : Rule) (payload : List ℕ) → Decided (PayloadMatches means rule payload)
decided_payload means rule payload = decided_from means payload rule.opts start
