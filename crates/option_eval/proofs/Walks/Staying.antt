-- What the kinds of options lead to.
use Rattle.std.proofs.Common.{◌≡◌, ℕ, ◌+◌, ℤ, pos, ◌+ℤ◌, ◌<ℤ◌, Bool, true, false, not, ◌&&◌, ◌||◌, cond, List, length, drop}
use Rattle.std.proofs.Common.{MatchBool, refl, sym, ap, subst, ◌∙◌, Option, Some, None, option_map, unwrap_or, Result, Ok, Err, IfOk}
use Rattle.std.proofs.lemmas.Bool.{false≢true}
use Rattle.smallvec.specs.SmallVec.{SmallVec}
use Rattle.edge_io.specs.declared.pattern.Span.{Span}
use Rattle.rule_types.specs.declared.option.Content.{Content}
use Rattle.rule_types.specs.declared.option.Fetch.{Fetch}
use Rattle.rule_types.specs.declared.option.Opt.{Opt}
use Rattle.rule_types.specs.declared.option.Opt.TheVariants as opt
use Rattle.option_eval.specs.Kinds.{is_relative, is_test, IsJump}
use Rattle.option_eval.specs.Numbers.{Point, fetched, origin, number_if, number_of}
use Rattle.option_eval.specs.Places.{Means, Leads, IsFoundAt, Sought, Unless, is_only, sought, is_payload_option, is_extract, at_place}
use Rattle.option_eval.specs.Sets.{IsRising, LeadsFrom, point}
use Rattle.option_eval.specs.Trying.{OfMadeOne, LeadsTo, IsNext}
use Rattle.option_eval.specs.declared.asked.AskedPlaces.{AskedPlaces}
use Rattle.option_eval.specs.declared.made.MadeOption.{MadeOption}
use Rattle.option_eval.specs.declared.next.NextPlaces.TheVariants as next

-- a content that is negated, or sought by the fast pattern alone
content_stay : (negated only : Bool) (A : Type 0) (B : ℕ → Type 0) (s t : Point) (far : ℕ → Point)
    → (negated || only) ≡ true
    → MatchBool negated (A × (t ≡ s)) ((i : ℕ) × B i × (t ≡ cond only s (far i)))
    → t ≡ s
content_stay true only A B s t far test h = h.1
content_stay false true A B s t far test h = h.2
content_stay false false A B s t far test h = absurd (false≢true test)

pattern_stay : (negated : Bool) (A B : Type 0) (s t : Point) → negated ≡ true → MatchBool negated (A × (t ≡ s)) B → t ≡ s
pattern_stay true A B s t test h = h.1
pattern_stay false A B s t test h = absurd (false≢true test)

place_is : (values : List ℕ) (p q : ℕ) → point values q ≡ point values p → q ≡ p
place_is values p q h = ap (λ (s : Point). s.place) h

-- a test stays at its place
pub test_stays : (means : Means) (payload values : List ℕ) (option : Opt) → is_test option ≡ true → (p q : ℕ) → LeadsFrom means payload values option p q → q ≡ p
unfolding Leads
test_stays means payload values (opt.Content content) test p q led =
    place_is values p q
    (content_stay content.negated (is_only content.fast)
    ((i : ℕ) → ¬ IsFoundAt content.bytes payload (sought content (point values p)) i)
    (λ i. IsFoundAt content.bytes payload (sought content (point values p)) i)
    (point values p) (point values q)
    (λ i. at_place (point values p) (i + length content.bytes)) test led)
test_stays means payload values (opt.Pcre text flags relative negated) test p q led = place_is values p q (pattern_stay negated _ _ (point values p) (point values q) test led)
test_stays means payload values (opt.ByteTest fetch negated how value) test p q led = place_is values p q led.3
test_stays means payload values (opt.IsDataAt at relative negated) test p q led = place_is values p q led.1
test_stays means payload values (opt.ByteJump fetch times align beginning post) test p q led = absurd (false≢true test)
test_stays means payload values (opt.ByteExtract fetch name times align) test p q led = absurd (false≢true test)
test_stays means payload values _ test p q led = place_is values p q led

-- an option that asks nothing of the payload is a test, and stays everywhere
pub other_test : (option : Opt) → is_payload_option option ≡ false → is_test option ≡ true
other_test (opt.Content content) other = absurd (false≢true (sym other))
other_test (opt.Pcre text flags relative negated) other = absurd (false≢true (sym other))
other_test (opt.ByteTest fetch negated how value) other = absurd (false≢true (sym other))
other_test (opt.ByteJump fetch times align beginning post) other = absurd (false≢true (sym other))
other_test (opt.ByteExtract fetch name times align) other = absurd (false≢true (sym other))
other_test (opt.IsDataAt at relative negated) other = absurd (false≢true (sym other))
other_test _ other = refl

pub other_stays : (means : Means) (payload values : List ℕ) (option : Opt) → is_payload_option option ≡ false → (p : ℕ) → LeadsFrom means payload values option p p
unfolding Leads
other_stays means payload values (opt.Content content) other p = absurd (false≢true (sym other))
other_stays means payload values (opt.Pcre text flags relative negated) other p = absurd (false≢true (sym other))
other_stays means payload values (opt.ByteTest fetch negated how value) other p = absurd (false≢true (sym other))
other_stays means payload values (opt.ByteJump fetch times align beginning post) other p = absurd (false≢true (sym other))
other_stays means payload values (opt.ByteExtract fetch name times align) other p = absurd (false≢true (sym other))
other_stays means payload values (opt.IsDataAt at relative negated) other p = absurd (false≢true (sym other))
other_stays means payload values _ other p = refl

-- where an option that isn't relative counts from
origin_free : (relative : Bool) (p p' : ℕ) → relative ≡ false → cond relative p 0 ≡ cond relative p' 0
origin_free true p p' free = absurd (false≢true (sym free))
origin_free false p p' free = refl

pub fetched_free : (payload values : List ℕ) (fetch : Fetch) (p p' : ℕ) → fetch.relative ≡ false → fetched payload fetch (point values p) ≡ fetched payload fetch (point values p')
unfolding fetched
fetched_free payload values fetch p p' free = let same = origin_free fetch.relative p p' free in rw same refl

abbrev sought_of : Bool → Bool → ℕ → ℤ → Option ℤ → Sought
sought_of only nocase origin from room =
    cond only (record { nocase = true; from = pos 0; until = None })
    (record { nocase = nocase; from = pos origin +ℤ from; until = option_map (λ (room : ℤ). (pos origin +ℤ from) +ℤ room) room })

sought_parts : (only relative nocase : Bool) (p p' : ℕ) (from : ℤ) (room : Option ℤ)
    → (not only && relative) ≡ false
    → sought_of only nocase (cond relative p 0) from room ≡ sought_of only nocase (cond relative p' 0) from room
sought_parts true relative nocase p p' from room free = refl
sought_parts false true nocase p p' from room free = absurd (false≢true (sym free))
sought_parts false false nocase p p' from room free = refl

pub sought_free : (content : Content) (values : List ℕ) (p p' : ℕ) → (not (is_only content.fast) && content.relative) ≡ false → sought content (point values p) ≡ sought content (point values p')
sought_free content values p p' free = sought_parts (is_only content.fast) content.relative content.nocase p p' (unwrap_or (number_if values content.from) (pos 0)) (number_if values content.room) free

content_free : (negated only : Bool) (A B : ℕ → Type 0) (s t : Point) (far far' : ℕ → Point) → ((i : ℕ) → A i → B i) → ((i : ℕ) → B i → A i) → (negated || only) ≡ true
    → MatchBool negated (((i : ℕ) → ¬ A i) × (s ≡ s)) ((i : ℕ) × A i × (s ≡ cond only s (far i)))
    → MatchBool negated (((i : ℕ) → ¬ B i) × (t ≡ t)) ((i : ℕ) × B i × (t ≡ cond only t (far' i)))
content_free true only A B s t far far' up down test h = (λ i here. h.0 i (down i here), refl)
content_free false true A B s t far far' up down test h = (h.0, up h.0 h.1, refl)
content_free false false A B s t far far' up down test h = absurd (false≢true test)

pattern_free : (finds : List ℕ → Option Span) (relative negated : Bool) (payload values : List ℕ) (p p' : ℕ) (B : Type 0) (C : Type 0) → negated ≡ true → relative ≡ false
    → MatchBool negated ((finds (drop (cond relative p 0) payload) ≡ None) × (point values p ≡ point values p)) B
    → MatchBool negated ((finds (drop (cond relative p' 0) payload) ≡ None) × (point values p' ≡ point values p')) C
pattern_free finds relative false payload values p p' B C test free h = absurd (false≢true test)
pattern_free finds true true payload values p p' B C test free h = absurd (false≢true (sym free))
pattern_free finds false true payload values p p' B C test free h = (h.0, refl)

-- a test that isn't relative holds at each place or at none
pub test_free : (means : Means) (payload values : List ℕ) (option : Opt)
    → is_test option ≡ true
    → is_relative option ≡ false
    → (p p' : ℕ)
    → LeadsFrom means payload values option p p
    → LeadsFrom means payload values option p' p'
unfolding Leads
test_free means payload values (opt.Content content) test free p p' led =
    content_free content.negated (is_only content.fast) (λ i. IsFoundAt content.bytes payload (sought content (point values p)) i)
    (λ i. IsFoundAt content.bytes payload (sought content (point values p')) i)
    (point values p) (point values p') (λ i. at_place (point values p) (i + length content.bytes))
    (λ i. at_place (point values p') (i + length content.bytes))
    (λ i here. subst (λ (how : Sought). IsFoundAt content.bytes payload how i) (sought_free content values p p' free) here)
    (λ i here. subst (λ (how : Sought). IsFoundAt content.bytes payload how i) (sought_free content values p' p free) here)
    test led
test_free means payload values (opt.Pcre text flags relative negated) test free p p' led = pattern_free (means text flags) relative negated payload values p p' _ _ test free led
test_free means payload values (opt.ByteTest fetch negated how value) test free p p' led = (led.0, fetched_free payload values fetch p' p free ∙ led.1, led.2, refl)
test_free means payload values (opt.IsDataAt at relative negated) test free p p' led =
    (subst (λ (o : ℕ). Unless negated ((pos o +ℤ number_of values at) <ℤ pos (length payload))) (origin_free relative p p' free) led.0, refl)
test_free means payload values (opt.ByteJump fetch times align beginning post) test free p p' led = absurd (false≢true test)
test_free means payload values (opt.ByteExtract fetch name times align) test free p p' led = absurd (false≢true test)
test_free means payload values _ test free p p' led = refl

jump_pattern : (finds : List ℕ → Option Span) (relative negated : Bool) (payload values : List ℕ) (p p' q : ℕ) (B : Type 0) (C : Type 0) → negated ≡ false → relative ≡ false
    → MatchBool negated B ((span : Span) × (finds (drop (cond relative p 0) payload) ≡ Some span) × (point values q ≡ at_place (point values p) (cond relative p 0 + span.end)))
    → MatchBool negated C ((span : Span) × (finds (drop (cond relative p' 0) payload) ≡ Some span) × (point values q ≡ at_place (point values p') (cond relative p' 0 + span.end)))
jump_pattern finds relative true payload values p p' q B C plain free h = absurd (false≢true (sym plain))
jump_pattern finds true false payload values p p' q B C plain free h = absurd (false≢true (sym free))
jump_pattern finds false false payload values p p' q B C plain free h = (h.0, h.1, h.2)

-- a jump that isn't relative leads from each place to the same
pub jump_free : (means : Means) (payload values : List ℕ) (option : Opt)
    → IsJump option
    → is_relative option ≡ false
    → (p p' q : ℕ)
    → LeadsFrom means payload values option p q
    → LeadsFrom means payload values option p' q
unfolding Leads
jump_free means payload values (opt.Pcre text flags relative negated) jumps free p p' q led = jump_pattern (means text flags) relative negated payload values p p' q _ _ jumps free led
jump_free means payload values (opt.ByteJump fetch times align beginning post) jumps free p p' q led = (led.0, fetched_free payload values fetch p' p free ∙ led.1, led.2, led.3, led.4)
jump_free means payload values _ jumps free p p' q led = absurd jumps

-- what is neither a test, an extraction nor a content jumps
pub is_jump : (option : Opt) → is_extract option ≡ false → is_test option ≡ false → ((content : Content) → option ≡ opt.Content content → ⊥) → IsJump option
is_jump (opt.Content content) plain moves no_content = absurd (no_content content refl)
is_jump (opt.Pcre text flags relative negated) plain moves no_content = moves
is_jump (opt.ByteJump fetch times align beginning post) plain moves no_content = tt
is_jump (opt.ByteExtract fetch name times align) plain moves no_content = absurd (false≢true (sym plain))
is_jump _ plain moves no_content = absurd (false≢true (sym moves))

-- what jumps is no test
pub jump_moves : (option : Opt) → IsJump option → is_test option ≡ true → ⊥
jump_moves (opt.Pcre text flags relative negated) jumps test = false≢true (sym jumps ∙ test)
jump_moves (opt.ByteJump fetch times align beginning post) jumps test = false≢true test
jump_moves _ jumps test = absurd jumps

-- where a call answers places, these are the places after an option
pub next_of : {P E : Type 0} (finds : P → List ℕ → Option Span) (option : Opt) (made : MadeOption P) (at : AskedPlaces) (every : Bool)
    (answer : Result (SmallVec ℕ) E)
    → OfMadeOne finds option made (λ means. IfOk answer (λ places. LeadsTo means option every at (next.To places)))
    → IfOk answer (λ places. IsRising 0 places.items (length at.payload.now + 1))
    → (is_relative option ≡ false → is_test option ≡ true → ⊥)
    → IfOk answer (λ places. IsNext finds option made at every (next.To places))
next_of finds option made at every (Ok places) found rising moves = record { found = found; rising = rising; apart = λ free test. absurd (moves free test) }
next_of finds option made at every (Err fault) found rising moves = tt
