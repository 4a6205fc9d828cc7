-- Where an option leads from one place.
use Rattle.std.proofs.Common.{◌≡◌, ℕ, ◌+◌, ℤ, pos, ◌+ℤ◌, ◌<ℤ◌, Bool, true, false, not, ◌||◌, cond, List, length, drop, Option}
use Rattle.std.proofs.Common.{Some, None, is_some, IsTrue, MatchBool, refl, sym, ap, subst, ◌∙◌, option_map}
use Rattle.std.proofs.lemmas.Bool.{false≢true}
use Rattle.edge_io.specs.declared.pattern.PatternFlags.{PatternFlags}
use Rattle.edge_io.specs.declared.pattern.Span.{Span}
use Rattle.rule_types.specs.declared.option.Cmp.{Cmp}
use Rattle.rule_types.specs.declared.option.Content.{Content}
use Rattle.rule_types.specs.declared.option.Fetch.{Fetch}
use Rattle.rule_types.specs.declared.option.Num.{Num}
use Rattle.rule_types.specs.declared.option.Opt.{Opt}
use Rattle.rule_types.specs.declared.option.Opt.TheVariants as opt
use Rattle.option_eval.specs.Kinds.{is_test}
use Rattle.option_eval.specs.RuleSet.{IsMade}
use Rattle.option_eval.specs.Numbers.{Point, Fetched, fetched, number_of}
use Rattle.option_eval.specs.Places.{Means, Leads, Compares, Unless, byte_jump_len, is_only, at_place, IsFoundAt, sought}
use Rattle.option_eval.specs.Sets.{LeadsFrom, LeadsOnlyTo, PlaceIn, IsFoundFrom, point}

-- a fact or its opposite
unless_same : (negated holds answer : Bool) (P : Type 0)
    → answer ≡ cond negated (not holds) holds
    → (IsTrue holds → P) × (P → IsTrue holds)
    → (IsTrue answer → Unless negated P) × (Unless negated P → IsTrue answer)
unless_same true true answer P is h = (λ yes. absurd (false≢true (sym is ∙ yes)), λ none. absurd (none (h.0 refl)))
unless_same true false answer P is h = (λ yes. λ p. false≢true (h.1 p), λ none. is)
unless_same false holds answer P is h = (λ yes. h.0 (sym is ∙ yes), λ p. is ∙ h.1 p)

module _ (means : Means) (payload values : List ℕ) (place : ℕ) where
  module _ (fetch : Fetch) (negated : Bool) (how : Cmp) (value : Num) where
    pub byte_test_none : (q : ℕ) → None ≡ fetched payload fetch (point values place) → ¬ LeadsFrom means payload values (opt.ByteTest fetch negated how value) place q
    unfolding Leads
    byte_test_none q none h = let e = h.1 in cc

    pub byte_test_some : (read : Fetched) (holds answer : Bool)
        → Some read ≡ fetched payload fetch (point values place)
        → answer ≡ cond negated (not holds) holds
        → (IsTrue holds → Compares how read.number (number_of values value)) ×
        (Compares how read.number (number_of values value) → IsTrue holds)
        → (IsTrue answer → LeadsFrom means payload values (opt.ByteTest fetch negated how value) place place) ×
        (LeadsFrom means payload values (opt.ByteTest fetch negated how value) place place → IsTrue answer)
    unfolding Leads
    byte_test_some read holds answer some is h =
        let both = unless_same negated holds answer (Compares how read.number (number_of values value)) is h in (
          λ yes. (read, sym some, both.0 yes, refl),
          λ led.
              let e = led.1 in
              let same : led.0 ≡ read = cc in
              both.1 (subst (λ (r : Fetched). Unless negated (Compares how r.number (number_of values value))) same led.2),
        )

  pub isdataat : (at : Num) (relative negated holds answer : Bool)
      → answer ≡ cond negated (not holds) holds
      → (IsTrue holds → (pos (cond relative place 0) +ℤ number_of values at) <ℤ pos (length payload)) ×
      ((pos (cond relative place 0) +ℤ number_of values at) <ℤ pos (length payload) → IsTrue holds)
      → (IsTrue answer → LeadsFrom means payload values (opt.IsDataAt at relative negated) place place) ×
      (LeadsFrom means payload values (opt.IsDataAt at relative negated) place place → IsTrue answer)
  unfolding Leads
  isdataat at relative negated holds answer is h =
      let both = unless_same negated holds answer ((pos (cond relative place 0) +ℤ number_of values at) <ℤ pos (length payload)) is h in
      (λ yes. (both.0 yes, refl), λ led. both.1 led.0)

  module _ (content : Content) where
    -- a content that is negated, or sought by the fast pattern alone
    abbrev Stays : Bool → Bool → Type 0
    Stays negated only = MatchBool negated
        (((i : ℕ) → ¬ IsFoundAt content.bytes payload (sought content (point values place)) i) ×
        (point values place ≡ point values place))
        ((i : ℕ) × IsFoundAt content.bytes payload (sought content (point values place)) i ×
        (point values place ≡ cond only (point values place) (at_place (point values place) (i + length content.bytes))))

    stays : (negated only holds answer : Bool) → (negated || only) ≡ true → answer ≡ cond negated (not holds) holds
        → (IsTrue holds → IsFoundFrom payload content values place) × (IsFoundFrom payload content values place → IsTrue holds)
        → (IsTrue answer → Stays negated only) × (Stays negated only → IsTrue answer)
    stays true only true answer test is h = (λ yes. absurd (false≢true (sym is ∙ yes)), λ led. let s = h.0 refl in absurd (led.0 s.0 s.1))
    stays true only false answer test is h = (λ yes. (λ i here. false≢true (h.1 (i, here)), refl), λ led. is)
    stays false true holds answer test is h = (λ yes. let s = h.0 (sym is ∙ yes) in (s.0, s.1, refl), λ led. is ∙ h.1 (led.0, led.1))
    stays false false holds answer test is h = absurd (false≢true test)

    pub content_stays : (holds answer : Bool) → (content.negated || is_only content.fast) ≡ true → answer ≡ cond content.negated (not holds) holds
        → (IsTrue holds → IsFoundFrom payload content values place) × (IsFoundFrom payload content values place → IsTrue holds)
        → (IsTrue answer → LeadsFrom means payload values (opt.Content content) place place) × (LeadsFrom means payload values (opt.Content content) place place → IsTrue answer)
    unfolding Leads
    content_stays holds answer test is h = stays content.negated (is_only content.fast) holds answer test is h

  module _ (fetch : Fetch) (times : ℕ) (align beginning : Bool) (post : ℤ) where
    pub byte_jump_none : None ≡ fetched payload fetch (point values place) → LeadsOnlyTo (LeadsFrom means payload values (opt.ByteJump fetch times align beginning post) place) None
    unfolding Leads
    byte_jump_none none q h = let e = h.1 in cc

    pub byte_jump_some : (read : Fetched) (r : Option ℕ) → Some read ≡ fetched payload fetch (point values place)
        → PlaceIn (pos ((cond beginning 0 read.stop) + byte_jump_len times align read.number) +ℤ post) (length payload) r
        → LeadsOnlyTo (LeadsFrom means payload values (opt.ByteJump fetch times align beginning post) place) r
    unfolding Leads
    byte_jump_some read None some outside = λ q h.
        let e = h.1 in
        let same : h.0 ≡ read = cc in
        outside q h.3 (subst (λ (r : Fetched). pos q ≡ (pos ((cond beginning 0 r.stop) + byte_jump_len times align r.number) +ℤ post)) same h.4)
    byte_jump_some read (Some place') some inside = (
      (read, sym some, refl, inside.0, inside.1),
      λ q h.
          let e = h.1 in
          let same : h.0 ≡ read = cc in
          let there = subst (λ (r : Fetched). pos q ≡ (pos ((cond beginning 0 r.stop) + byte_jump_len times align r.number) +ℤ post)) same h.4 in
          let both : pos q ≡ pos place' = there ∙ sym inside.1 in
          cc,
    )

  module _ (text : List ℕ) (flags : PatternFlags) (relative : Bool) where
    -- a negated pattern holds where nothing is found
    pub pcre_absent : (found : Option Span) (answer : Bool)
        → found ≡ means text flags (drop (cond relative place 0) payload)
        → is_some found ≡ not answer
        → (IsTrue answer → LeadsFrom means payload values (opt.Pcre text flags relative true) place place) ×
        (LeadsFrom means payload values (opt.Pcre text flags relative true) place place → IsTrue answer)
    unfolding Leads
    pcre_absent None true is none = (λ yes. (sym is, refl), λ led. refl)
    pcre_absent None false is none = absurd (false≢true none)
    pcre_absent (Some span) true is none = absurd (false≢true (sym none))
    pcre_absent (Some span) false is none = (λ yes. absurd (false≢true yes), λ led. let e = led.0 in absurd (cc))

    -- a pattern leads to the end of what it finds
    pub pcre_only : (found : Option Span) → found ≡ means text flags (drop (cond relative place 0) payload)
        → LeadsOnlyTo (LeadsFrom means payload values (opt.Pcre text flags relative false) place) (option_map (λ span. cond relative place 0 + span.end) found)
    unfolding Leads
    pcre_only None is = λ q led. let e = led.1 in cc
    pcre_only (Some span) is = (
      (span, sym is, refl),
      λ q led.
          let e = led.1 in
          let same : led.0 ≡ span = cc in
          ap (λ (s : Point). s.place) led.2 ∙ ap (λ (s : Span). cond relative place 0 + s.end) same,
    )

-- an option of another kind leads to the place before it
pub stays_otherwise : (means : Means) (payload : List ℕ) (option : Opt) (before : Point) → is_test option ≡ true
    → ((content : Content) → option ≡ opt.Content content → ⊥)
    → ((text : List ℕ) (flags : PatternFlags) (relative negated : Bool) → option ≡ opt.Pcre text flags relative negated → ⊥)
    → ((fetch : Fetch) (negated : Bool) (how : Cmp) (value : Num) → option ≡ opt.ByteTest fetch negated how value → ⊥)
    → ((at : Num) (relative negated : Bool) → option ≡ opt.IsDataAt at relative negated → ⊥)
    → Leads means payload option before before
unfolding Leads
stays_otherwise means payload (opt.Content content) before test no_content no_pattern no_test no_data = absurd (no_content content refl)
stays_otherwise means payload (opt.Pcre text flags relative negated) before test no_content no_pattern no_test no_data = absurd (no_pattern text flags relative negated refl)
stays_otherwise means payload (opt.ByteTest fetch negated how value) before test no_content no_pattern no_test no_data = absurd (no_test fetch negated how value refl)
stays_otherwise means payload (opt.IsDataAt at relative negated) before test no_content no_pattern no_test no_data = absurd (no_data at relative negated refl)
stays_otherwise means payload (opt.ByteJump fetch times align beginning post) before test no_content no_pattern no_test no_data = absurd (false≢true test)
stays_otherwise means payload (opt.ByteExtract fetch name times align) before test no_content no_pattern no_test no_data = absurd (false≢true test)
stays_otherwise means payload _ before test no_content no_pattern no_test no_data = refl

-- what is made of a pattern doesn't depend on whether it is negated
pub made_either : {P : Type 0} (finds : P → List ℕ → Option Span) (means : Means) (text : List ℕ) (flags : PatternFlags) (relative negated wanted : Bool) (pattern : Option P)
    → IsMade finds means (opt.Pcre text flags relative negated) pattern → IsMade finds means (opt.Pcre text flags relative wanted) pattern
made_either finds means text flags relative negated wanted None h = h
made_either finds means text flags relative negated wanted (Some pattern) h = h
