-- Options that name a rule keep it sound, and so do detection filters.
use Rattle.std.proofs.Common.{◌≡◌, ℕ, ◌<◌, ◌≤◌, Bool, true, Option, Some, None, List, ◌∷◌, length, nat_le, is_some, codes, arith, IfSome, [], ◌==◌, ◌||◌}
use Rattle.std.proofs.lemmas.Bool.Decides.{nat_tests}
use Rattle.net_lists.specs.Cutting.{comma_parts}
use Rattle.net_lists.specs.Stops.{or_kind}
use Rattle.net_lists.proofs.Steps.{Holds, given, refused, tested, unless, weaker, chained, after_any, ranged}
use Rattle.rule_parser.specs.declared.draft.RuleDraft.{RuleDraft}
use Rattle.rule_parser.specs.declared.fault.Fault.TheVariants.{OptionValue}
use Rattle.rule_parser.specs.declared.quoted.Style.TheVariants.{Message}
use Rattle.rule_parser.specs.declared.quoted.QuotedPlace.TheVariants.{Plain}
use Rattle.rule_types.specs.declared.rule.Period.{Period}
use Rattle.rule_parser.specs.Periods.{counted, period_parts, detection_filter_option, after_key}
use Rattle.rule_parser.specs.Quotes.{meaning}
use Rattle.rule_parser.specs.Texts.{once, gid_option, sid_option, rev_option, priority_option, message, msg_option, class_named, classtype_option, quoted_whole}
use Rattle.rule_parser.proofs.Sound.Drafts.{IsKnown, IsSoundDraft}

once-least : (before : Option ℕ) (least : ℕ) (value : List ℕ) → Holds (λ number. least ≤ number) (once before least value)
unfolding once
once-least before least value = chained (ranged _ least 4294967295 value) (λ number within. unless _ _ (λ _. given within.0))

module _ (classes : ℕ) (draft : RuleDraft) (sound : IsSoundDraft classes draft) where
  pub gid-sound : (value : List ℕ) → Holds (IsSoundDraft classes) (gid_option draft value)
  unfolding gid_option
  gid-sound value = chained (once-least draft.gid 1 value) (λ gid least. given (search (least, sound)))

  pub sid-sound : (value : List ℕ) → Holds (IsSoundDraft classes) (sid_option draft value)
  unfolding sid_option
  sid-sound value = chained (once-least draft.sid 1 value) (λ sid least. given (search (least, sound)))

  pub rev-sound : (value : List ℕ) → Holds (IsSoundDraft classes) (rev_option draft value)
  unfolding rev_option
  rev-sound value = after_any (once draft.rev 0 value) (λ rev. given (search sound))

  pub priority-sound : (value : List ℕ) → Holds (IsSoundDraft classes) (priority_option draft value)
  unfolding priority_option
  priority-sound value = after_any (once draft.priority 0 value) (λ priority. given (search sound))

  message-short : (is_given : Bool) (value : List ℕ) → Holds (λ msg. length msg ≤ 1024) (message is_given value)
  unfolding message
  message-short is_given value =
      after_any (quoted_whole value) (λ inside.
      after_any (or_kind OptionValue (meaning Message Plain inside)) (λ msg.
      unless is_given _ (λ _.
      tested (nat_le (length msg) 1024) (λ short. given (fits (length msg) short)) (λ _. refused))))
    where
      fits : (len : ℕ) → nat_le len 1024 ≡ true → len ≤ 1024
      fits len short = grind (arith, nat_tests)

  pub msg-sound : (value : List ℕ) → Holds (IsSoundDraft classes) (msg_option draft value)
  unfolding msg_option
  msg-sound value = chained (message-short (is_some draft.msg) value) (λ msg short. given (search (short, sound)))

  pub classtype-sound : (find : List ℕ → Option ℕ)
      → ((name : List ℕ) → IfSome (find name) (λ place. place < classes))
      → (value : List ℕ)
      → Holds (IsSoundDraft classes) (classtype_option find draft value)
  unfolding classtype_option
  classtype-sound find found value = unless (length value == 0 || is_some draft.class) _ (λ _. let there = known (find value) (found value) in given (search (there, sound)))
    where
      known : (o : Option ℕ) → IfSome o (λ place. place < classes) → IsKnown classes (class_named o)
      known None h = tt
      known (Some place) h = h

  -- both numbers of a detection filter are at least 1
  abbrev IsPeriod : Period → Type 0
  IsPeriod period = (1 ≤ period.count) × (1 ≤ period.seconds)

  counted-least : (key part : List ℕ) → Holds (λ number. 1 ≤ number) (counted key part)
  unfolding counted
  counted-least key part = after_any (after_key key part) (λ number. weaker (ranged _ 1 4294967295 number) (λ _ within. within.0))

  period_parts-least : (parts : List (List ℕ)) → Holds IsPeriod (period_parts parts)
  unfolding period_parts
  period_parts-least [] = refused
  period_parts-least (first ∷ []) = refused
  period_parts-least (first ∷ second ∷ []) = refused
  period_parts-least (first ∷ second ∷ third ∷ []) =
      after_any (after_key (codes "track") first) (λ side.
      after_any _ (λ by_src.
      chained (counted-least (codes "count") second) (λ count least.
      chained (counted-least (codes "seconds") third) (λ seconds least_seconds. given (least, least_seconds)))))
  period_parts-least (first ∷ second ∷ third ∷ fourth ∷ more) = refused

  pub detection_filter-sound : (value : List ℕ) → Holds (IsSoundDraft classes) (detection_filter_option draft value)
  unfolding detection_filter_option
  detection_filter-sound value = chained (period_parts-least (comma_parts value)) (λ period least. unless (is_some draft.period) _ (λ _. given (search (least, sound))))
