-- Each option keeps a rule sound, and so a rule whose options are read is sound.
use Rattle.std.proofs.Common.{◌≡◌, ℕ, ◌+◌, ◌-◌, ◌<◌, ◌≤◌, Bool, true, false, cond, Option, Some, None, List, ◌∷◌, length, bytes_eq, refl, arith, IfSome, count_by, []}
use Rattle.std.specs.List.{list_all}
use Rattle.std.specs.Option.{unwrap_or}
use Rattle.std.proofs.lemmas.List.Quantifiers.{position-Some}
use Rattle.edge_io.specs.Bytes.{is_blank}
use Rattle.net_lists.specs.Stops.{or_kind}
use Rattle.net_lists.proofs.Steps.{Holds, given, refused, tested, kinded, chained, after_any}
use Rattle.conf_types.specs.declared.classes.Class.{Class}
use Rattle.rule_parser.specs.declared.draft.ClassName.{ClassName}
use Rattle.rule_parser.specs.declared.draft.ClassName.TheVariants as class
use Rattle.rule_parser.specs.declared.draft.RuleDraft.{RuleDraft}
use Rattle.rule_parser.specs.declared.fault.Fault.TheVariants.{OptionSyntax, OptionValue}
use Rattle.rule_parser.specs.declared.header.Header.{Header}
use Rattle.rule_parser.specs.declared.names.Modifier.{Modifier}
use Rattle.rule_parser.specs.declared.names.Modifier.TheVariants as modifier
use Rattle.rule_parser.specs.declared.names.Name.{Name}
use Rattle.rule_parser.specs.declared.names.Name.TheVariants as name
use Rattle.rule_parser.specs.declared.names.PayloadName.{PayloadName}
use Rattle.rule_parser.specs.declared.names.PayloadName.TheVariants as payload
use Rattle.rule_parser.specs.declared.names.SessionName.{SessionName}
use Rattle.rule_parser.specs.declared.names.SessionName.TheVariants as session
use Rattle.rule_parser.specs.declared.names.TextName.{TextName}
use Rattle.rule_parser.specs.declared.names.TextName.TheVariants as text
use Rattle.rule_parser.specs.Drafts.{empty_draft, settled}
use Rattle.rule_parser.specs.RuleLine.{rule_options, class_of, finished, rule_body, in_parentheses}
use Rattle.conf_types.specs.Classes.{class_place}
use Rattle.rule_parser.specs.RuleOption.{text_option, modifier_option, payload_option, session_option, named_option, rule_option, option_name, no_name}
use Rattle.rule_types.specs.Sound.{IsSound, is_fast}
use Rattle.rule_parser.specs.Written.{written, outside, option_texts}
use Rattle.rule_parser.proofs.Sound.Bytes.{byte_test-sound, byte_jump-sound, byte_extract-sound, isdataat-sound}
use Rattle.rule_parser.proofs.Sound.Contents.{content-sound, nocase-sound, rawbytes-sound, from-sound, room-sound, fast_pattern-sound}
use Rattle.rule_parser.proofs.Sound.Drafts.{IsKnown, IsSoundDraft, fast_held, count_held, empty-sound, settled-options, settled-length, settled-fast}
use Rattle.rule_parser.proofs.Sound.Fields.{field-sound, dsize-sound, sameip-sound}
use Rattle.rule_parser.proofs.Sound.Flags.{IsSoundBeside, beside-sound, flow-sound, flags-sound, fragbits-sound, flowbits-sound, stream_size-sound, stream_reassemble-sound}
use Rattle.rule_parser.proofs.Sound.Patterns.{pcre-sound}
use Rattle.rule_parser.proofs.Sound.Texts.{gid-sound, sid-sound, rev-sound, priority-sound, msg-sound, classtype-sound, detection_filter-sound}

-- a class that is found is there
class_place-there : (classes : List Class) (name : List ℕ) → IfSome (class_place classes name) (λ place. place < length classes)
class_place-there [] name = tt
class_place-there (first ∷ rest) name = go (class_place (first ∷ rest) name) refl
  where
    go : (o : Option ℕ) → class_place (first ∷ rest) name ≡ o → IfSome o (λ place. place < length (first ∷ rest))
    go None e = tt
    go (Some place) e = (position-Some (λ class. bytes_eq class.name name) (first ∷ rest) place first e).0

module _ (classes : List Class) (draft : RuleDraft) (sound : IsSoundDraft (length classes) draft) where
  text-sound : (n : TextName) (value : Option (List ℕ)) → Holds (IsSoundDraft (length classes)) (text_option classes draft n value)
  unfolding text_option
  text-sound text.Msg value = after_any (or_kind OptionValue value) (msg-sound (length classes) draft sound)
  text-sound text.Gid value = after_any (or_kind OptionValue value) (gid-sound (length classes) draft sound)
  text-sound text.Sid value = after_any (or_kind OptionValue value) (sid-sound (length classes) draft sound)
  text-sound text.Rev value = after_any (or_kind OptionValue value) (rev-sound (length classes) draft sound)
  text-sound text.Priority value = after_any (or_kind OptionValue value) (priority-sound (length classes) draft sound)
  text-sound text.Classtype value =
      after_any (or_kind OptionValue value) (classtype-sound (length classes) draft sound (class_place classes) (class_place-there classes))
  text-sound text.Ignored value = given sound

  modifier-sound : (n : Modifier) (left : ℕ) (value : Option (List ℕ)) → Holds (IsSoundDraft (length classes)) (modifier_option draft n left value)
  unfolding modifier_option
  modifier-sound modifier.Nocase left value = nocase-sound (length classes) draft sound value
  modifier-sound modifier.Rawbytes left value = rawbytes-sound (length classes) draft sound value
  modifier-sound modifier.Offset left value = from-sound (length classes) modifier.Offset draft sound left value
  modifier-sound modifier.Depth left value = room-sound (length classes) modifier.Depth draft sound left value
  modifier-sound modifier.Distance left value = from-sound (length classes) modifier.Distance draft sound left value
  modifier-sound modifier.Within left value = room-sound (length classes) modifier.Within draft sound left value
  modifier-sound modifier.FastPattern left value = fast_pattern-sound (length classes) draft sound value

  payload-sound : (n : PayloadName) (left : ℕ) (value : List ℕ) → Holds (IsSoundDraft (length classes)) (payload_option draft n left value)
  unfolding payload_option
  payload-sound payload.Content left value = content-sound (length classes) draft sound value
  payload-sound payload.Pcre left value = pcre-sound (length classes) draft sound value
  payload-sound payload.ByteTest left value = byte_test-sound (length classes) draft sound left value
  payload-sound payload.ByteJump left value = byte_jump-sound (length classes) draft sound left value
  payload-sound payload.ByteExtract left value = byte_extract-sound (length classes) draft sound left value
  payload-sound payload.IsDataAt left value = isdataat-sound (length classes) draft sound left value

  session-sound : (n : SessionName) (value : Option (List ℕ)) → Holds (IsSoundDraft (length classes)) (session_option draft n value)
  unfolding session_option
  session-sound session.Flow value = after_any (or_kind OptionValue value) (flow-sound (length classes) draft sound)
  session-sound session.Flags value = after_any (or_kind OptionValue value) (flags-sound (length classes) draft sound)
  session-sound session.FragBits value = after_any (or_kind OptionValue value) (fragbits-sound (length classes) draft sound)
  session-sound session.DetectionFilter value = after_any (or_kind OptionValue value) (detection_filter-sound (length classes) draft sound)
  session-sound session.Dsize value = after_any (or_kind OptionValue value) (dsize-sound (length classes) draft sound)
  session-sound session.SameIp value = sameip-sound (length classes) draft sound value
  session-sound session.StreamSize value = after_any (or_kind OptionValue value) (stream_size-sound (length classes) draft sound)
  session-sound session.StreamReassemble value = after_any (or_kind OptionValue value) (stream_reassemble-sound (length classes) draft sound)

  named-sound : (names : List (List ℕ)) → length names ≤ 1024 → (left : ℕ) (value : Option (List ℕ)) (n : Name) → Holds (IsSoundBeside (length classes)) (named_option classes names draft left value n)
  named-sound names few left value (name.Text n) = beside-sound names few (text-sound n value)
  named-sound names few left value (name.Modifier n) = beside-sound names few (modifier-sound n left value)
  named-sound names few left value (name.Payload n) = beside-sound names few (after_any (or_kind OptionValue value) (payload-sound n left))
  named-sound names few left value (name.Session n) = beside-sound names few (session-sound n value)
  named-sound names few left value (name.Field n) = beside-sound names few (after_any (or_kind OptionValue value) (field-sound (length classes) n draft sound))
  named-sound names few left value name.Flowbits = after_any (or_kind OptionValue value) (flowbits-sound (length classes) names draft few sound)

  -- an option keeps what is read sound, beside at most 1024 flowbit names
  pub rule_option-sound : (names : List (List ℕ)) → length names ≤ 1024 → (left : ℕ) (text : List ℕ) → Holds (IsSoundBeside (length classes)) (rule_option classes names draft left text)
  unfolding rule_option
  rule_option-sound names few left text = let option = written left text in after_any (or_kind (no_name option.name) (option_name option.name)) (named-sound names few option.left option.value)

-- all options keep what is read sound, beside at most 1024 flowbit names
pub rule_options-sound : (classes : List Class) (texts : List (List ℕ)) (names : List (List ℕ)) (draft : RuleDraft) (left : ℕ)
    → length names ≤ 1024
    → IsSoundDraft (length classes) draft
    → Holds (IsSoundBeside (length classes)) (rule_options classes names draft left texts)
unfolding rule_options
rule_options-sound classes [] names draft left few sound = given (sound, few)
rule_options-sound classes (text ∷ []) names draft left few sound = tested (list_all is_blank text) (λ _. given (sound, few)) (λ _. refused)
rule_options-sound classes (text ∷ next ∷ more) names draft left few sound =
    chained (rule_option-sound classes draft sound names few left text)
    (λ after h. rule_options-sound classes (next ∷ more) after.1 after.0 (left - (length text + 1)) h.1 h.0)

-- the lists of a header have at most 1024 parts each
pub record AreShort (header : Header) : Type 0 where
  pub src : length header.src ≤ 1024
  pub sports : length header.sports ≤ 1024
  pub dst : length header.dst ≤ 1024
  pub dports : length header.dports ≤ 1024

-- a rule whose options are read is sound
pub finished-sound : (classes : List Class) (header : Header) (draft : RuleDraft) → AreShort header → IsSoundDraft (length classes) draft → Holds (IsSound classes) (finished classes header draft)
unfolding finished settled class_of
finished-sound classes header draft short_lists sound =
    chained (kinded _ draft.sid sound.sid) (λ sid least.
    chained (known draft.class sound.class) (λ place there.
    given (record {
      class = there;
      triable = record {
        lists = record { src = short_lists.src; sports = short_lists.sports; dst = short_lists.dst; dports = short_lists.dports };
        options = settled-options draft.opts draft.held sound.kept.options sound.kept.held;
        count = fits (length (settled draft)) (length draft.opts) (count_held draft.held) (settled-length draft.opts draft.held sound.kept.held) sound.kept.count;
        fast = one (count_by is_fast (settled draft)) (count_by is_fast draft.opts) (fast_held draft.held) draft.fast (settled-fast draft.opts draft.held) sound.kept.chosen;
        msg = short draft.msg sound.msg;
        numbers = (first draft.gid sound.gid, least);
        period = sound.period;
      };
    })))
  where
    known : (o : Option ClassName) → IfSome o (IsKnown (length classes)) → Holds (λ place. IfSome place (λ place. place < length classes)) (class_of o)
    known None h = given tt
    known (Some (class.Known place)) h = given h
    known (Some class.Unknown) h = refused

    fits : (all kept held : ℕ) → all ≡ kept + held → kept + held ≤ 64 → all ≤ 64
    fits all kept held e h = omega arith

    one : (all kept held : ℕ) (is_given : Bool) → all ≡ kept + held → kept + held ≤ cond is_given 1 0 → all ≤ 1
    one all kept held true e h = omega arith
    one all kept held false e h = omega arith

    short : (o : Option (List ℕ)) → IfSome o (λ msg. length msg ≤ 1024) → length (unwrap_or o []) ≤ 1024
    short None h = omega arith
    short (Some msg) h = h

    first : (o : Option ℕ) → IfSome o (λ gid. 1 ≤ gid) → 1 ≤ unwrap_or o 1
    first None h = omega arith
    first (Some gid) h = h

-- what comes after a header with short lists gives a sound rule, beside at most 1024 flowbit names
pub rule_body-sound : (classes : List Class) (names : List (List ℕ)) (header : Header) (body : List ℕ)
    → AreShort header
    → length names ≤ 1024
    → Holds (λ found. IsSound classes found.0 × (length found.1 ≤ 1024)) (rule_body classes names header body)
unfolding rule_body
rule_body-sound classes names header body short_lists few =
    after_any (or_kind OptionSyntax (in_parentheses body)) (λ inside.
    chained (rule_options-sound classes (option_texts outside inside) names empty_draft (length inside + 1) few (empty-sound (length classes))) (λ after h.
    chained (finished-sound classes header after.0 short_lists h.0) (λ rule is_sound. given (is_sound, h.1))))
