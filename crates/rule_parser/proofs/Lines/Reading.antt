-- What is known of a rule that is read.
use Rattle.std.proofs.Common.{◌≡◌, ℕ, ◌+◌, ◌≤◌, Option, Some, None, Result, Ok, Err, List, length, refl, sym, subst, inl, inr}
use Rattle.std.specs.Prelude.{IfSome}
use Rattle.conf_types.specs.declared.classes.Class.{Class}
use Rattle.net_lists.specs.declared.part.AddrBounds.{AddrBounds}
use Rattle.net_lists.specs.declared.part.ValueBounds.{ValueBounds}
use Rattle.net_lists.specs.declared.part.Part.{Part}
use Rattle.net_lists.specs.Variables.{Variables}
use Rattle.net_lists.specs.declared.stop.Stop.{Stop}
use Rattle.net_lists.specs.declared.stop.Stop.TheVariants.{NoMemory, Wrong}
use Rattle.rule_parser.specs.declared.draft.ClassName.{ClassName}
use Rattle.rule_parser.specs.declared.draft.ClassName.TheVariants as class
use Rattle.rule_parser.specs.declared.draft.RuleDraft.{RuleDraft}
use Rattle.rule_parser.specs.declared.fault.Fault.{Fault}
use Rattle.rule_parser.specs.declared.header.Header.{Header}
use Rattle.rule_types.specs.declared.rule.Rule.{Rule}
use Rattle.rule_parser.specs.Bits.{GivesWith, IsGivenWith}
use Rattle.rule_parser.specs.Drafts.{empty_draft}
use Rattle.rule_parser.specs.Faults.{stop_fault}
use Rattle.rule_parser.specs.Headers.{IsAddressWord, IsGiven, IsHeader, IsPortWord, after_header, from_word}
use Rattle.rule_parser.specs.RuleLine.{IsClassOf, rule_options, rule_body, IsRuleLine, IsAnswered}
use Rattle.rule_types.specs.Sound.{IsSound}
use Rattle.rule_parser.specs.Written.{outside, option_texts}
use Rattle.rule_parser.proofs.Sound.Drafts.{IsKnown, empty-sound}
use Rattle.rule_parser.proofs.Sound.Options.{AreShort, rule_options-sound, rule_body-sound}

-- a class that is known is one of the classes
known-there : (count : ℕ) (class : Option ClassName) → IfSome class (IsKnown count) → IsClassOf count class
known-there count None is = tt
known-there count (Some (class.Known place)) is = is
known-there count (Some class.Unknown) is = tt

-- the class that the options of a rule name is one of the classes
pub options-class : (classes : List Class) (names later : List (List ℕ)) (draft : RuleDraft) (inside : List ℕ) → length names ≤ 1024
    → rule_options classes names empty_draft (length inside + 1) (option_texts outside inside) ≡ Ok (draft, later)
    → IsClassOf (length classes) draft.class
options-class classes names later draft inside few read =
    let sound = rule_options-sound classes (option_texts outside inside) names empty_draft (length inside + 1) few (empty-sound (length classes)) in
    known-there (length classes) draft.class (rw read at sound.holds).0.class

-- after a header that is right, and at one that is wrong
pub line-body : (variables : Variables) (classes : List Class) (names later : List (List ℕ)) (line : List ℕ) (header : Header) (answer : Result Rule (Stop Fault))
    → IsHeader variables line (Ok header) → GivesWith answer later (rule_body classes names header (after_header line))
    → IsGivenWith answer later (IsRuleLine variables classes names line)
unfolding IsRuleLine
line-body variables classes names later line header (Ok rule) is gives = inl (header, is, sym gives)
line-body variables classes names later line header (Err NoMemory) is gives = tt
line-body variables classes names later line header (Err (Wrong why)) is gives = inl (header, is, sym gives)

pub line-header : (variables : Variables) (classes : List Class) (names later : List (List ℕ)) (line : List ℕ) (stop : Stop Fault)
    → IsGiven {X = Header} (Err stop) (IsHeader variables line)
    → IsGivenWith {X = Rule} (Err stop) later (IsRuleLine variables classes names line)
unfolding IsRuleLine
line-header variables classes names later line NoMemory is = tt
line-header variables classes names later line (Wrong why) is = inr (why, is, refl)

-- the fault that a reader shows is that of what stopped it
pub line-stopped : (variables : Variables) (classes : List Class) (names later : List (List ℕ)) (line : List ℕ) (stop : Stop Fault)
    → IsGivenWith {X = Rule} (Err stop) later (IsRuleLine variables classes names line)
    → IsAnswered (length line) (Err (stop_fault (length line) stop)) names (IsRuleLine variables classes names line)
line-stopped variables classes names later line NoMemory is = inl refl
line-stopped variables classes names later line (Wrong why) is = inr (why, is, refl)

-- ---- the lists of a header

ok_same : (x y : Header) (answer : Result Header Fault) → answer ≡ Ok x → answer ≡ Ok y → x ≡ y
ok_same x y answer first second = cc

-- a word that is read as a list has at most 1024 parts
address-short : (variables : Variables) (text : List ℕ) (parts : List (Part AddrBounds)) → IsAddressWord variables text (Ok parts) → length parts ≤ 1024
unfolding IsAddressWord
address-short variables text parts (inl (word, whole, read)) = read.1
address-short variables text parts (inr (why, is, never)) = cc

port-short : (variables : Variables) (text : List ℕ) (parts : List (Part (ValueBounds ℕ))) → IsPortWord variables text (Ok parts) → length parts ≤ 1024
unfolding IsPortWord
port-short variables text parts (inl (word, whole, read)) = read.1
port-short variables text parts (inr (why, is, never)) = cc

-- the lists of a header that is read have 1024 parts at most
header-short : (variables : Variables) (line : List ℕ) (header : Header) → IsHeader variables line (Ok header) → AreShort header
unfolding IsHeader
header-short variables line header (inl (action, a, inl (proto, b, inl (src, c, inl (sports, d, inl (both, e, inl (dst, f, inl (dports, g, made)))))))) =
    let read : Header = record { action = action; proto = proto; src = src; sports = sports; dst = dst; dports = dports; both = both } in
    let short : AreShort read = record {
      src = address-short variables (from_word 2 line) src c;
      sports = port-short variables (from_word 3 line) sports d;
      dst = address-short variables (from_word 5 line) dst f;
      dports = port-short variables (from_word 6 line) dports g;
    } in
    subst AreShort (sym (ok_same header read (Ok header) refl made)) short
header-short variables line header (inr (why, is, never)) = cc
header-short variables line header (inl (action, a, inr (why, is, never))) = cc
header-short variables line header (inl (action, a, inl (proto, b, inr (why, is, never)))) = cc
header-short variables line header (inl (action, a, inl (proto, b, inl (src, c, inr (why, is, never))))) = cc
header-short variables line header (inl (action, a, inl (proto, b, inl (src, c, inl (sports, d, inr (why, is, never)))))) = cc
header-short variables line header (inl (action, a, inl (proto, b, inl (src, c, inl (sports, d, inl (both, e, inr (why, is, never))))))) = cc
header-short variables line header (inl (action, a, inl (proto, b, inl (src, c, inl (sports, d, inl (both, e, inl (dst, f, inr (why, is, never)))))))) = cc

-- a rule that is read is sound
pub line-sound : (variables : Variables) (classes : List Class) (names later : List (List ℕ)) (line : List ℕ) (rule : Rule) → length names ≤ 1024
    → IsRuleLine variables classes names line (Ok (rule, later)) → IsSound classes rule
unfolding IsRuleLine
line-sound variables classes names later line rule few (inl (header, is, read)) =
    let sound = rule_body-sound classes names header (after_header line) (header-short variables line header is) few in
    (rw (sym read) at sound.holds).0
line-sound variables classes names later line rule few (inr (why, is, never)) = cc
