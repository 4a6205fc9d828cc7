-- What one rule line says: a rule and the flowbit names after it, or the leftmost fault.
--
-- A rule is `header (options)` (Snort Users Manual 2.9, sections 3.1 to 3.3). The header is looked at first,
-- then the parentheses: `(` comes after the header and `)` is the last byte of the line. Then the options are taken
-- one after another, a fold of `rule_option`. After the last one a rule without `sid` is refused, and then
-- one whose class there is not.
-- To try it on: `alert udp any any -> any any (msg:"t"; content:"abc"; sid:1;)` is a rule with one content;
-- without its `sid` it lacks that, and without its last byte it has a fault of syntax.
use Rattle.std.specs.Prelude.{◌≡◌, ◌≢◌, ◌⊎◌, ℕ, ⊤, ◌<◌, ◌+◌, ◌-◌, ◌==◌, ◌&&◌, Option, Some, None, Result, Ok, Err, List, [], ◌∷◌, length, take, drop, slice_get, slice_index, unwrap_or, nat_le, if◌then◌else◌}
use Rattle.std.specs.List.{list_all}
use Rattle.std.specs.Option.{option_map}
use Rattle.edge_io.specs.Bytes.{is_blank}
use Rattle.edge_io.specs.OnResult.{◌>>=◌}
use Rattle.net_lists.specs.Stops.{or_kind}
use Rattle.net_lists.specs.Variables.{Variables}
use Rattle.conf_types.specs.declared.classes.Class.{Class}
use Rattle.rule_parser.specs.declared.draft.ClassName.{ClassName}
use Rattle.rule_parser.specs.declared.draft.ClassName.TheVariants as class
use Rattle.rule_parser.specs.declared.draft.RuleDraft.{RuleDraft}
use Rattle.rule_parser.specs.declared.fault.Fault.{Fault}
use Rattle.rule_parser.specs.declared.fault.Fault.TheVariants.{OptionSyntax, MissingSid, UnknownClass}
use Rattle.rule_parser.specs.declared.fault.RuleFault.{RuleFault}
use Rattle.rule_parser.specs.declared.fault.RuleKind.TheVariants.{NoMemory}
use Rattle.rule_parser.specs.declared.header.Header.{Header}
use Rattle.rule_types.specs.declared.rule.Rule.{Rule}
use Rattle.rule_parser.specs.Drafts.{empty_draft, settled}
use Rattle.rule_parser.specs.Faults.{plain, rule_fault}
use Rattle.rule_parser.specs.Headers.{After, IsHeader, after_header}
use Rattle.rule_parser.specs.RuleOption.{rule_option}
use Rattle.rule_parser.specs.Written.{outside, option_texts}

-- What is between a `(` (40) in front and the last byte, a `)` (41), of what is left of the line.
unfoldable pub in_parentheses : List ℕ → Option (List ℕ)
in_parentheses text =
    if (nat_le 2 (length text) && slice_index text 0 == 40) && slice_index text (length text - 1) == 41
    then Some (take (length text - 2) (drop 1 text)) else None

-- The draft and the flowbit names after all options, of which these texts are left; `left` bytes of the
-- line are left where the first of them begins. After the last `;` only blanks may come.
unfoldable pub rule_options : List Class → List (List ℕ) → RuleDraft → ℕ → List (List ℕ)
    → Result (RuleDraft × List (List ℕ)) Fault
rule_options classes names draft left [] = Ok (draft, names)
rule_options classes names draft left (text ∷ []) = if list_all is_blank text then Ok (draft, names) else Err OptionSyntax
rule_options classes names draft left (text ∷ next ∷ more) =
    rule_option classes names draft left text >>= λ after.
    rule_options classes after.1 after.0 (left - (length text + 1)) (next ∷ more)

-- the draft and the names after these texts of options, which are those of what is between the parentheses
abbrev pub options_of : List Class → List (List ℕ) → List ℕ → List (List ℕ) → Result (RuleDraft × List (List ℕ)) Fault
options_of classes names inside texts = rule_options classes names empty_draft (length inside + 1) texts

-- the class that a rule names, if it names one
unfoldable pub class_of : Option ClassName → Result (Option ℕ) Fault
class_of None = Ok None
class_of (Some (class.Known place)) = Ok (Some place)
class_of (Some class.Unknown) = Err UnknownClass

-- the class is one of `count`, where it is one of the configuration's
abbrev pub IsClassOf : ℕ → Option ClassName → Type 0
IsClassOf count None = ⊤
IsClassOf count (Some (class.Known place)) = place < count
IsClassOf count (Some class.Unknown) = ⊤

-- the priority of a class that may lack
abbrev pub class_priority : List Class → Option ℕ → ℕ
class_priority classes None = 0
class_priority classes (Some place) = unwrap_or (option_map (λ class. class.priority) (slice_get classes place)) 0

-- the number of a rule whose options are read, and its class, if it names one
abbrev pub told : RuleDraft → Result (ℕ × Option ℕ) Fault
told draft = do
  sid ← or_kind MissingSid draft.sid
  place ← class_of draft.class
  Ok (sid, place)

-- a rule of this header whose options are read
unfoldable pub finished : List Class → Header → RuleDraft → Result Rule Fault
finished classes header draft = do
  sid ← or_kind MissingSid draft.sid
  place ← class_of draft.class
  Ok (record {
    action = header.action;
    proto = header.proto;
    src = header.src;
    sports = header.sports;
    dst = header.dst;
    dports = header.dports;
    both = header.both;
    opts = settled draft;
    msg = unwrap_or draft.msg [];
    gid = unwrap_or draft.gid 1;
    sid = sid;
    rev = unwrap_or draft.rev 0;
    class = place;
    priority = unwrap_or draft.priority (class_priority classes place);
    noalert = draft.noalert;
    period = draft.period;
  })

-- what comes after a header: a rule, and all flowbit names after it
unfoldable pub rule_body : List Class → List (List ℕ) → Header → List ℕ → Result (Rule × List (List ℕ)) Fault
rule_body classes names header text = do
  inside ← or_kind OptionSyntax (in_parentheses text)
  after ← options_of classes names inside (option_texts outside inside)
  rule ← finished classes header after.0
  Ok (rule, after.1)

-- The meaning of a line, with the flowbit names before it: the rule and the names after it, or a fault.
unfoldable pub IsRuleLine : Variables → List Class → List (List ℕ) → List ℕ → Result (Rule × List (List ℕ)) Fault → Type 0
IsRuleLine variables classes names line =
    After (IsHeader variables line) (λ header answer. answer ≡ rule_body classes names header (after_header line))

-- What a reader of a line answers, in a line of `len` bytes: the rule, with the names that there are then, or the
-- fault; or want of memory, for any line.
abbrev pub IsAnswered : ℕ → Result Rule RuleFault → List (List ℕ) → (Result (Rule × List (List ℕ)) Fault → Type 0) → Type 0
IsAnswered len (Ok rule) names IsLine = IsLine (Ok (rule, names))
IsAnswered len (Err fault) names IsLine =
    (fault ≡ plain NoMemory) ⊎ ((why : Fault) × IsLine (Err why) × (fault ≡ rule_fault len why))

-- the answer is what this meaning says: a line that is a rule gives it, and one that has a fault gives that
abbrev pub AnswersAs : ℕ → Result Rule RuleFault → List (List ℕ) → Result (Rule × List (List ℕ)) Fault → Type 0
AnswersAs len (Ok rule) names meant = meant ≡ Ok (rule, names)
AnswersAs len (Err fault) names meant =
    (fault ≡ plain NoMemory) ⊎ ((why : Fault) × (meant ≡ Err why) × (fault ≡ rule_fault len why))

-- a line has a meaning: it is a rule, with the flowbit names after it, or it is refused for a fault other than want of
-- memory
abbrev pub HasMeaning : Variables → List Class → List (List ℕ) → List ℕ → Type 0
HasMeaning variables classes names line =
    ((rule : Rule) × (later : List (List ℕ))
    × IsAnswered (length line) (Ok rule) later (IsRuleLine variables classes names line))
    ⊎ ((fault : RuleFault) × IsAnswered (length line) (Err fault) names (IsRuleLine variables classes names line)
    × (fault ≢ plain NoMemory))
