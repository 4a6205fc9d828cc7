-- Options that name a rule: its message, its numbers, its class and its priority.
--
-- (Snort Users Manual 2.9, section 3.4.) `gid`, `sid`, `rev` and `priority` are whole numbers, `gid` and
-- `sid` at least 1; each of the six is given at most once. `reference` and `metadata` say nothing that this
-- detector uses: their values are not looked at. A message has at most 1024 bytes, a limit of our own. The
-- class is looked up at once; that there is none is a fault only after the last option, an empty name is a
-- wrong value at once.
-- To try it on: `sid:0`, a second `sid` and `sid` without a value are wrong values.
use Rattle.std.specs.Prelude.{ℕ, ◌||◌, ◌==◌, Bool, Option, Some, None, Result, Ok, Err, List, length, nat_le, is_some, if◌then◌else◌}
use Rattle.edge_io.specs.OnResult.{◌>>=◌}
use Rattle.net_lists.specs.Numbers.{number_in}
use Rattle.net_lists.specs.Stops.{or_kind}
use Rattle.rule_parser.specs.declared.draft.RuleDraft.{RuleDraft}
use Rattle.rule_parser.specs.declared.draft.ClassName.{ClassName}
use Rattle.rule_parser.specs.declared.draft.ClassName.TheVariants as class
use Rattle.rule_parser.specs.declared.fault.Fault.{Fault}
use Rattle.rule_parser.specs.declared.fault.Fault.TheVariants.{OptionValue, Limit}
use Rattle.rule_parser.specs.declared.quoted.Style.TheVariants.{Message}
use Rattle.rule_parser.specs.declared.quoted.QuotedPlace.TheVariants.{Plain}
use Rattle.rule_parser.specs.Quotes.{quoted, meaning}

-- a number that may be given once
unfoldable pub once : Option ℕ → ℕ → List ℕ → Result ℕ Fault
once before least value = do
  number ← or_kind OptionValue (number_in least 4294967295 value)
  if is_some before then Err OptionValue else Ok number

-- `gid:n`
unfoldable pub gid_option : RuleDraft → List ℕ → Result RuleDraft Fault
gid_option draft value = do
  gid ← once draft.gid 1 value
  Ok (record draft { gid = Some gid })

-- `sid:n`
unfoldable pub sid_option : RuleDraft → List ℕ → Result RuleDraft Fault
sid_option draft value = do
  sid ← once draft.sid 1 value
  Ok (record draft { sid = Some sid })

-- `rev:n`
unfoldable pub rev_option : RuleDraft → List ℕ → Result RuleDraft Fault
rev_option draft value = do
  rev ← once draft.rev 0 value
  Ok (record draft { rev = Some rev })

-- `priority:n`
unfoldable pub priority_option : RuleDraft → List ℕ → Result RuleDraft Fault
priority_option draft value = do
  priority ← once draft.priority 0 value
  Ok (record draft { priority = Some priority })

-- what is between quotes, after which nothing comes
unfoldable pub quoted_whole : List ℕ → Result (List ℕ) Fault
quoted_whole value = do
  parts ← or_kind OptionValue (quoted value)
  if length parts.1 == 0 then Ok parts.0 else Err OptionValue

-- the message of `msg:"text"`, which may be given once
unfoldable pub message : Bool → List ℕ → Result (List ℕ) Fault
message is_given value = do
  inside ← quoted_whole value
  msg ← or_kind OptionValue (meaning Message Plain inside)
  if is_given then Err OptionValue else if nat_le (length msg) 1024 then Ok msg else Err Limit

unfoldable pub msg_option : RuleDraft → List ℕ → Result RuleDraft Fault
msg_option draft value = message (is_some draft.msg) value >>= λ msg. Ok (record draft { msg = Some msg })

-- the class of this name among the configuration's
abbrev pub class_named : Option ℕ → ClassName
class_named None = class.Unknown
class_named (Some place) = class.Known place

-- `classtype:name`, where `find` is the look-up of the configuration's classes
unfoldable pub classtype_option : (List ℕ → Option ℕ) → RuleDraft → List ℕ → Result RuleDraft Fault
classtype_option find draft value =
    if length value == 0 || is_some draft.class then Err OptionValue
    else Ok (record draft { class = Some (class_named (find value)) })
