-- One option of a rule: what it makes of what comes before it, or the kind of its fault.
--
-- An option is refused by what comes before it and by its own text alone. A name that is empty is a fault of
-- syntax; a name that is none is outside the profile where the list of such names has it, and unknown else.
-- An option that wants a value and has none has a wrong value.
-- To try it on: `sid:7` after `sid:6`, `sid` and `nocase:` after a content are wrong values; `nocase`
-- before any content is misplaced, and `http_uri` is outside the profile.
use Rattle.std.specs.Prelude.{ℕ, ◌==◌, true, false, Option, Some, None, Result, Ok, List, length, bytes_eq, codes, if◌then◌else◌}
use Rattle.edge_io.specs.OnResult.{◌>>=◌}
use Rattle.net_lists.specs.Stops.{or_kind}
use Rattle.conf_types.specs.Classes.{class_place}
use Rattle.conf_types.specs.declared.classes.Class.{Class}
use Rattle.rule_parser.specs.declared.draft.RuleDraft.{RuleDraft}
use Rattle.rule_parser.specs.declared.fault.Fault.{Fault}
use Rattle.rule_parser.specs.declared.fault.Fault.TheVariants.{OptionValue, OptionSyntax, UnknownOption, OutsideProfile}
use Rattle.rule_parser.specs.declared.names.Modifier.{Modifier}
use Rattle.rule_parser.specs.declared.names.Modifier.TheVariants as modifier
use Rattle.rule_parser.specs.declared.names.PayloadName.{PayloadName}
use Rattle.rule_parser.specs.declared.names.PayloadName.TheVariants as payload
use Rattle.rule_parser.specs.declared.names.SessionName.{SessionName}
use Rattle.rule_parser.specs.declared.names.SessionName.TheVariants as session
use Rattle.rule_parser.specs.declared.names.TextName.{TextName}
use Rattle.rule_parser.specs.declared.names.TextName.TheVariants as text
use Rattle.rule_parser.specs.declared.names.Name.{Name}
use Rattle.rule_parser.specs.declared.names.Name.TheVariants as name
use Rattle.rule_parser.specs.ByteOptions.{byte_test_option, byte_jump_option, byte_extract_option, isdataat_option}
use Rattle.rule_parser.specs.Contents.{content_option, nocase_option, rawbytes_option, from_option, room_option, fast_pattern_option}
use Rattle.rule_parser.specs.Fields.{field_option, dsize_option, sameip_option}
use Rattle.rule_parser.specs.Flags.{flow_option, flags_option, fragbits_option}
use Rattle.rule_parser.specs.Flowbits.{with_names, flowbits_option}
use Rattle.rule_parser.specs.OptionNames.{text_name, modifier_name, payload_name, session_name, ip_field, body_field, is_outside}
use Rattle.rule_parser.specs.Patterns.{pcre_option}
use Rattle.rule_parser.specs.Periods.{detection_filter_option}
use Rattle.rule_parser.specs.Steering.{stream_size_option, stream_reassemble_option}
use Rattle.rule_parser.specs.Texts.{msg_option, gid_option, sid_option, rev_option, priority_option, classtype_option}
use Rattle.rule_parser.specs.Written.{written}

-- the first of two names that is there
abbrev pub or_name : Option Name → Option Name → Option Name
or_name None second = second
or_name (Some first) second = Some first

abbrev pub as_name : {X : Type 0} → (X → Name) → Option X → Option Name
as_name make None = None
as_name make (Some x) = Some (make x)

-- the name of an option
unfoldable pub option_name : List ℕ → Option Name
option_name word =
    if bytes_eq word (codes "flowbits") then Some name.Flowbits
    else or_name (as_name (λ n. name.Text n) (text_name word))
    (or_name (as_name (λ n. name.Modifier n) (modifier_name word))
    (or_name (as_name (λ n. name.Payload n) (payload_name word))
    (or_name (as_name (λ n. name.Session n) (session_name word))
    (or_name (as_name (λ n. name.Field n) (ip_field word)) (as_name (λ n. name.Field n) (body_field word))))))

-- what is given for a word that is no name
abbrev pub no_name : List ℕ → Fault
no_name word = if length word == 0 then OptionSyntax else if is_outside word then OutsideProfile else UnknownOption

-- an option that wants a value
abbrev pub with_value : {X : Type 0} → Option (List ℕ) → (List ℕ → Result X Fault) → Result X Fault
with_value value option = or_kind OptionValue value >>= option

-- options by which a rule names itself
unfoldable pub text_option : List Class → RuleDraft → TextName → Option (List ℕ) → Result RuleDraft Fault
text_option classes draft text.Msg value = with_value value (msg_option draft)
text_option classes draft text.Gid value = with_value value (gid_option draft)
text_option classes draft text.Sid value = with_value value (sid_option draft)
text_option classes draft text.Rev value = with_value value (rev_option draft)
text_option classes draft text.Priority value = with_value value (priority_option draft)
text_option classes draft text.Classtype value = with_value value (classtype_option (class_place classes) draft)
text_option classes draft text.Ignored value = Ok draft

-- modifiers of the last content
unfoldable pub modifier_option : RuleDraft → Modifier → ℕ → Option (List ℕ) → Result RuleDraft Fault
modifier_option draft modifier.Nocase left value = nocase_option draft value
modifier_option draft modifier.Rawbytes left value = rawbytes_option draft value
modifier_option draft modifier.Offset left value = from_option modifier.Offset draft left value
modifier_option draft modifier.Depth left value = room_option modifier.Depth draft left value
modifier_option draft modifier.Distance left value = from_option modifier.Distance draft left value
modifier_option draft modifier.Within left value = room_option modifier.Within draft left value
modifier_option draft modifier.FastPattern left value = fast_pattern_option draft value

-- tests of a payload
unfoldable pub payload_option : RuleDraft → PayloadName → ℕ → List ℕ → Result RuleDraft Fault
payload_option draft payload.Content left value = content_option draft value
payload_option draft payload.Pcre left value = pcre_option draft value
payload_option draft payload.ByteTest left value = byte_test_option draft left value
payload_option draft payload.ByteJump left value = byte_jump_option draft left value
payload_option draft payload.ByteExtract left value = byte_extract_option draft left value
payload_option draft payload.IsDataAt left value = isdataat_option draft left value

-- tests of a session and of a packet as a whole
unfoldable pub session_option : RuleDraft → SessionName → Option (List ℕ) → Result RuleDraft Fault
session_option draft session.Flow value = with_value value (flow_option draft)
session_option draft session.Flags value = with_value value (flags_option draft)
session_option draft session.FragBits value = with_value value (fragbits_option draft)
session_option draft session.DetectionFilter value = with_value value (detection_filter_option draft)
session_option draft session.Dsize value = with_value value (dsize_option draft)
session_option draft session.SameIp value = sameip_option draft value
session_option draft session.StreamSize value = with_value value (stream_size_option draft)
session_option draft session.StreamReassemble value = with_value value (stream_reassemble_option draft)

-- an option of this name and value; `names` are the flowbit names so far
abbrev pub named_option : List Class → List (List ℕ) → RuleDraft → ℕ → Option (List ℕ) → Name
    → Result (RuleDraft × List (List ℕ)) Fault
named_option classes names draft left value (name.Text n) = with_names names (text_option classes draft n value)
named_option classes names draft left value (name.Modifier n) = with_names names (modifier_option draft n left value)
named_option classes names draft left value (name.Payload n) = with_names names (with_value value (payload_option draft n left))
named_option classes names draft left value (name.Session n) = with_names names (session_option draft n value)
named_option classes names draft left value (name.Field n) = with_names names (with_value value (field_option n draft))
named_option classes names draft left value name.Flowbits = with_value value (flowbits_option names draft)

-- An option of a rule: the draft and the flowbit names after it. `left` bytes of the line are left where
-- its text begins; `names` are the flowbit names of this rule so far and of the rules before.
unfoldable pub rule_option : List Class → List (List ℕ) → RuleDraft → ℕ → List ℕ → Result (RuleDraft × List (List ℕ)) Fault
rule_option classes names draft left text = do
  let option = written left text
  name ← or_kind (no_name option.name) (option_name option.name)
  named_option classes names draft option.left option.value name
