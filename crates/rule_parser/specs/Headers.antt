-- The header of a rule (Snort Users Manual 2.9, section 3.2): `action proto src sport dir dst dport`.
--
-- Words are between blanks outside brackets; a word that lacks is read as an empty text. The words are
-- looked at from left to right. An address word or a port word has its variables expanded whole before it is
-- read as a list; a list of more than 1024 parts, and an expansion that is too long, are over the limit.
-- To try it on: `alert udp $X any -> any any` is refused at X where X is not defined, before its direction
-- is looked at.
use Rattle.std.specs.Prelude.{◌≡◌, ℕ, zero, suc, ◌-◌, ◌≤◌, ◌⊎◌, ⊤, Bool, true, false, Option, Result, Ok, Err, List, length, bytes_eq, codes, if◌then◌else◌}
use Rattle.net_lists.specs.declared.fault.ExpandFault.{ExpandFault}
use Rattle.net_lists.specs.declared.fault.ExpandFault.TheVariants as expand
use Rattle.net_lists.specs.declared.part.AddrBounds.{AddrBounds}
use Rattle.net_lists.specs.declared.part.ValueBounds.{ValueBounds}
use Rattle.net_lists.specs.declared.part.Part.{Part}
use Rattle.net_lists.specs.Addresses.{address_bounds}
use Rattle.net_lists.specs.Cutting.{first_word, after_word}
use Rattle.net_lists.specs.Expansion.{expansion}
use Rattle.net_lists.specs.Lists.{IsList, IsTooLong}
use Rattle.net_lists.specs.Parts.{port_bounds}
use Rattle.net_lists.specs.Variables.{Variables}
use Rattle.net_lists.specs.declared.stop.Stop.{Stop}
use Rattle.net_lists.specs.declared.stop.Stop.TheVariants.{NoMemory, Wrong}
use Rattle.rule_parser.specs.declared.fault.Fault.{Fault}
use Rattle.rule_parser.specs.declared.fault.Fault.TheVariants as fault
use Rattle.rule_parser.specs.declared.header.Header.{Header}
use Rattle.rule_types.specs.declared.rule.Action.{Action}
use Rattle.rule_types.specs.declared.rule.Action.TheVariants as action
use Rattle.rule_types.specs.declared.rule.Proto.{Proto}
use Rattle.rule_types.specs.declared.rule.Proto.TheVariants as proto

-- the first step's fault, or what the next step gives for its value
abbrev pub After : {X Y : Type 0} → (Result X Fault → Type 0) → (X → Result Y Fault → Type 0) → Result Y Fault → Type 0
After {X} first next answer = ((x : X) × first (Ok x) × next x answer) ⊎ ((why : Fault) × first (Err why) × (answer ≡ Err why))

-- the action of a rule
unfoldable pub action_of : List ℕ → Result Action Fault
action_of word =
    if bytes_eq word (codes "alert") then Ok action.Alert
    else if bytes_eq word (codes "pass") then Ok action.Pass
    else if bytes_eq word (codes "log") then Err fault.OutsideProfile
    else if bytes_eq word (codes "activate") then Err fault.OutsideProfile
    else if bytes_eq word (codes "dynamic") then Err fault.OutsideProfile
    else if bytes_eq word (codes "drop") then Err fault.OutsideProfile
    else if bytes_eq word (codes "reject") then Err fault.OutsideProfile
    else if bytes_eq word (codes "sdrop") then Err fault.OutsideProfile
    else Err fault.Action

-- the protocol
unfoldable pub proto_of : List ℕ → Result Proto Fault
proto_of word =
    if bytes_eq word (codes "tcp") then Ok proto.Tcp
    else if bytes_eq word (codes "udp") then Ok proto.Udp
    else if bytes_eq word (codes "icmp") then Ok proto.Icmp
    else if bytes_eq word (codes "ip") then Ok proto.Ip
    else Err fault.Protocol

-- whether source and destination may be exchanged
unfoldable pub direction_of : List ℕ → Result Bool Fault
direction_of word =
    if bytes_eq word (codes "->") then Ok false else if bytes_eq word (codes "<>") then Ok true else Err fault.Direction

-- what a text is as a list, with this fault where it is none
abbrev pub IsReadAs : {B : Type 0} → (List ℕ → Option B) → Fault → List ℕ → Result (List (Part B)) Fault → Type 0
IsReadAs reads none text (Ok parts) = IsList reads text parts × (length parts ≤ 1024)
IsReadAs {B} reads none text (Err why) =
    ((why ≡ none) × ((parts : List (Part B)) → ¬ IsList reads text parts)) ⊎ ((why ≡ fault.Limit) × IsTooLong reads text)

-- an expansion, as a step of the line; `left` bytes of the line are left where its word begins
abbrev pub expanded_to : ℕ → Result (List ℕ) ExpandFault → Result (List ℕ) Fault
expanded_to left (Ok text) = Ok text
expanded_to left (Err (expand.Unknown from to)) = Err (fault.Unknown (left - from) (to - from))
expanded_to left (Err expand.TooLong) = Err fault.Limit
expanded_to left (Err expand.NoMemory) = Err fault.Limit

-- the first word of a text with its variables expanded; an expansion has no want of memory
unfoldable pub expanded_word : Variables → List ℕ → Result (List ℕ) Fault
expanded_word variables text = expanded_to (length text) (expansion variables (first_word text))

-- what an address word is, and a port word; `text` is the line from the word on
unfoldable pub IsAddressWord : Variables → List ℕ → Result (List (Part AddrBounds)) Fault → Type 0
IsAddressWord variables text = After (λ answer. answer ≡ expanded_word variables text) (IsReadAs address_bounds fault.Address)

unfoldable pub IsPortWord : Variables → List ℕ → Result (List (Part (ValueBounds ℕ))) Fault → Type 0
IsPortWord variables text = After (λ answer. answer ≡ expanded_word variables text) (IsReadAs port_bounds fault.Port)

-- a word that is this value or fault
abbrev pub IsWord : {X : Type 0} → (List ℕ → Result X Fault) → List ℕ → Result X Fault → Type 0
IsWord reads text answer = answer ≡ reads (first_word text)

-- the line from its word of this place on; words are counted from 0
unfoldable pub from_word : ℕ → List ℕ → List ℕ
from_word zero line = line
from_word (suc place) line = after_word (from_word place line)

-- the header of a line, or the fault of the first word that is wrong
unfoldable pub IsHeader : Variables → List ℕ → Result Header Fault → Type 0
IsHeader variables line =
    After (IsWord action_of (from_word 0 line)) (λ action.
    After (IsWord proto_of (from_word 1 line)) (λ proto.
    After (IsAddressWord variables (from_word 2 line)) (λ src.
    After (IsPortWord variables (from_word 3 line)) (λ sports.
    After (IsWord direction_of (from_word 4 line)) (λ both.
    After (IsAddressWord variables (from_word 5 line)) (λ dst.
    After (IsPortWord variables (from_word 6 line)) (λ dports answer.
    answer ≡ Ok (record {
      action = action;
      proto = proto;
      src = src;
      sports = sports;
      dst = dst;
      dports = dports;
      both = both;
    }))))))))

-- what comes after the header
abbrev pub after_header : List ℕ → List ℕ
after_header line = from_word 7 line

-- an answer that a meaning has; want of memory is for any
abbrev pub IsGiven : {X : Type 0} → Result X (Stop Fault) → (Result X Fault → Type 0) → Type 0
IsGiven (Ok x) IsMeant = IsMeant (Ok x)
IsGiven (Err NoMemory) IsMeant = ⊤
IsGiven (Err (Wrong why)) IsMeant = IsMeant (Err why)
