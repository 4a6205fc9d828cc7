-- Forms of values that directives share, each with the kind of its fault.
--
-- A value is read part by part from the left, and the first fault decides. So a reader is a chain of steps,
-- and the first that is refused ends it. What needs the whole line comes after the chain: first a part
-- that lacks, then whether the line may be given again, and last the counts.
-- A value is expanded whole before it is read as a list, so a fault of its expansion comes first.
-- (Snort Users Manual 2.9, section 2.1; the kinds are our own.)
-- To try it on: without variables `[$A,10.0.0]` is refused as an unknown variable A, not as a bad list.
use Rattle.std.specs.Prelude.{ℕ, ◌==◌, ◌||◌, not, Bool, true, false, Option, Some, None, Result, Ok, Err, List, [], ◌∷◌, length, take, drop, codes, bytes_eq, nat_le, if◌then◌else◌}
use Rattle.std.specs.List.{prefix_len}
use Rattle.edge_io.specs.Bytes.{is_blank, trimmed, slice}
pub use Rattle.edge_io.specs.OnResult.{◌>>=◌}
pub use Rattle.net_lists.specs.Stops.{or_kind}
use Rattle.net_lists.specs.Variables.{Variables}
use Rattle.net_lists.specs.Expansion.{expansion}
use Rattle.net_lists.specs.declared.fault.ExpandFault.{ExpandFault}
use Rattle.net_lists.specs.declared.fault.ExpandFault.TheVariants as expand
use Rattle.net_lists.specs.declared.part.Part.{Part}
use Rattle.net_lists.specs.declared.part.ValueBounds.{ValueBounds}
use Rattle.net_lists.specs.declared.part.AddrBounds.{AddrBounds}
use Rattle.net_lists.specs.Addresses.{address_bounds}
use Rattle.net_lists.specs.Parts.{port_bounds}
use Rattle.net_lists.specs.Machine.{list_parts}
use Rattle.conf_parser.specs.declared.line.ConfKind.{ConfKind}
use Rattle.conf_parser.specs.declared.line.ConfKind.TheVariants.{BadValue, UnknownVariable, BadAddress, BadPort, Limit}

-- the value, changed; a fault stays
abbrev pub mapped : {A B : Type 0} → (A → B) → Result A ConfKind → Result B ConfKind
mapped f (Ok x) = Ok (f x)
mapped f (Err kind) = Err kind

-- the answer of a step that changes a value in its place, with the value after it
abbrev pub with_new : {A X E : Type 0} → Result A E → X → Result X E
with_new (Ok done) new = Ok new
with_new (Err why) new = Err why

-- a value where a test holds, else BadValue
abbrev pub where_good : {A : Type 0} → Bool → A → Result A ConfKind
where_good good x = if good then Ok x else Err BadValue

-- the text is this word
abbrev pub is_word : List ℕ → List ℕ → Bool
is_word text word = bytes_eq text word

-- no byte
abbrev pub is_empty : List ℕ → Bool
is_empty [] = true
is_empty (first ∷ rest) = false

-- The kind of an expansion's fault. (An expansion is never refused for want of memory.)
abbrev pub expand_kind : List ℕ → ExpandFault → ConfKind
expand_kind text (expand.Unknown from to) = UnknownVariable (slice text from to)
expand_kind text expand.TooLong = Limit
expand_kind text expand.NoMemory = Limit

-- an expansion, with its fault's kind
abbrev pub expanded_or : List ℕ → Result (List ℕ) ExpandFault → Result (List ℕ) ConfKind
expanded_or text (Ok bytes) = Ok bytes
expanded_or text (Err fault) = Err (expand_kind text fault)

-- the text with each variable's value in its form's place
unfoldable pub expanded : Variables → List ℕ → Result (List ℕ) ConfKind
expanded variables text = expanded_or text (expansion variables text)

-- parts of which there are at most 1024, else Limit
abbrev pub within_limit : {B : Type 0} → List (Part B) → Result (List (Part B)) ConfKind
within_limit parts = if nat_le (length parts) 1024 then Ok parts else Err Limit

-- the list of addresses that a text spells, by the grammar of lists
unfoldable pub address_list : List ℕ → Result (List (Part AddrBounds)) ConfKind
address_list text = or_kind BadAddress (list_parts address_bounds text) >>= within_limit

-- the list of ports that a text spells, by the grammar of lists
unfoldable pub port_list : List ℕ → Result (List (Part (ValueBounds ℕ))) ConfKind
port_list text = or_kind BadPort (list_parts port_bounds text) >>= within_limit

-- a list of addresses after the expansion of its text
unfoldable pub expanded_addresses : Variables → List ℕ → Result (List (Part AddrBounds)) ConfKind
expanded_addresses variables text = expanded variables text >>= address_list

-- a byte of a name: no blank and no colon (58)
abbrev pub in_name : ℕ → Bool
in_name byte = not (is_blank byte || byte == 58)

-- the name in front, which ends at a blank or a colon
unfoldable pub name_of : List ℕ → List ℕ
name_of text = take (prefix_len in_name text) text

-- what comes after the name, without blanks at its ends
unfoldable pub after_name : List ℕ → List ℕ
after_name text = trimmed (drop (prefix_len in_name text) text)

-- what comes after a colon in front
unfoldable pub after_colon : List ℕ → Option (List ℕ)
after_colon [] = None
after_colon (first ∷ rest) = if first == 58 then Some (trimmed rest) else None

-- the settings of a preprocessor line: nothing, or what comes after a colon
unfoldable pub setting_text : List ℕ → Result (List ℕ) ConfKind
setting_text rest = if is_empty rest then Ok [] else or_kind BadValue (after_colon rest)

-- `yes` or `no`
unfoldable pub yes_or_no : List ℕ → Option Bool
yes_or_no text =
    if is_word text (codes "yes") then Some true
    else if is_word text (codes "no") then Some false
    else None
