-- Every rule line is a rule or has a fault, whatever its bytes are.
use Rattle.std.proofs.Common.{◌≡◌, ℕ, ◌<◌, ◌≤◌, ◌⊎◌, inl, inr, Bool, List, length, Option, Some, None, Result, Ok, Err, refl, ap}
use Rattle.std.specs.Prelude.{◌≢◌}
use Rattle.std.proofs.lemmas.Bool.{cases_lt}
use Rattle.net_lists.specs.declared.part.AddrBounds.{AddrBounds}
use Rattle.net_lists.specs.declared.part.ValueBounds.{ValueBounds}
use Rattle.net_lists.specs.declared.part.Part.{Part}
use Rattle.net_lists.specs.Addresses.{address_bounds}
use Rattle.net_lists.specs.Machine.{list_parts}
use Rattle.net_lists.specs.Parts.{port_bounds}
use Rattle.net_lists.specs.Variables.{Variables}
use Rattle.net_lists.proofs.Lists.Parts.{spelled, answer_bad, is_too_long}
use Rattle.net_lists.proofs.Lists.Starts.{AreParts, address_parts, port_parts}
use Rattle.conf_types.specs.declared.classes.Class.{Class}
use Rattle.rule_types.specs.declared.rule.Action.{Action}
use Rattle.rule_types.specs.declared.rule.Proto.{Proto}
use Rattle.rule_types.specs.declared.rule.Rule.{Rule}
use Rattle.rule_parser.specs.declared.fault.Fault.{Fault}
use Rattle.rule_parser.specs.declared.fault.Fault.TheVariants as fault
use Rattle.rule_parser.specs.declared.fault.RuleFault.{RuleFault}
use Rattle.rule_parser.specs.declared.fault.RuleKind.TheVariants as kind
use Rattle.rule_parser.specs.declared.header.Header.{Header}
use Rattle.rule_parser.specs.Faults.{plain, rule_fault}
use Rattle.rule_parser.specs.Headers.{After, IsAddressWord, IsHeader, IsPortWord, IsReadAs, IsWord, action_of, after_header, direction_of, expanded_word, from_word, proto_of}
use Rattle.rule_parser.specs.RuleLine.{HasMeaning, IsRuleLine, rule_body}

-- ---- headers

-- one step after another
after : {X Y : Type 0} (first : Result X Fault → Type 0) (next : X → Result Y Fault → Type 0) → ((given : Result X Fault) × first given)
    → ((x : X) → (answer : Result Y Fault) × next x answer) → (answer : Result Y Fault) × After first next answer
after first next (Ok x, is) more = let following = more x in (following.0, inl (x, is, following.1))
after first next (Err why, is) more = (Err why, inr (why, is, refl))

module _ {B : Type 0} (reads : List ℕ → Option B) (are_parts : AreParts reads) (none : Fault) where
  -- a text is a list, or none, or too long
  read_as : (text : List ℕ) → (answer : Result (List (Part B)) Fault) × IsReadAs reads none text answer
  read_as text = by_parts (list_parts reads text) refl
    where
      by_length : (parts : List (Part B)) → list_parts reads text ≡ Some parts → (1024 < length parts) ⊎ (length parts ≤ 1024)
          → (answer : Result (List (Part B)) Fault) × IsReadAs reads none text answer
      by_length parts is (inl long) = (Err fault.Limit, inr (refl, is_too_long reads text parts is long))
      by_length parts is (inr short) = (Ok parts, (spelled reads text parts is, short))

      by_parts : (o : Option (List (Part B))) → list_parts reads text ≡ o → (answer : Result (List (Part B)) Fault) × IsReadAs reads none text answer
      by_parts None is = (Err none, inl (refl, answer_bad reads are_parts text is))
      by_parts (Some parts) is = by_length parts is (cases_lt 1024 (length parts))

-- a word of addresses, and one of ports
address_word : (variables : Variables) (text : List ℕ) → (answer : Result (List (Part AddrBounds)) Fault) × IsAddressWord variables text answer
unfolding IsAddressWord
address_word variables text =
    after (λ (given : Result (List ℕ) Fault). given ≡ expanded_word variables text) (IsReadAs address_bounds fault.Address) (expanded_word variables text, refl)
    (read_as address_bounds address_parts fault.Address)

port_word : (variables : Variables) (text : List ℕ) → (answer : Result (List (Part (ValueBounds ℕ))) Fault) × IsPortWord variables text answer
unfolding IsPortWord
port_word variables text =
    after (λ (given : Result (List ℕ) Fault). given ≡ expanded_word variables text) (IsReadAs port_bounds fault.Port) (expanded_word variables text, refl)
    (read_as port_bounds port_parts fault.Port)

-- what is left of a header after some of its words
module _ (variables : Variables) (line : List ℕ) where
  abbrev AddressAt : ℕ → Result (List (Part AddrBounds)) Fault → Type 0
  AddressAt place = IsAddressWord variables (from_word place line)

  abbrev PortAt : ℕ → Result (List (Part (ValueBounds ℕ))) Fault → Type 0
  PortAt place = IsPortWord variables (from_word place line)

  abbrev After6 : Action → Proto → List (Part AddrBounds) → List (Part (ValueBounds ℕ)) → Bool → List (Part AddrBounds) → List (Part (ValueBounds ℕ)) → Result Header Fault → Type 0
  After6 action proto src sports both dst dports answer =
      answer ≡ Ok (record {
        action = action;
        proto = proto;
        src = src;
        sports = sports;
        dst = dst;
        dports = dports;
        both = both;
      })

  abbrev After5 : Action → Proto → List (Part AddrBounds) → List (Part (ValueBounds ℕ)) → Bool → List (Part AddrBounds) → Result Header Fault → Type 0
  After5 action proto src sports both dst = After (PortAt 6) (After6 action proto src sports both dst)

  abbrev After4 : Action → Proto → List (Part AddrBounds) → List (Part (ValueBounds ℕ)) → Bool → Result Header Fault → Type 0
  After4 action proto src sports both = After (AddressAt 5) (After5 action proto src sports both)

  abbrev After3 : Action → Proto → List (Part AddrBounds) → List (Part (ValueBounds ℕ)) → Result Header Fault → Type 0
  After3 action proto src sports = After (IsWord direction_of (from_word 4 line)) (After4 action proto src sports)

  abbrev After2 : Action → Proto → List (Part AddrBounds) → Result Header Fault → Type 0
  After2 action proto src = After (PortAt 3) (After3 action proto src)

  abbrev After1 : Action → Proto → Result Header Fault → Type 0
  After1 action proto = After (AddressAt 2) (After2 action proto)

  abbrev After0 : Action → Result Header Fault → Type 0
  After0 action = After (IsWord proto_of (from_word 1 line)) (After1 action)

  after5 : (action : Action) (proto : Proto) (src : List (Part AddrBounds)) (sports : List (Part (ValueBounds ℕ))) (both : Bool) (dst : List (Part AddrBounds))
      → (answer : Result Header Fault) × After5 action proto src sports both dst answer
  after5 action proto src sports both dst =
      after (PortAt 6) (After6 action proto src sports both dst) (port_word variables (from_word 6 line)) (λ dports. (_, refl))

  after3 : (action : Action) (proto : Proto) (src : List (Part AddrBounds)) (sports : List (Part (ValueBounds ℕ))) → (answer : Result Header Fault) × After3 action proto src sports answer
  after3 action proto src sports =
      after (IsWord direction_of (from_word 4 line)) (After4 action proto src sports) (_, refl) (λ both.
      after (AddressAt 5) (After5 action proto src sports both) (address_word variables (from_word 5 line)) (after5 action proto src sports both))

  after1 : (action : Action) (proto : Proto) → (answer : Result Header Fault) × After1 action proto answer
  after1 action proto =
      after (AddressAt 2) (After2 action proto) (address_word variables (from_word 2 line)) (λ src.
      after (PortAt 3) (After3 action proto src) (port_word variables (from_word 3 line)) (after3 action proto src))

  header : (answer : Result Header Fault) × IsHeader variables line answer
  unfolding IsHeader
  header =
      after (IsWord action_of (from_word 0 line)) After0 (_, refl) (λ action.
      after (IsWord proto_of (from_word 1 line)) (After1 action) (_, refl) (after1 action))

-- a line is a rule, or has a fault
rule_line : (variables : Variables) (classes : List Class) (names : List (List ℕ)) (line : List ℕ)
    → (answer : Result (Rule × List (List ℕ)) Fault) × IsRuleLine variables classes names line answer
unfolding IsRuleLine
rule_line variables classes names line =
    after (IsHeader variables line) (λ (header : Header) (answer : Result (Rule × List (List ℕ)) Fault). answer ≡ rule_body classes names header (after_header line))
    (header variables line) (λ given. (_, refl))

-- ---- lines

-- no fault of a line is want of memory
no_memory : (len : ℕ) (why : Fault) → rule_fault len why ≢ plain kind.NoMemory
unfolding rule_fault
no_memory len fault.Action is = let same = ap (λ (f : RuleFault). f.kind) is in cc
no_memory len fault.Protocol is = let same = ap (λ (f : RuleFault). f.kind) is in cc
no_memory len fault.Address is = let same = ap (λ (f : RuleFault). f.kind) is in cc
no_memory len fault.Port is = let same = ap (λ (f : RuleFault). f.kind) is in cc
no_memory len fault.Direction is = let same = ap (λ (f : RuleFault). f.kind) is in cc
no_memory len fault.OptionSyntax is = let same = ap (λ (f : RuleFault). f.kind) is in cc
no_memory len fault.UnknownOption is = let same = ap (λ (f : RuleFault). f.kind) is in cc
no_memory len fault.OptionValue is = let same = ap (λ (f : RuleFault). f.kind) is in cc
no_memory len fault.Misplaced is = let same = ap (λ (f : RuleFault). f.kind) is in cc
no_memory len fault.MissingSid is = let same = ap (λ (f : RuleFault). f.kind) is in cc
no_memory len fault.UnknownClass is = let same = ap (λ (f : RuleFault). f.kind) is in cc
no_memory len (fault.Unknown left size) is = let same = ap (λ (f : RuleFault). f.kind) is in cc
no_memory len fault.Limit is = let same = ap (λ (f : RuleFault). f.kind) is in cc
no_memory len fault.OutsideProfile is = let same = ap (λ (f : RuleFault). f.kind) is in cc

-- a line is a rule, or is refused for a fault
pub some_meaning : (variables : Variables) (classes : List Class) (names : List (List ℕ)) (line : List ℕ) → HasMeaning variables classes names line
some_meaning variables classes names line = by_answer (rule_line variables classes names line)
  where
    by_answer : ((answer : Result (Rule × List (List ℕ)) Fault) × IsRuleLine variables classes names line answer) → HasMeaning variables classes names line
    by_answer (Ok (rule, later), is) = inl (rule, later, is)
    by_answer (Err why, is) = inr (rule_fault (length line) why, inr (why, is, refl), no_memory (length line) why)
