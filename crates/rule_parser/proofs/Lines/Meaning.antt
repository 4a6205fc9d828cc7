-- A line has one meaning.
use Rattle.std.proofs.Common.{◌≡◌, ℕ, Option, Some, Result, Ok, Err, List, length, sym, ◌∙◌, ap, subst, inl, inr, arith}
use Rattle.conf_types.specs.declared.classes.Class.{Class}
use Rattle.net_lists.specs.declared.part.AddrBounds.{AddrBounds}
use Rattle.net_lists.specs.declared.part.ValueBounds.{ValueBounds}
use Rattle.net_lists.specs.declared.part.Part.{Part}
use Rattle.net_lists.specs.Addresses.{address_bounds}
use Rattle.net_lists.specs.Lists.{IsList}
use Rattle.net_lists.specs.Machine.{list_parts}
use Rattle.net_lists.specs.Parts.{port_bounds}
use Rattle.net_lists.specs.Variables.{Variables}
use Rattle.net_lists.proofs.Lists.Starts.{address_parts, port_parts}
use Rattle.net_lists.proofs.Lists.Parts.{read}
use Rattle.rule_parser.specs.declared.fault.Fault.{Fault}
use Rattle.rule_parser.specs.declared.fault.Fault.TheVariants as fault
use Rattle.rule_parser.specs.declared.fault.RuleFault.{RuleFault}
use Rattle.rule_types.specs.declared.rule.Rule.{Rule}
use Rattle.rule_parser.specs.Headers.{After, IsReadAs, IsAddressWord, IsPortWord, IsHeader, expanded_word}
use Rattle.rule_parser.specs.RuleLine.{IsRuleLine, IsAnswered, AnswersAs}

-- an answer is the only one that a relation has
abbrev pub IsOne : {X : Type 0} → (Result X Fault → Type 0) → Type 0
IsOne {X} IsMeant = (a b : Result X Fault) → IsMeant a → IsMeant b → a ≡ b

-- a value
equal : {X : Type 0} (value : Result X Fault) → IsOne (λ answer. answer ≡ value)
equal value a b first second = first ∙ sym second

-- one step after another
after : {X Y : Type 0} (first : Result X Fault → Type 0) (next : X → Result Y Fault → Type 0) → IsOne first → ((x : X) → IsOne (next x)) → IsOne (After first next)
after {X} first next one ones a b (inl (x, f, n)) (inl (y, g, m)) =
    let ok : Ok x ≡ Ok y = one (Ok x) (Ok y) f g in
    let same : x ≡ y = cc in
    let At : X → Type 0 = λ z. next z b in
    ones x a b n (subst At (sym same) m)
after first next one ones a b (inl (x, f, n)) (inr (why, g, m)) = let never : Ok x ≡ Err why = one (Ok x) (Err why) f g in cc
after first next one ones a b (inr (why, f, n)) (inl (y, g, m)) = let never : Err why ≡ Ok y = one (Err why) (Ok y) f g in cc
after first next one ones a b (inr (why, f, n)) (inr (other, g, m)) = let same : Err why ≡ Err other = one (Err why) (Err other) f g in cc

module _ {B : Type 0} (reads : List ℕ → Option B) (unique : (text : List ℕ) (a b : List (Part B)) → IsList reads text a → IsList reads text b → a ≡ b) where
  -- a text that is read as a list
  as_list : (none : Fault) (text : List ℕ) → IsOne (IsReadAs reads none text)
  as_list none text (Ok a) (Ok b) (first, _) (second, _) = ap (λ (parts : List (Part B)). Ok parts) (unique text a b first second)
  as_list none text (Ok a) (Err why) (first, short) (inl (is, never)) = absurd (never a first)
  as_list none text (Ok a) (Err why) (first, short) (inr (is, (long, second, above))) =
      let same : a ≡ long = unique text a long first second in absurd (omega (arith, ap length same))
  as_list none text (Err why) (Ok b) (inl (is, never)) (second, short) = absurd (never b second)
  as_list none text (Err why) (Ok b) (inr (is, (long, first, above))) (second, short) =
      let same : long ≡ b = unique text long b first second in absurd (omega (arith, ap length same))
  as_list none text (Err why) (Err other) (inl (is, _)) (inl (as_well, _)) = cc
  as_list none text (Err why) (Err other) (inl (is, never)) (inr (limit, (long, second, above))) = absurd (never long second)
  as_list none text (Err why) (Err other) (inr (limit, (long, first, above))) (inl (is, never)) = absurd (never long first)
  as_list none text (Err why) (Err other) (inr (limit, _)) (inr (as_well, _)) = cc

same_list : {B : Type 0} (parts : Option (List (Part B))) (a b : List (Part B)) → parts ≡ Some a → parts ≡ Some b → a ≡ b
same_list parts a b first second = cc

addresses-unique : (text : List ℕ) (a b : List (Part AddrBounds)) → IsList address_bounds text a → IsList address_bounds text b → a ≡ b
addresses-unique text a b first second = same_list (list_parts address_bounds text) a b (read address_bounds address_parts first) (read address_bounds address_parts second)

ports-unique : (text : List ℕ) (a b : List (Part (ValueBounds ℕ))) → IsList port_bounds text a → IsList port_bounds text b → a ≡ b
ports-unique text a b first second = same_list (list_parts port_bounds text) a b (read port_bounds port_parts first) (read port_bounds port_parts second)

address_word : (variables : Variables) (text : List ℕ) → IsOne (IsAddressWord variables text)
unfolding IsAddressWord
address_word variables text =
    after (λ answer. answer ≡ expanded_word variables text)
    (IsReadAs address_bounds fault.Address) (equal (expanded_word variables text))
    (as_list address_bounds addresses-unique fault.Address)

port_word : (variables : Variables) (text : List ℕ) → IsOne (IsPortWord variables text)
unfolding IsPortWord
port_word variables text =
    after (λ answer. answer ≡ expanded_word variables text)
    (IsReadAs port_bounds fault.Port) (equal (expanded_word variables text))
    (as_list port_bounds ports-unique fault.Port)

header-one : (variables : Variables) (line : List ℕ) → IsOne (IsHeader variables line)
unfolding IsHeader
header-one variables line =
    after _ _ (equal _) (λ action.
    after _ _ (equal _) (λ proto.
    after _ _ (address_word variables _) (λ src.
    after _ _ (port_word variables _) (λ sports.
    after _ _ (equal _) (λ both.
    after _ _ (address_word variables _) (λ dst.
    after _ _ (port_word variables _) (λ dports.
    equal _)))))))

line-one : (variables : Variables) (classes : List Class) (names : List (List ℕ)) (line : List ℕ) → IsOne (IsRuleLine variables classes names line)
unfolding IsRuleLine
line-one variables classes names line = after (IsHeader variables line) _ (header-one variables line) (λ header. equal _)

-- what a reader answers is what any meaning of the line says
pub answers-as : (variables : Variables) (classes : List Class) (names : List (List ℕ)) (line : List ℕ) (answer : Result Rule RuleFault) (later : List (List ℕ))
    → IsAnswered (length line) answer later (IsRuleLine variables classes names line)
    → (meant : Result (Rule × List (List ℕ)) Fault) → IsRuleLine variables classes names line meant → AnswersAs (length line) answer later meant
answers-as variables classes names line (Ok rule) later is meant of_line = line-one variables classes names line meant (Ok (rule, later)) of_line is
answers-as variables classes names line (Err why) later (inl memory) meant of_line = inl memory
answers-as variables classes names line (Err why) later (inr (fault, is, shown)) meant of_line = inr (fault, line-one variables classes names line meant (Err fault) of_line is, shown)
