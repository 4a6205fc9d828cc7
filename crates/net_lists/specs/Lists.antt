-- The grammar of address lists and of port lists, with the list of parts that each text of it spells.
--
-- A list is `any`, a part, or parts in brackets between commas, nested at will; `!` before a part or a
-- bracket negates each part in it. A `!` inside a negated bracket, `!any`, `[any]` and an empty bracket
-- are in no list. Blanks are only inside brackets, and not inside a part.
-- (Snort Users Manual 2.9, "IP Addresses" and "Port Numbers"; where that leaves points open, our own.)
-- To try it on: `![80,[81,82:]]` is three negated parts, and `![80,!81]` is no list.
use Rattle.std.specs.Prelude.{◌≡◌, ℕ, ◌<◌, ◌≤◌, ⊤, Bool, true, false, Option, Some, Result, Ok, Err, List, [], ◌∷◌, ◌++◌, length, codes}
use Rattle.net_lists.specs.declared.part.Part.{Part}
use Rattle.net_lists.specs.declared.fault.ListFault.{ListFault}
use Rattle.net_lists.specs.declared.fault.ListFault.TheVariants.{BadAddress, BadPort, ListTooLong, NoMemory}
use Rattle.net_lists.specs.Tokens.{Symbol, Open, Close, Comma, Not, Word, symbols}

-- the values of a part, with its sign
abbrev pub signed : {B : Type 0} → Bool → B → Part B
signed negated bounds = record { negated = negated; bounds = bounds }

-- what the rules below derive
pub data Rule : Type 0 where
  Operand : Rule
  Item : Rule
  Group : Rule

-- These symbols are an operand, an item or a group, and spell these parts, each negated where the second
-- argument says so. `reads` says which words are parts.
pub data Derives {B : Type 0} (reads : List ℕ → Option B) : Rule → Bool → List Symbol → List (Part B) → Type 0 where
  -- an operand is a part,
  part : {negated : Bool} {word : List ℕ} {bounds : B} → reads word ≡ Some bounds
      → Derives reads Operand negated (Word word ∷ []) (signed negated bounds ∷ [])
  -- or a group in brackets;
  bracket : {negated : Bool} {inner : List Symbol} {parts : List (Part B)} → Derives reads Group negated inner parts
      → Derives reads Operand negated (Open ∷ (inner ++ Close ∷ [])) parts
  -- an item is an operand,
  plain : {negated : Bool} {operand : List Symbol} {parts : List (Part B)} → Derives reads Operand negated operand parts
      → Derives reads Item negated operand parts
  -- or a `!` and a negated operand, where it is not in a negated bracket;
  negation : {operand : List Symbol} {parts : List (Part B)} → Derives reads Operand true operand parts
      → Derives reads Item false (Not ∷ operand) parts
  -- a group is an item,
  one : {negated : Bool} {item : List Symbol} {parts : List (Part B)} → Derives reads Item negated item parts
      → Derives reads Group negated item parts
  -- or a group, a comma and an item
  more : {negated : Bool} {front item : List Symbol} {before parts : List (Part B)} → Derives reads Group negated front before
      → Derives reads Item negated item parts → Derives reads Group negated (front ++ (Comma ∷ item)) (before ++ parts)

-- This text is a list, and spells these parts.
pub data IsList {B : Type 0} (reads : List ℕ → Option B) : List ℕ → List (Part B) → Type 0 where
  -- `any`,
  any : IsList reads (codes "any") []
  -- a part,
  single : {text : List ℕ} {bounds : B} → reads text ≡ Some bounds → IsList reads text (signed false bounds ∷ [])
  -- a part after a `!`,
  single_negated : (text : List ℕ) {bounds : B} → reads text ≡ Some bounds
      → IsList reads (codes "!" ++ text) (signed true bounds ∷ [])
  -- a group in brackets,
  brackets : (inner : List ℕ) {parts : List (Part B)} → Derives reads Group false (symbols inner) parts
      → IsList reads (codes "[" ++ (inner ++ codes "]")) parts
  -- or a group in brackets after a `!`
  brackets_negated : (inner : List ℕ) {parts : List (Part B)} → Derives reads Group true (symbols inner) parts
      → IsList reads (codes "![" ++ (inner ++ codes "]")) parts

-- what is answered for a text that spells these parts: they, where they are at most 1024
abbrev pub IsAnswer : {B : Type 0} → List (Part B) → Result (List (Part B)) ListFault → Type 0
IsAnswer parts (Ok list) = (list ≡ parts) × (length parts ≤ 1024)
IsAnswer parts (Err ListTooLong) = 1024 < length parts
IsAnswer parts (Err NoMemory) = ⊤
IsAnswer parts (Err BadAddress) = ⊥
IsAnswer parts (Err BadPort) = ⊥

-- the text is a list of more than 1024 parts
abbrev pub IsTooLong : {B : Type 0} → (List ℕ → Option B) → List ℕ → Type 0
IsTooLong {B} reads text = (parts : List (Part B)) × IsList reads text parts × (1024 < length parts)
