-- How the symbols inside a list's brackets are read from left to right, without recursion: what is wanted
-- next, how many brackets are open, and how many of these, from the innermost on, lie in a negated one.
-- That this accepts exactly the grammar of lists is proved of it.
--
-- To try it on: after `80,![` an item is wanted, one bracket is open, and it is negated.
use Rattle.std.specs.Prelude.{◌≡◌, ℕ, ◌+◌, ◌-◌, ◌<◌, ◌≤◌, ◌==◌, ◌&&◌, ◌||◌, ◌++◌, ⊤, Bool, true, false, not, Option, Some, None, Result, Ok, Err, Vec, List, [], ◌∷◌, length, take, drop, get_or, codes, bytes_eq, nat_lt, nat_le, if◌then◌else◌}
use Rattle.std.specs.Option.{option_map, option_to_list}
use Rattle.std.specs.declared.alloc.Global.{Global}
use Rattle.net_lists.specs.declared.part.Part.{Part}
use Rattle.net_lists.specs.declared.place.Place.{Place}
use Rattle.net_lists.specs.declared.place.ListStep.{ListStep}
use Rattle.net_lists.specs.declared.place.Wanted.{Wanted}
use Rattle.net_lists.specs.declared.place.Wanted.TheVariants as wanted
use Rattle.net_lists.specs.declared.read.ReadFault.{ReadFault}
use Rattle.net_lists.specs.declared.read.ReadFault.TheVariants as fault
use Rattle.net_lists.specs.Lists.{signed}
use Rattle.net_lists.specs.Tokens.{Symbol, Open, Close, Comma, Not, Word, symbols}

-- an operand that is here is negated
abbrev pub is_negated : Place → Bool
is_negated place = elim (place.wanted) [ wanted.Operand ↦ true | _ ↦ nat_lt 0 place.negated ]

-- a part or a bracket may come here
abbrev pub wants_operand : Place → Bool
wants_operand place = elim (place.wanted) [ wanted.Separator ↦ false | _ ↦ true ]

-- an item may come here
abbrev pub wants_item : Place → Bool
wants_item place = elim (place.wanted) [ wanted.Item ↦ true | _ ↦ false ]

-- a place with `depth` open brackets, `negated` of them negated, where this is wanted
abbrev pub at : Wanted → ℕ → ℕ → Place
at wanted depth negated = record { wanted = wanted; depth = depth; negated = negated }

-- the place before the first symbol of brackets, which may come after a `!`
abbrev pub start : Bool → Place
start negated = at wanted.Item 0 (if negated then 1 else 0)

-- the step after a word: the part that it is, with the place's sign
unfoldable pub after_word : {B : Type 0} → (List ℕ → Option B) → Place → List ℕ → Option (ListStep B)
after_word reads place word =
    if wants_operand place
    then option_map (λ bounds. record {
      place = at wanted.Separator place.depth place.negated;
      part = Some (signed (is_negated place) bounds);
    }) (reads word)
    else None

-- the step after a mark, which is no part
abbrev pub no_part : {B : Type 0} → Place → ListStep B
no_part place = record { place = place; part = None }

-- the step after a `[`
unfoldable pub after_open : {B : Type 0} → Place → Option (ListStep B)
after_open place =
    if wants_operand place then Some (no_part (at wanted.Item (place.depth + 1) (if is_negated place then place.negated + 1
    else 0))) else None

-- the step after a `]`
unfoldable pub after_close : {B : Type 0} → Place → Option (ListStep B)
after_close place =
    if wants_operand place || place.depth == 0 then None
    else Some (no_part (at wanted.Separator (place.depth - 1) (place.negated - 1)))

-- the step after a `,`
unfoldable pub after_comma : {B : Type 0} → Place → Option (ListStep B)
after_comma place = if wants_operand place then None else Some (no_part (at wanted.Item place.depth place.negated))

-- the step after a `!`
unfoldable pub after_not : {B : Type 0} → Place → Option (ListStep B)
after_not place =
    if wants_item place && place.negated == 0 then Some (no_part (at wanted.Operand place.depth place.negated)) else None

-- the next place after a symbol, with the part that it is, if it may come there
abbrev pub step_of : {B : Type 0} → (List ℕ → Option B) → Place → Symbol → Option (ListStep B)
step_of reads place Open = after_open place
step_of reads place Close = after_close place
step_of reads place Comma = after_comma place
step_of reads place Not = after_not place
step_of reads place (Word word) = after_word reads place word

-- the text may end here
abbrev pub is_end : Place → Bool
is_end place = not (wants_operand place) && place.depth == 0

-- no deeper than one bracket more, and with no more negated brackets than there are
abbrev pub IsNext : Place → Place → Type 0
IsNext old new = (new.depth ≤ old.depth + 1) × (old.negated ≤ old.depth + 1 → new.negated ≤ new.depth + 1)

-- these parts before the rest, if there is a rest
abbrev pub before : {B : Type 0} → List (Part B) → Option (List (Part B)) → Option (List (Part B))
before parts rest = option_map (λ more. parts ++ more) rest

-- the parts from a place on, if the symbols may come there and then end
unfoldable pub run : {B : Type 0} → (List ℕ → Option B) → Place → List Symbol → Option (List (Part B))
run reads place [] = if is_end place then Some [] else None
run reads place (symbol ∷ rest) = elim (step_of reads place symbol) [
  | None ↦ None
  | Some step ↦ before (option_to_list step.part) (run reads step.place rest)
]

-- the parts of the symbols of this text, which is in brackets that may be negated
unfoldable pub group_parts : {B : Type 0} → (List ℕ → Option B) → Bool → List ℕ → Option (List (Part B))
group_parts reads negated inner = run reads (start negated) (symbols inner)

-- what is between a `[` (91) in front and a `]` (93) at the end
unfoldable pub bracketed : List ℕ → Option (List ℕ)
bracketed text =
    if (nat_le 2 (length text) && get_or text 0 0 == 91) && get_or text (length text - 1) 0 == 93
    then Some (take (length text - 2) (drop 1 text)) else None

-- the parts of a part or of a group in brackets, with this sign
unfoldable pub operand_parts : {B : Type 0} → (List ℕ → Option B) → Bool → List ℕ → Option (List (Part B))
operand_parts reads negated text = elim (bracketed text) [
  | None ↦ option_map (λ bounds. signed negated bounds ∷ []) (reads text)
  | Some inner ↦ group_parts reads negated inner
]

-- the parts of a list after a `!` (33), if there is one in front
unfoldable pub signed_parts : {B : Type 0} → (List ℕ → Option B) → List ℕ → Option (List (Part B))
signed_parts reads [] = operand_parts reads false []
signed_parts reads (first ∷ rest) =
    if first == 33 then operand_parts reads true rest else operand_parts reads false (first ∷ rest)

-- the parts of a list
unfoldable pub list_parts : {B : Type 0} → (List ℕ → Option B) → List ℕ → Option (List (Part B))
list_parts reads text = if bytes_eq text (codes "any") then Some [] else signed_parts reads text

-- an answer of a reader stands for these parts, or for none; want of memory for anything
abbrev pub Reads : {X B : Type 0} → (X → List (Part B)) → Result X ReadFault → Option (List (Part B)) → Type 0
Reads items (Ok list) parts = parts ≡ Some (items list)
Reads items (Err fault.Bad) parts = parts ≡ None
Reads items (Err fault.TooLong) parts = ⊥
Reads items (Err fault.NoMemory) parts = ⊤

-- an answer of a reader that takes 1024 parts at most stands for these parts, or for none
abbrev pub ReadsList : {X B : Type 0} → (X → List (Part B)) → Result X ReadFault → Option (List (Part B)) → Type 0
ReadsList items (Ok list) parts = (parts ≡ Some (items list)) × (length (items list) ≤ 1024)
ReadsList items (Err fault.Bad) parts = parts ≡ None
ReadsList {B = B} items (Err fault.TooLong) parts = (long : List (Part B)) × (parts ≡ Some long) × (1024 < length long)
ReadsList items (Err fault.NoMemory) parts = ⊤

-- the list of this part alone, or want of memory
abbrev pub IsOne : {B : Type 0} → Part B → Result (Vec (Part B) Global) ReadFault → Type 0
IsOne part (Ok list) = list.items ≡ part ∷ []
IsOne part (Err fault.Bad) = ⊥
IsOne part (Err fault.TooLong) = ⊥
IsOne part (Err fault.NoMemory) = ⊤
