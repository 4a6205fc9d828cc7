-- Options that are tried by what was made of them, and what a trial spends.
--
-- To try it on: of `content:"a"; byte_extract:1,0,n,relative; content:"b"; offset:n;` n is read at no more than 100 places of
-- 100 bytes, so few points follow its extraction, and each payload option is visited at no more than 101 places for
-- each list of values.
use Rattle.std.specs.Prelude.{◌≡◌, ℕ, ◌+◌, ◌≤◌, Bool, false, MatchBool, List, map, length, Option, Some, None}
use Rattle.std.specs.List.{AllZip}
use Rattle.edge_io.specs.declared.pattern.Span.{Span}
use Rattle.rule_types.specs.declared.option.Opt.{Opt}
use Rattle.rule_types.specs.declared.rule.Rule.{Rule}
use Rattle.option_eval.specs.declared.asked.AskedPlaces.{AskedPlaces}
use Rattle.option_eval.specs.declared.made.MadeOption.{MadeOption}
use Rattle.option_eval.specs.declared.next.NextPlaces.{NextPlaces}
use Rattle.option_eval.specs.declared.states.States.{States}
use Rattle.option_eval.specs.Kinds.{is_relative}
use Rattle.option_eval.specs.Next.{next_set, IsForAll, RisesTo}
use Rattle.option_eval.specs.Numbers.{Point}
use Rattle.option_eval.specs.Places.{Means}
use Rattle.option_eval.specs.Ready.{pattern_of}
use Rattle.option_eval.specs.RuleSet.{Rules, IsMade, FindWhatIsMeant, IsRuleAt}
use Rattle.option_eval.specs.Sets.{Gathers, IsLedTo, LeadsFrom}
use Rattle.option_eval.specs.States.{Leaves, MatchesFromSome}
use Rattle.option_eval.specs.Values.{list_count, point_count}
use Rattle.option_eval.specs.Walks.{MatchesFromOne, HasEachValueList, part_points}

-- whatever is meant, if what was made of the options finds it
abbrev pub OfMade : {P : Type 0} → (P → List ℕ → Option Span) → List Opt → List (MadeOption P) → (Means → Type 0) → Type 0
OfMade finds options made Holds = (means : Means) → AllZip (IsMade finds means) options (map pattern_of made) → Holds means

-- whatever is meant, if what was made of one option finds it
abbrev pub OfMadeOne : {P : Type 0} → (P → List ℕ → Option Span) → Opt → MadeOption P → (Means → Type 0) → Type 0
OfMadeOne finds option made Holds = (means : Means) → IsMade finds means option (pattern_of made) → Holds means

-- of the rule at a place, where what was made of all rules finds it
abbrev pub OfRule : {P : Type 0} → (P → List ℕ → Option Span) → Rules P → ℕ → (Means → Rule → Type 0) → Type 0
OfRule finds set place Holds =
    (means : Means) → (chosen : Rule) → FindWhatIsMeant finds means set → IsRuleAt set place chosen → Holds means chosen

-- few points follow the extractions: by how many lists of values there are
abbrev pub OfFewValues : (List (List ℕ) → Option (List Point) → Type 0) → (ℕ → Type 0) → Type 0
OfFewValues Have Holds =
    (lists : List (List ℕ)) → (listed : List Point) → Have lists (Some listed) → length listed ≤ part_points
    → Holds (length lists)

-- however many points follow them
abbrev pub OfAllValues : (List (List ℕ) → Option (List Point) → Type 0) → (ℕ → Type 0) → Type 0
OfAllValues Have Holds = (lists : List (List ℕ)) → Have lists None → Holds (length lists)

-- some lists have all values of any way, and all points that follow its extractions, and are short
abbrev pub HasFewValues : Means → List ℕ → List Opt → Type 0
HasFewValues means payload options =
    (lists : List (List ℕ)) × (listed : List Point) × HasEachValueList means payload options lists (Some listed)
    × (length lists ≤ list_count options (length payload)) × (length listed ≤ point_count options (length payload))

-- where options are tried: in a payload, with these values, from these places
pub record Beginning : Type 0 where
  pub payload : List ℕ
  pub values : List ℕ
  pub places : List ℕ

abbrev pub beginning : List ℕ → List ℕ → List ℕ → Beginning
beginning payload values places = record { payload = payload; values = values; places = places }

-- a walk up to the first extraction: a way leads through, or the states that it leaves after that
abbrev pub IsWalked : Means → List Opt → Beginning → States → States → Bool → Type 0
IsWalked means options at old new walked =
    MatchBool walked (MatchesFromOne means at.payload options at.values at.places)
    (Leaves means at.payload options at.values at.places old new)

-- the states that were there are tried, if they are a part: a way leads through from them, or what does leads
-- through from those that are left
abbrev pub IsPartPassed : Means → List ℕ → List Opt → States → States → Bool → Type 0
IsPartPassed means payload options old new passed =
    MatchBool passed (MatchesFromSome means payload options old)
    (MatchesFromSome means payload options old → MatchesFromSome means payload options new)

-- an option leads to these places; where only some place is needed, to one of them
abbrev pub LeadsTo : Means → Opt → Bool → AskedPlaces → NextPlaces → Type 0
LeadsTo means option every at next =
    Gathers every (IsLedTo (LeadsFrom means at.payload.now at.values.now option) at.places.now) (next_set next at.places.now)

-- the places after an option: it leads to them, whatever is meant, if what was made of it finds that; they rise, and none is
-- past the payload's end; where it counts from the payload's start they tell nothing of those before it
pub record IsNext {P : Type 0} (finds : P → List ℕ → Option Span) (option : Opt) (made : MadeOption P) (at : AskedPlaces)
    (every : Bool)
    (next : NextPlaces) : Type 0 where
  pub found : OfMadeOne finds option made (λ means. LeadsTo means option every at next)
  pub rising : RisesTo (length at.payload.now + 1) next
  pub apart : is_relative option ≡ false → IsForAll option next
