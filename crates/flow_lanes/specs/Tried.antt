-- What a tally gains: items that are tried, with all rules that match them. All of them are told, or those that a
-- rule matches, all are counted, and so are the visits of their payloads.
--
-- To try it on: where a rule sets a bit on the first of two items that are tried, the second sees it. Of two items
-- with a candidate each, of which the second matches, a tally gains 2 items, 2 candidates, and the second item
-- alone unless all are told.
use Rattle.std.specs.Prelude.{◌≡◌, ℕ, ◌+◌, ◌≤◌, List, ◌++◌, Option, length, sum_by}
use Rattle.edge_io.specs.declared.pattern.Span.{Span}
use Rattle.rule_types.specs.declared.rule.Rule.{Rule}
use Rattle.fast_pattern.specs.Candidates.{candidates}
use Rattle.option_eval.specs.Places.{Means}
use Rattle.option_eval.specs.RuleSet.{FindWhatIsMeant, Rules}
use Rattle.rule_eval.specs.declared.item.Item.{Item}
use Rattle.rule_eval.specs.Hits.{Bits, Tells, Trying}
use Rattle.flow_lanes.specs.declared.answer.Hits.{Hits}
use Rattle.flow_lanes.specs.declared.tally.JobTally.{JobTally}
use Rattle.flow_lanes.specs.Flows.{FlowState, all_items, hits_in}
use Rattle.flow_lanes.specs.Given.{Inspection}
use Rattle.flow_lanes.specs.ItemHits.{bits_after_items, hits_of, told}
use Rattle.flow_lanes.specs.Items.{JobItems}
use Rattle.flow_lanes.specs.Work.{visits_over}

-- the rules of the set are tried, and it is told which of them match
pub record TriesBy {P : Type 0} (finds : P → List ℕ → Option Span) (means : Means) (set : Rules P)
    (trying : Trying) : Type 0 where
  pub rules : trying.rules ≡ set.rules
  pub made : FindWhatIsMeant finds means set
  pub told : Tells means trying.matches

-- something holds by each test that tells which of the rules match, whatever the texts of patterns mean
abbrev pub ByTest : {P : Type 0} → Inspection P → (Trying → Type 0) → Type 0
ByTest by Holds = (means : Means) (trying : Trying) → TriesBy by.finds means by.set trying → Holds trying

-- how many candidates these items have
abbrev pub candidates_of : List Rule → List Item → ℕ
candidates_of rules items = sum_by (λ (item : Item). length (candidates rules item.head.body item.payload)) items

-- what is gained: items, and the same with the rules that match them by a test
pub record Gain : Type 0 where
  pub items : List Item
  pub hits : Trying → List Hits

-- items of one session, which find these bits
abbrev pub of_session : Option Bits → List Item → Gain
of_session bits items = record { items = items; hits = λ trying. hits_of trying bits items }

-- the items of a job that finds this of its flow
abbrev pub of_job : JobItems → Option FlowState → Gain
of_job items found = record { items = all_items items; hits = λ trying. hits_in trying items found }

-- what a tally has of the items so far; what they cost is no part of it
pub record SoFar : Type 0 where
  pub hits : List Hits
  pub items : ℕ
  pub tries : ℕ
  pub visits : ℕ

abbrev pub so_far : {L : Type 0} → JobTally L → SoFar
so_far tally = record { hits = tally.hits.items; items = tally.items; tries = tally.tries; visits = tally.visits }

-- a tally gains this
pub record Tallies {P : Type 0} (by : Inspection P) (gain : Gain) (old new : SoFar) : Type 0 where
  pub hits : ByTest by (λ trying. new.hits ≡ old.hits ++ told by.all (gain.hits trying))
  pub more : length old.hits ≤ length new.hits
  pub items : new.items ≡ old.items + length gain.items
  pub tries : new.tries ≡ old.tries + candidates_of by.set.rules gain.items
  pub visits : (means : Means) → FindWhatIsMeant by.finds means by.set
      → new.visits ≤ old.visits + visits_over by.set.rules gain.items

-- a tally has this gain and nothing else
pub record Tallied {P : Type 0} (by : Inspection P) (gain : Gain) (all : SoFar) : Type 0 where
  pub hits : ByTest by (λ trying. all.hits ≡ told by.all (gain.hits trying))
  pub items : all.items ≡ length gain.items
  pub tries : all.tries ≡ candidates_of by.set.rules gain.items
  pub visits : (means : Means) → FindWhatIsMeant by.finds means by.set → all.visits ≤ visits_over by.set.rules gain.items

-- items of one session are tried, in order: a tally gains them, and they leave these bits
pub record Tries {P : Type 0} (by : Inspection P) (items : List Item) (old new : Option Bits)
    (before after : SoFar) : Type 0 where
  pub tallies : Tallies by (of_session old items) before after
  pub bits : ByTest by (λ trying. new ≡ bits_after_items trying old items)
