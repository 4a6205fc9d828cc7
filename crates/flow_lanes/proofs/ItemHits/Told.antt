-- What is told of items: all of them, or those that a rule matches.
use Rattle.std.proofs.Common.{◌≡◌, ℕ, ◌==◌, Bool, true, false, not, cond, List, [], ◌∷◌, ◌++◌, length, refl, ap, ◌∙◌, arith}
use Rattle.std.specs.Prelude.{fold}
use Rattle.std.proofs.lemmas.Bool.Decides.{nat_tests}
use Rattle.std.proofs.lemmas.List.Elements.{filter-append}
use Rattle.rule_types.specs.declared.rule.Rule.{Rule}
use Rattle.flow_lanes.specs.declared.answer.Hits.{Hits}
use Rattle.flow_lanes.specs.Flows.{SidesOn, sides_after_hit, steered}
use Rattle.flow_lanes.specs.ItemHits.{is_matched, matched, told}
use Rattle.flow_lanes.specs.Sessions.{FlowSession}
use Rattle.flow_lanes.specs.Sides.{turned}

-- of no items none is told
pub told-none : (all : Bool) → told all [] ≡ []
told-none true = refl
told-none false = refl

-- of two lists those of both are told
pub told-append : (all : Bool) (front back : List Hits) → told all (front ++ back) ≡ told all front ++ told all back
told-append true front back = refl
told-append false front back = filter-append is_matched front back

-- a list of some elements has a length
pub some_length : (place : ℕ) (places : List ℕ) → (length (place ∷ places) == 0) ≡ false
some_length place places = grind (arith, nat_tests)

-- items that no rule matches turn no side on or off
sides-matched : (rules : List Rule) (sides : SidesOn) (items : List Hits) → fold (sides_after_hit rules) sides (matched items) ≡ fold (sides_after_hit rules) sides items
sides-matched rules sides [] = refl
sides-matched rules sides (item ∷ items) = by_rules item.rules (λ (after : SidesOn). sides-matched rules after items)
  where
    by_rules : (places : List ℕ) → ((after : SidesOn) → fold (sides_after_hit rules) after (matched items) ≡ fold (sides_after_hit rules) after items)
        → fold (sides_after_hit rules) sides (cond (not (length places == 0)) (record { head = item.head; rules = places } ∷ matched items) (matched items))
        ≡ fold (sides_after_hit rules) sides (record { head = item.head; rules = places } ∷ items)
    by_rules [] rest = rest sides
    by_rules (place ∷ places) rest =
        let hit : Hits = record { head = item.head; rules = place ∷ places } in
        ap (λ (empty : Bool). fold (sides_after_hit rules) sides (cond (not empty) (hit ∷ matched items) (matched items))) (some_length place places)
        ∙ rest (sides_after_hit rules sides hit)

-- the session after a job is the same by all of its items and by those that are told
pub steered-told : (all : Bool) (rules : List Rule) (items : List Hits) (session : FlowSession) → steered rules (told all items) session ≡ steered rules items session
unfolding steered
steered-told true rules items session = refl
steered-told false rules items session =
    ap (λ (sides : SidesOn). record session { client = turned sides.client session.client; server = turned sides.server session.server })
    (sides-matched rules (record { client = session.client.on; server = session.server.on }) items)
