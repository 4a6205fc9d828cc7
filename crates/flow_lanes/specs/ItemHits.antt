-- Items of one session with all rules that match them, and the bits that they leave.
--
-- The rules of an item see the bits that the items before it left (Snort Users Manual 2.9, section 3.6.10).
-- Of the items all may be told, or those alone that a rule matches.
-- To try it on: where a rule sets a bit on the first of two items, the second sees it from its first rule on.
use Rattle.std.specs.Prelude.{◌==◌, Bool, not, List, [], ◌∷◌, Option, filter, fold, length, if◌then◌else◌}
use Rattle.rule_eval.specs.declared.item.Item.{Item}
use Rattle.rule_eval.specs.Hits.{Bits, Trying, matching}
use Rattle.rule_eval.specs.Picking.{bits_after_all}
use Rattle.flow_lanes.specs.declared.answer.Hits.{Hits}
use Rattle.flow_lanes.specs.declared.answer.JobHits.{JobHits}

-- the bits after an item
abbrev pub bits_after_item : Trying → Option Bits → Item → Option Bits
bits_after_item trying bits item = bits_after_all trying.rules bits (matching trying item bits)

-- an item with all rules that match it
abbrev pub hit : Trying → Option Bits → Item → Hits
hit trying bits item = record { head = item.head; rules = matching trying item bits }

-- items of one session with all rules that match them, from these bits on
unfoldable pub hits_of : Trying → Option Bits → List Item → List Hits
hits_of trying bits [] = []
hits_of trying bits (item ∷ items) = hit trying bits item ∷ hits_of trying (bits_after_item trying bits item) items

-- the bits after items of one session
abbrev pub bits_after_items : Trying → Option Bits → List Item → Option Bits
bits_after_items trying bits items = fold (bits_after_item trying) bits items

-- What is told of items.

-- a rule matches the item
abbrev pub is_matched : Hits → Bool
is_matched hits = not (length hits.rules == 0)

-- the items that a rule matches
abbrev pub matched : List Hits → List Hits
matched items = filter is_matched items

-- a job with those of its items that a rule matches
abbrev pub matched_entry : JobHits → JobHits
matched_entry entry = record { number = entry.number; items = matched entry.items }

-- all items, or those that a rule matches
abbrev pub told : Bool → List Hits → List Hits
told all items = if all then items else matched items

-- a job with those of its items that are told
abbrev pub told_entry : Bool → JobHits → JobHits
told_entry all entry = record { number = entry.number; items = told all entry.items }
