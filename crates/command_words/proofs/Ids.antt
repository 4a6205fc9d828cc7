-- A walk over the ids of what clap matched: one of those that are left is another, or none is.
use Rattle.std.proofs.Common.{◌≡◌, ◌∙◌, ◌&&◌, ◌||◌, Bool, true, false, not, refl, sym, ap, List, [], ◌∷◌, map, drop, Some, None}
use Rattle.std.specs.Prelude.{is_some, slice_get}
use Rattle.clap.specs.Facts.{Entry}
use Rattle.clap.specs.Walk.{Row, Text, row_of, rows_of}
use Rattle.clap.specs.declared.parser.matches.Found.{Found}
use Rattle.command_words.specs.Clap.{given_in, others_among, others_in}
use Rattle.command_words.specs.CommandLine.{may_be_beside}

ids_are : (entries : List Entry) → map (λ (row : Row). row.id) (map row_of entries) ≡ map (λ (e : Entry). e.0.now) entries
ids_are [] = refl
ids_are (e ∷ entries) = ap (λ (ids : List Text). e.0.now ∷ ids) (ids_are entries)

-- at the first one, all ids are left
pub at_first : (found : Found) (left : List Text) → left ≡ map (λ (e : Entry). e.0.now) found.entries.items → others_in (rows_of found) ≡ others_among (rows_of found) left
at_first found left is = ap (others_among (rows_of found)) (ids_are found.entries.items ∙ sym is)

-- the next one decides, or those after it do
next : (rows : List Row) (left later : List Text) (id : Text) → Some id ≡ slice_get left 0 → later ≡ drop 1 left
    → others_among rows left ≡ ((not (may_be_beside id) && is_some (given_in rows id)) || others_among rows later)
next rows [] later id is following = absurd cc
next rows (first ∷ left) later id is following = rw (following, same) refl
  where
    same : id ≡ first
    same = cc

pub at_other : (rows : List Row) (left later : List Text) (id : Text) → Some id ≡ slice_get left 0 → later ≡ drop 1 left
    → may_be_beside id ≡ false → is_some (given_in rows id) ≡ true → others_among rows left ≡ true
at_other rows left later id is following apart given =
    next rows left later id is following
    ∙ ap (λ (b : Bool). (not b && is_some (given_in rows id)) || others_among rows later) apart
    ∙ ap (λ (b : Bool). b || others_among rows later) given

pub past_beside : (rows : List Row) (left later : List Text) (id : Text) → Some id ≡ slice_get left 0 → later ≡ drop 1 left
    → may_be_beside id ≡ true → others_among rows left ≡ others_among rows later
past_beside rows left later id is following beside =
    next rows left later id is following
    ∙ ap (λ (b : Bool). (not b && is_some (given_in rows id)) || others_among rows later) beside

pub past_default : (rows : List Row) (left later : List Text) (id : Text) → Some id ≡ slice_get left 0 → later ≡ drop 1 left
    → is_some (given_in rows id) ≡ false → others_among rows left ≡ others_among rows later
past_default rows left later id is following lacks =
    next rows left later id is following
    ∙ ap (λ (b : Bool). (not (may_be_beside id) && b) || others_among rows later) lacks
    ∙ ap (λ (b : Bool). b || others_among rows later) (and_false (not (may_be_beside id)))
  where
    and_false : (b : Bool) → (b && false) ≡ false
    and_false true = refl
    and_false false = refl

-- after the last one there is none
pub at_end : (rows : List Row) (left : List Text) → None ≡ slice_get left 0 → others_among rows left ≡ false
at_end rows [] is = refl
at_end rows (id ∷ left) is = absurd cc
