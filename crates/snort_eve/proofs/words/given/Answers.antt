-- The rows are the entries of the matches one by one, so that the entry that is found by an id has the row that is found by
-- it, with the same source and first value.
use Rattle.std.proofs.Common.{◌≡◌, ◌∙◌, refl, sym, ap, ap₂, Option, Some, None}
use Rattle.std.specs.Prelude.{option_and_then, option_map, find, slice_get}
use Rattle.std.specs.Str.{bytes_eq}
use Rattle.std.proofs.lemmas.Option.{slice_get-map}
use Rattle.clap.specs.Facts.{Entry}
use Rattle.clap.specs.Matches.{first_value, found_of, matched_of}
use Rattle.clap.specs.Walk.{Row, Text, row_of, rows_of}
use Rattle.clap.specs.declared.parser.matches.Found.{Found}
use Rattle.clap.proofs.WalkLemmas.{find-map}
use Rattle.snort_eve.specs.Asking.{given_in, given_text, if_given}
use Rattle.snort_eve.proofs.words.given.Goals as goal

-- the first value of an id that the words gave, in the matches and in their rows
given_is : (f : Found) (id : Text) → if_given (option_and_then (λ a. a.source) (matched_of f id)) (first_value f id) ≡ given_in (rows_of f) id
given_is f id =
    go (find (λ (e : Entry). bytes_eq e.0.now id) f.entries.items)
    ∙ ap (option_and_then given_text) (find-map (λ (r : Row). bytes_eq r.id id) row_of f.entries.items)
  where
    of_entry : (e : Entry) → if_given e.1.source (option_map (λ s. s.now) (slice_get e.1.vals.items 0)) ≡ given_text (row_of e)
    of_entry e = ap (if_given e.1.source) (sym (slice_get-map (λ s. s.now) e.1.vals.items 0))

    go : (found : Option Entry)
        → if_given (option_and_then (λ a. a.source) (option_map (λ e. e.1) found))
        (option_and_then (λ a. option_map (λ s. s.now) (slice_get a.vals.items 0)) (option_map (λ e. e.1) found))
        ≡ option_and_then given_text (option_map row_of found)
    go None = refl
    go (Some e) = of_entry e

pub returns : goal.returns
returns c =
    c.if_given.ensures ∙ ap₂ if_given c.value_source.ensures c.get_str.ensures
    ∙ given_is (found_of c.args.matches.now) c.args.id.now
