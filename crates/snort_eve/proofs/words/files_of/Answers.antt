-- The names that `clap` has for `FILE` are those of the rows (`raw_values-rows`), and the list
-- that they are added to was empty.
use Rattle.std.proofs.Common.{List, ℕ, ap, map, ◌++◌, ◌∙◌}
use Rattle.std.specs.Prelude.{codes, option_map}
use Rattle.std.specs.Borrow.{Bor}
use Rattle.clap.specs.Matches.{found_of}
use Rattle.clap.proofs.WalkLemmas.{raw_values-rows}
use Rattle.snort_eve.specs.Asking.{files_of}
use Rattle.snort_eve.proofs.words.files_of.Goals as goal

abbrev lent : List (Bor (List ℕ)) → List (List ℕ)
lent names = map (λ (name : Bor (List ℕ)). name.now) names

pub returns : goal.returns
returns c =
    let names = option_map (λ (ns : Bor (List (Bor (List ℕ)))). lent ns.now) c.get_strs.result in
    c.in_ok-push_named.ensures
    ∙ ap (λ (old : List (Bor (List ℕ))). lent old ++ files_of names) c.new-files.ensures.items
    ∙ ap files_of (c.get_strs.ensures ∙ raw_values-rows (found_of c.args.matches.now) (codes "FILE"))
