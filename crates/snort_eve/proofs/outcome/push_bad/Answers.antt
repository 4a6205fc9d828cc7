-- The front is appended first and then the place, which joined are the text of the definition: `append_assoc`.
use Rattle.std.proofs.Common.{List, ℕ, ◌++◌, ◌∙◌, ap, append_assoc}
use Rattle.std.proofs.lemmas.Result.{on_ok_weaker}
use Rattle.snort_eve.specs.Runs.{bad_front, place_text}
use Rattle.snort_eve.proofs.outcome.push_bad.Goals as goal

pub returns : goal.returns
returns c =
    on_ok_weaker c.push_place.result
    (λ then. then ∙ ap (λ (x : List ℕ). x ++ place_text c.args.at) c.in_ok-push_bad_front.ensures
    ∙ append_assoc c.args.out.now.items (bad_front c.args.name.now) (place_text c.args.at))
    c.push_place.ensures
