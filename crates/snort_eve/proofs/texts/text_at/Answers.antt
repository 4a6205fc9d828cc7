-- A place that isn't below the number of classes has no class, and so an empty text: `slice_get_past`.
use Rattle.std.proofs.Common.{[], ◌≤◌, Option, length, ap, sym, arith}
use Rattle.std.specs.Prelude.{option_map, unwrap_or}
use Rattle.std.proofs.lemmas.Option.{slice_get_past}
use Rattle.conf_types.specs.declared.classes.Class.{Class}
use Rattle.snort_eve.proofs.texts.text_at.Goals as goal

pub returns-else-place-len : goal.returns-else-place-len
returns-else-place-len c =
    let past : length c.args.classes.now ≤ c.args.place = omega (arith, c.if-place-len.false, c.len.ensures.len) in
    sym (ap (λ (o : Option Class). unwrap_or (option_map (λ (class : Class). class.text) o) []) (slice_get_past c.args.classes.now c.args.place past))
