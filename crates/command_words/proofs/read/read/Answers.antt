-- The arguments are texts (`arguments_text`), and of such words the rows of `clap` ask for what the plain reading asks
-- for: the lemma `command_is`.
use Rattle.std.proofs.Common.{◌∙◌, ap, map, List, Option}
use Rattle.std.specs.Prelude.{string_bytes}
use Rattle.clap.specs.Walk.{Row}
use Rattle.edge_io.specs.OnOption.{◌>>=◌}
use Rattle.command_words.specs.Clap.{asked_in}
use Rattle.command_words.proofs.Matched.{command_is}
use Rattle.command_words.proofs.Rows.{arguments_text}
use Rattle.command_words.proofs.read.read.Goals as goal

pub returns : goal.returns
returns c =
    c.asked_in.ensures ∙ ap (λ (rows : Option (List Row)). rows >>= asked_in) c.in_ok-matches.ensures
    ∙ command_is (map string_bytes c.args.words.now) (arguments_text c.args.words.now)
