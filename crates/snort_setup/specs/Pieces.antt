-- How the code writes the reason of a refusal: words, and after them what the refused line has.
use Rattle.std.specs.Prelude.{ℕ, List, ◌++◌}
use Rattle.snort_setup.specs.declared.message.Reason as code

-- the whole text
abbrev pub reason_text : code.Reason → List ℕ
reason_text reason = reason.words.now ++ reason.shown.now
