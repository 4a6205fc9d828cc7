-- The name is UTF-8, so the way out for one that isn't is never taken.
use Rattle.std.proofs.lemmas.Str.{IsUtf8-from_is_utf8}
use Rattle.conf_parser.proofs.loading.file_bytes.Goals as goal

pub returns-in_default-clause-loads : goal.returns-in_default-clause-loads
returns-in_default-clause-loads g c = λ seen may. absurd (c.in_default.ensures.cases.0 (IsUtf8-from_is_utf8 c.args.name.now c.requires))

pub returns-in_default-clause-failed : goal.returns-in_default-clause-failed
returns-in_default-clause-failed g c = λ is. absurd (c.in_default.ensures.cases.0 (IsUtf8-from_is_utf8 c.args.name.now c.requires))
