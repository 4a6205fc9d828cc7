-- Bytes of ASCII alone are UTF-8, so that `from_utf8` doesn't refuse them, and `unreachable` is never called.
use Rattle.std.proofs.lemmas.Str.{IsUtf8-from_ascii}
use Rattle.alert_json.proofs.members.push_ascii.Goals as goal

pub unreachable-requires : goal.unreachable-requires
unreachable-requires c = c.in-Err.ensures.cases.0 (IsUtf8-from_ascii c.args.text.now c.requires)
