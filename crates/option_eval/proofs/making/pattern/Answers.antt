-- The arm for bytes that are no UTF-8 is never reached: bytes below 128 are ASCII, and ASCII is UTF-8.
use Rattle.std.proofs.lemmas.Str.{IsUtf8-from_ascii}
use Rattle.std.proofs.lemmas.Str.Ascii.{IsAscii-from_all}
use Rattle.option_eval.proofs.making.pattern.Goals as goal

pub unreachable-requires : goal.unreachable-requires
unreachable-requires g c =
    c.in-Err.ensures.cases.0 (IsUtf8-from_ascii c.bytes.result.now (IsAscii-from_all c.bytes.result.now (rw c.bytes.ensures c.requires)))
