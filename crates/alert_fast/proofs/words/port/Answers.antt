-- A port is below 2^16, so that the one that a word may be is the word's value modulo 2^16: it is this port where
-- the port's text is the word.
use Rattle.std.proofs.Common.{◌≡◌, ℕ, ◌%◌, ◌^◌, ◌<◌, sym, ap, ◌∙◌, arith, true≢false}
use Rattle.std.specs.Prelude.{decimal}
use Rattle.std.proofs.lemmas.Bool.{eqb-true, eq-eqb}
use Rattle.std.proofs.lemmas.Slice.Eq.{slice_eq-Decides}
use Rattle.alert_fast.specs.Pieces.{digits}
use Rattle.alert_fast.specs.Words.{IsNumber, IsPort, IsTwo, IsMicros}
use Rattle.alert_fast.proofs.ReadBack.WholeWords.{whole, no_whole, value_of_decimal, value_of_two, value_of_six, value_of_port}
use Rattle.alert_fast.proofs.words.port.Goals as goal

pub returns-then-eq : goal.returns-then-eq
returns-then-eq c =
    let same = slice_eq-Decides (λ a b. (eqb-true a b, eq-eqb a b)) c.as_bytes.result.now c.args.word.now c.eq.result c.eq.ensures in
    let text = c.as_bytes.ensures.value ∙ c.format.ensures.text in
    whole IsPort decimal value_of_port c.args.word.now (c.read_value.result % 2 ^ 16) (omega arith) (sym text ∙ same.0 c.if-eq.true)

pub returns-else-eq : goal.returns-else-eq
returns-else-eq c =
    let same =
    slice_eq-Decides (λ a b. (eqb-true a b, eq-eqb a b)) c.as_bytes.result.now c.args.word.now c.eq.result c.eq.ensures in
    let text = c.as_bytes.ensures.value ∙ c.format.ensures.text in
    no_whole IsPort decimal value_of_port c.args.word.now (c.read_value.result % 2 ^ 16)
    (λ n small e. omega (arith, small, e, c.read_value.ensures))
    (λ e. true≢false (sym (same.1 (text ∙ e)) ∙ c.if-eq.false))
