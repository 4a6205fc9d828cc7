-- A number's decimal text gives the number back, so that the word is one just where the text of its value is the word
-- again (`whole`, `no_whole`).
use Rattle.std.proofs.Common.{◌≡◌, ℕ, ◌%◌, ◌^◌, ◌<◌, sym, ap, ◌∙◌, arith, true≢false}
use Rattle.std.specs.Prelude.{decimal}
use Rattle.std.proofs.lemmas.Bool.{eqb-true, eq-eqb}
use Rattle.std.proofs.lemmas.Slice.Eq.{slice_eq-Decides}
use Rattle.alert_fast.specs.Pieces.{digits}
use Rattle.alert_fast.specs.Words.{IsNumber, IsPort, IsTwo, IsMicros}
use Rattle.alert_fast.proofs.ReadBack.WholeWords.{whole, no_whole, value_of_decimal, value_of_two, value_of_six, value_of_port}
use Rattle.alert_fast.proofs.words.number.Goals as goal

pub returns-then-eq : goal.returns-then-eq
returns-then-eq c =
    let same = slice_eq-Decides (λ a b. (eqb-true a b, eq-eqb a b)) c.as_bytes.result.now c.args.word.now c.eq.result c.eq.ensures in
    let text = c.as_bytes.ensures.value ∙ c.format.ensures.text in
    whole IsNumber decimal value_of_decimal c.args.word.now (c.read_value-value.result) (omega arith) (sym text ∙ same.0 c.if-eq.true)

pub returns-else-eq : goal.returns-else-eq
returns-else-eq c =
    let same = slice_eq-Decides (λ a b. (eqb-true a b, eq-eqb a b)) c.as_bytes.result.now c.args.word.now c.eq.result c.eq.ensures in
    let text = c.as_bytes.ensures.value ∙ c.format.ensures.text in
    no_whole IsNumber decimal value_of_decimal c.args.word.now (c.read_value-value.result) (λ n small e. e ∙ sym c.read_value-value.ensures) (λ e. true≢false (sym (same.1 (text ∙ e)) ∙ c.if-eq.false))
