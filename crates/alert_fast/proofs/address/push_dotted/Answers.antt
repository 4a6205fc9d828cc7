-- The bytes of an address, from the highest down, are the four numbers that its text has with a dot between each
-- two: `dotted_text-pieces`.
use Rattle.std.proofs.lemmas.Result.{on_ok_weaker}
use Rattle.std.proofs.Common.{ℕ, List, ◌<◌, ◌^◌, ◌++◌, ap, ◌∙◌, arith}
use Rattle.alert_fast.proofs.LineTexts.{dotted_text-pieces}
use Rattle.alert_fast.proofs.address.push_dotted.Goals as goal

pub returns-clause-appended : goal.returns-clause-appended
returns-clause-appended c =
    let small : c.args.address < 2 ^ 32 = omega arith in
    on_ok_weaker c.push_pieces.result
    (λ e. e ∙ ap (λ (x : List ℕ). c.args.out.now.items ++ x) (dotted_text-pieces c.to_be_bytes.result c.args.address small c.to_be_bytes.ensures))
    c.push_pieces.ensures.appended
