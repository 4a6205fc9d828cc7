-- A byte below 10, one below 100 and any other have one, two and three decimal digits: `octet-1`, `octet-2`, `octet-3`.
use Rattle.std.proofs.Common.{ℕ, List, ◌++◌, ap, ◌∙◌, arith}
use Rattle.alert_json.proofs.Times.{octet-1, octet-2, octet-3}
use Rattle.alert_json.proofs.texts.push_octet.Goals as goal

pub returns-then-octet-lt10 : goal.returns-then-octet-lt10
returns-then-octet-lt10 c =
    c.in_ok-extend_from_slice.ensures.items ∙ ap (λ (x : List ℕ). c.args.text.now.items ++ x) (octet-1 c.args.octet (omega (arith, c.if-octet-lt10.true)))

pub returns-then-octet-lt100 : goal.returns-then-octet-lt100
returns-then-octet-lt100 c =
    c.in_ok-extend_from_slice-2.ensures.items
    ∙ ap (λ (x : List ℕ). c.args.text.now.items ++ x) (octet-2 c.args.octet (omega (arith, c.if-octet-lt10.false)) (omega (arith, c.if-octet-lt100.true)))

pub returns : goal.returns
returns c =
    c.in_ok-extend_from_slice-3.ensures.items
    ∙ ap (λ (x : List ℕ). c.args.text.now.items ++ x) (octet-3 c.args.octet (omega (arith, c.if-octet-lt100.false)) (omega arith))
