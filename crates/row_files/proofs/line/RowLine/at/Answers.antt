-- What replaces each `#` is the number.
use Rattle.std.proofs.Common.{◌≡◌, ◌+◌, ◌-◌, ◌^◌, ◌∙◌, ap, subst, refl, min, IfOk, Bor, List, ℕ, string_bytes, decimal}
use Rattle.std.specs.List.{flat_map}
use Rattle.row_files.specs.Numbered.{byte_with}
use Rattle.row_files.proofs.Replacing.{makes_each}
use Rattle.row_files.proofs.line.RowLine.at.Goals as goal

pub returns-in_ok-number-in-Some-clause-numbered : goal.returns-in_ok-number-in-Some-clause-numbered
returns-in_ok-number-in-Some-clause-numbered c =
    let number : c.as_str.result.now ≡ decimal (min (c.in-Some.first + c.args.turn) (2 ^ 32 - 1)) =
    c.as_str.ensures.value ∙ c.in_ok-number-in-Some.ensures.ok ∙ ap decimal c.saturating_add.ensures in
    let made = makes_each (λ (n : Bor (List ℕ)). n.now) c.as_str.result.now string_bytes _ c.args.self.now.text.now c.replace.result refl c.replace.ensures.ok in
    rw c.in-Some.is (subst (λ (t : List ℕ). IfOk c.replace.result (λ line. string_bytes line ≡ flat_map (byte_with t) c.args.self.now.text.now)) number made)
