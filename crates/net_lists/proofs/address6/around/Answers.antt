-- Seven groups of 16 bits at most, with zeros between, make eight: so the
-- front ones lose nothing where they are moved up, and the sum fits 128 bits.
use Rattle.std.proofs.Common.{◌≡◌, ◌+◌, ◌-◌, ◌*◌, ◌%◌, ◌<◌, ◌^◌, Some, None, cond, ap, sym, ◌∙◌, arith}
use Rattle.std.proofs.lemmas.Bool.{le-leb}
use Rattle.net_lists.proofs.Addresses.HexGroups.{around_fits}
use Rattle.net_lists.proofs.address6.around.Goals as goal

pub overflow_add-result : goal.overflow_add-result
overflow_add-result c =
    let f = c.args.front in
    let b = c.args.back in
    omega (arith, around_fits f.count b.count f.value b.value (omega arith) c.requires.front.1 c.requires.back.1)

pub returns : goal.returns
returns c =
    let f = c.args.front in
    let b = c.args.back in
    let fits : f.value * 2 ^ (16 * (8 - f.count)) + b.value < 2 ^ 128 = around_fits f.count b.count f.value b.value (omega arith) c.requires.front.1 c.requires.back.1 in
    let whole : f.value * 2 ^ (16 * (8 - f.count)) % 340282366920938463463374607431768211456 ≡ f.value * 2 ^ (16 * (8 - f.count)) = omega (arith, fits) in
    ap (λ v. Some (v + b.value)) whole ∙ sym (ap (λ t. cond t (Some (f.value * 2 ^ (16 * (8 - f.count)) + b.value)) None) (le-leb (f.count + b.count) 7 (omega arith)))
