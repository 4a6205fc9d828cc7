-- A capped number and its negative fit 64 bits, so what is kept within
-- the bounds there is what the whole numbers say, with a `-` or without.
use Rattle.std.proofs.Common.{◌≡◌, ◌∙◌, ap, arith, ℤ, pos, neg_ℤ, ◌-ℤ◌, to_z, of_z, w32, w64}
use Rattle.std.proofs.lemmas.Int.{ints}
use Rattle.net_lists.specs.Numbers.{signed_kept_in}
use Rattle.net_lists.proofs.Numbers.Ranges.{signed_in-plain, signed_in-minus}
use Rattle.net_lists.proofs.number.signed_in.Goals as goal

-- equal numbers are kept in equal bounds
same_kept : (least most number least' most' number' : ℤ) → least ≡ least' → most ≡ most' → number ≡ number' → signed_kept_in least most number ≡ signed_kept_in least' most' number'
same_kept least most number least' most' number' l m n =
    ap (λ z. signed_kept_in z most number) l ∙ ap (λ z. signed_kept_in least' z number) m ∙ ap (signed_kept_in least' most') n

pub returns-in-Some-capped_number-clause-value : goal.returns-in-Some-capped_number-clause-value
returns-in-Some-capped_number-clause-value c =
    let number = c.in-Some-capped_number.number in
    let least : to_z w32 (of_z w32 c.args.least) ≡ c.args.least = omega (arith, ints) in
    let most : to_z w32 (of_z w32 c.args.most) ≡ c.args.most = omega (arith, ints) in
    let value : to_z w64 (of_z w64 (pos 0 -ℤ to_z w64 number)) ≡ neg_ℤ (pos number) = omega (arith, ints, c.in-Some-capped_number.ensures.within) in
    c.signed_kept_in.ensures.value ∙ same_kept _ _ _ _ _ _ least most value
    ∙ signed_in-minus c.args.least c.args.most _ (omega (arith, ints)) (omega (arith, ints)) c.args.text.now _ _ c.in-Some.ensures c.in-Some-capped_number.ensures.value

pub returns-in-None-capped_number-clause-value : goal.returns-in-None-capped_number-clause-value
returns-in-None-capped_number-clause-value c =
    signed_in-minus c.args.least c.args.most _ (omega (arith, ints)) (omega (arith, ints)) c.args.text.now _ _ c.in-Some.ensures c.in-None-capped_number.ensures.value

pub returns-in-Some-capped_number-2-clause-value : goal.returns-in-Some-capped_number-2-clause-value
returns-in-Some-capped_number-2-clause-value c =
    let number = c.in-Some-capped_number-2.number in
    let least : to_z w32 (of_z w32 c.args.least) ≡ c.args.least = omega (arith, ints) in
    let most : to_z w32 (of_z w32 c.args.most) ≡ c.args.most = omega (arith, ints) in
    let value : to_z w64 number ≡ pos number = omega (arith, ints, c.in-Some-capped_number-2.ensures.within) in
    c.signed_kept_in-in-Some-capped_number-2.ensures.value ∙ same_kept _ _ _ _ _ _ least most value
    ∙ signed_in-plain c.args.least c.args.most _ (omega (arith, ints)) (omega (arith, ints)) c.args.text.now _ c.in-None.ensures c.in-Some-capped_number-2.ensures.value

pub returns-in-None-capped_number-2-clause-value : goal.returns-in-None-capped_number-2-clause-value
returns-in-None-capped_number-2-clause-value c =
    signed_in-plain c.args.least c.args.most _ (omega (arith, ints)) (omega (arith, ints)) c.args.text.now _ c.in-None.ensures c.in-None-capped_number-2.ensures.value
