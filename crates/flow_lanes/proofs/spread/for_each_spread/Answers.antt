-- The whole slice is the part of it that begins at place 0, so that what `spread` does to a part is done at each place.
use Rattle.std.proofs.Common.{◌≡◌, ℕ, ◌+◌, refl, subst, get_or, arith}
use Rattle.std.specs.Fork.{ChangesAt}
use Rattle.flow_lanes.proofs.spread.for_each_spread.Goals as goal

pub returns : goal.returns
returns g c = λ i d within. (
  refl,
  (let place : 0 + i ≡ i = omega arith in
      subst (λ (n : ℕ). ChangesAt g.F.Fn c.args.f.now n (get_or c.args.s.now i d) (get_or c.spread.new.s i d)) place (c.spread.ensures.each i d within)),
)
