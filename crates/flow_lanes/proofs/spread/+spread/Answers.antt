-- The second part of a slice begins where the first ends, so that what is asked and done at each place of both parts is
-- asked and done at each place of the slice.
use Rattle.std.proofs.Common.{arith}
use Rattle.std.specs.Fork.{AcceptsAt, ChangesAt}
use Rattle.flow_lanes.proofs.Jobs.ChangesFrom.{accepts_back, accepts_front, changes_both}
use Rattle.flow_lanes.proofs.spread.+spread.Goals as goal

pub spread-both-requires-clause-front : goal.spread-both-requires-clause-front
spread-both-requires-clause-front g t c κs within = record {
  room = omega arith;
  same = omega arith;
  accepts =
      accepts_front (AcceptsAt g.F.Fn c.args.f.now) c.args.part.base c.args.s.now c.split_at_mut-front.result.0.now c.split_at_mut-front.result.1.now
      c.split_at_mut-front.ensures.value c.requires.accepts;
}

pub spread-both-requires-clause-back : goal.spread-both-requires-clause-back
spread-both-requires-clause-back g t c κs within = record {
  room = omega arith;
  same = omega arith;
  accepts =
      accepts_back (AcceptsAt g.F.Fn c.args.f.now) c.args.part.base c.cut_at-mid.result c.args.s.now c.split_at_mut-front.result.0.now c.split_at_mut-front.result.1.now
      c.split_at_mut-front.ensures.value c.split_at_mut-front.ensures.front_len c.requires.accepts;
}

pub spread-returns : goal.spread-returns
spread-returns g t c =
    changes_both (ChangesAt g.F.Fn c.args.f.now) c.args.part.base c.cut_at-mid.result c.args.s.now c.split_at_mut-front.result.0.now c.split_at_mut-front.result.1.now c.both.new.front c.both.new.back
    c.split_at_mut-front.ensures.value c.split_at_mut-front.ensures.front_len c.both.ensures.front c.both.ensures.back
