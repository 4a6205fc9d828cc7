-- One letter more is one step more of the generator; after 64 none
-- is left to draw, so the text and the state are the definition's.
use Rattle.std.proofs.Common.{◌+◌, ◌-◌, arith}
use Rattle.pcap_input.specs.Generated.{letters, steps}
use Rattle.pcap_input.proofs.Made.Making.{letters-step, letters-end, steps-step, steps-end}
use Rattle.pcap_input.proofs.draws.Draws.letters.Goals as goal

pub loop-number-preserved : goal.loop-number-preserved
loop-number-preserved c =
    let number = c.loop-number._number in
    let state = c.loop-number.self.state in
    record {
      drawn =
          rw (c.in_ok-push.ensures.items, c.below-letter.ensures.drawn, c.below-letter.ensures.stepped)
          (letters-step (64 - number) (64 - (number + 1)) state c.loop-number.text.items (letters 64 c.args.self.now.state) (omega arith) c.loop-number.invariant.drawn);
      stepped =
          rw c.below-letter.ensures.stepped
          (steps-step (64 - number) (64 - (number + 1)) state (steps 64 c.args.self.now.state) (omega arith) c.loop-number.invariant.stepped);
      size = omega (arith, c.in_ok-push.ensures.len);
    }

pub returns-clause-drawn : goal.returns-clause-drawn
returns-clause-drawn c =
    letters-end (64 - c.loop-number._number) c.loop-number.self.state c.loop-number.text.items (letters 64 c.args.self.now.state) (omega arith) c.loop-number.invariant.drawn

pub returns-clause-stepped : goal.returns-clause-stepped
returns-clause-stepped c =
    steps-end (64 - c.loop-number._number) c.loop-number.self.state (steps 64 c.args.self.now.state) (omega arith) c.loop-number.invariant.stepped
