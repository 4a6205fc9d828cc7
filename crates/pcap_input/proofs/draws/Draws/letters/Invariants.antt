-- The letters so far, and those left to draw from this state, are those of the first state; so are the steps.
use Rattle.std.proofs.Common.{◌≡◌, ◌-◌, ◌++◌, vec_len}
use Rattle.pcap_input.specs.Generated.{letters, steps}
use Rattle.pcap_input.proofs.draws.Draws.letters.Given as goal

abbrev pub invariant-loop-number : goal.invariant-loop-number
invariant-loop-number l = record {
  drawn : l.text.items ++ letters (64 - l._number) l.self.state ≡ letters 64 l.fn.self.state;
  stepped : steps (64 - l._number) l.self.state ≡ steps 64 l.fn.self.state;
  size : vec_len l.text ≡ l._number;
}
