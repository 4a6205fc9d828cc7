-- Each turn sets one place and leaves the others, so at the end all sixteen have their first sessions.
use Rattle.std.proofs.Common.{refl, arith, ◌∙◌, length-set}
use Rattle.std.proofs.lemmas.List.FromFn.{fill_by_all}
use Rattle.pcap_input.specs.Generated.{first_session}
use Rattle.pcap_input.proofs.Made.Making.{sessions-step}
use Rattle.pcap_input.proofs.traffic.Traffic.new.Goals as goal

pub loop-number-preserved : goal.loop-number-preserved
loop-number-preserved c = record {
  size = length-set c.loop-number.sessions c.loop-number.number c.first.result ∙ c.loop-number.invariant.size;
  first = sessions-step c.loop-number.sessions c.loop-number.number c.first.result (omega arith) c.first.ensures c.loop-number.invariant.first;
}

pub returns : goal.returns
returns c =
    rw (fill_by_all first_session c.loop-number.sessions 16 (first_session 0) c.loop-number.invariant.size (λ k below. c.loop-number.invariant.first k (first_session 0) (omega arith)))
    refl
