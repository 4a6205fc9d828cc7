-- Without words no bit is set, and the empty set has no number.
use Rattle.std.proofs.Common.{ap, sym, ◌∙◌}
use Rattle.std.specs.Prelude.{unwrap_or, option_map}
use Rattle.std.specs.FinSet.{empty, contains, contains-empty}
use Rattle.std.specs.Ordering.{nat_cmp}
use Rattle.flowbit_state.proofs.bits.Bits.test.Goals as goal

pub returns-in-None-clause-set : goal.returns-in-None-clause-set
returns-in-None-clause-set c =
    sym (contains-empty nat_cmp c.args.bit)
    ∙ ap (λ bits. contains bits c.args.bit) (ap (λ words. unwrap_or (option_map (λ held. held.value) words) empty) (sym c.in-None.is) ∙ c.self.view_is)
