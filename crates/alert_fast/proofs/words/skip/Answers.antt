-- What `strip_prefix` leaves is the rest of the text where it begins with the literal, and there is none else, since bytes
-- are the same just where their numbers are.
use Rattle.std.proofs.Common.{◌≡◌, ℕ, ◌+◌, ◌-◌, ◌*◌, ◌%◌, ◌^◌, ◌<◌, ◌≤◌, List, ◌++◌, length, take, drop, fold, sym, ap, ◌∙◌, arith, take_all}
use Rattle.std.proofs.lemmas.Bool.{eqb-true, eq-eqb}
use Rattle.std.proofs.lemmas.Slice.Eq.{strip_prefix_is}
use Rattle.alert_fast.proofs.words.skip.Goals as goal

pub returns : goal.returns
returns c = strip_prefix_is (λ a b. (eqb-true a b, eq-eqb a b)) c.args.text.now c.args.literal.now c.strip_prefix.result c.strip_prefix.ensures.cases
