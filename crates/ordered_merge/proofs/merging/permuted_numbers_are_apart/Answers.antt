-- The numbers of an ascending list differ from each other, and still do in another order (`apart_permuted`).
use Rattle.ordered_merge.proofs.Finding.{apart_permuted}
use Rattle.ordered_merge.proofs.merging.permuted_numbers_are_apart.Goals as goal

pub returns : goal.returns
returns c = apart_permuted
