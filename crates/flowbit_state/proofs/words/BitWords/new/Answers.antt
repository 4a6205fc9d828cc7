-- Words that are all 0 have no bit that is set (`set_in-zeros`).
use Rattle.std.proofs.Common.{refl}
use Rattle.flowbit_state.proofs.WordLaws.{set_in-zeros}
use Rattle.flowbit_state.proofs.words.BitWords.new.Goals as goal

pub returns : goal.returns
returns c = set_in-zeros _ refl
