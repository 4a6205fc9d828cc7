-- Each of the nine masks in the table is the number that the definition gives (`masks`).
use Rattle.pattern_search.proofs.Windowing.{masks}
use Rattle.pattern_search.proofs.windows.folding_mask.Goals as goal

pub returns : goal.returns
returns c = masks c.args.letters c.requires
