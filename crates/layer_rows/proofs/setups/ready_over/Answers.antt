-- What is ready is sound, and so can be tried.
use Rattle.layer_rows.proofs.Triable.{setup_sound, setup_triable}
use Rattle.layer_rows.proofs.setups.ready_over.Goals as goal

pub returns-clause-config : goal.returns-clause-config
returns-clause-config g c = setup_sound g.M.Made.Pattern.finds (g.M.PatternMaker.means c.args.maker.now) c.read_setup.result c.read_setup.ensures.ready

pub returns-clause-rules : goal.returns-clause-rules
returns-clause-rules g c = setup_triable g.M.Made.Pattern.finds (g.M.PatternMaker.means c.args.maker.now) c.read_setup.result c.read_setup.ensures.ready
