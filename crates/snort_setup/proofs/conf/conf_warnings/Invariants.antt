-- The warnings so far are those of the lines before this one.
use Rattle.std.proofs.Common.{◌≡◌, map, take}
use Rattle.snort_setup.specs.Texts.{conf_warning}
use Rattle.snort_setup.proofs.conf.conf_warnings.Given as goal

abbrev pub invariant-loop-warning : goal.invariant-loop-warning
invariant-loop-warning l = l.warnings ≡ map (conf_warning l.files) (take l.warning-index l.skipped)
