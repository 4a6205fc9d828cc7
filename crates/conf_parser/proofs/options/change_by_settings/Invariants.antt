-- The draft so far, and then the settings that are left, give the draft after all.
use Rattle.std.proofs.Common.{◌≡◌, length}
use Rattle.net_lists.specs.Cutting.{settings}
use Rattle.net_lists.specs.Folds.{draft_after}
use Rattle.conf_parser.specs.Options.{paired}
use Rattle.conf_parser.proofs.options.change_by_settings.Given as goal

abbrev pub invariant-settings : goal.invariant-settings
invariant-settings g l =
    draft_after (λ d setting. g.S.SettingStep.next_draft l.step d setting.name setting.value) l.fn.draft (paired (g.S.SettingStep.alone l.step) (settings l.fn.text))
    ≡ draft_after (λ d setting. g.S.SettingStep.next_draft l.step d setting.name setting.value) l.draft (paired (g.S.SettingStep.alone l.step) l.words)

abbrev pub decreases-settings : goal.decreases-settings
decreases-settings g l = length l.words
