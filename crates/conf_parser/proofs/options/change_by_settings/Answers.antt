-- The text's draft is the one so far changed by the settings left: a name
-- takes its value, if it has one, from the words after it, which get fewer.
use Rattle.std.proofs.Common.{◌∙◌, ap, sym, length, arith}
use Rattle.std.specs.Option.{option_copied}
use Rattle.conf_parser.specs.Options.{paired}
use Rattle.conf_parser.proofs.SettingSteps.{after_words-next, after_words-end}
use Rattle.conf_parser.proofs.options.change_by_settings.Goals as goal

pub settings-smaller : goal.settings-smaller
settings-smaller g c = omega (arith, c.value_after-value.ensures.shorter, ap length c.in-Some.ensures.steps)

pub settings-preserved : goal.settings-preserved
settings-preserved g c =
    let alone = g.S.SettingStep.alone c.args.step.now in
    let step = g.S.SettingStep.next_draft c.args.step.now in
    c.settings.invariant
    ∙ after_words-next alone step c.settings.draft c.change.new.draft c.settings.words c.value_after-value.new.words c.in-Some.name.now (option_copied c.value_after-value.result)
    (ap (paired alone) c.in-Some.ensures.steps ∙ c.value_after-value.ensures.pairs alone c.in-Some.name.now (sym c.is_alone.ensures))
    c.in_ok-change.ensures

pub returns : goal.returns
returns g c =
    let alone = g.S.SettingStep.alone c.args.step.now in
    let step = g.S.SettingStep.next_draft c.args.step.now in
    c.settings.invariant ∙ after_words-end alone step c.settings.draft c.settings.words c.in_default.ensures.steps.0
