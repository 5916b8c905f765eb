use Rattle.std.proofs.Common.{◌∙◌, map, string_bytes}
use Rattle.std.proofs.lemmas.Result.{IfErr-weaker, IfOk-weaker}
use Rattle.settings.proofs.Faultless.{at_error, at_matches}
use Rattle.settings.proofs.reading.read_settings.Goals as goal

pub returns-in-Ok-try_get_matches_from-clause-settings : goal.returns-in-Ok-try_get_matches_from-clause-settings
returns-in-Ok-try_get_matches_from-clause-settings c = let found = c.in-Ok-try_get_matches_from in IfOk-weaker c.settings_in.result _ _
    (λ s h. at_matches c.in-Ok.command (map (λ w. string_bytes w) c.args.words.now) found.matches c.in-Ok.ensures found.ensures.kinds found.ensures.matches ∙ h)
    c.settings_in.ensures.settings

pub returns-in-Ok-try_get_matches_from-clause-usage : goal.returns-in-Ok-try_get_matches_from-clause-usage
returns-in-Ok-try_get_matches_from-clause-usage c = let found = c.in-Ok-try_get_matches_from in IfErr-weaker c.settings_in.result _ _
    (λ e h text is. at_matches c.in-Ok.command (map (λ w. string_bytes w) c.args.words.now) found.matches c.in-Ok.ensures found.ensures.kinds found.ensures.matches ∙ h text is)
    c.settings_in.ensures.usage

pub returns-in-Err-clause-usage : goal.returns-in-Err-clause-usage
returns-in-Err-clause-usage c = λ text is. at_error c.in-Ok.command (map (λ w. string_bytes w) c.args.words.now) c.in-Err.error c.in-Ok.ensures c.in-Err.ensures.kinds (c.stopped_by.ensures text is)
