-- What the presets alone come to, and what it means.
use Rattle.std.specs.Prelude.{◌≡◌}
use Rattle.std.proofs.Common.{refl}
use Rattle.fund_steps.specs.Listed.{ArePresets, burden_in, presets_in}
use Rattle.fund_steps.specs.Plan.{IsPlan, PlainPlan}
use Rattle.fund_steps.specs.Presets.{presets_of}
use Rattle.fund_steps.specs.Terms.{load_of, rates_of}
use Rattle.fund_steps.specs.declared.presets.Presets.{Presets}
use Rattle.fund_steps.specs.declared.presets.Presets.TheVariants.{Short, Plain, Change}
use Rattle.fund_steps.proofs.BumpLaws.{presets_are, presets_sorted}
use Rattle.fund_plan.specs.Answer.{AnswersAlone}
use Rattle.fund_plan.specs.Outcome.{by_presets, given_of}
use Rattle.fund_plan.proofs.PaysLaws.{pays_change, pays_none, pays_plain}

pays_as : (p : PlainPlan) (way : Presets) → ArePresets p (presets_in p) → presets_of (rates_of p.request) (load_of p.request p.change (presets_in p) (burden_in p)) ≡ way → AnswersAlone p (by_presets p way)
pays_as p Short given e = (presets_in p, given, pays_none p.request p.change (presets_in p) (burden_in p) e)
pays_as p Plain given e = (given, pays_plain p.request p.change (presets_in p) (burden_in p) (presets_sorted p (presets_in p) given) e, refl)
pays_as p (Change amount) given e = (given, pays_change p.request p.change (presets_in p) (burden_in p) amount (presets_sorted p (presets_in p) given) e, refl)

pub given_means : (p : PlainPlan) → IsPlan p → AnswersAlone p (given_of p)
unfolding given_of
given_means p h = pays_as p (presets_of (rates_of p.request) (load_of p.request p.change (presets_in p) (burden_in p))) (presets_are p h) refl
