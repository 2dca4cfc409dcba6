use Rattle.std.proofs.Common.{refl}
use Rattle.fund_plan.specs.declared.outcome.Outcome.TheVariants as answers
use Rattle.command_resume.specs.Outcome as resumes
use Rattle.fund_top.proofs.OutcomeLaws.{answer_due, listing_due, load_due, one_due, refusal_due}
use Rattle.fund_top.proofs.laws.outcomes_are_due.Goals as goal

pub returns-clause-refused : goal.returns-clause-refused
returns-clause-refused c = refusal_due

pub returns-clause-listed : goal.returns-clause-listed
returns-clause-listed c = listing_due

pub returns-clause-funded : goal.returns-clause-funded
returns-clause-funded c = λ files jobs s p job k f has is. answer_due files jobs s p job k.wallet k.blocks k.asked (answers.Funded f) has.inputs has.plan is

pub returns-clause-none : goal.returns-clause-none
returns-clause-none c = λ files jobs s p job k has is. answer_due files jobs s p job k.wallet k.blocks k.asked answers.NoSelection has.inputs has.plan is

pub returns-clause-unfinished : goal.returns-clause-unfinished
returns-clause-unfinished c = λ files jobs s p job k has is. answer_due files jobs s p job k.wallet k.blocks k.asked answers.Unfinished has.inputs has.plan is

pub returns-clause-gone : goal.returns-clause-gone
returns-clause-gone c = λ files jobs s p job due h. (resumes.Gone due, h, refl)

pub returns-clause-not_kept : goal.returns-clause-not_kept
returns-clause-not_kept c = λ files jobs s p job fault h. (resumes.NotKept fault, h, refl)

pub returns-clause-summed : goal.returns-clause-summed
returns-clause-summed c = λ files jobs number count f load is. load_due files jobs number count (answers.Funded f) load.some load.most load.distinct is

pub returns-clause-summed_none : goal.returns-clause-summed_none
returns-clause-summed_none c = λ files jobs number count load is. load_due files jobs number count answers.NoSelection load.some load.most load.distinct is

pub returns-clause-summed_open : goal.returns-clause-summed_open
returns-clause-summed_open c = λ files jobs number count load is. load_due files jobs number count answers.Unfinished load.some load.most load.distinct is

pub returns-clause-judged : goal.returns-clause-judged
returns-clause-judged c = λ files jobs s p report due d. (due, d, refl)

pub returns-clause-one : goal.returns-clause-one
returns-clause-one c = one_due

pub returns-clause-ran : goal.returns-clause-ran
returns-clause-ran c = λ files jobs s script. refl

pub returns-clause-beside : goal.returns-clause-beside
returns-clause-beside c = λ files jobs x due h. (due, h, refl)
