use Rattle.fund_steps.proofs.TermLaws.{met_where}
use Rattle.fund_steps.proofs.WholeLaws.{given_none, manual_none, steps_whole}
use Rattle.fund_steps.specs.Basis.{load_alone}
use Rattle.fund_steps.specs.Terms.{rates_of}
use Rattle.fund_steps.proofs.laws.steps_stand_in_columns.Goals as goal

pub returns-clause-whole : goal.returns-clause-whole
returns-clause-whole c = λ b. steps_whole b

pub returns-clause-manual : goal.returns-clause-manual
returns-clause-manual c = λ b manual. manual_none b manual

pub returns-clause-given : goal.returns-clause-given
returns-clause-given c = λ b given. given_none b given

pub returns-clause-alone : goal.returns-clause-alone
returns-clause-alone c = λ b pays. met_where (rates_of b.request) (load_alone b) pays
