use Rattle.std.proofs.Common.{rules}
use Rattle.fee_rates.specs.Terms.{terms_of}
use Rattle.fee_rates.proofs.TermsLaws.{same_terms, terms_agree}
use Rattle.fee_rates.proofs.terms.Terms.new.Goals as goal

pub returns-clause-all : goal.returns-clause-all
unfolding terms_of
returns-clause-all c =
    same_terms
    _ _ _ _ _ _ _ _ _ _ _
    (search rules) (search rules) (search rules) (search rules) (search rules)
    (search rules) (search rules) (search rules) (search rules) (search rules)

pub returns-clause-agree : goal.returns-clause-agree
returns-clause-agree c = rw (returns-clause-all c) (terms_agree c.args.rates.now c.args.load.now)
