use Rattle.fee_bump.specs.Bump.{terms_of}
use Rattle.fee_bump.proofs.FitLaws.{added_high}
use Rattle.fee_bump.proofs.TermLaws.{added_is, preset_only, preset_some, preset_spent}
use Rattle.fee_bump.proofs.laws.terms_by_rules.Goals as goal

pub returns-clause-spent : goal.returns-clause-spent
returns-clause-spent c = λ w h tip r txid rules book sound asked clear. preset_spent w h tip r rules book sound txid asked clear

pub returns-clause-only : goal.returns-clause-only
returns-clause-only c = λ w h tip r rules book sound. preset_only w h tip r rules book sound

pub returns-clause-added : goal.returns-clause-added
returns-clause-added c = added_is

pub returns-clause-some : goal.returns-clause-some
returns-clause-some c = λ w h tip r txid rules book sound asked clear. preset_some w h tip r rules book sound txid asked clear

pub returns-clause-confirmed : goal.returns-clause-confirmed
unfolding terms_of
returns-clause-confirmed c = λ w h tip r rules book sound. added_high w h tip 0 rules book sound (terms_of w h tip r).presets (terms_of w h tip r).replaced
