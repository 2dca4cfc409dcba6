use Rattle.request_making.proofs.Cuts.{found, only, judged_is, cut_of}
use Rattle.request_making.proofs.spelling_laws.judges_spellings.Goals as goal

pub returns-clause-taken : goal.returns-clause-taken
returns-clause-taken c = λ kind most n text. (found kind most n text, λ s. only kind most n text s.0 s.1)

pub returns-clause-first : goal.returns-clause-first
returns-clause-first c = judged_is

pub returns-clause-cut : goal.returns-clause-cut
returns-clause-cut c = λ text. let k = cut_of text in (k.whole, (k.fraction, (k.unit, k.is)))
