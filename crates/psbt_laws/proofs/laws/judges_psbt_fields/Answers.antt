use Rattle.psbt_laws.proofs.Whole.{psbt_judged}
use Rattle.psbt_laws.proofs.laws.judges_psbt_fields.Goals as goal

pub returns : goal.returns
returns c = record {
  fault = λ bytes fault fits.
      let j = psbt_judged bytes fits in
      (j.tells fault, j.gives fault);
}
