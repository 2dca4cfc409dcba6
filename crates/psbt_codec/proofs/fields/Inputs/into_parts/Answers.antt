use Rattle.std.proofs.Common.{◌∙◌, ap, sym, List, map}
use Rattle.std.proofs.lemmas.Slice.Zip.{firsts-zip, seconds-zip}
use Rattle.tx_codec.specs.declared.tx.TxIn.{TxIn}
use Rattle.psbt_codec.specs.declared.psbt.Spent.{Spent}
use Rattle.psbt_codec.proofs.fields.Inputs.into_parts.Goals as goal

pub returns-clause-inputs : goal.returns-clause-inputs
returns-clause-inputs c = sym (firsts-zip c.self.inside.inputs.items c.self.inside.spent.items c.self.invariant) ∙ ap (λ (l : List (TxIn × Spent)). map (λ (k : TxIn × Spent). k.0) l) c.self.view_is

pub returns-clause-spent : goal.returns-clause-spent
returns-clause-spent c = sym (seconds-zip c.self.inside.inputs.items c.self.inside.spent.items c.self.invariant) ∙ ap (λ (l : List (TxIn × Spent)). map (λ (k : TxIn × Spent). k.1) l) c.self.view_is
