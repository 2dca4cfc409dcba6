use Rattle.psbt_codec.proofs.FirstPairLaws.{begins}
use Rattle.psbt_codec.proofs.PublicClauses.{all_found, all_only, all_without_magic, all_unmarked, all_trailing, all_followed, all_without_text}
use Rattle.psbt_codec.proofs.reading.read_psbt.Goals as goal

pub returns-clause-found : goal.returns-clause-found
returns-clause-found c = all_found c.args.bytes.now c.psbt_in.ensures.bytes c.psbt_in.result c.psbt_in.ensures.exact

pub returns-clause-only : goal.returns-clause-only
returns-clause-only c = all_only c.args.bytes.now c.psbt_in.result c.psbt_in.ensures.exact

pub returns-clause-magic : goal.returns-clause-magic
returns-clause-magic c = all_without_magic c.args.bytes.now c.psbt_in.result c.psbt_in.ensures.exact

pub returns-clause-unmarked : goal.returns-clause-unmarked
returns-clause-unmarked c = all_unmarked c.args.bytes.now c.psbt_in.result c.psbt_in.ensures.exact c.psbt_in.ensures.short

pub returns-clause-trailing : goal.returns-clause-trailing
returns-clause-trailing c = all_trailing c.args.bytes.now c.psbt_in.ensures.bytes c.psbt_in.result c.psbt_in.ensures.exact

pub returns-clause-followed : goal.returns-clause-followed
returns-clause-followed c = all_followed c.args.bytes.now c.psbt_in.ensures.bytes c.psbt_in.result c.psbt_in.ensures.exact

pub returns-clause-never_text : goal.returns-clause-never_text
returns-clause-never_text c = all_without_text c.args.bytes.now c.psbt_in.result c.psbt_in.ensures.exact

pub returns-clause-begun : goal.returns-clause-begun
returns-clause-begun c = λ memory. begins c.args.bytes.now c.psbt_in.ensures.bytes (c.psbt_in.ensures.short memory) (c.psbt_in.ensures.begun memory)
