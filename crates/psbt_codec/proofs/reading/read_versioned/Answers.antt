use Rattle.psbt_codec.proofs.FirstPairLaws.{begins}
use Rattle.psbt_codec.proofs.PublicClauses.{versioned_found, versioned_only, versioned_without_magic, versioned_unmarked, versioned_trailing, versioned_followed, versioned_without_text}
use Rattle.psbt_codec.proofs.reading.read_versioned.Goals as goal

pub returns-clause-found : goal.returns-clause-found
returns-clause-found c = versioned_found c.args.bytes.now c.whole_of.ensures.bytes c.whole_of.result c.whole_of.ensures.exact

pub returns-clause-only : goal.returns-clause-only
returns-clause-only c = versioned_only c.args.bytes.now c.whole_of.result c.whole_of.ensures.exact

pub returns-clause-magic : goal.returns-clause-magic
returns-clause-magic c = versioned_without_magic c.args.bytes.now c.whole_of.result c.whole_of.ensures.exact

pub returns-clause-unmarked : goal.returns-clause-unmarked
returns-clause-unmarked c = versioned_unmarked c.args.bytes.now c.whole_of.result c.whole_of.ensures.exact c.whole_of.ensures.short

pub returns-clause-trailing : goal.returns-clause-trailing
returns-clause-trailing c = versioned_trailing c.args.bytes.now c.whole_of.ensures.bytes c.whole_of.result c.whole_of.ensures.exact

pub returns-clause-followed : goal.returns-clause-followed
returns-clause-followed c = versioned_followed c.args.bytes.now c.whole_of.ensures.bytes c.whole_of.result c.whole_of.ensures.exact

pub returns-clause-never_text : goal.returns-clause-never_text
returns-clause-never_text c = versioned_without_text c.args.bytes.now c.whole_of.result c.whole_of.ensures.exact

pub returns-clause-begun : goal.returns-clause-begun
returns-clause-begun c = λ memory. begins c.args.bytes.now c.whole_of.ensures.bytes (c.whole_of.ensures.short memory) (c.whole_of.ensures.begun memory)
