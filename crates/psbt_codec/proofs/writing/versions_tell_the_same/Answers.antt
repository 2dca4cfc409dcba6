use Rattle.std.proofs.Common.{arith}
use Rattle.psbt_codec.proofs.Readable.{versioned_in}
use Rattle.psbt_codec.proofs.Strings.{all_bytes}
use Rattle.psbt_codec.proofs.Written.{first_is, second_is}
use Rattle.psbt_codec.proofs.writing.versions_tell_the_same.Goals as goal

pub returns-clause-first : goal.returns-clause-first
returns-clause-first c = λ p psbt is. versioned_in c.args.first.now 0 p (first_is c.args.first.now p (all_bytes c.args.first.now (λ i. omega (arith, c.type_inv.first i)) (omega arith)) psbt is)

pub returns-clause-second : goal.returns-clause-second
returns-clause-second c = λ p psbt is. versioned_in c.args.second.now 2 p (second_is c.args.second.now p (all_bytes c.args.second.now (λ i. omega (arith, c.type_inv.second i)) (omega arith)) psbt is)
