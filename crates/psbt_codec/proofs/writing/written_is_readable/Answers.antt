use Rattle.std.proofs.Common.{arith}
use Rattle.psbt_codec.proofs.Strings.{all_bytes}
use Rattle.psbt_codec.proofs.Written.{written_is, first_is, second_is}
use Rattle.psbt_codec.proofs.writing.written_is_readable.Goals as goal

pub returns-clause-readable : goal.returns-clause-readable
returns-clause-readable c = λ p psbt is. written_is c.args.version c.args.bytes.now p (all_bytes c.args.bytes.now (λ i. omega (arith, c.type_inv.bytes i)) (omega arith)) psbt is

pub returns-clause-first : goal.returns-clause-first
returns-clause-first c = λ p psbt zero is. first_is c.args.bytes.now p (all_bytes c.args.bytes.now (λ i. omega (arith, c.type_inv.bytes i)) (omega arith)) psbt (rw zero at is)

pub returns-clause-second : goal.returns-clause-second
returns-clause-second c = λ p psbt two is. second_is c.args.bytes.now p (all_bytes c.args.bytes.now (λ i. omega (arith, c.type_inv.bytes i)) (omega arith)) psbt (rw two at is)
