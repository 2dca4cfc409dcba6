use Rattle.std.proofs.Common.{refl}
use Rattle.base58_addr.proofs.Addresses.{decode_only}
use Rattle.pay_words.specs.Payees.{payee_at}
use Rattle.pay_words.proofs.laws.addresses_pay_to_scripts.Goals as goal

pub returns : goal.returns
unfolding payee_at
returns c = λ place text script is. rw (decode_only text script is) refl
