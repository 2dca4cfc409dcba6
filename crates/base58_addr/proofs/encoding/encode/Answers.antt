use Rattle.std.proofs.Common.{◌≡◌, Ok}
use Rattle.base58_addr.specs.Address.{IsAddress, encode_of}
use Rattle.base58_addr.specs.Reading.{decode_of}
use Rattle.base58_addr.proofs.Addresses.{decode_only, given_some}
use Rattle.base58_addr.proofs.encoding.encode.Goals as goal

pub returns-clause-address : goal.returns-clause-address
returns-clause-address c =
    given_some (λ v. v.items) (λ text. IsAddress text c.args.script.now) c.text_of_script.result (encode_of c.args.script.now) (rw c.bytes_of.ensures.value at c.text_of_script.ensures.exact)
    (λ text is. record { spells = is; bytes = c.bytes_of.ensures.bytes })

pub returns-clause-back : goal.returns-clause-back
returns-clause-back c =
    given_some (λ v. v.items) (λ text. decode_of text ≡ Ok c.args.script.now) c.text_of_script.result (encode_of c.args.script.now) (rw c.bytes_of.ensures.value at c.text_of_script.ensures.exact)
    (λ text is. decode_only text c.args.script.now (record { spells = is; bytes = c.bytes_of.ensures.bytes }))
