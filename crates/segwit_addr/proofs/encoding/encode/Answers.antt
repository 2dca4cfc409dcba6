use Rattle.std.proofs.Common.{◌≡◌, Ok}
use Rattle.segwit_addr.specs.Address.{IsAddress, IsLower, encode_of}
use Rattle.segwit_addr.specs.Reading.{decode_of}
use Rattle.segwit_addr.proofs.Addresses.{decode_only, encode_found, encode_lower, given_some}
use Rattle.segwit_addr.proofs.encoding.encode.Goals as goal

pub returns-clause-address : goal.returns-clause-address
returns-clause-address c =
    given_some (λ v. v.items) (λ text. IsAddress text c.args.script.now) c.text_of_script.result (encode_of c.args.script.now) (rw c.bytes_of.ensures.value at c.text_of_script.ensures.exact)
    (λ text is. encode_found c.args.script.now text c.bytes_of.ensures.bytes is)

pub returns-clause-back : goal.returns-clause-back
returns-clause-back c =
    given_some (λ v. v.items) (λ text. decode_of text ≡ Ok c.args.script.now) c.text_of_script.result (encode_of c.args.script.now) (rw c.bytes_of.ensures.value at c.text_of_script.ensures.exact)
    (λ text is. decode_only text c.args.script.now (encode_found c.args.script.now text c.bytes_of.ensures.bytes is))

pub returns-clause-lower : goal.returns-clause-lower
returns-clause-lower c =
    given_some (λ v. v.items) (λ text. IsLower text) c.text_of_script.result (encode_of c.args.script.now) (rw c.bytes_of.ensures.value at c.text_of_script.ensures.exact)
    (λ text is. encode_lower c.args.script.now text is)
