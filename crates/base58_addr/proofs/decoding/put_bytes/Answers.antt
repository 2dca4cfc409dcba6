use Rattle.std.proofs.Common.{◌≡◌, map, length, refl, sym, ◌∙◌, arith}
use Rattle.std.proofs.lemmas.Bool.{eqb-true, eq-eqb}
use Rattle.base58_addr.specs.Base58.{value_of}
use Rattle.base58_addr.specs.Rebasing.{leading}
use Rattle.base58_addr.proofs.Rebased.{Writes, rebased_long, rebased_whole}
use Rattle.base58_addr.proofs.Sealed.{bytes_under, leading_letters}
use Rattle.base58_addr.proofs.decoding.put_bytes.Goals as goal

pub returns-in-Some-clause-size : goal.returns-in-Some-clause-size
returns-in-Some-clause-size c =
    let row = map value_of c.args.text.now in
    let room = c.put_digits.new.room in
    let is : Writes 58 256 row room = record { value = c.put_digits.ensures.value ∙ c.in-Some.ensures.value; below = c.put_digits.ensures.digits } in
    let lengths = rebased_long 58 256 row room (omega arith) is in
    let ones : c.zero_letters.result ≡ length (leading row) = c.zero_letters.ensures ∙ leading_letters c.args.text.now in
    let zeros : c.zeros.result ≡ length (leading room) = c.zeros.ensures in
    let long : length room ≡ 25 = omega (arith, c.put_digits.auto.room, c.requires) in (
      λ e. let same : c.zeros.result ≡ c.zero_letters.result = eqb-true _ _ e in omega (arith, lengths, ones, zeros, long, same),
      λ size. eq-eqb _ _ (omega (arith, lengths, ones, zeros, long, size)),
    )

pub returns-in-Some-clause-bytes : goal.returns-in-Some-clause-bytes
returns-in-Some-clause-bytes c =
    let row = map value_of c.args.text.now in
    let room = c.put_digits.new.room in
    let is : Writes 58 256 row room = record { value = c.put_digits.ensures.value ∙ c.in-Some.ensures.value; below = c.put_digits.ensures.digits } in
    let ones : c.zero_letters.result ≡ length (leading row) = c.zero_letters.ensures ∙ leading_letters c.args.text.now in
    λ e. rebased_whole 58 256 row room (omega arith) is (sym c.zeros.ensures ∙ eqb-true _ _ e ∙ ones)

pub returns-in-None-clause-size : goal.returns-in-None-clause-size
returns-in-None-clause-size c = (
  λ e. absurd (cc e),
  λ size.
      let under = bytes_under c.args.text.now size in
      let least = c.in-None.ensures.none refl in
      absurd (omega (arith, under, least)),
)
