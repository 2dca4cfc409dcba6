use Rattle.std.proofs.Common.{◌≡◌, ◌++◌, ◌-◌, ℕ, List, map, length, take, drop, ap, sym, ◌∙◌, arith}
use Rattle.std.proofs.Math.Seq.{take-length}
use Rattle.std.proofs.lemmas.List.{map-append, length-drop}
use Rattle.base58_addr.specs.Base58.{letter_of, text_of}
use Rattle.base58_addr.specs.Rebasing.{leading}
use Rattle.base58_addr.proofs.Rebased.{Writes, rebased_parts}
use Rattle.base58_addr.proofs.encoding.text_of_bytes.Goals as goal

pub returns : goal.returns
returns c =
    let bytes = c.args.bytes.now in
    let room = c.put_digits.new.room in
    let is : Writes 256 58 bytes room = record { value = c.put_digits.ensures.value ∙ c.number_of_bytes.ensures.value; below = c.put_digits.ensures.digits } in
    let parts = rebased_parts 256 58 bytes room (omega arith) is in
    let whole : map letter_of (take (length (leading bytes)) bytes) ++ map letter_of (drop (length (leading room)) room) ≡ text_of bytes =
    sym (map-append letter_of (take (length (leading bytes)) bytes) (drop (length (leading room)) room)) ∙ ap (λ (l : List ℕ). map letter_of l) parts in
    let none = c.new-text.ensures.items in
    let ones = c.zeros-ones.ensures in
    let start = c.zeros-start.ensures in
    let first : c.push_letters.new.text.items ≡ map letter_of (take (length (leading bytes)) bytes) =
    c.in_ok-push_letters.ensures
    ∙ ap (λ (l : List ℕ). l ++ map letter_of (take c.zeros-ones.result bytes)) none
    ∙ ap (λ (k : ℕ). map letter_of (take k bytes)) ones in
    let behind : List ℕ = drop c.zeros-start.result room in
    let long : 35 - c.zeros-start.result ≡ length behind = omega (arith, length-drop c.zeros-start.result room, c.put_digits.auto.room) in
    let second : take (35 - c.zeros-start.result) behind ≡ drop (length (leading room)) room =
    ap (λ (k : ℕ). take k behind) long ∙ take-length behind ∙ ap (λ (k : ℕ). drop k room) start in
    c.in_ok-push_letters-2.ensures ∙ (λ i. first i ++ map letter_of (second i)) ∙ whole
