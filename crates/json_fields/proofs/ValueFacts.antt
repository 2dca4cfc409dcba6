-- What is true of the values that are read.
use Rattle.std.proofs.Common.{◌≡◌, ◌<◌, ℕ, List, reverse, Option, Some, None, Result, Ok, Err, option_and_then, refl, sym, ap, subst, ◌∙◌, arith}
use Rattle.std.proofs.lemmas.List.{get_or_default, length-reverse, get_or-reverse}
use Rattle.std.specs.Option.{ok_or}
use Rattle.std.specs.Result.{result_ok}
use Rattle.fund_base.specs.Cursor.{IsBytes}
use Rattle.fund_base.specs.Parsing.{◌>>=◌}
use Rattle.fund_base.specs.declared.outpoint.OutPoint.{OutPoint}
use Rattle.hex.proofs.HexLemmas.{decode_sized-twice, decode_sized-ok, decode_of-ok}
use Rattle.hex.specs.Hex.{decode_of, decode_sized}
use Rattle.hex.specs.declared.error.FromHexError.{FromHexError}
use Rattle.serde_json.specs.Data.{Data}
use Rattle.serde_json.specs.Find.{as_str}
use Rattle.json_fields.specs.Fields.{hex_at, hash_in, hash_at, coin_in, coin_at, IsHash, IsPoint}
use Rattle.json_fields.specs.declared.fault.FieldFault.{FieldFault}
use Rattle.json_fields.specs.declared.fault.FieldFault.TheVariants.{Kind}
use Rattle.json_fields.proofs.CoinLaws.{found}

-- each decoded byte is one
decoded : (text bytes : List ℕ) → decode_of text ≡ Ok bytes → IsBytes bytes
decoded text bytes e k d lt = subst (λ b. b < 256) (get_or_default bytes k 0 d lt) ((decode_of-ok text bytes e).3 k)

-- a value that two steps give is given by the second
second : {A B : Type 0} (first : Option A) (read : A → Option B) (fault : FieldFault) (out : B) → (ok_or first fault >>= λ x. ok_or (read x) fault) ≡ Ok out → (x : A) × (read x ≡ Some out)
second None read fault out e = absurd (cc e)
second {A} {B} (Some x) read fault out e = by (read x) refl e
  where
    by : (r : Option B) → read x ≡ r → ok_or r fault ≡ Ok out → (y : A) × (read y ≡ Some out)
    by None is reads = absurd (cc reads)
    by (Some y) is reads = let same : y ≡ out = cc reads in (x, is ∙ ap Some same)

from_ok : (r : Result (List ℕ) FromHexError) (bytes : List ℕ) → result_ok r ≡ Some bytes → r ≡ Ok bytes
from_ok (Ok b) bytes e = let same : b ≡ bytes = cc e in ap Ok same
from_ok (Err f) bytes e = absurd (cc e)

-- what is read of hex is bytes
pub hex_is : (name : List ℕ) (d : Data) (bytes : List ℕ) → hex_at name d ≡ Ok bytes → IsBytes bytes
unfolding hex_at
hex_is name d bytes e =
    let s = second (as_str d) (λ text. result_ok (decode_of text)) (Kind name) bytes e in
    decoded s.0 bytes (from_ok (decode_of s.0) bytes s.1)

-- a hash has 32 bytes
pub hash_in_is : (text hash : List ℕ) → hash_in text ≡ Some hash → IsHash hash
unfolding hash_in
hash_in_is text hash e = by (decode_sized text 32) refl e
  where
    by : (r : Result (List ℕ) FromHexError) → decode_sized text 32 ≡ r → option_and_then (λ bytes. Some (reverse bytes)) (result_ok r) ≡ Some hash → IsHash hash
    by (Ok bytes) is reads =
        let long = decode_sized-ok text 32 bytes is in
        let read = sym (decode_sized-twice text 32 long) ∙ is in
        let sized = (decode_of-ok text bytes read).2 in
        let turned = length-reverse bytes in
        let same : reverse bytes ≡ hash = cc reads in
        subst IsHash same (record { len = omega arith; bytes = λ k d lt. rw (get_or-reverse bytes k d (omega arith)) (decoded text bytes read _ d (omega arith)) })
    by (Err f) is reads = absurd (cc reads)

pub hash_is : (name : List ℕ) (d : Data) (hash : List ℕ) → hash_at name d ≡ Ok hash → IsHash hash
unfolding hash_at
hash_is name d hash e = let s = second (as_str d) hash_in (Kind name) hash e in hash_in_is s.0 hash s.1

-- a coin has a hash and an index of 32 bits
pub coin_is : (name : List ℕ) (d : Data) (coin : OutPoint) → coin_at name d ≡ Ok coin → IsPoint coin
unfolding coin_at
coin_is name d coin e =
    let s = second (as_str d) coin_in (Kind name) coin e in
    let text = found s.0 coin s.1 in
    record { txid = hash_in_is text.front coin.txid text.hash; index = text.index }
