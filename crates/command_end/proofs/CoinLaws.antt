-- Hashes and coins that are shown alike are the same.
use Rattle.std.proofs.Common.{◌≡◌, ◌∙◌, ◌<◌, ◌-◌, ℕ, List, ◌∷◌, length, get_or, take, drop, reverse, sym, ap, subst, arith, inl, inr}
use Rattle.std.specs.Fmt.{decimal}
use Rattle.std.proofs.lemmas.Fmt.{decimal_injective}
use Rattle.std.proofs.lemmas.Bool.{cases_lt}
use Rattle.std.proofs.lemmas.List.{drop_at, get_or-reverse, get_or_past, length-reverse, reverse-reverse, take_at}
use Rattle.fund_base.specs.Cursor.{IsBytes}
use Rattle.fund_base.specs.declared.outpoint.OutPoint.{OutPoint}
use Rattle.hex.specs.Hex.{decode_of, encode_lower, lower_digits, IsBytes as AreBytes}
use Rattle.hex.proofs.HexLemmas.{decode_of-encode_lower, length-encode_with}
use Rattle.command_end.specs.Coin.{IsShown, coin_text, shown_hash}

-- bytes, as the hex of the kit asks for them
each_byte : (a : List ℕ) → IsBytes a → AreBytes a
each_byte a bytes i =
    elim (cases_lt i (length a)) [
      | inl within ↦ bytes i 0 within
      | inr past ↦ rw (get_or_past a i 0 past) (omega arith)
    ]

-- hex digits tell the bytes
digits_apart : (a b : List ℕ) → IsBytes a → IsBytes b → encode_lower a ≡ encode_lower b → a ≡ b
digits_apart a b a_bytes b_bytes same =
    let read = sym (decode_of-encode_lower a (each_byte a a_bytes)) ∙ ap decode_of same ∙ decode_of-encode_lower b (each_byte b b_bytes) in
    cc

bytes_back : (a : List ℕ) → IsBytes a → IsBytes (reverse a)
bytes_back a bytes = λ i d lt.
    let within : i < length a = omega (arith, lt, length-reverse a) in
    let byte : get_or a (length a - 1 - i) d < 256 = bytes (length a - 1 - i) d (omega (arith, within)) in
    subst (λ (b : ℕ). b < 256) (sym (get_or-reverse a i d within)) byte

pub hashes_apart : (a b : List ℕ) → IsBytes a → IsBytes b → shown_hash a ≡ shown_hash b → a ≡ b
hashes_apart a b a_bytes b_bytes same =
    let back : reverse a ≡ reverse b = digits_apart (reverse a) (reverse b) (bytes_back a a_bytes) (bytes_back b b_bytes) same in
    sym (reverse-reverse a) ∙ ap (λ (l : List ℕ). reverse l) back ∙ reverse-reverse b

shown_long : (a : List ℕ) → length a ≡ 32 → length (shown_hash a) ≡ 64
shown_long a long = omega (arith, long, length-encode_with lower_digits (reverse a), length-reverse a)

pub coins_apart : (a b : OutPoint) → IsShown a → IsShown b → coin_text a ≡ coin_text b → a ≡ b
unfolding coin_text
coins_apart a b a_is b_is same =
    let a_end : List ℕ = 58 ∷ decimal a.index in
    let b_end : List ℕ = 58 ∷ decimal b.index in
    let hash : shown_hash a.txid ≡ shown_hash b.txid =
    sym (take_at (shown_hash a.txid) a_end 64 (shown_long a.txid a_is.long)) ∙ ap (λ (l : List ℕ). take 64 l) same ∙ take_at (shown_hash b.txid) b_end 64 (shown_long b.txid b_is.long) in
    let ends : a_end ≡ b_end =
    sym (drop_at (shown_hash a.txid) a_end 64 (shown_long a.txid a_is.long)) ∙ ap (λ (l : List ℕ). drop 64 l) same ∙ drop_at (shown_hash b.txid) b_end 64 (shown_long b.txid b_is.long) in
    let digits : decimal a.index ≡ decimal b.index = cc in
    let txid : a.txid ≡ b.txid = hashes_apart a.txid b.txid a_is.bytes b_is.bytes hash in
    let a_index = a_is.index in
    let b_index = b_is.index in
    let index : a.index ≡ b.index = decimal_injective a.index b.index (omega arith) (omega arith) digits in
    ap (λ (t : List ℕ). record { txid = t; index = a.index }) txid ∙ ap (λ (i : ℕ). record { txid = b.txid; index = i }) index
