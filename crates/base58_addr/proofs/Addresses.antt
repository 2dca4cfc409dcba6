-- From the script to its address, and from the address to its script.
use Rattle.std.proofs.Common.{◌≡◌, ℕ, ◌<◌, inl, inr, true, false, List, ◌∷◌, ◌++◌, length, take, drop, get_or, Option, Some, None, Result, Ok, Err, sym, ◌∙◌, ap, subst, refl, arith}
use Rattle.std.specs.Prelude.{◌≢◌, ◌==◌, bytes_eq, IfOk, IfSome, MatchResult, IsTrue}
use Rattle.std.specs.Option.{option_map}
use Rattle.std.proofs.Math.Seq.{drop-cons}
use Rattle.std.proofs.lemmas.Bool.{cases_Bool, eqb-true, eq-eqb, not-false}
use Rattle.std.proofs.lemmas.List.{take-append-drop, length-drop, length-take-le}
use Rattle.std.proofs.lemmas.List.Elements.{All-append, All-cons, All-drop, All-take}
use Rattle.std.proofs.lemmas.Slice.Eq.{bytes_eq-Decides}
use Rattle.fund_base.specs.Cursor.{IsBytes}
use Rattle.fund_base.specs.Parsing.{YieldsAll}
use Rattle.fund_base.proofs.Laws.{guard_ok}
use Rattle.base58_addr.specs.Address.{IsAddress, checksum_of, encode_of, hash_script, key_script, pays_hash, pays_key, pays_script, sealed}
use Rattle.base58_addr.specs.Base58.{bytes_of, text_of}
use Rattle.base58_addr.specs.Reading.{decode_of, hash_at, whole_at}
use Rattle.base58_addr.specs.declared.fault.Base58Fault.{Base58Fault}
use Rattle.base58_addr.specs.declared.fault.Base58Fault.TheVariants.{Letter, Length, Checksum, Version, Memory}
use Rattle.base58_addr.proofs.Letters.{has_unknown}
use Rattle.base58_addr.proofs.Scripts.{key_parts, key_pays, key_taken, key_fits, hash_parts, hash_pays, hash_taken, hash_fits}
use Rattle.base58_addr.proofs.Sealed.{bytes_of_text_of, text_of_bytes_of, text_known, bytes_fit, checksum_fits, sealed_front, sealed_back, sealed_long}

-- ---- what a text of 25 bytes is read as

pub spelled_reads : (bytes : List ℕ) → IsBytes bytes → length bytes ≡ 25 → decode_of (text_of bytes) ≡ whole_at bytes
unfolding decode_of
spelled_reads bytes fit long =
    let known : has_unknown (text_of bytes) ≡ false = text_known bytes in
    let back : bytes_of (text_of bytes) ≡ bytes = bytes_of_text_of bytes fit in
    let size : (length bytes == 25) ≡ true = eq-eqb _ _ long in
    rw (known, back, size) refl

pub sealed_fits : (payload : List ℕ) → IsBytes payload → IsBytes (sealed payload)
sealed_fits payload fit = All-append (λ (b : ℕ). b < 256) payload (checksum_of payload) fit (checksum_fits payload)

pub sealed_reads : (payload : List ℕ) → IsBytes payload → length payload ≡ 21 → decode_of (text_of (sealed payload)) ≡ hash_at (get_or payload 0 0) (drop 1 payload)
unfolding whole_at
sealed_reads payload fit long =
    let front = sealed_front payload long in
    let back = sealed_back payload long in
    let same : bytes_eq (checksum_of payload) (checksum_of payload) ≡ true = (bytes_eq-Decides (checksum_of payload) (checksum_of payload)).1 refl in
    spelled_reads (sealed payload) (sealed_fits payload fit) (sealed_long payload long)
    ∙ (rw (front, back, same) refl)

-- ---- from the script to the text

record Spells (text script : List ℕ) : Type 0 where
  version : ℕ
  hash : List ℕ
  text_is : text_of (sealed (version ∷ hash)) ≡ text
  size : length hash ≡ 20
  low : version < 256
  fit : IsBytes hash
  reads : hash_at version hash ≡ Ok script
  pays : pays_hash script ≡ true

spells_key : (text script : List ℕ) → IsBytes script → pays_key script ≡ true → encode_of script ≡ Some text → Spells text script
unfolding encode_of hash_at
spells_key text script fit pays is =
    let own = key_parts script pays in
    let text_is : text_of (sealed (0 ∷ take 20 (drop 3 script))) ≡ text = cc (rw pays at is) in
    record {
      version = 0;
      hash = take 20 (drop 3 script);
      text_is = text_is;
      size = own.size;
      low = omega arith;
      fit = All-take (λ (b : ℕ). b < 256) 20 (drop 3 script) (All-drop (λ (b : ℕ). b < 256) 3 script fit);
      reads = ap (λ (l : List ℕ). Ok l) own.whole;
      pays = rw pays refl;
    }

spells_hash : (text script : List ℕ) → IsBytes script → pays_key script ≡ false → pays_script script ≡ true → encode_of script ≡ Some text → Spells text script
unfolding encode_of hash_at
spells_hash text script fit other pays is =
    let own = hash_parts script pays in
    let text_is : text_of (sealed (5 ∷ take 20 (drop 2 script))) ≡ text = cc (rw (other, pays) at is) in
    record {
      version = 5;
      hash = take 20 (drop 2 script);
      text_is = text_is;
      size = own.size;
      low = omega arith;
      fit = All-take (λ (b : ℕ). b < 256) 20 (drop 2 script) (All-drop (λ (b : ℕ). b < 256) 2 script fit);
      reads = ap (λ (l : List ℕ). Ok l) own.whole;
      pays = rw (other, pays) refl;
    }

none_spelled : (text script : List ℕ) → pays_key script ≡ false → pays_script script ≡ false → encode_of script ≡ Some text → ⊥
unfolding encode_of
none_spelled text script one two is = absurd (cc (rw (one, two) at is))

spells_of : (text script : List ℕ) → IsAddress text script → Spells text script
spells_of text script is =
    elim (cases_Bool (pays_key script)) [
      | inl key ↦ spells_key text script is.bytes key is.spells
      | inr other ↦ elim (cases_Bool (pays_script script)) [
        | inl hashed ↦ spells_hash text script is.bytes other hashed is.spells
        | inr none ↦ absurd (none_spelled text script other none is.spells)
      ]
    ]

-- the address of a script is read as the script
pub decode_only : (text script : List ℕ) → IsAddress text script → decode_of text ≡ Ok script
decode_only text script is =
    let own = spells_of text script is in
    let payload : List ℕ = own.version ∷ own.hash in
    let size : length payload ≡ 21 = omega (arith, own.size) in
    ap (λ (l : List ℕ). decode_of l) (sym own.text_is)
    ∙ sealed_reads payload (All-cons (λ (b : ℕ). b < 256) own.version own.hash own.low own.fit) size
    ∙ own.reads

pub address_pays : (text script : List ℕ) → IsAddress text script → pays_hash script ≡ true
address_pays text script is = (spells_of text script is).pays

-- ---- from the text to the script

record Reads (version : ℕ) (hash script : List ℕ) : Type 0 where
  spells : encode_of script ≡ Some (text_of (sealed (version ∷ hash)))
  fit : IsBytes script

key_reads : (hash : List ℕ) → length hash ≡ 20 → IsBytes hash → Reads 0 hash (key_script hash)
unfolding encode_of
key_reads hash size fit = record {
  spells = rw (key_pays hash size) (ap (λ (l : List ℕ). Some (text_of (sealed (0 ∷ l)))) (key_taken hash size));
  fit = key_fits hash fit;
}

hash_reads : (hash : List ℕ) → length hash ≡ 20 → IsBytes hash → Reads 5 hash (hash_script hash)
unfolding encode_of
hash_reads hash size fit =
    let pays = hash_pays hash size in
    record {
      spells = rw (pays.0, pays.1) (ap (λ (l : List ℕ). Some (text_of (sealed (5 ∷ l)))) (hash_taken hash size));
      fit = hash_fits hash fit;
    }

read_as : (version own : ℕ) (hash script found : List ℕ) → own ≡ version → script ≡ found → Reads own hash script → Reads version hash found
read_as version own hash script found v s is = record {
  spells = ap (λ (l : List ℕ). encode_of l) (sym s) ∙ is.spells ∙ ap (λ (n : ℕ). Some (text_of (sealed (n ∷ hash)))) v;
  fit = subst (λ (l : List ℕ). IsBytes l) s is.fit;
}

hash_found : (version : ℕ) (hash script : List ℕ) → length hash ≡ 20 → IsBytes hash → hash_at version hash ≡ Ok script → Reads version hash script
unfolding hash_at
hash_found version hash script size fit h =
    elim (cases_Bool (version == 0)) [
      | inl key ↦
          let same : key_script hash ≡ script = cc (rw key at h) in
          read_as version 0 hash (key_script hash) script (sym (eqb-true version 0 key)) same (key_reads hash size fit)
      | inr other ↦ elim (cases_Bool (version == 5)) [
        | inl hashed ↦
            let same : hash_script hash ≡ script = cc (rw (other, hashed) at h) in
            read_as version 5 hash (hash_script hash) script (sym (eqb-true version 5 hashed)) same (hash_reads hash size fit)
        | inr none ↦ absurd (cc (rw (other, none) at h))
      ]
    ]

-- a payload is its first byte and the rest
headed : (payload : List ℕ) → length payload ≡ 21 → payload ≡ get_or payload 0 0 ∷ drop 1 payload
headed payload long = drop-cons payload 0 0 (omega arith)

whole_found : (bytes script : List ℕ) → length bytes ≡ 25 → IsBytes bytes → whole_at bytes ≡ Ok script → (encode_of script ≡ Some (text_of bytes)) × IsBytes script
unfolding whole_at
whole_found bytes script long fit h =
    let wrong = guard_ok _ Checksum _ script h in
    let payload = take 21 bytes in
    let last : drop 21 bytes ≡ checksum_of payload = (bytes_eq-Decides (drop 21 bytes) (checksum_of payload)).0 (not-false _ wrong.0) in
    let size : length payload ≡ 21 = length-take-le 21 bytes (omega arith) in
    let inside : IsBytes payload = All-take (λ (b : ℕ). b < 256) 21 bytes fit in
    let found = hash_found (get_or payload 0 0) (drop 1 payload) script (omega (arith, length-drop 1 payload, size)) (All-drop (λ (b : ℕ). b < 256) 1 payload inside) wrong.1 in
    let whole : sealed (get_or payload 0 0 ∷ drop 1 payload) ≡ bytes =
    ap (λ (l : List ℕ). sealed l) (sym (headed payload size)) ∙ ap (λ (l : List ℕ). payload ++ l) (sym last) ∙ take-append-drop 21 bytes in
    (found.spells ∙ ap (λ (l : List ℕ). Some (text_of l)) whole, found.fit)

-- what a text is read as has it as its address
pub decode_found : (text script : List ℕ) → decode_of text ≡ Ok script → IsAddress text script
unfolding decode_of
decode_found text script h =
    let known = guard_ok (has_unknown text) Letter _ script h in
    let sized = guard_ok _ Length _ script known.1 in
    let long : length (bytes_of text) ≡ 25 = eqb-true _ _ (not-false _ sized.0) in
    let found = whole_found (bytes_of text) script long (bytes_fit text) sized.1 in
    record {
      spells = found.0 ∙ ap (λ (l : List ℕ). Some l) (text_of_bytes_of text known.0);
      bytes = found.1;
    }

-- ---- the laws

pub one_text : (first second script : List ℕ) → IsAddress first script → IsAddress second script → first ≡ second
one_text first second script a b = let p = a.spells in let q = b.spells in cc

pub one_script : (text first second : List ℕ) → IsAddress text first → IsAddress text second → first ≡ second
one_script text first second a b = let p = decode_only text first a in let q = decode_only text second b in cc

-- ---- what the calls promise

only_memory : (e : Base58Fault) → (e ≢ Memory → ⊥) → e ≡ Memory
only_memory Letter h = absurd (h (λ e. absurd cc))
only_memory Length h = absurd (h (λ e. absurd cc))
only_memory Checksum h = absurd (h (λ e. absurd cc))
only_memory Version h = absurd (h (λ e. absurd cc))
only_memory Memory h = refl

pub yields_found : (text : List ℕ) (given : Result (List ℕ) Base58Fault) → YieldsAll Memory (λ s. s) given (decode_of text) → IfOk given (λ s. IsAddress text s)
yields_found text (Ok script) h = decode_found text script h
yields_found text (Err e) h = tt

pub yields_only : (text script : List ℕ) (given : Result (List ℕ) Base58Fault) → YieldsAll Memory (λ s. s) given (decode_of text) → IsAddress text script → MatchResult given (λ s. s ≡ script) (λ e. e ≡ Memory)
yields_only text script (Ok s) h is = let own = decode_only text script is in cc
yields_only text script (Err e) h is = only_memory e (λ other. let own = decode_only text script is in let refused = h other in absurd (cc))

pub yields_pays : (text : List ℕ) (given : Result (List ℕ) Base58Fault) → YieldsAll Memory (λ s. s) given (decode_of text) → IfOk given (λ s. IsTrue (pays_hash s))
yields_pays text (Ok script) h = address_pays text script (decode_found text script h)
yields_pays text (Err e) h = tt

-- what is said of an address holds of what encode gave
pub given_some : {V E : Type 0} (items : V → List ℕ) (P : List ℕ → Type 0) (given : Result (Option V) E) (own : Option (List ℕ)) → IfOk given (λ o. option_map items o ≡ own) → ((text : List ℕ) → own ≡ Some text → P text) → IfOk given (λ o. IfSome o (λ v. P (items v)))
given_some items P (Ok (Some v)) own h all = all (items v) (sym h)
given_some items P (Ok None) own h all = tt
given_some items P (Err e) own h all = tt
