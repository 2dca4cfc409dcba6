-- Which script a text is read as, or which fault comes first (Bitcoin developer reference, 'Base58Check'; BIP 13).
use Rattle.std.specs.Prelude.{ℕ, ◌==◌, nat_le, not, List, length, take, drop, slice_index, bytes_eq, Result, Ok, Err, if◌then◌else◌}
use Rattle.std.specs.List.{list_any}
use Rattle.base58_addr.specs.Address.{checksum_of, hash_script, key_script}
use Rattle.base58_addr.specs.Base58.{bytes_of, value_of}
use Rattle.base58_addr.specs.declared.fault.Base58Fault.{Base58Fault}
use Rattle.base58_addr.specs.declared.fault.Base58Fault.TheVariants.{Letter, Length, Checksum, Version}

-- the script of a version and a hash, or what is wrong with them
unfoldable pub hash_at : ℕ → List ℕ → Result (List ℕ) Base58Fault
hash_at version hash =
    if version == 0 then Ok (key_script hash)
    else if version == 5 then Ok (hash_script hash)
    else Err Version

-- the script of 25 bytes, or what is wrong with them
unfoldable pub whole_at : List ℕ → Result (List ℕ) Base58Fault
whole_at bytes =
    if not (bytes_eq (drop 21 bytes) (checksum_of (take 21 bytes))) then Err Checksum
    else hash_at (slice_index (take 21 bytes) 0) (drop 1 (take 21 bytes))

-- the script of a text, or the first fault
unfoldable pub decode_of : List ℕ → Result (List ℕ) Base58Fault
decode_of text =
    if list_any (λ c. nat_le 58 (value_of c)) text then Err Letter
    else if not (length (bytes_of text) == 25) then Err Length
    else whole_at (bytes_of text)
