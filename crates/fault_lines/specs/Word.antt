-- The words of a line.
use Rattle.std.specs.Prelude.{ℕ, ◌==◌, not, Bool, List, length, take, drop, replicate, bytes_eq, Option, Some, None, is_some, if◌then◌else◌}
use Rattle.std.specs.Char.{is_ascii_graphic}
use Rattle.std.specs.List.{prefix_len}
use Rattle.fund_base.specs.declared.outpoint.OutPoint.{OutPoint}

-- what stands behind this front, if it stands there
abbrev pub behind : List ℕ → List ℕ → Option (List ℕ)
behind front bytes = if bytes_eq (take (length front) bytes) front then Some (drop (length front) bytes) else None

-- the bytes begin so
abbrev pub begins : List ℕ → List ℕ → Bool
begins front bytes = is_some (behind front bytes)

-- what is said of what stands behind, or else
abbrev pub told : {A : Type 0} → Option (List ℕ) → (List ℕ → A) → A → A
told (Some rest) said other = said rest
told None said other = other

-- the first word: printable bytes of ASCII without a blank
abbrev pub word : List ℕ → List ℕ
word bytes = take (prefix_len is_ascii_graphic bytes) bytes

-- no blank
abbrev pub is_no_blank : ℕ → Bool
is_no_blank byte = not (byte == 32)

-- what stands behind the first blank
abbrev pub after_word : List ℕ → List ℕ
after_word bytes = drop 1 (drop (prefix_len is_no_blank bytes) bytes)

-- 32 zeros
abbrev pub zeros : List ℕ
zeros = replicate 32 0

-- a coin that stands for any
abbrev pub no_coin : OutPoint
no_coin = record { txid = zeros; index = 0 }
