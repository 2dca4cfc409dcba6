-- Words among which a flag stands with its value as one word, and the same with two words.
use Rattle.std.specs.Prelude.{ℕ, Bool, false, List, [], ◌∷◌, String, string_bytes, Option, Some, None, if◌then◌else◌}
use Rattle.std.specs.List.{flat_map}
use Rattle.std.specs.declared.alloc.Global.{Global}
use Rattle.pay_words.specs.Flags.{flag_of, takes_value}
use Rattle.pay_words.specs.Payments.{cut_of}
use Rattle.pay_words.specs.declared.flag.Flag.{Flag}

-- a word is that of a flag that takes a value
abbrev pub is_for_value : Option Flag → Bool
is_for_value None = false
is_for_value (Some flag) = takes_value flag

-- by what stands before and behind the first `=` of a word
abbrev pub spread_by : List ℕ → Option (List ℕ × List ℕ) → List (List ℕ)
spread_by word None = word ∷ []
spread_by word (Some parts) = if is_for_value (flag_of parts.0) then parts.0 ∷ parts.1 ∷ [] else word ∷ []

-- A flag that takes a value, with that behind `=`, is two words. Every other word is one.
abbrev pub spread_word : List ℕ → List (List ℕ)
spread_word word = spread_by word (cut_of word)

-- all words
abbrev pub spread_of : List (String Global) → List (List ℕ)
spread_of words = flat_map (λ (w : String Global). spread_word (string_bytes w)) words
