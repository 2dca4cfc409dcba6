-- The flags that words give: a flag that takes a value, with the word behind it; or a flag alone.
use Rattle.std.specs.Prelude.{ℕ, ◌+◌, ◌&&◌, not, List, [], ◌∷◌, ◌++◌, String, string_bytes, Option, Some, None, is_some, IsSome, Result, Ok, Err, if◌then◌else◌}
use Rattle.std.specs.declared.alloc.Global.{Global}
use Rattle.fund_base.specs.Parsing.{◌>>=◌}
use Rattle.pay_words.specs.Flags.{flag_of, is_same, may_repeat, takes_value}
use Rattle.pay_words.specs.declared.fault.WordFault.{WordFault}
use Rattle.pay_words.specs.declared.fault.WordFault.TheVariants as faults
use Rattle.pay_words.specs.declared.flag.Flag.{Flag}
use Rattle.pay_words.specs.declared.given.Given.{Given}

-- the place that the first of these tells that is of the flag
unfoldable pub place_of : List Given → Flag → Option ℕ
place_of [] flag = None
place_of (g ∷ gs) flag = if is_same g.flag flag then Some g.place else place_of gs flag

-- one more
abbrev pub with_one : List Given → Flag → ℕ → List Given
with_one given flag place = given ++ record { flag = flag; place = place } ∷ []

-- a flag is taken: it is given, or it waits for its value
abbrev pub begun : List Given → ℕ → Flag → Result (List Given × Option Flag) WordFault
begun given place flag =
    if not (may_repeat flag) && is_some (place_of given flag) then Err (faults.Twice place)
    else if takes_value flag then Ok (given, Some flag)
    else Ok (with_one given flag place, None)

abbrev pub named : List Given → ℕ → Option Flag → Result (List Given × Option Flag) WordFault
named given place None = Err (faults.Unknown place)
named given place (Some flag) = begun given place flag

-- the word at a place, where a flag waits for its value or none does; the word of a flag is no value
abbrev pub next_of : List Given → Option Flag → ℕ → List ℕ → Result (List Given × Option Flag) WordFault
next_of given (Some flag) place word = if is_some (flag_of word) then Err (faults.NoValue flag) else Ok (with_one given flag place, None)
next_of given None place word = named given place (flag_of word)

-- the words are at their end
abbrev pub ended_by : {A : Type 0} → A → Option Flag → Result A WordFault
ended_by given None = Ok given
ended_by given (Some flag) = Err (faults.NoValue flag)

abbrev pub ended : List Given × Option Flag → Result (List Given) WordFault
ended s = ended_by s.0 s.1

-- the first word is that of a flag
abbrev pub BeginsWithFlag : List (String Global) → Type 0
BeginsWithFlag [] = ⊥
BeginsWithFlag (word ∷ words) = IsSome (flag_of (string_bytes word))

-- the words from a place on
unfoldable pub flags_from : List Given × Option Flag → ℕ → List (String Global) → Result (List Given) WordFault
flags_from s place [] = ended s
flags_from s place (word ∷ words) = next_of s.0 s.1 place (string_bytes word) >>= λ s'. flags_from s' (place + 1) words

-- all of them
unfoldable pub flags_in : List (String Global) → Result (List Given) WordFault
flags_in words = flags_from ([], None) 0 words
