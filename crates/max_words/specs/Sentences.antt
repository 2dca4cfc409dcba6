-- The sentence of each fault of words whose recipient gets all: what is wrong, and what to do.
use Rattle.std.specs.Prelude.{ℕ, List, [], codes, Option, Some, None}
use Rattle.pay_words.specs.Sentences.{word_sentence}
use Rattle.max_words.specs.declared.fault.MaxFault.{MaxFault}
use Rattle.max_words.specs.declared.fault.MaxFault.TheVariants as faults

-- none where the files stop it, of which their own lines tell
unfoldable pub max_sentence : MaxFault → Option (List ℕ)
max_sentence (faults.Others place) = Some (codes "max is for one recipient alone: give an amount here, or leave out the other recipients.")
max_sentence (faults.NotManual place) = Some (codes "max goes with --method manual alone: give that beside it, and each coin by --coin.")
max_sentence (faults.NoCoins place) = Some (codes "max is what listed coins are worth: list each by --coin; ninelace sweep pays all coins.")
max_sentence (faults.Words fault) = Some (word_sentence fault)
max_sentence (faults.Stopped names stop) = None
max_sentence faults.Memory = Some (codes "The machine has too little memory: try again with less beside it.")

-- the place of the recipient that it is about
abbrev pub max_place : MaxFault → Option ℕ
max_place (faults.Others place) = Some place
max_place (faults.NotManual place) = Some place
max_place (faults.NoCoins place) = Some place
max_place _ = None
