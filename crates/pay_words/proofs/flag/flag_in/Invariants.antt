use Rattle.std.proofs.Common.{◌≡◌, bytes_eq, find, drop}
use Rattle.pay_words.specs.Flags.{flag_word}
use Rattle.pay_words.specs.declared.flag.Flag.{Flag}
use Rattle.pay_words.proofs.flag.flag_in.Given as goal

abbrev pub invariant-loop-flag : goal.invariant-loop-flag
invariant-loop-flag l = find (λ (f : Flag). bytes_eq (flag_word f) l.word) (drop l.flag-index l.flags) ≡ find (λ (f : Flag). bytes_eq (flag_word f) l.word) l.flags
