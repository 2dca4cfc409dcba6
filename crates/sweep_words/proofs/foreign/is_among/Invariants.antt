use Rattle.std.proofs.Common.{◌≡◌, bytes_eq, drop}
use Rattle.std.specs.List.{list_any}
use Rattle.pay_words.specs.Flags.{flag_word}
use Rattle.pay_words.specs.declared.flag.Flag.{Flag}
use Rattle.sweep_words.proofs.foreign.is_among.Given as goal

abbrev pub invariant-loop-flag : goal.invariant-loop-flag
invariant-loop-flag l = list_any (λ (f : Flag). bytes_eq (flag_word f) l.word) (drop l.flag-index l.flags) ≡ list_any (λ (f : Flag). bytes_eq (flag_word f) l.word) l.flags
