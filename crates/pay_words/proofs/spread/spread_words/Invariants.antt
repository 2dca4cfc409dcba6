use Rattle.std.proofs.Common.{◌≡◌, String, take, map, string_bytes}
use Rattle.std.specs.List.{flat_map}
use Rattle.std.specs.declared.alloc.Global.{Global}
use Rattle.pay_words.specs.Spread.{spread_word}
use Rattle.pay_words.proofs.spread.spread_words.Given as goal

abbrev pub invariant-loop-word : goal.invariant-loop-word
invariant-loop-word l = map string_bytes l.spread.items ≡ flat_map (λ (w : String Global). spread_word (string_bytes w)) (take l.word-index l.words)
