use Rattle.std.proofs.Common.{◌≡◌, ◌<◌, [], drop, length, map, string_bytes}
use Rattle.std.specs.Str.Lines.{lines}
use Rattle.pay_words.specs.Lines.{BeginsWithPayment, words_from}
use Rattle.pay_words.proofs.lines.text_words.Given as goal

abbrev pub invariant-loop-line : goal.invariant-loop-line
invariant-loop-line l = (words_from (map string_bytes l.words.items) (drop (length l.yielded) (lines l.text)) ≡ words_from [] (lines l.text)) × (0 < length l.yielded → BeginsWithPayment (lines l.text))
