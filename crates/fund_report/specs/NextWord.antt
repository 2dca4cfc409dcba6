-- The first words of the lines that may stand after the line of a coin.
use Rattle.std.specs.Prelude.{ℕ, List, codes}
use Rattle.fund_report.specs.declared.parts.Next.{Next}
use Rattle.fund_report.specs.declared.parts.Next.TheVariants.{Coin, Weight}

abbrev pub next_word : Next → List ℕ
next_word Coin = codes "in "
next_word Weight = codes "weight "
