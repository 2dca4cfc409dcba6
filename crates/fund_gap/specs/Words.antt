-- What is missing, in a sentence.
use Rattle.std.specs.Prelude.{ℕ, ◌==◌, List, ◌++◌, codes, if◌then◌else◌}
use Rattle.std.specs.Fmt.{decimal}
use Rattle.fund_gap.specs.declared.gap.Gap.{Gap}
use Rattle.fund_gap.specs.declared.words.GapKind.{GapKind}
use Rattle.fund_gap.specs.declared.words.GapKind.TheVariants as kinds

abbrev pub front_of : GapKind → List ℕ
front_of kinds.Listed = codes "The listed coins bring "
front_of kinds.Spendable = codes "The coins that may be spent bring "
front_of kinds.Worth = codes "The coins that may be spent are worth "

abbrev pub middle_of : GapKind → List ℕ
middle_of kinds.Listed = codes " sat beyond their fees, and "
middle_of kinds.Spendable = codes " sat beyond their fees, and "
middle_of kinds.Worth = codes " sat, and "

-- where nothing is missing, no choice of the coins is as asked: without change, or within the weight
unfoldable pub missing_text : ℕ → List ℕ
missing_text n = if n == 0 then codes "that is enough, but no choice of them pays as asked." else decimal n ++ codes " sat are missing."

unfoldable pub gap_text : GapKind → Gap → List ℕ
gap_text kind gap = front_of kind ++ (decimal gap.brings ++ (middle_of kind ++ (decimal gap.needs ++ (codes " sat are needed: " ++ missing_text gap.missing))))
