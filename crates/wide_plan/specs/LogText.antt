-- The log of a wide search as a text: a line that names the format, three lines for each finished row, and a line `end`.
use Rattle.std.specs.Prelude.{ℕ, List, ◌++◌, codes}
use Rattle.std.specs.Fmt.{decimal}
use Rattle.std.specs.List.{flat_map}
use Rattle.hex.specs.Hex.{encode_lower}
use Rattle.closing_log.specs.LogText.{answer_text}
use Rattle.wide_plan.specs.Rows.{PlainWideSection}

-- the three lines of a row
abbrev pub section_text : PlainWideSection → List ℕ
section_text s =
    codes "section " ++ (decimal s.row ++ (codes " " ++ (encode_lower s.digest ++ (codes "\ntokens " ++ (s.letters ++ (codes "\nanswer " ++ (answer_text s.answer ++ codes "\n")))))))

unfoldable pub text_of : List PlainWideSection → List ℕ
text_of sections = codes "wide-log 1\n" ++ (flat_map section_text sections ++ codes "end\n")
