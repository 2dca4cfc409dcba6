-- The summary of a workload's run.
use Rattle.std.specs.Prelude.{ℕ, List, ◌++◌, codes}
use Rattle.std.specs.Fmt.{decimal}
use Rattle.hex.specs.Hex.{encode_lower}
use Rattle.sha2.specs.Sha256.{sha256}
use Rattle.fund_report.specs.ReportText.{line, text_of}
use Rattle.fund_report.specs.declared.report.Report.{Report}
use Rattle.command_work.specs.Lines.{short_lines}

-- the first line: the command's words
abbrev pub title_of : ℕ → ℕ → List ℕ
title_of number count = line (codes "work ") (decimal number ++ (codes " " ++ decimal count))

-- the last line: the SHA-256 of the whole report in hex
abbrev pub digest_line : List ℕ → List ℕ
digest_line text = line (codes "report ") (encode_lower (sha256 text))

-- the words, a report without its lines of coins and of the PSBT, and the digest of the whole report
unfoldable pub summary_text : ℕ → ℕ → List ℕ → List ℕ
summary_text number count text = title_of number count ++ (short_lines text ++ digest_line text)

-- the summary of a report
abbrev pub summary_of : ℕ → ℕ → Report → List ℕ
summary_of number count report = summary_text number count (text_of report)
