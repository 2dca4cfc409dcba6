-- What stands after the word of a run that goes on.
use Rattle.std.proofs.Common.{◌≡◌, ℕ, List, Result, Ok, ap, sym, subst}
use Rattle.std.specs.Prelude.{⊤, codes}
use Rattle.std.specs.Borrow.{Bor}
use Rattle.fund_base.specs.Parsing.{◌>>=◌}
use Rattle.closing_log.specs.Gives.{Reads}
use Rattle.closing_log.specs.declared.log.Stage.{Stage}
use Rattle.closing_log.specs.Reading.{both_at, made_at, word_at}
use Rattle.fund_report.specs.declared.report.Report.{Report}
use Rattle.fund_report.specs.Reading.{row_line, stage_line, tries_line, unfinished_at, unfinished_of}

abbrev standing_at : List ℕ → Result ((ℕ × (ℕ × Stage)) × List ℕ) (List ℕ)
standing_at = both_at tries_line (λ n. both_at row_line (λ r. stage_line))

unfinished_is : (bytes rest : List ℕ) → word_at (codes "unfinished\n") bytes ≡ Ok (tt, rest) → unfinished_at bytes ≡ made_at unfinished_of standing_at rest
unfinished_is bytes rest first = ap (λ (q : Result (⊤ × List ℕ) (List ℕ)). (q >>= λ u. standing_at u.1) >>= λ x. Ok (unfinished_of x.0, x.1)) first

pub unfinished_reads : (bytes rest : List ℕ) (r : Result (Report × Bor (List ℕ)) (Bor (List ℕ))) → word_at (codes "unfinished\n") bytes ≡ Ok (tt, rest) → Reads (λ x. (x.0, x.1.now)) r (made_at unfinished_of standing_at rest) → Reads (λ x. (x.0, x.1.now)) r (unfinished_at bytes)
unfinished_reads bytes rest r first reads = subst (λ (q : Result (Report × List ℕ) (List ℕ)). Reads (λ (x : Report × Bor (List ℕ)). (x.0, x.1.now)) r q) (sym (unfinished_is bytes rest first)) reads
