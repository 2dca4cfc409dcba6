-- Reading line by line, from left to right. What can't be read is answered by the bytes that are left where no text
-- goes on as they do.
use Rattle.std.specs.Prelude.{ℕ, zero, suc, ◌==◌, Bool, true, false, List, [], ◌∷◌, ◌++◌, length, take, drop, reverse, codes, Option, Some, None, Result, Ok, Err, if◌then◌else◌, ⊤, ℤ, pos, negsuc}
use Rattle.std.specs.List.{prefix_len}
use Rattle.closing_log.specs.declared.log.Stage.{Stage}
use Rattle.closing_log.specs.declared.log.Stage.TheVariants.{Presets, Changeless, LeanBig, Draw, LeanSmall}
use Rattle.closing_log.specs.declared.mark.Mark.{Mark}
use Rattle.closing_log.specs.declared.mark.Mark.TheVariants.{Exhausted, Partial, Drawn, Given}
use Rattle.closing_log.specs.Lines.{behind_at, either_at, ended_at, number_line, positive_line}
use Rattle.closing_log.specs.LogText.{stage_word}
use Rattle.closing_log.specs.MarkWord.{mark_word}
use Rattle.closing_log.specs.Reading.{both_at, choice_at, digest_at, made_at, number_at, word_at}
use Rattle.fund_base.specs.Parsing.{◌>>=◌}
use Rattle.fund_report.specs.declared.parts.Figures.{Figures}
use Rattle.fund_report.specs.declared.parts.Next.{Next}
use Rattle.fund_report.specs.declared.parts.Next.TheVariants.{Coin, Weight}
use Rattle.fund_report.specs.declared.parts.Start.{Start}
use Rattle.fund_report.specs.declared.report.InLine.{InLine}
use Rattle.fund_report.specs.declared.report.Report.{Report}
use Rattle.fund_report.specs.declared.report.Report.TheVariants.{Funded, NoSelection, Unfinished}
use Rattle.fund_report.specs.NextWord.{next_word}
use Rattle.fund_report.specs.PlainFunded.{PlainFunded}

-- ---- the lines before the coins

abbrev pub marks : List Mark
marks = Exhausted ∷ Partial ∷ Drawn ∷ Given ∷ []

abbrev pub mark_at : List ℕ → Result (Mark × List ℕ) (List ℕ)
mark_at bytes = choice_at mark_word marks bytes bytes

abbrev pub stages : List Stage
stages = Presets ∷ Changeless ∷ LeanBig ∷ Draw ∷ LeanSmall ∷ []

abbrev pub stage_at : List ℕ → Result (Stage × List ℕ) (List ℕ)
stage_at bytes = choice_at stage_word stages bytes bytes

abbrev pub wide_line : List ℕ → Result (ℕ × List ℕ) (List ℕ)
wide_line = number_line 18_446_744_073_709_551_615

abbrev pub mark_line : List ℕ → Result (Mark × List ℕ) (List ℕ)
mark_line = behind_at (codes "funded ") (ended_at mark_at)

abbrev pub row_line : List ℕ → Result (ℕ × List ℕ) (List ℕ)
row_line = behind_at (codes "row ") (number_line 255)

abbrev pub stage_line : List ℕ → Result (Stage × List ℕ) (List ℕ)
stage_line = behind_at (codes "stage ") (ended_at stage_at)

abbrev pub tries_line : List ℕ → Result (ℕ × List ℕ) (List ℕ)
tries_line = behind_at (codes "tries ") wide_line

abbrev pub start_of : Mark × (ℕ × (Stage × ℕ)) → Start
start_of v = record { mark = v.0; row = v.1.0; stage = v.1.1.0; tries = v.1.1.1 }

abbrev pub start_at : List ℕ → Result (Start × List ℕ) (List ℕ)
start_at = made_at start_of (both_at mark_line (λ m. both_at row_line (λ r. both_at stage_line (λ s. tries_line))))

-- ---- the lines of the coins

abbrev pub index_at : List ℕ → Result (ℕ × List ℕ) (List ℕ)
index_at = made_at (λ (v : ℕ × ℕ). v.0) (number_at 4_294_967_295 (32 ∷ []))

abbrev pub amounts_at : List ℕ → Result ((ℕ × ℕ) × List ℕ) (List ℕ)
amounts_at = behind_at (codes ":") (both_at index_at (λ i. wide_line))

abbrev pub coin_of : List ℕ × (ℕ × ℕ) → InLine
coin_of v = record { coin = record { txid = reverse v.0; index = v.1.0 }; value = v.1.1 }

-- the line of a coin after its first word
abbrev pub coin_at : List ℕ → Result (InLine × List ℕ) (List ℕ)
coin_at = made_at coin_of (both_at digest_at (λ d. amounts_at))

abbrev pub next_at : List ℕ → Result (Next × List ℕ) (List ℕ)
next_at bytes = choice_at next_word (Coin ∷ Weight ∷ []) bytes bytes

-- and the first word of the next line
abbrev pub coin_next : List ℕ → Result ((InLine × Next) × List ℕ) (List ℕ)
coin_next = both_at coin_at (λ l. next_at)

abbrev pub is_last : Next → Bool
is_last Coin = false
is_last Weight = true

-- lines of coins, fewer than `turns`, up to the word of the weight
unfoldable pub coins_from : ℕ → List InLine → List ℕ → Result (List InLine × List ℕ) (List ℕ)
coins_from zero done bytes = Err bytes
coins_from (suc turns) done bytes = do
  p ← coin_next bytes
  if is_last p.0.1 then Ok (done ++ p.0.0 ∷ [], p.1) else coins_from turns (done ++ p.0.0 ∷ []) p.1

abbrev pub coins_at : List ℕ → Result (List InLine × List ℕ) (List ℕ)
coins_at bytes = coins_from (length bytes) [] bytes

abbrev pub coins_line : List ℕ → Result (List InLine × List ℕ) (List ℕ)
coins_line = behind_at (codes "in ") coins_at

-- ---- the lines after them

abbrev pub neg_of : ℕ → ℤ
neg_of zero = pos 0
neg_of (suc n) = negsuc n

abbrev pub below_line : List ℕ → Result (ℤ × List ℕ) (List ℕ)
below_line = made_at neg_of (behind_at (codes "-") (positive_line 170_141_183_460_469_231_731_687_303_715_884_105_728))

abbrev pub above_line : List ℕ → Result (ℤ × List ℕ) (List ℕ)
above_line = made_at (λ (n : ℕ). pos n) (number_line 170_141_183_460_469_231_731_687_303_715_884_105_727)

-- a number with a sign where it is below zero
abbrev pub signed_line : List ℕ → Result (ℤ × List ℕ) (List ℕ)
signed_line = either_at 45 below_line above_line

abbrev pub vsize_line : List ℕ → Result (ℕ × List ℕ) (List ℕ)
vsize_line = behind_at (codes "vsize ") wide_line

abbrev pub fee_line : List ℕ → Result (ℕ × List ℕ) (List ℕ)
fee_line = behind_at (codes "fee ") wide_line

abbrev pub waste_line : List ℕ → Result (ℤ × List ℕ) (List ℕ)
waste_line = behind_at (codes "waste ") signed_line

abbrev pub figures_of : ℕ × (ℕ × (ℕ × ℤ)) → Figures
figures_of v = record { weight = v.0; vsize = v.1.0; fee = v.1.1.0; waste = v.1.1.1 }

-- from the number of the weight on
abbrev pub figures_at : List ℕ → Result (Figures × List ℕ) (List ℕ)
figures_at = made_at figures_of (both_at wide_line (λ w. both_at vsize_line (λ v. both_at fee_line (λ f. waste_line))))

abbrev pub no_change : List ℕ → Result (Option ℕ × List ℕ) (List ℕ)
no_change = made_at (λ (u : ⊤). None) (word_at (codes "none\n"))

abbrev pub some_change : List ℕ → Result (Option ℕ × List ℕ) (List ℕ)
some_change = made_at (λ (n : ℕ). Some n) wide_line

abbrev pub change_rest : List ℕ → Result (Option ℕ × List ℕ) (List ℕ)
change_rest = either_at 110 no_change some_change

abbrev pub change_line : List ℕ → Result (Option ℕ × List ℕ) (List ℕ)
change_line = behind_at (codes "change ") change_rest

-- any byte but a line feed
abbrev pub is_text : ℕ → Bool
is_text b = if b == 10 then false else true

unfoldable pub text_end : List ℕ → List ℕ → Result (List ℕ × List ℕ) (List ℕ)
text_end text [] = Err []
text_end [] (b ∷ rest) = Err (b ∷ rest)
text_end (c ∷ cs) (b ∷ rest) = Ok (c ∷ cs, rest)

-- bytes up to a line feed, one at least
abbrev pub text_line : List ℕ → Result (List ℕ × List ℕ) (List ℕ)
text_line bytes = let n = prefix_len is_text bytes in text_end (take n bytes) (drop n bytes)

abbrev pub psbt_line : List ℕ → Result (List ℕ × List ℕ) (List ℕ)
psbt_line = behind_at (codes "psbt ") text_line

abbrev pub paid_at : List ℕ → Result ((Option ℕ × List ℕ) × List ℕ) (List ℕ)
paid_at = both_at change_line (λ c. psbt_line)

-- ---- the whole

abbrev pub funded_of : Start × (List InLine × (Figures × (Option ℕ × List ℕ))) → PlainFunded
funded_of v = record {
  mark = v.0.mark;
  row = v.0.row;
  stage = v.0.stage;
  tries = v.0.tries;
  coins = v.1.0;
  weight = v.1.1.0.weight;
  vsize = v.1.1.0.vsize;
  fee = v.1.1.0.fee;
  waste = v.1.1.0.waste;
  change = v.1.1.1.0;
  text = v.1.1.1.1;
}

abbrev pub report_of : Start × (List InLine × (Figures × (Option ℕ × List ℕ))) → Report
report_of v = Funded (funded_of v)

abbrev pub funded_at : List ℕ → Result (Report × List ℕ) (List ℕ)
funded_at = made_at report_of (both_at start_at (λ s. both_at coins_line (λ c. both_at figures_at (λ f. paid_at))))

abbrev pub none_at : List ℕ → Result (Report × List ℕ) (List ℕ)
none_at = made_at (λ (n : ℕ). NoSelection n) (behind_at (codes "none\n") tries_line)

abbrev pub unfinished_of : ℕ × (ℕ × Stage) → Report
unfinished_of v = Unfinished v.0 v.1.0 v.1.1

abbrev pub unfinished_at : List ℕ → Result (Report × List ℕ) (List ℕ)
unfinished_at = made_at unfinished_of (behind_at (codes "unfinished\n") (both_at tries_line (λ n. both_at row_line (λ r. stage_line))))

abbrev pub others_at : List ℕ → Result (Report × List ℕ) (List ℕ)
others_at = either_at 110 none_at unfinished_at

abbrev pub lines_at : List ℕ → Result (Report × List ℕ) (List ℕ)
lines_at = either_at 102 funded_at others_at

-- nothing stands after the last line
abbrev pub end_of : Report → List ℕ → Result Report (List ℕ)
end_of r [] = Ok r
end_of r (b ∷ rest) = Err (b ∷ rest)

unfoldable pub report_at : List ℕ → Result Report (List ℕ)
report_at bytes = lines_at bytes >>= λ x. end_of x.0 x.1
