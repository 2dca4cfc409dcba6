-- Lines that both reports have.
use Rattle.std.proofs.Common.{◌≡◌, ◌≤◌, ◌∙◌, ℕ, List, [], ◌∷◌, ◌++◌, map, refl, sym, ap, arith, append_assoc}
use Rattle.std.specs.Prelude.{codes}
use Rattle.std.specs.Fmt.{decimal}
use Rattle.std.specs.List.{flat_map}
use Rattle.std.proofs.lemmas.List.Concat.{flat_map-cons}
use Rattle.coin_candidates.specs.declared.candidate.Candidate.{Candidate}
use Rattle.closing_log.proofs.Exactness.{one_on}
use Rattle.fee_rates.specs.Fee.{vsize_of}
use Rattle.fund_payment.specs.Report.{line_of}
use Rattle.fund_report.specs.ReportText.{in_line as told_line, line}
use Rattle.command_end.specs.Coin.{coin_text, shown_hash}
use Rattle.command_end.specs.LinesText.{lines_text}
use Rattle.command_amounts.specs.Lines.{figure_lines, in_line, in_lines}
use Rattle.amount_reports.specs.SweptText.{figures_text}

-- a line before others
pub one_line : (name said others : List ℕ) → (name ++ said) ++ (10 ∷ others) ≡ line name said ++ others
one_line name said others = append_assoc name said (10 ∷ others) ∙ ap (λ t. name ++ t) (sym (one_on said 10 others)) ∙ sym (append_assoc name (said ++ codes "\n") others)

pub last_line : (name said : List ℕ) → (name ++ said) ++ (10 ∷ []) ≡ line name said
last_line name said = append_assoc name said (10 ∷ [])

-- what a payment comes to
pub figures_are : (weight fee : ℕ) → lines_text (figure_lines weight fee) ≡ figures_text weight (vsize_of weight) fee
unfolding figure_lines
figures_are weight fee =
    let size : ℕ = vsize_of weight in
    let fees : List ℕ = (codes "fee " ++ decimal fee) ++ (10 ∷ []) in
    let sizes : List ℕ = (codes "vsize " ++ decimal size) ++ (10 ∷ fees) in
    one_line (codes "weight ") (decimal weight) sizes
    ∙ ap (λ t. line (codes "weight ") (decimal weight) ++ t) (one_line (codes "vsize ") (decimal size) fees ∙ ap (λ t. line (codes "vsize ") (decimal size) ++ t) (last_line (codes "fee ") (decimal fee)))

-- a coin
in_is : (c : Candidate) (others : List ℕ) → in_line c ++ (10 ∷ others) ≡ told_line (line_of c) ++ others
unfolding in_line coin_text
in_is c others =
    let digits : List ℕ = shown_hash c.coin.txid in
    let index : List ℕ = decimal c.coin.index in
    let value : List ℕ = decimal c.value in
    let said : (digits ++ (58 ∷ index)) ++ (32 ∷ value) ≡ digits ++ (58 ∷ (index ++ (32 ∷ value))) = append_assoc digits (58 ∷ index) (32 ∷ value) in
    ap (λ t. (codes "in " ++ t) ++ (10 ∷ others)) said ∙ one_line (codes "in ") (digits ++ (58 ∷ (index ++ (32 ∷ value)))) others

pub ins_are : (coins : List Candidate) → lines_text (in_lines coins) ≡ flat_map told_line (map line_of coins)
ins_are [] = refl
ins_are (c ∷ coins) = in_is c (lines_text (in_lines coins)) ∙ ap (λ t. told_line (line_of c) ++ t) (ins_are coins) ∙ sym (flat_map-cons told_line (line_of c) (map line_of coins))

pub small_size : (weight : ℕ) → weight ≤ 400_000 → vsize_of weight ≤ 400_000
unfolding vsize_of
small_size weight light = omega (arith, light)
