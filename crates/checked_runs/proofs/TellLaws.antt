-- What is reported of a payment is a text of its report, and that is of the payment.
use Rattle.std.specs.Prelude.{ℕ, ◌≡◌, ◌≤◌, List, [], ◌∷◌, ◌++◌, All, codes, length, map, slice_get, Option, Some, IfSome, IsSome}
use Rattle.std.specs.List.{AllZip}
use Rattle.std.proofs.Common.{arith, refl, sym, ap, subst, inl, inr, ◌∙◌}
use Rattle.std.proofs.lemmas.List.{length-append}
use Rattle.coin_book.specs.History.{History}
use Rattle.coin_candidates.specs.declared.candidate.Candidate.{Candidate}
use Rattle.fund_plan.specs.Answer.{IsPayment}
use Rattle.fund_plan.specs.Pays.{payment_from, payment_of, unsigned_input}
use Rattle.fund_plan.specs.Selection.{PlainFunded}
use Rattle.fund_plan.proofs.FigureLaws.{figures_agree}
use Rattle.fund_report.specs.PlainFunded as reports
use Rattle.fund_report.specs.ReportText.{CanBeRead, IsReportText, IsSized, change_text, figures_text, found_text, funded_text, in_line, line, text_of}
use Rattle.fund_report.specs.declared.report.Report.TheVariants.{Funded}
use Rattle.fund_report.proofs.WrittenLaws.{written_is_text}
use Rattle.fund_steps.specs.Plan.{IsPlan, PlainPlan}
use Rattle.fund_payment.specs.Report.{line_of, psbt_of, psbt_text_of, report_of, reported}
use Rattle.fund_payment.specs.Shown.{ShowsCoin, ShowsCoins}
use Rattle.payment_states.specs.Makers.{output_of}
use Rattle.psbt_codec.specs.PartialTransaction.{PartialTransaction}
use Rattle.psbt_codec.specs.Psbt.{IsPsbt, IsReadableIn, IsString, written}
use Rattle.psbt_codec.specs.Text.{IsPsbtText, IsPsbtTextIn, psbt_text}
use Rattle.psbt_codec.specs.declared.psbt.Spent.{Spent}
use Rattle.psbt_codec.proofs.Written.{first_is, second_is, written_is}
use Rattle.request_text.specs.PlainRequest.{IsVersion}
use Rattle.std.specs.List.{flat_map}
use Rattle.tx_codec.specs.Transaction.{Transaction}
use Rattle.tx_codec.specs.TransactionText.{InputFits}
use Rattle.tx_codec.specs.declared.tx.TxOut.{TxOut}
use Rattle.report_check.specs.Payment.{Shows}
use Rattle.report_check.specs.Vouched.{IsOfPayment}
use Rattle.checked_runs.proofs.FoundLaws.{CanBeTold}
use Rattle.checked_runs.proofs.LineLaws.{is_line, no_shorter}
use Rattle.checked_runs.proofs.PsbtLaws.{written_bytes, written_some}
use Rattle.checked_runs.proofs.ReportLaws.{coins_fit, lines_some, waste_fits, wide_change}

-- ---- a text of the report

inputs_fit : (h : History) (p : PlainPlan) (g : PlainFunded) → IsPsbt (psbt_of h p.request p.change g) → All InputFits (map (unsigned_input p.request.replaceable) g.coins)
unfolding psbt_of payment_from
inputs_fit h p g psbt = psbt.text.inputs

pub report_can : (h : History) (p : PlainPlan) (tries : ℕ) (g : PlainFunded) → CanBeTold p g → CanBeRead (Funded (reported h p.request p.change tries g))
report_can h p tries g told = record {
  stage = told.stage;
  coins = lines_some g.coins told.selection.some;
  text = is_line (written p.request.psbt (psbt_of h p.request p.change g)) (written_some p.request.psbt (psbt_of h p.request p.change g));
}

pub report_sized : (h : History) (p : PlainPlan) (tries : ℕ) (g : PlainFunded) → IsPlan p → IsPayment p g → CanBeTold p g → IsPsbt (psbt_of h p.request p.change g) → tries ≤ 10_000_000 → IsSized (Funded (reported h p.request p.change tries g))
report_sized h p tries g plan a told psbt few =
    let sum = figures_agree p g a in
    let worth = told.selection.coins.value in
    let light = sum.light in
    let size = sum.size in
    record {
      figures = record {
        row = told.row;
        tries = omega (arith, few);
        weight = omega (arith, light);
        vsize = omega (arith, light, size);
        fee = omega (arith, worth);
        waste = waste_fits p g plan a told.selection;
        change = wide_change g.change told.selection.change;
      };
      coins = coins_fit p.request.replaceable g.coins (inputs_fit h p g psbt) told.selection.coins.each;
    }

pub report_reads : (h : History) (p : PlainPlan) (tries : ℕ) (g : PlainFunded) → IsPlan p → IsPayment p g → CanBeTold p g → IsPsbt (psbt_of h p.request p.change g) → tries ≤ 10_000_000
    → IsReportText (report_of h p.request p.change tries g) (Funded (reported h p.request p.change tries g))
unfolding report_of
report_reads h p tries g plan a told psbt few =
    written_is_text (Funded (reported h p.request p.change tries g)) (report_can h p tries g told) (report_sized h p tries g plan a told psbt few)

-- the PSBT is no longer than the report
text_within : (coins : List ℕ) (f : reports.PlainFunded) → length f.text ≤ length (funded_text coins f)
unfolding funded_text
text_within coins f =
    let change = line (codes "change ") (change_text f.change) in
    let psbt = line (codes "psbt ") f.text in
    let a = length-append (found_text f) (coins ++ (figures_text f ++ (change ++ psbt))) in
    let b = length-append coins (figures_text f ++ (change ++ psbt)) in
    let c = length-append (figures_text f) (change ++ psbt) in
    let d = length-append change psbt in
    let e = length-append (codes "psbt ") (f.text ++ codes "\n") in
    let g = length-append f.text (codes "\n") in
    omega (arith, a, b, c, d, e, g)

psbt_within : (h : History) (p : PlainPlan) (tries : ℕ) (g : PlainFunded) → length (psbt_text_of h p.request p.change g) ≤ length (report_of h p.request p.change tries g)
unfolding report_of text_of
psbt_within h p tries g = text_within (flat_map in_line (map line_of g.coins)) (reported h p.request p.change tries g)

-- ---- of the payment

shows_one : (c : Candidate) (s : Spent) → ShowsCoin c s → Shows c s
shows_one c s h =
    elim h.shown [
      | inl o ↦ record {
        some = inl (subst (λ (x : Option TxOut). IsSome x) (sym o.paid) refl);
        paid = subst (λ (x : Option TxOut). IfSome x (λ y. y ≡ output_of c)) (sym o.paid) refl;
        whole = subst (λ (x : Option Transaction). IfSome x (λ t. slice_get t.outputs c.coin.index ≡ Some (output_of c))) (sym o.alone) tt;
      }
      | inr w ↦ record {
        some = inr (subst (λ (x : Option Transaction). IsSome x) (sym w.whole) refl);
        paid = subst (λ (x : Option TxOut). IfSome x (λ y. y ≡ output_of c)) (sym w.alone) tt;
        whole = subst (λ (x : Option Transaction). IfSome x (λ t. slice_get t.outputs c.coin.index ≡ Some (output_of c))) (sym w.whole) w.makes.output;
      }
    ]

shows_all : (coins : List Candidate) (spent : List Spent) → AllZip ShowsCoin coins spent → AllZip Shows coins spent
shows_all [] [] h = tt
shows_all [] (s ∷ ss) h = absurd h
shows_all (c ∷ cs) [] h = absurd h
shows_all (c ∷ cs) (s ∷ ss) h = (shows_one c s h.0, shows_all cs ss h.1)

-- what is written of a PSBT in either version is readable in it
readable_in : (version : ℕ) (bytes : List ℕ) (x : PartialTransaction) → IsString bytes → IsPsbt x → IsVersion version → bytes ≡ written version x → IsReadableIn version bytes x
readable_in version bytes x fits psbt (inl first) is = subst (λ (n : ℕ). IsReadableIn n bytes x) (sym first) (first_is bytes x fits psbt (is ∙ ap (λ (n : ℕ). written n x) first))
readable_in version bytes x fits psbt (inr second) is = subst (λ (n : ℕ). IsReadableIn n bytes x) (sym second) (second_is bytes x fits psbt (is ∙ ap (λ (n : ℕ). written n x) second))

written_short : (version : ℕ) (x : PartialTransaction) (most : ℕ) → IsPsbt x → length (psbt_text version x) ≤ most → most ≤ 67_108_864 → IsString (written version x)
written_short version x most psbt short few =
    let long : length (written version x) ≤ length (psbt_text version x) = no_shorter (written version x) in
    (written_bytes version x psbt, omega (arith, long, short, few))

-- the text of a PSBT can be read
psbt_reads : (version : ℕ) (x : PartialTransaction) (most : ℕ) → IsPsbt x → length (psbt_text version x) ≤ most → most ≤ 67_108_864 → IsPsbtText (psbt_text version x) x
psbt_reads version x most psbt short few = record {
  bytes = written version x;
  are_bytes = written_bytes version x psbt;
  text_is = refl;
  readable = written_is version (written version x) x (written_short version x most psbt short few) psbt refl;
}

-- that of the report of a payment can be read in the version that is asked for
pub psbt_in_version : (h : History) (p : PlainPlan) (tries : ℕ) (g : PlainFunded) → IsVersion p.request.psbt → IsPsbt (psbt_of h p.request p.change g) → length (report_of h p.request p.change tries g) ≤ 67_108_864
    → IsPsbtTextIn p.request.psbt (psbt_text_of h p.request p.change g) (psbt_of h p.request p.change g)
psbt_in_version h p tries g of psbt short =
    let version : ℕ = p.request.psbt in
    let x : PartialTransaction = psbt_of h p.request p.change g in
    let fits : IsString (written version x) = written_short version x (length (report_of h p.request p.change tries g)) psbt (psbt_within h p tries g) short in
    let read : IsReadableIn version (written version x) x = readable_in version (written version x) x fits psbt of refl in
    (record { bytes = written version x; are_bytes = fits.0; text_is = refl; readable = read.0 }, read.1)

transaction_is : (h : History) (p : PlainPlan) (g : PlainFunded) → (psbt_of h p.request p.change g).tx ≡ payment_of p.request p.change g
unfolding psbt_of
transaction_is h p g = refl

pub report_is_of : (h : History) (p : PlainPlan) (tries : ℕ) (g : PlainFunded) → IsPsbt (psbt_of h p.request p.change g) → ShowsCoins g.coins (psbt_of h p.request p.change g) → length (report_of h p.request p.change tries g) ≤ 67_108_864
    → IsOfPayment p (reported h p.request p.change tries g) g
report_is_of h p tries g psbt shows short =
    let x = psbt_of h p.request p.change g in
    record {
      names = record { mark = refl; row = refl; stage = refl; coins = refl };
      change = refl;
      weight = refl;
      vsize = refl;
      fee = refl;
      waste = refl;
      psbt = x;
      text = psbt_reads p.request.psbt x (length (report_of h p.request p.change tries g)) psbt (psbt_within h p tries g) short;
      transaction = transaction_is h p g;
      shows = shows_all g.coins x.spent shows.each;
    }
