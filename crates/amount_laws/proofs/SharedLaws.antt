-- What is reported of a payment whose recipients bear the fee is a text of the payment.
use Rattle.std.proofs.Common.{◌≡◌, ◌≤◌, ◌<◌, ◌+◌, ◌-◌, ◌^◌, ◌∙◌, ℕ, suc, List, [], ◌∷◌, ◌++◌, length, map, Option, None, Some, inl, inr, refl, sym, ap, subst, arith, append_assoc, length-append}
use Rattle.std.specs.Prelude.{All, Err, IfOk, IfSome, Ok, Result, codes, nat_lt, sum, sum_by}
use Rattle.std.specs.Fmt.{decimal}
use Rattle.std.specs.List.{AllByRecursion, flat_map}
use Rattle.std.proofs.lemmas.Bool.{cond_both}
use Rattle.std.proofs.lemmas.List.{length-map}
use Rattle.std.proofs.lemmas.List.Sums.{sum_by-cons, sum-map}
use Rattle.closing_log.specs.Log.{PlainSection}
use Rattle.coin_book.specs.History.{History}
use Rattle.coin_candidates.specs.declared.candidate.Candidate.{Candidate}
use Rattle.fee_rates.specs.Fee.{vsize_of}
use Rattle.fee_sharing.specs.RowShares.{problem_in, walk_in}
use Rattle.fund_base.proofs.Laws.{guard_ok}
use Rattle.fund_files.specs.declared.chain.Chain.{Chain}
use Rattle.fund_payment.specs.Report.{line_of}
use Rattle.fund_plan.specs.Pays.{change_outputs, outputs_of, payment_from, recipient_output, unsigned_input}
use Rattle.fund_plan.proofs.PaysLaws.{amount_most}
use Rattle.fund_report.specs.ReportText.{IsSizedCoin, IsWide, change_text, in_line as told_line, line}
use Rattle.fund_steps.specs.Amounts.{AreWithin, value_of}
use Rattle.fund_steps.specs.declared.fault.PlanFault.{PlanFault}
use Rattle.fund_steps.specs.declared.fault.PlanFault.TheVariants as plans
use Rattle.output_groups.specs.declared.rows.Row.{Row}
use Rattle.pick_problem.proofs.GraftLaws.{tries_within}
use Rattle.pick_problem.specs.Later.{total_value}
use Rattle.pick_problem.specs.Problem.{PlainProblem}
use Rattle.pick_problem.specs.Walk.{Walk, start}
use Rattle.psbt_codec.specs.PartialTransaction.{PartialTransaction}
use Rattle.psbt_codec.specs.Psbt.{IsPsbt, written}
use Rattle.request_text.specs.PlainRequest.{PlainRequest, paid_to}
use Rattle.request_text.specs.declared.request.Recipient.{Recipient}
use Rattle.tx_codec.specs.TransactionText.{InputFits}
use Rattle.tx_codec.specs.declared.tx.TxOut.{TxOut}
use Rattle.wallet_text.specs.declared.wallet.Watch.{Watch}
use Rattle.checked_runs.proofs.LineLaws.{is_line}
use Rattle.checked_runs.proofs.PsbtLaws.{written_some}
use Rattle.checked_runs.proofs.ReportLaws.{coins_fit, lines_some, wide_change}
use Rattle.command_end.specs.LinesText.{lines_text}
use Rattle.command_amounts.specs.Amounts.{amounts_of, given}
use Rattle.command_amounts.specs.Coins.{coins_for}
use Rattle.command_amounts.specs.Lines.{figure_lines, in_lines, psbt_line}
use Rattle.command_amounts.specs.Signing.{psbt_from, psbt_text_from}
use Rattle.command_share.specs.Inputs.{IsFoundIn}
use Rattle.command_share.specs.Outcome.{change_line, fee_in, head_lines, pay_line, pay_lines, share_report, shared_lines}
use Rattle.command_share.specs.Paying.{PlainPaying, amounts_left, dusts_of, shared_request}
use Rattle.command_share.specs.Results.{IsPaid}
use Rattle.command_share.specs.Rows.{IsChosen, PlainRun, after_row, beginning, by_best, by_first, by_walk, first_row, kept_worth, searched, second_row, section_of, then_second}
use Rattle.command_share.specs.declared.rows.RowsEnd.{RowsEnd}
use Rattle.command_share.specs.declared.rows.RowsEnd.TheVariants as ends
use Rattle.amount_reports.specs.SharedText.{IsSharedText, head_text, paid_text, pay_text, pays_text, shared_text}
use Rattle.amount_reports.specs.SweptText.{figures_text}
use Rattle.amount_reports.proofs.WrittenLaws.{ins_written}
use Rattle.amount_laws.specs.Told.{shared_told}
use Rattle.amount_laws.proofs.LineLaws.{figures_are, ins_are, last_line, one_line, small_size}

-- ---- lines

head_is : (row tries : ℕ) → lines_text (head_lines row tries) ≡ head_text row tries
unfolding head_lines
head_is row tries =
    let last : List ℕ = (codes "tries " ++ decimal tries) ++ (10 ∷ []) in
    ap (λ t. codes "shared\n" ++ t) (one_line (codes "row ") (decimal row) last ∙ ap (λ t. line (codes "row ") (decimal row) ++ t) (last_line (codes "tries ") (decimal tries)))

pays_are : (place : ℕ) (amounts : List ℕ) → lines_text (pay_lines place amounts) ≡ pays_text place amounts
unfolding pay_line
pays_are place [] = refl
pays_are place (a ∷ others) =
    one_line (codes "pay ") (decimal place ++ (32 ∷ decimal a)) (lines_text (pay_lines (suc place) others)) ∙ ap (λ t. pay_text place a ++ t) (pays_are (suc place) others)

paid_is : (change : Option ℕ) (psbt : List ℕ) → lines_text (change_line change ∷ []) ++ lines_text (psbt_line psbt ∷ []) ≡ paid_text change psbt
unfolding change_line
paid_is change psbt =
    ap (λ t. t ++ ((codes "psbt " ++ psbt) ++ (10 ∷ []))) (last_line (codes "change ") (change_text change)) ∙ ap (λ t. line (codes "change ") (change_text change) ++ t) (last_line (codes "psbt ") psbt)

-- six pieces, grouped to the right
regroup : (a b c d e f : List ℕ) → (a ++ (b ++ (c ++ (d ++ e)))) ++ f ≡ a ++ (b ++ (c ++ (d ++ (e ++ f))))
regroup a b c d e f =
    append_assoc a (b ++ (c ++ (d ++ e))) f
    ∙ ap (λ t. a ++ t)
    (append_assoc b (c ++ (d ++ e)) f
    ∙ ap (λ t. b ++ t)
    (append_assoc c (d ++ e) f
    ∙ ap (λ t. c ++ t) (append_assoc d e f)))

-- and each piece by an equal one
pieces : (a a' b b' c c' d d' e e' : List ℕ) → a ≡ a' → b ≡ b' → c ≡ c' → d ≡ d' → e ≡ e' → a ++ (b ++ (c ++ (d ++ e))) ≡ a' ++ (b' ++ (c' ++ (d' ++ e')))
pieces a a' b b' c c' d d' e e' p q s u v =
    ap (λ t. t ++ (b ++ (c ++ (d ++ e)))) p
    ∙ ap (λ t. a' ++ t)
    (ap (λ t. t ++ (c ++ (d ++ e))) q
    ∙ ap (λ t. b' ++ t)
    (ap (λ t. t ++ (d ++ e)) s
    ∙ ap (λ t. c' ++ t)
    (ap (λ t. t ++ e) u
    ∙ ap (λ t. d' ++ t) v)))

text_is : (k : Chain) (r : PlainRequest) (tries : ℕ) (f : PlainPaying) → share_report k r tries f ≡ shared_text (flat_map told_line (map line_of f.coins)) (shared_told k r tries f)
unfolding shared_lines shared_text
text_is k r tries f =
    let psbt : List ℕ = psbt_text_from k.book (shared_request r f.borne) k.wallet.change f.coins f.change in
    let head : List ℕ = lines_text (head_lines f.row.number tries) in
    let ins : List ℕ = lines_text (in_lines f.coins) in
    let pays : List ℕ = lines_text (pay_lines 0 (amounts_left r f.borne)) in
    let figures : List ℕ = lines_text (figure_lines f.weight (fee_in r f)) in
    let change : List ℕ = lines_text (change_line f.change ∷ []) in
    let last : List ℕ = lines_text (psbt_line psbt ∷ []) in
    regroup head ins pays figures change last
    ∙ pieces head (head_text f.row.number tries) ins (flat_map told_line (map line_of f.coins)) pays (pays_text 0 (amounts_left r f.borne)) figures (figures_text f.weight (vsize_of f.weight) (fee_in r f)) (change ++ last) (paid_text f.change psbt)
    (head_is f.row.number tries) (ins_are f.coins) (pays_are 0 (amounts_left r f.borne)) (figures_are f.weight (fee_in r f)) (paid_is f.change psbt)

-- ---- what fits

-- the coins and the weight of a payment, and the number of its row
record IsSmall (r : PlainRequest) (f : PlainPaying) : Type 0 where
  row : f.row.number ≤ 255
  fit : AreWithin f.coins
  some : 0 < length f.coins
  light : f.weight ≤ 400_000
  enough : paid_to r.recipients ≤ value_of f.coins

chosen_small : (r : PlainRequest) (w : Watch) (row : Row) (cs : List Candidate) (s : PlainSection) (f : PlainPaying) → row.number ≤ 255 → IsChosen r w row cs s f → IsSmall r f
chosen_small r w row cs s f small h =
    let same : f.row.number ≡ row.number = ap (λ (x : Row). x.number) h.row_is in
    record { row = omega (arith, same, small); fit = h.pays.fit; some = h.pays.some; light = omega (arith, h.weight_is, h.pays.light); enough = h.pays.enough }

found_small : (k : Chain) (r : PlainRequest) (sections : List PlainSection) (f : PlainPaying) → IsFoundIn k r sections f → IsSmall r f
found_small k r sections f (inl h) = chosen_small r k.wallet.change first_row _ h.first f (omega arith) h.chosen
found_small k r sections f (inr h) = chosen_small r k.wallet.change second_row _ h.second f (omega arith) h.chosen

-- ---- the tries of the searches

start_tries : (x : PlainProblem) → (start x).tries ≡ 0
start_tries x = cond_both (nat_lt (total_value x.items) x.lo) _ _ (λ (w : Walk). w.tries ≡ 0) (λ _. refl) (λ _. refl)

walk_tries : (r : PlainRequest) (w : Watch) (row : Row) (cs : List Candidate) (budget : ℕ) → (walk_in r w row cs budget).tries ≤ budget
walk_tries r w row cs budget = omega (arith, (tries_within (problem_in r w row cs) (start (problem_in r w row cs)) budget).1, start_tries (problem_in r w row cs))

abbrev run_with : RowsEnd → List PlainSection → ℕ → PlainRun
run_with e sections tries = record { end = e; sections = sections; tries = tries }

walked_tries : (r : PlainRequest) (w : Watch) (row : Row) (cs : List Candidate) (before : PlainRun) (k : Walk) → before.tries ≤ r.tries → k.tries ≤ r.tries - before.tries → (by_walk r w row cs before k).tries ≤ r.tries
walked_tries r w row cs before k few made =
    cond_both k.done (run_with (by_best r w row cs k.best) (before.sections ++ section_of r w row cs k ∷ []) (before.tries + k.tries)) (run_with (ends.Open row.number) before.sections (before.tries + (r.tries - before.tries)))
    (λ (x : PlainRun). x.tries ≤ r.tries) (λ _. omega (arith, few, made)) (λ _. omega (arith, few))

row_tries : (r : PlainRequest) (w : Watch) (row : Row) (cs : List Candidate) (before run : PlainRun) → before.tries ≤ r.tries → after_row r w row cs before ≡ Ok run → run.tries ≤ r.tries
unfolding after_row
row_tries r w row cs before run few is =
    let k : Walk = walk_in r w row cs (r.tries - before.tries) in
    let met = guard_ok (nat_lt 10_000 (kept_worth r row cs)) (plans.TooMany row.number (kept_worth r row cs)) (Ok (by_walk r w row cs before k)) run is in
    let same : by_walk r w row cs before k ≡ run = (let it = met.1 in cc) in
    subst (λ (x : PlainRun). x.tries ≤ r.tries) same (walked_tries r w row cs before k few (walk_tries r w row cs (r.tries - before.tries)))

second_tries : (r : PlainRequest) (w : Watch) (cs : List Candidate) (first : PlainRun) (e : RowsEnd) (run : PlainRun) → first.tries ≤ r.tries → by_first r w cs first e ≡ Ok run → run.tries ≤ r.tries
second_tries r w cs first ends.Nothing run few is = row_tries r w second_row cs first run few is
second_tries r w cs first (ends.Found f) run few is = let same : first ≡ run = cc in subst (λ (x : PlainRun). x.tries ≤ r.tries) same few
second_tries r w cs first (ends.Open n) run few is = let same : first ≡ run = cc in subst (λ (x : PlainRun). x.tries ≤ r.tries) same few

both_tries : (r : PlainRequest) (w : Watch) (cs : List Candidate) (first : Result PlainRun PlanFault) (run : PlainRun) → ((x : PlainRun) → first ≡ Ok x → x.tries ≤ r.tries) → then_second r w cs first ≡ Ok run → run.tries ≤ r.tries
both_tries r w cs (Err fault) run few is = absurd cc
both_tries r w cs (Ok x) run few is = second_tries r w cs x x.end run (few x refl) is

searched_tries : (r : PlainRequest) (w : Watch) (cs : List Candidate) (run : PlainRun) → searched r w cs ≡ Ok run → run.tries ≤ r.tries
searched_tries r w cs run is = both_tries r w cs (after_row r w first_row cs beginning) run (λ x first. row_tries r w first_row cs beginning x (omega arith) first) is

-- ---- what recipients get

abbrev amount_in : Recipient → ℕ
amount_in q = q.amount

small_all : (ns : List ℕ) → sum ns ≤ 18_446_744_073_709_551_615 → AllByRecursion IsWide ns
small_all [] small = tt
small_all (n ∷ ns) small =
    let cons : sum (n ∷ ns) ≡ n + sum ns = sum_by-cons (λ (m : ℕ). m) n ns in
    (omega (arith, small, cons), small_all ns (omega (arith, small, cons)))

-- as many get something as are asked for
given_len : (qs : List Recipient) (ns : List ℕ) → length ns ≡ length qs → length ns ≡ length (given qs ns)
given_len [] ns same = same
given_len (q ∷ qs) [] same = absurd (omega (arith, same))
given_len (q ∷ qs) (n ∷ ns) same = omega (arith, given_len qs ns (omega (arith, same)))

outputs_len : (h : History) (r : PlainRequest) (w : Watch) (coins : List Candidate) (change : Option ℕ) → IsPsbt (psbt_from h r w coins change) → length (map recipient_output r.recipients ++ change_outputs w change) < 2 ^ 64
unfolding psbt_from payment_from
outputs_len h r w coins change psbt = psbt.text.outputs_len

few_recipients : (h : History) (r : PlainRequest) (w : Watch) (coins : List Candidate) (change : Option ℕ) → IsPsbt (psbt_from h r w coins change) → length r.recipients ≤ 18_446_744_073_709_551_616
few_recipients h r w coins change psbt =
    omega (arith, outputs_len h r w coins change psbt, length-append (map recipient_output r.recipients) (change_outputs w change), length-map r.recipients recipient_output)

inputs_fit : (h : History) (r : PlainRequest) (w : Watch) (coins : List Candidate) (change : Option ℕ) → IsPsbt (psbt_from h r w coins change) → All InputFits (map (unsigned_input r.replaceable) coins)
unfolding psbt_from payment_from
inputs_fit h r w coins change psbt = psbt.text.inputs

-- ---- the report

pub share_reads : (k : Chain) (r : PlainRequest) (run : PlainRun) (f : PlainPaying) → IsPaid k r run f → IsPsbt (psbt_from k.book (shared_request r f.borne) k.wallet.change f.coins f.change) → IsSharedText (share_report k r run.tries f) (shared_told k r run.tries f)
share_reads k r run f paid psbt =
    let paying : PlainRequest = shared_request r f.borne in
    let to_sign : PartialTransaction = psbt_from k.book paying k.wallet.change f.coins f.change in
    let small : IsSmall r f = found_small k r run.sections f paid.found in
    let sized : AllByRecursion IsSizedCoin (map line_of f.coins) = coins_fit r.replaceable f.coins (inputs_fit k.book paying k.wallet.change f.coins f.change psbt) small.fit.each in
    let worth : value_of f.coins ≤ 2_100_000_000_000_000 = small.fit.value in
    let outputs : outputs_of paying f.change ≤ 2_100_000_000_000_000 = omega (arith, paid.fee, worth) in
    let tries : run.tries ≤ r.tries = searched_tries r k.wallet.change (coins_for k r) run paid.comes_to in
    let left : List ℕ = amounts_left r f.borne in
    let count : length left ≡ length r.recipients = paid.shares.count ∙ length-map r.recipients amount_in in
    let asked : sum (amounts_of r) ≡ paid_to r.recipients = sum-map amount_in r.recipients in
    record {
      coins = flat_map told_line (map line_of f.coins);
      lines = text_is k r run.tries f;
      ins = ins_written (map line_of f.coins) sized;
      some = lines_some f.coins small.some;
      row = small.row;
      tries = omega (arith, tries, paid.rules.tries.1);
      few = omega (arith, given_len r.recipients left count, few_recipients k.book paying k.wallet.change f.coins f.change psbt);
      amounts = small_all left (omega (arith, paid.shares.together, asked, worth, small.enough));
      weight = omega (arith, small.light);
      vsize = omega (arith, small_size f.weight small.light);
      fee = omega (arith, worth);
      change = wide_change f.change (amount_most paying f.change outputs);
      psbt = is_line (written r.psbt to_sign) (written_some r.psbt to_sign);
    }
