-- What a payment from exactly the listed coins comes to.
use Rattle.std.specs.Prelude.{ℕ, ℤ, pos, ◌≡◌, ◌+◌, ◌≤◌, ◌<◌, ◌-ℤ◌, ◌≤ℤ◌, max, min, List, [], ◌∷◌, ◌++◌, length, map, sum_by, Option, Some, None}
use Rattle.std.proofs.Common.{arith, refl, sym, ap, subst, ◌∙◌, append-nil}
use Rattle.std.proofs.lemmas.Int.{ints}
use Rattle.std.proofs.lemmas.List.{length-map}
use Rattle.std.proofs.lemmas.List.Folds.{fold-map}
use Rattle.closing_log.specs.declared.mark.Mark.{Mark}
use Rattle.closing_log.specs.declared.mark.Mark.TheVariants as marks
use Rattle.coin_candidates.specs.declared.candidate.Candidate.{Candidate}
use Rattle.fee_rates.specs.Fee.{fee_of, vsize_of}
use Rattle.fee_rates.specs.Output.{output_size_of}
use Rattle.fee_rates.specs.Terms.{base_of, change_fee_of, change_least_of, change_spend_of}
use Rattle.fee_rates.specs.declared.terms.PaymentLoad.{PaymentLoad}
use Rattle.request_text.specs.PlainRequest.{PlainRequest, paid_to}
use Rattle.request_text.specs.declared.request.Recipient.{Recipient}
use Rattle.search_run.specs.Answer.{IsColumn}
use Rattle.search_run.specs.Run.{beginning, go_on}
use Rattle.search_run.specs.Step.{PlainStep}
use Rattle.tx_codec.specs.Transaction.{Transaction}
use Rattle.tx_codec.specs.declared.tx.TxOut.{TxOut}
use Rattle.wallet_text.specs.declared.wallet.Watch.{Watch}
use Rattle.fund_steps.proofs.BumpLaws.{one_presets, presets_are}
use Rattle.fund_steps.proofs.WholeLaws.{manual_none}
use Rattle.fund_steps.specs.Amounts.{charges_of, value_of}
use Rattle.fund_steps.specs.Basis.{basis_of}
use Rattle.fund_steps.specs.Listed.{burden_by, burden_in, presets_in}
use Rattle.fund_steps.specs.Plan.{IsPlan, PlainBump, PlainPlan}
use Rattle.fund_steps.specs.Terms.{load_of, rates_of}
use Rattle.fund_plan.specs.Answer.{AnswersAlone, IsPayment, PaysAlone}
use Rattle.fund_plan.specs.Claims.{Claims, ClaimsBy}
use Rattle.fund_plan.specs.Outcome.{most_tries, stand_after}
use Rattle.fund_plan.specs.Pays.{Balances, Pays, change_outputs, due_of, outputs_of, payment_from, payment_of, raised_of, recipient_output}
use Rattle.fund_plan.specs.Selection.{PlainFunded}
use Rattle.fund_plan.specs.Steps.{steps_of}
use Rattle.fund_plan.specs.declared.outcome.Outcome.TheVariants as answers
use Rattle.fund_plan.proofs.PaysLaws.{outputs_sum, pays_some}
use Rattle.coin_maximum.specs.Maximum.{IsListedAlone, PaysAll, base_fee, max_amount, max_of}

-- ---- exactly the listed coins

no_column : (front column rest : List PlainStep) → [] ≡ front ++ (column ++ rest) → IsColumn column → ⊥
no_column [] [] rest parts one = one
no_column [] (x ∷ column) rest parts one = absurd cc
no_column (x ∷ front) column rest parts one = absurd cc

-- nothing is searched for
none_searched : (p : PlainPlan) → IsListedAlone p → steps_of p ≡ []
none_searched p alone = manual_none (basis_of p) alone.method

-- so no search is open, however many tries there are
none_open : (p : PlainPlan) (n : ℕ) → IsListedAlone p → (stand_after p n).left ≡ []
none_open p n alone = ap (λ (steps : List PlainStep). (go_on p.request.seed (beginning p.request.seed steps) (min n most_tries)).left) (none_searched p alone)

-- and a payment is what the listed coins come to alone
pub alone_of : (p : PlainPlan) (n : ℕ) (f : PlainFunded) → IsListedAlone p → Claims p n f → AnswersAlone p (answers.Funded f)
alone_of p n f alone claims = by f.mark claims
  where
    by : (m : Mark) → ClaimsBy m p n f → AnswersAlone p (answers.Funded f)
    by marks.Exhausted c = absurd (no_column c.first.front c.first.column c.first.rest (sym (none_searched p alone) ∙ c.first.parts) c.first.one)
    by marks.Drawn c = absurd (no_column c.first.front c.first.column c.first.rest (sym (none_searched p alone) ∙ c.first.parts) c.first.one)
    by marks.Partial c = let open_one = sym (none_open p n alone) ∙ c.used_up.left in absurd cc
    by marks.Given c = c.alone

-- ---- what they bring

-- what is paid beside the fee counts for nothing in the base
pub base_is : (r : PlainRequest) (w : Watch) (coins : List Candidate) (d : ℕ) → fee_of r.rate (vsize_of (base_of (load_of r w coins d))) ≡ base_fee r w coins
unfolding load_of
base_is r w coins d = refl

no_burden : (p : PlainPlan) → IsListedAlone p → burden_in p ≡ 0
no_burden p alone = ap (λ (b : Option PlainBump). burden_by b) alone.bump

-- a change that is worth making is one satoshi at least
some_least : (r : PlainRequest) (l : PaymentLoad) → 1 ≤ change_least_of (rates_of r) l
some_least r l = omega arith

-- the least and the most, at plain numbers
most_plain : (paid base charges burden raised value : ℕ) → paid + base + charges + burden + raised ≤ value → pos paid ≤ℤ ((pos value -ℤ pos charges) -ℤ pos base)
most_plain paid base charges burden raised value due = omega (arith, ints, due)

most_change : (paid amount base charges burden raised value fee : ℕ) → value ≡ paid + amount + base + charges + burden + raised + fee → pos paid ≤ℤ ((pos value -ℤ pos charges) -ℤ pos base)
most_change paid amount base charges burden raised value fee due = omega (arith, ints, due)

whole_plain : (paid base charges value : ℕ) → pos paid ≡ ((pos value -ℤ pos charges) -ℤ pos base) → value ≡ paid + base + charges
whole_plain paid base charges value is = omega (arith, ints, is)

-- no payment from the coins pays more
pub most_of : (r : PlainRequest) (w : Watch) (coins : List Candidate) (d : ℕ) (amount : Option ℕ) (t : Transaction) → Pays r w (load_of r w coins d) coins amount t → pos (paid_to r.recipients) ≤ℤ max_amount r w coins
most_of r w coins d amount t pays = by amount (subst (λ (n : ℕ). Balances r (load_of r w coins d) coins amount (value_of coins) n) (ap (sum_by (λ (o : TxOut). o.value)) pays.outputs ∙ outputs_sum r w amount) pays.fee)
  where
    base : ℕ
    base = fee_of r.rate (vsize_of (base_of (load_of r w coins d)))

    told : pos (paid_to r.recipients) ≤ℤ ((pos (value_of coins) -ℤ pos (charges_of r.rate coins)) -ℤ pos base) → pos (paid_to r.recipients) ≤ℤ max_amount r w coins
    told h = subst (λ (n : ℕ). pos (paid_to r.recipients) ≤ℤ ((pos (value_of coins) -ℤ pos (charges_of r.rate coins)) -ℤ pos n)) (base_is r w coins d) h

    by : (o : Option ℕ) → Balances r (load_of r w coins d) coins o (value_of coins) (outputs_of r o) → pos (paid_to r.recipients) ≤ℤ max_amount r w coins
    by None due = told (most_plain (paid_to r.recipients) base (charges_of r.rate coins) (load_of r w coins d).burden (raised_of r.rate (load_of r w coins d)) (value_of coins) due.0)
    by (Some n) due = told (most_change (paid_to r.recipients) n base (charges_of r.rate coins) (load_of r w coins d).burden (raised_of r.rate (load_of r w coins d)) (value_of coins) (change_fee_of (rates_of r) (load_of r w coins d)) due)

-- what pays as much has no change
no_change : (r : PlainRequest) (w : Watch) (coins : List Candidate) (amount : Option ℕ) (t : Transaction) → Pays r w (load_of r w coins 0) coins amount t → pos (paid_to r.recipients) ≡ max_amount r w coins → amount ≡ None
no_change r w coins None t pays whole = refl
no_change r w coins (Some n) t pays whole =
    let due : Balances r (load_of r w coins 0) coins (Some n) (value_of coins) (outputs_of r (Some n)) = subst (λ (x : ℕ). Balances r (load_of r w coins 0) coins (Some n) (value_of coins) x) (ap (sum_by (λ (o : TxOut). o.value)) pays.outputs ∙ outputs_sum r w (Some n)) pays.fee in
    let all = whole_plain (paid_to r.recipients) (base_fee r w coins) (charges_of r.rate coins) (value_of coins) whole in
    let some = some_least r (load_of r w coins 0) in
    absurd (omega (arith, due, all, some, pays.change_worth))

-- ---- the laws

coins_are : (p : PlainPlan) (f : PlainFunded) → IsPlan p → AnswersAlone p (answers.Funded f) → f.coins ≡ presets_in p
coins_are p f plan alone = one_presets p f.coins (presets_in p) plan alone.0 (presets_are p plan)

pays_with : (p : PlainPlan) (f : PlainFunded) → IsListedAlone p → AnswersAlone p (answers.Funded f) → Pays p.request p.change (load_of p.request p.change f.coins 0) f.coins f.change (payment_of p.request p.change f)
pays_with p f alone answer = subst (λ (d : ℕ). Pays p.request p.change (load_of p.request p.change f.coins d) f.coins f.change (payment_of p.request p.change f)) (no_burden p alone) answer.1

pub pays_most : (p : PlainPlan) (n : ℕ) (f : PlainFunded) → IsPlan p → IsListedAlone p → IsPayment p f → Claims p n f → pos (paid_to p.request.recipients) ≤ℤ max_of p
pays_most p n f plan alone payment claims =
    let answer = alone_of p n f alone claims in
    subst (λ (coins : List Candidate). pos (paid_to p.request.recipients) ≤ℤ max_amount p.request p.change coins) (coins_are p f plan answer)
    (most_of p.request p.change f.coins 0 f.change (payment_of p.request p.change f) (pays_with p f alone answer))

pub pays_all : (p : PlainPlan) (n : ℕ) (f : PlainFunded) → IsPlan p → IsListedAlone p → IsPayment p f → Claims p n f → pos (paid_to p.request.recipients) ≡ max_of p → PaysAll p f
unfolding payment_from
pays_all p n f plan alone payment claims whole =
    let answer = alone_of p n f alone claims in
    let coins = coins_are p f plan answer in
    let whole_here : pos (paid_to p.request.recipients) ≡ max_amount p.request p.change f.coins = whole ∙ ap (λ (cs : List Candidate). max_amount p.request p.change cs) (sym coins) in
    let pays = pays_with p f alone answer in
    let change = no_change p.request p.change f.coins f.change (payment_of p.request p.change f) pays whole_here in
    record {
      coins = coins;
      change = change;
      outputs = ap (λ (o : Option ℕ). map recipient_output p.request.recipients ++ change_outputs p.change o) change ∙ append-nil (map recipient_output p.request.recipients);
      money = whole_plain (paid_to p.request.recipients) (base_fee p.request p.change f.coins) (charges_of p.request.rate f.coins) (value_of f.coins) whole_here;
    }

-- ---- other amounts

sizes_are : (rs : List Recipient) → sum_by (λ (s : List ℕ). output_size_of s) (map (λ (x : Recipient). x.script) rs) ≡ sum_by (λ (q : Recipient). output_size_of q.script) rs
sizes_are rs = fold-map (λ (n : ℕ) (s : List ℕ). n + output_size_of s) (λ (x : Recipient). x.script) 0 rs

pub same_maximum : (r q : PlainRequest) (change : Watch) (coins : List Candidate) → r.rate ≡ q.rate → map (λ (x : Recipient). x.script) r.recipients ≡ map (λ (x : Recipient). x.script) q.recipients → max_amount r change coins ≡ max_amount q change coins
unfolding load_of
same_maximum r q change coins rate scripts =
    let sizes : sum_by (λ (x : Recipient). output_size_of x.script) r.recipients ≡ sum_by (λ (x : Recipient). output_size_of x.script) q.recipients = sym (sizes_are r.recipients) ∙ ap (sum_by (λ (s : List ℕ). output_size_of s)) scripts ∙ sizes_are q.recipients in
    let counts : length r.recipients ≡ length q.recipients = sym (length-map r.recipients (λ (x : Recipient). x.script)) ∙ ap length scripts ∙ length-map q.recipients (λ (x : Recipient). x.script) in
    cc
