-- A report that pays as it says, with the coins of a payment, is of that payment.
use Rattle.std.specs.Prelude.{ℕ, ◌≡◌, ◌≢◌, ◌+◌, ◌≤◌, Bool, List, [], ◌∷◌, length, map, sum_by, All, AllPairs, Contains, IfSome, Option, Some, None}
use Rattle.std.specs.List.{AllZip}
use Rattle.std.proofs.Common.{refl, sym, ap, subst, inl, inr, ◌∙◌, arith}
use Rattle.std.proofs.lemmas.List.{length-append}
use Rattle.std.proofs.lemmas.List.Elements.{All-contains, All-head, All-tail}
use Rattle.fee_rates.specs.Fee.{vsize_of}
use Rattle.fee_rates.specs.declared.terms.PaymentLoad.{PaymentLoad}
use Rattle.coin_candidates.specs.Candidates.{AreCandidates}
use Rattle.coin_candidates.specs.declared.candidate.Candidate.{Candidate}
use Rattle.fund_plan.proofs.PaysLaws.{outputs_sum}
use Rattle.fund_plan.specs.Answer.{IsPayment}
use Rattle.fund_plan.specs.Chosen.{load_for}
use Rattle.fund_plan.specs.Figures.{waste_of}
use Rattle.fund_plan.specs.Pays.{Pays, outputs_of, payment_of, payment_weight}
use Rattle.fund_plan.specs.Selection as plans
use Rattle.fund_report.specs.PlainFunded.{PlainFunded}
use Rattle.fund_report.specs.declared.report.InLine.{InLine}
use Rattle.fund_plan.proofs.AmongLaws.{among_fit, coins_apart}
use Rattle.fund_plan.proofs.SpendLaws.{AreApart, some_count}
use Rattle.fund_steps.proofs.BumpLaws.{candidate_in, presets_held}
use Rattle.fund_steps.specs.Amounts.{AreWithin, value_of}
use Rattle.fund_steps.specs.Listed.{presets_in}
use Rattle.fund_steps.specs.Plan.{IsBump, IsPlan, PlainBump, PlainPlan, coins_in, coins_with}
use Rattle.output_groups.proofs.Members.{all_from}
use Rattle.output_groups.proofs.PlaceLaws.{one_coin}
use Rattle.psbt_codec.specs.PartialTransaction.{PartialTransaction}
use Rattle.psbt_codec.specs.Text.{IsPsbtText}
use Rattle.request_text.specs.PlainRequest.{PlainRequest}
use Rattle.tx_codec.specs.Transaction.{Transaction}
use Rattle.tx_codec.specs.declared.tx.TxIn.{TxIn}
use Rattle.tx_codec.specs.declared.tx.TxOut.{TxOut}
use Rattle.wallet_text.specs.declared.wallet.Watch.{Watch}
use Rattle.report_check.specs.Answer.{NamesPayment}
use Rattle.report_check.specs.Payment.{MayBeSpent, PaysBy, Shows, line_of}
use Rattle.report_check.specs.Vouched.{IsOfPayment}

-- ---- the coins

-- those that a plan can spend are at most 100,000
few_with : (bump : Option PlainBump) (candidates : List Candidate) → AreCandidates candidates → IfSome bump (IsBump candidates) → length (coins_with bump candidates) ≤ 100_000
few_with None candidates h fits = h.count
few_with (Some b) candidates h fits = let n = length-append b.presets candidates in let most = fits.together in omega (arith, n, most)

-- so some of them, each once, are within their bounds
pub spent_within : (p : PlainPlan) (coins : List Candidate) → IsPlan p → AreApart coins → All (Contains (coins_in p)) coins → AreWithin coins
spent_within p coins h apart held =
    let few = few_with p.bump p.candidates h.candidates h.bump.fits in
    among_fit p coins h (omega (arith, some_count coins (coins_in p) apart held, few)) apart held

pub spendable_held : (p : PlainPlan) (n : ℕ) (c : Candidate) → IsPlan p → MayBeSpent p n c → Contains (coins_in p) c
spendable_held p n c h may =
    elim may [
      | inl preset ↦ All-contains (Contains (coins_in p)) (presets_in p) c (presets_held p h) preset
      | inr other ↦ candidate_in p.bump p.candidates c other.0
    ]

pub all_held : (p : PlainPlan) (n : ℕ) (coins : List Candidate) → IsPlan p → All (MayBeSpent p n) coins → All (Contains (coins_in p)) coins
all_held p n coins h may = all_from (Contains (coins_in p)) coins (λ c there. spendable_held p n c h (All-contains (MayBeSpent p n) coins c may there))

same_coins : (cs xs ys : List Candidate) → AllPairs (λ (a b : Candidate). a.coin ≢ b.coin) cs → All (Contains cs) xs → All (Contains cs) ys → map line_of xs ≡ map line_of ys → xs ≡ ys
same_coins cs [] [] apart h k e = refl
same_coins cs [] (y ∷ ys) apart h k e = absurd (cc)
same_coins cs (x ∷ xs) [] apart h k e = absurd (cc)
same_coins cs (x ∷ xs) (y ∷ ys) apart h k e =
    let line : line_of x ≡ line_of y = cc in
    let lines : map line_of xs ≡ map line_of ys = cc in
    let same : x ≡ y = one_coin cs x y apart (All-head (Contains cs) x xs h) (All-head (Contains cs) y ys k) (ap (λ (l : InLine). l.coin) line) in
    ap (λ (c : Candidate). c ∷ xs) same ∙ ap (λ (zs : List Candidate). y ∷ zs) (same_coins cs xs ys apart (All-tail (Contains cs) x xs h) (All-tail (Contains cs) y ys k) lines)

-- ---- the change

pub sum_of : (r : PlainRequest) (w : Watch) (l : PaymentLoad) (coins : List Candidate) (amount : Option ℕ) (t : Transaction) → Pays r w l coins amount t → sum_by (λ (o : TxOut). o.value) t.outputs ≡ outputs_of r amount
sum_of r w l coins amount t p = ap (sum_by (λ (o : TxOut). o.value)) p.outputs ∙ outputs_sum r w amount

-- coins pay with one change alone
one_change : (r : PlainRequest) (w : Watch) (l : PaymentLoad) (coins : List Candidate) (a b : Option ℕ) (t u : Transaction) → Pays r w l coins a t → Pays r w l coins b u → a ≡ b
one_change r w l coins None None t u h k = refl
one_change r w l coins None (Some n) t u h k =
    let first = sum_of r w l coins None t h in
    let second = sum_of r w l coins (Some n) u k in
    absurd (omega (arith, first, second, h.fee.0, h.fee.1, k.fee, k.change_worth))
one_change r w l coins (Some m) None t u h k =
    let first = sum_of r w l coins (Some m) t h in
    let second = sum_of r w l coins None u k in
    absurd (omega (arith, first, second, k.fee.0, k.fee.1, h.fee, h.change_worth))
one_change r w l coins (Some m) (Some n) t u h k =
    let first = sum_of r w l coins (Some m) t h in
    let second = sum_of r w l coins (Some n) u k in
    let same : m ≡ n = omega (arith, first, second, h.fee, k.fee) in
    ap (λ (q : ℕ). Some q) same

-- ---- the transaction

pub same_transaction : (t u : Transaction) → t.version ≡ u.version → t.inputs ≡ u.inputs → t.outputs ≡ u.outputs → t.locktime ≡ u.locktime → t.segwit ≡ u.segwit → t ≡ u
same_transaction t u a b c d e =
    let version : ℕ → Transaction = λ v. record { version = v; inputs = t.inputs; outputs = t.outputs; locktime = t.locktime; segwit = t.segwit } in
    let inputs : List TxIn → Transaction = λ v. record { version = u.version; inputs = v; outputs = t.outputs; locktime = t.locktime; segwit = t.segwit } in
    let outputs : List TxOut → Transaction = λ v. record { version = u.version; inputs = u.inputs; outputs = v; locktime = t.locktime; segwit = t.segwit } in
    let locktime : ℕ → Transaction = λ v. record { version = u.version; inputs = u.inputs; outputs = u.outputs; locktime = v; segwit = t.segwit } in
    let segwit : Bool → Transaction = λ v. record { version = u.version; inputs = u.inputs; outputs = u.outputs; locktime = u.locktime; segwit = v } in
    ap version a ∙ (ap inputs b ∙ (ap outputs c ∙ (ap locktime d ∙ ap segwit e)))

one_transaction : (r : PlainRequest) (w : Watch) (l : PaymentLoad) (coins : List Candidate) (a : Option ℕ) (t u : Transaction) → Pays r w l coins a t → Pays r w l coins a u → t ≡ u
one_transaction r w l coins a t u h k =
    same_transaction t u (h.version ∙ sym k.version) (h.inputs ∙ sym k.inputs) (h.outputs ∙ sym k.outputs) (h.locktime ∙ sym k.locktime) (h.bare ∙ sym k.bare)

-- ---- the payment

-- what a report says of its payment, at a row, some coins and a change
record Says (p : PlainPlan) (f : PlainFunded) (t : PartialTransaction) (n : ℕ) (coins : List Candidate) (change : Option ℕ) : Type 0 where
  pays : Pays p.request p.change (load_for p n) coins change t.tx
  weight : f.weight ≡ payment_weight (load_for p n) coins change
  vsize : f.vsize ≡ vsize_of f.weight
  fee : value_of coins ≡ outputs_of p.request change + f.fee
  waste : f.waste ≡ waste_of p.request (load_for p n) coins change
  shows : AllZip Shows coins t.spent

pub of_payment : (p : PlainPlan) (f : PlainFunded) (g : plans.PlainFunded) (t : PartialTransaction) → IsPlan p → IsPayment p g → NamesPayment f g → IsPsbtText f.text t → PaysBy p f t → IsOfPayment p f g
of_payment p f g t h payment names text paid =
    let coins : paid.coins ≡ g.coins = same_coins (coins_in p) paid.coins g.coins (coins_apart p h) (all_held p f.row paid.coins h paid.spendable) payment.candidates (sym paid.lines ∙ names.coins) in
    let says : Says p f t f.row paid.coins f.change = record { pays = paid.pays; weight = paid.weight; vsize = paid.vsize; fee = paid.fee; waste = paid.waste; shows = paid.shows } in
    let at_row : Says p f t g.row paid.coins f.change = subst (λ (n : ℕ). Says p f t n paid.coins f.change) names.row says in
    let with_coins : Says p f t g.row g.coins f.change = subst (λ (cs : List Candidate). Says p f t g.row cs f.change) coins at_row in
    let change : f.change ≡ g.change = one_change p.request p.change (load_for p g.row) g.coins f.change g.change t.tx (payment_of p.request p.change g) with_coins.pays payment.pays in
    let all : Says p f t g.row g.coins g.change = subst (λ (c : Option ℕ). Says p f t g.row g.coins c) change with_coins in
    let weight : f.weight ≡ g.weight = all.weight ∙ sym payment.weight_is in
    record {
      names = names;
      change = change;
      weight = weight;
      vsize = all.vsize ∙ ap vsize_of weight;
      fee = let sum = all.fee in omega (arith, sum);
      waste = all.waste ∙ sym payment.waste_is;
      psbt = t;
      text = text;
      transaction = one_transaction p.request p.change (load_for p g.row) g.coins g.change t.tx (payment_of p.request p.change g) all.pays payment.pays;
      shows = all.shows;
    }
