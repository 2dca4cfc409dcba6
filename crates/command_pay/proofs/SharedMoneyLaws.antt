-- The money of a payment whose recipients bear the fee goes where it is asked for.
use Rattle.std.proofs.Common.{◌≡◌, ◌+◌, ◌-◌, ◌≤◌, ◌∙◌, ℕ, Bool, true, false, List, [], ◌∷◌, ◌++◌, length, map, Option, Some, None, inl, inr, refl, sym, ap, subst, string_bytes, arith}
use Rattle.std.specs.Prelude.{Contains, String, if◌then◌else◌, nat_le, slice_index_or, sum, sum_by}
use Rattle.std.specs.List.{AllZip}
use Rattle.std.specs.declared.alloc.Global.{Global}
use Rattle.std.proofs.lemmas.List.Folds.{fold-map}
use Rattle.std.proofs.lemmas.List.Sums.{sum-map}
use Rattle.amount_laws.specs.Told.{shared_told}
use Rattle.amount_reports.specs.SharedText.{PlainShared}
use Rattle.closing_log.specs.Log.{PlainSection}
use Rattle.coin_candidates.specs.declared.candidate.Candidate.{Candidate}
use Rattle.fee_rates.specs.Output.{dust_of}
use Rattle.fee_rates.specs.Terms.{change_least_of}
use Rattle.fee_sharing.specs.RowShares.{amount_of, excess_of, load_in}
use Rattle.fee_sharing.specs.Shares.{AreLeft}
use Rattle.fund_base.specs.declared.outpoint.OutPoint.{OutPoint}
use Rattle.fund_files.specs.Chain.{chain_from, history_of}
use Rattle.fund_files.specs.declared.chain.Chain.{Chain}
use Rattle.fund_payment.specs.Report.{line_of}
use Rattle.fund_plan.proofs.PaysLaws.{outputs_sum}
use Rattle.fund_plan.specs.Pays.{outputs_of, payment_from, recipient_output}
use Rattle.fund_report.specs.declared.report.InLine.{InLine}
use Rattle.fund_shelf.specs.Causes.{ShelfView}
use Rattle.fund_steps.specs.Amounts.{value_of}
use Rattle.fund_steps.specs.Terms.{rates_of}
use Rattle.json_fields.specs.Fields.{coin_in}
use Rattle.output_groups.specs.declared.rows.Row.{Row}
use Rattle.psbt_codec.specs.PartialTransaction.{PartialTransaction}
use Rattle.psbt_codec.specs.Text.{psbt_text}
use Rattle.request_making.specs.declared.payment.Payment.{Payment}
use Rattle.request_text.specs.PlainRequest.{PlainRequest, paid_to}
use Rattle.request_text.specs.declared.request.Recipient.{Recipient}
use Rattle.tx_codec.specs.declared.tx.TxOut.{TxOut}
use Rattle.wallet_text.specs.declared.wallet.Watch.{Watch}
use Rattle.command_amounts.specs.Amounts.{amounts_of, given}
use Rattle.command_amounts.specs.Signing.{psbt_from}
use Rattle.command_share.specs.Inputs.{IsFoundIn}
use Rattle.command_share.specs.Paying.{PlainPaying, amounts_left, dusts_of, shared_request}
use Rattle.command_share.specs.Results.{IsPaid as IsSharedBy}
use Rattle.command_share.specs.Rows.{IsChosen, PlainRun}
use Rattle.command_share.proofs.PayLaws.{left_count, paid_together}
use Rattle.pay_words.specs.declared.asked.Asked.{Asked}
use Rattle.command_pay.specs.AsAsked.{IsAsAsked}
use Rattle.command_pay.specs.Money.{AreShares, GoesTo, IsMoneyOf, IsPaidBy}
use Rattle.command_pay.specs.declared.report.PaidReport.{PaidReport}
use Rattle.command_pay.specs.declared.report.PaidReport.TheVariants.{Whole, Shared}
use Rattle.command_pay.proofs.MoneyLaws.{parts_of, planned_money, prevs}

abbrev amount_in : Recipient → ℕ
amount_in q = q.amount

abbrev dust_in : Recipient → ℕ
dust_in q = dust_of q.script

abbrev asked_in : Payment → ℕ
asked_in p = p.amount

abbrev value_in : TxOut → ℕ
value_in o = o.value

abbrev dust_at : TxOut → ℕ
dust_at o = dust_of o.script

-- ---- recipients with other amounts

-- they go to whom is paid
go_to : (ps : List Payment) (qs : List Recipient) (ns : List ℕ) → length ns ≡ length qs → AllZip IsPaidBy ps (map recipient_output qs) → AllZip GoesTo ps (map recipient_output (given qs ns))
go_to [] [] ns same paid = tt
go_to [] (q ∷ qs) ns same paid = absurd paid
go_to (p ∷ ps) [] ns same paid = absurd paid
go_to (p ∷ ps) (q ∷ qs) [] same paid = absurd (omega (arith, same))
go_to (p ∷ ps) (q ∷ qs) (n ∷ ns) same paid = (paid.0.script, go_to ps qs ns (omega (arith, same)) paid.1)

-- their amounts
amounts_are : (qs : List Recipient) (ns : List ℕ) → length ns ≡ length qs → map value_in (map recipient_output (given qs ns)) ≡ ns
amounts_are [] [] same = refl
amounts_are [] (n ∷ ns) same = absurd (omega (arith, same))
amounts_are (q ∷ qs) [] same = absurd (omega (arith, same))
amounts_are (q ∷ qs) (n ∷ ns) same = ap (λ (l : List ℕ). n ∷ l) (amounts_are qs ns (omega (arith, same)))

-- their dust thresholds
dusts_are : (qs : List Recipient) (ns : List ℕ) → length ns ≡ length qs → map dust_in qs ≡ map dust_at (map recipient_output (given qs ns))
dusts_are [] ns same = refl
dusts_are (q ∷ qs) [] same = absurd (omega (arith, same))
dusts_are (q ∷ qs) (n ∷ ns) same = ap (λ (l : List ℕ). dust_of q.script ∷ l) (dusts_are qs ns (omega (arith, same)))

-- what is asked for
asked_are : (ps : List Payment) (qs : List Recipient) → AllZip IsPaidBy ps (map recipient_output qs) → map amount_in qs ≡ map asked_in ps
asked_are [] [] paid = refl
asked_are [] (q ∷ qs) paid = absurd paid
asked_are (p ∷ ps) [] paid = absurd paid
asked_are (p ∷ ps) (q ∷ qs) paid = ap (λ (n : ℕ). n ∷ map amount_in qs) paid.0.amount ∙ ap (λ (l : List ℕ). p.amount ∷ l) (asked_are ps qs paid.1)

-- ---- a change

taken : (b : Bool) (all n : ℕ) → (if b then Some all else None) ≡ Some n → n ≡ all
taken true all n is = cc
taken false all n is = absurd cc

-- a change is all that the coins are worth beyond what is asked for
record IsRest (r : PlainRequest) (coins : List Candidate) (n : ℕ) : Type 0 where
  all : n ≡ value_of coins - paid_to r.recipients
  enough : paid_to r.recipients ≤ value_of coins

chosen_rest : (r : PlainRequest) (w : Watch) (row : Row) (cs : List Candidate) (s : PlainSection) (f : PlainPaying) (n : ℕ) → IsChosen r w row cs s f → f.change ≡ Some n → IsRest r f.coins n
chosen_rest r w row cs s f n h is = record {
  all = taken (nat_le (change_least_of (rates_of r) (load_in r w row cs)) (excess_of r f.coins)) (excess_of r f.coins) n (sym h.found.change_is ∙ is);
  enough = h.pays.enough;
}

found_rest : (k : Chain) (r : PlainRequest) (sections : List PlainSection) (f : PlainPaying) (n : ℕ) → IsFoundIn k r sections f → f.change ≡ Some n → IsRest r f.coins n
found_rest k r sections f n (inl h) is = chosen_rest r k.wallet.change _ _ h.first f n h.chosen is
found_rest k r sections f n (inr h) is = chosen_rest r k.wallet.change _ _ h.second f n h.chosen is

-- ---- the sums

outputs_are : (r : PlainRequest) (change : Option ℕ) → outputs_of r change ≡ paid_to r.recipients + amount_of change
outputs_are r None = omega arith
outputs_are r (Some n) = refl

-- at plain numbers
money_at : (asked paid borne amount value outputs : ℕ) → paid + borne ≡ asked → outputs ≡ paid + amount → outputs ≤ value → asked + amount + (value - outputs) ≡ value + borne
money_at asked paid borne amount value outputs together is within = omega (arith, together, is, within)

whole_at : (asked paid borne amount value outputs : ℕ) → paid + borne ≡ asked → outputs ≡ paid + amount → amount ≡ value - asked → asked ≤ value → value - outputs ≡ borne
whole_at asked paid borne amount value outputs together is all enough = omega (arith, together, is, all, enough)

sum_at : (value outputs sum : ℕ) → sum ≡ outputs → outputs ≤ value → value ≡ sum + (value - outputs)
sum_at value outputs sum is within = omega (arith, is, within)

worth_of : (coins : List Candidate) → sum_by (λ (c : InLine). c.value) (map line_of coins) ≡ value_of coins
worth_of coins = fold-map (λ (n : ℕ) (c : InLine). n + c.value) line_of 0 coins

-- ---- the shares

shares_of : (k : Chain) (ps : List Payment) (r : PlainRequest) (run : PlainRun) (f : PlainPaying) → AllZip IsPaidBy ps (map recipient_output r.recipients) → IsSharedBy k r run f
    → AreShares ps (shared_told k r run.tries f) (map recipient_output (shared_request r f.borne).recipients)
shares_of k ps r run f paid pays =
    let left : List ℕ = amounts_left r f.borne in
    let paying : PlainRequest = shared_request r f.borne in
    let count : length left ≡ length r.recipients = left_count r f.borne pays.shares in
    let together : paid_to paying.recipients + f.borne ≡ paid_to r.recipients = paid_together r f.borne pays.shares in
    let asked : amounts_of r ≡ map asked_in ps = asked_are ps r.recipients paid in
    let sum_asked : sum_by asked_in ps ≡ paid_to r.recipients = sym (sum-map asked_in ps) ∙ (ap (λ (l : List ℕ). sum l) (sym asked) ∙ sum-map amount_in r.recipients) in
    let outputs : outputs_of paying f.change ≡ paid_to paying.recipients + amount_of f.change = outputs_are paying f.change in
    let within : outputs_of paying f.change ≤ value_of f.coins = omega (arith, pays.fee) in
    record {
      borne = f.borne;
      to = go_to ps r.recipients left count paid;
      amounts = amounts_are r.recipients left count;
      left =
          subst (λ (l : List ℕ). AreLeft f.borne l (map dust_at (map recipient_output paying.recipients)) left) asked
          (subst (λ (l : List ℕ). AreLeft f.borne (amounts_of r) l left) (dusts_are r.recipients left count) pays.shares);
      money =
          ap (λ (n : ℕ). n + amount_of f.change + (value_of f.coins - outputs_of paying f.change)) sum_asked
          ∙ (money_at (paid_to r.recipients) (paid_to paying.recipients) f.borne (amount_of f.change) (value_of f.coins) (outputs_of paying f.change) together outputs within
          ∙ ap (λ (n : ℕ). n + f.borne) (sym (worth_of f.coins)));
      whole = λ n is.
          let rest : IsRest r f.coins n = found_rest k r run.sections f n pays.found is in
          let is_change : amount_of f.change ≡ n = ap amount_of is in
          whole_at (paid_to r.recipients) (paid_to paying.recipients) f.borne (amount_of f.change) (value_of f.coins) (outputs_of paying f.change) together outputs (is_change ∙ rest.all) rest.enough;
    }

-- ---- the payment

-- no coin is listed
none_named : (points : List OutPoint) (word : String Global) → points ≡ [] → ((point : OutPoint) × Contains points point × (coin_in (string_bytes word) ≡ Some point)) → ⊥
none_named points word none (point, there, is) = let nowhere : Contains [] point = subst (λ (l : List OutPoint). Contains l point) none there in omega (arith, nowhere.1)

shared_money : (a : Asked) (files : ShelfView) (f : PlainShared) (log : List ℕ) (k : IsAsAsked a files (Shared f) log) → IsMoneyOf a k.wallet.change (Shared f)
unfolding payment_from psbt_from
shared_money a files f log k =
    let so = k.paid.1 in
    let chain : Chain = chain_from k.wallet k.blocks in
    let parts = parts_of a.payments.items a.coins.items a.settings k.request k.asks in
    let paying : PlainRequest = shared_request k.request so.paying.borne in
    let coins : List Candidate = so.paying.coins in
    let change : Option ℕ = so.paying.change in
    let psbt : PartialTransaction = psbt_from (history_of k.wallet k.blocks) paying k.wallet.change coins change in
    let within : outputs_of paying change ≤ value_of coins = omega (arith, so.pays.fee) in
    let it : IsMoneyOf a k.wallet.change (Shared (shared_told chain k.request so.run.tries so.paying)) = record {
      psbt = psbt;
      paid = map recipient_output paying.recipients;
      is = so.psbt;
      text = ap (λ (version : ℕ). psbt_text version psbt) parts.psbt;
      payments = shares_of chain a.payments.items k.request so.run so.paying parts.recipients so.pays;
      outputs = refl;
      spends = prevs k.request.replaceable coins;
      listed = λ n word below. absurd (none_named k.request.coins (slice_index_or a.coins.items n word) so.taken.coins (parts.coins n word below));
      money = worth_of coins ∙ sum_at (value_of coins) (outputs_of paying change) (sum_by value_in psbt.tx.outputs) (outputs_sum paying k.wallet.change change) within;
    } in
    subst (λ (x : PlainShared). IsMoneyOf a k.wallet.change (Shared x)) (sym so.report) it

pub money_of : (a : Asked) (files : ShelfView) (f : PaidReport) (log : List ℕ) (k : IsAsAsked a files f log) → IsMoneyOf a k.wallet.change f
money_of a files (Whole f) log k = planned_money a files f log k
money_of a files (Shared f) log k = shared_money a files f log k
