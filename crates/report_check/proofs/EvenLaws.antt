-- The money and the figures of a report, as they are tested.
use Rattle.std.specs.Prelude.{ℕ, ◌≡◌, ◌≢◌, ◌≤◌, ◌+◌, ◌↔◌, Bool, List, IsTrue, Option, Some, None, unwrap_or}
use Rattle.std.proofs.Common.{sym, ap, subst, inl, inr, ◌∙◌, arith}
use Rattle.std.proofs.lemmas.List.Elements.{All-contains}
use Rattle.fee_rates.specs.Terms.{IsLoad, change_fee_of, change_least_of}
use Rattle.fee_rates.specs.declared.terms.PaymentLoad.{PaymentLoad}
use Rattle.fee_rates.specs.declared.terms.Rates.{Rates}
use Rattle.coin_candidates.specs.declared.candidate.Candidate.{Candidate}
use Rattle.fund_plan.proofs.LoadLaws.{paid_is}
use Rattle.fund_plan.proofs.RowLaws.{IsFair, row_fair}
use Rattle.fund_plan.specs.Chosen.{load_for, no_row, row_of}
use Rattle.fund_plan.specs.Pays.{Balances, due_of, outputs_of, payment_weight}
use Rattle.fund_plan.specs.Steps.{load_in}
use Rattle.fund_steps.specs.Amounts.{value_of}
use Rattle.fund_steps.specs.Listed.{burden_in, presets_in}
use Rattle.fund_steps.specs.Plan.{IsPlan, IsRoomy, PlainPlan, ladder_in}
use Rattle.fund_steps.specs.Terms.{load_of, rates_of}
use Rattle.output_groups.specs.declared.rows.Row.{Row}
use Rattle.request_text.specs.PlainRequest.{PlainRequest, paid_to}
use Rattle.tx_codec.specs.Transaction.{Transaction}
use Rattle.tx_codec.specs.TransactionText.{IsTransaction, text_of}
use Rattle.report_check.specs.Paying.{IsEven, IsLoadAt, row_at}
use Rattle.report_check.proofs.PaidLaws.{load_row, one_text, row_found, row_is}

-- ---- what is to be carried

pub given_load : (p : PlainPlan) (n : ℕ) (l : PaymentLoad) → n ≡ 0 → l ≡ load_of p.request p.change (presets_in p) (burden_in p) → IsLoad l → IsLoadAt p n (Some l)
given_load p n l e is fits = (inl e, is ∙ sym (ap (load_for p) e), fits, paid_is p.request p.change (presets_in p) (burden_in p) l is)

pub row_load : (p : PlainPlan) (n : ℕ) (row : Row) (l : PaymentLoad) → row_at p n ≡ Some row → l ≡ load_in p row → IsLoad l → l.paid ≡ paid_to p.request.recipients → IsLoadAt p n (Some l)
row_load p n row l e is fits paid = let at = row_found p n row e in (inr (row, at), is ∙ load_row p n row at, fits, paid)

pub no_load : (p : PlainPlan) (n : ℕ) → n ≢ 0 → row_at p n ≡ None → IsLoadAt p n None
no_load p n some none (inl zero) = some zero
no_load p n some none (inr (row, at)) = let both : ◌≡◌ {A = Option Row} None (Some row) = sym none ∙ row_is p n row at in cc

pub row_roomy : (p : PlainPlan) (n : ℕ) (row : Row) → IsPlan p → row_at p n ≡ Some row → IsRoomy p row
row_roomy p n row h e = All-contains (IsRoomy p) (ladder_in p) row h.roomy (row_found p n row e).0

pub row_is_fair : (p : PlainPlan) (n : ℕ) (row : Row) → row_at p n ≡ Some row → row.own ≤ row.foreign
row_is_fair p n row e = let own : row_of p n ≡ row = ap (λ (o : Option Row). unwrap_or o no_row) e in subst IsFair own (row_fair p n)

-- ---- money

-- what is tested without change, and with one
abbrev pub IsPlain : Rates → PaymentLoad → List Candidate → Type 0
IsPlain x l coins =
    (due_of x.rate l coins l.paid ≤ value_of coins) × (value_of coins + 1 ≤ due_of x.rate l coins l.paid + change_fee_of x l + change_least_of x l)

abbrev pub IsChanged : Rates → PaymentLoad → List Candidate → ℕ → Type 0
IsChanged x l coins amount =
    (change_least_of x l ≤ amount) × (value_of coins ≡ due_of x.rate l coins l.paid + amount + change_fee_of x l)

plain_is : (r : PlainRequest) (x : Rates) (l : PaymentLoad) (coins : List Candidate) → x ≡ rates_of r → l.paid ≡ paid_to r.recipients → (IsPlain x l coins ↔ Balances r l coins None (value_of coins) (outputs_of r None))
plain_is r x l coins e paid =
    let At : Rates → ℕ → Type 0 = λ y n. (due_of y.rate l coins n ≤ value_of coins) × (value_of coins + 1 ≤ due_of y.rate l coins n + change_fee_of y l + change_least_of y l) in
    (λ h. subst (λ (y : Rates). At y (paid_to r.recipients)) e (subst (At x) paid h), λ h. subst (At x) (sym paid) (subst (λ (y : Rates). At y (paid_to r.recipients)) (sym e) h))

pub even_plain : (r : PlainRequest) (x : Rates) (l : PaymentLoad) (coins : List Candidate) → x ≡ rates_of r → l.paid ≡ paid_to r.recipients → IsPlain x l coins → payment_weight l coins None ≤ 400_000 → IsEven r l coins None
even_plain r x l coins e paid h weight = record { balance = (plain_is r x l coins e paid).0 h; worth = tt; weight = weight }

pub plain_even : (r : PlainRequest) (x : Rates) (l : PaymentLoad) (coins : List Candidate) → x ≡ rates_of r → l.paid ≡ paid_to r.recipients → IsEven r l coins None → IsPlain x l coins × (payment_weight l coins None ≤ 400_000)
plain_even r x l coins e paid h = ((plain_is r x l coins e paid).1 h.balance, h.weight)

changed_at : (r : PlainRequest) (l : PaymentLoad) (coins : List Candidate) (amount : ℕ) → due_of r.rate l coins (paid_to r.recipients + amount) ≡ due_of r.rate l coins (paid_to r.recipients) + amount
changed_at r l coins amount = omega arith

pub even_changed : (r : PlainRequest) (x : Rates) (l : PaymentLoad) (coins : List Candidate) (amount : ℕ) → x ≡ rates_of r → l.paid ≡ paid_to r.recipients → IsChanged x l coins amount → payment_weight l coins (Some amount) ≤ 400_000 → IsEven r l coins (Some amount)
even_changed r x l coins amount e paid h weight =
    let At : Rates → ℕ → Type 0 = λ y n. (change_least_of y l ≤ amount) × (value_of coins ≡ due_of y.rate l coins n + amount + change_fee_of y l) in
    let k : At (rates_of r) (paid_to r.recipients) = subst (λ (y : Rates). At y (paid_to r.recipients)) e (subst (At x) paid h) in
    record { balance = k.1 ∙ ap (λ (n : ℕ). n + change_fee_of (rates_of r) l) (sym (changed_at r l coins amount)); worth = k.0; weight = weight }

pub changed_even : (r : PlainRequest) (x : Rates) (l : PaymentLoad) (coins : List Candidate) (amount : ℕ) → x ≡ rates_of r → l.paid ≡ paid_to r.recipients → IsEven r l coins (Some amount) → IsChanged x l coins amount × (payment_weight l coins (Some amount) ≤ 400_000)
changed_even r x l coins amount e paid h =
    let At : Rates → ℕ → Type 0 = λ y n. (change_least_of y l ≤ amount) × (value_of coins ≡ due_of y.rate l coins n + amount + change_fee_of y l) in
    let k : At (rates_of r) (paid_to r.recipients) = (h.worth, h.balance ∙ ap (λ (n : ℕ). n + change_fee_of (rates_of r) l) (changed_at r l coins amount)) in
    (subst (At x) (sym paid) (subst (λ (y : Rates). At y (paid_to r.recipients)) (sym e) k), h.weight)

-- the outputs take no more than the coins are worth
pub even_within : (r : PlainRequest) (l : PaymentLoad) (coins : List Candidate) (amount : Option ℕ) → IsEven r l coins amount → outputs_of r amount ≤ value_of coins
even_within r l coins None h = let due = h.balance.0 in omega (arith, due)
even_within r l coins (Some n) h = let due = h.balance in omega (arith, due)

-- ---- the transaction

pub same_text : (t own pay : Transaction) (text given : List ℕ) (b : Bool) → IsTransaction t → IsTransaction own → own ≡ pay → text ≡ text_of own → given ≡ text_of t → (IsTrue b ↔ text ≡ given) → (IsTrue b ↔ t ≡ pay)
same_text t own pay text given b ft fo is first second h =
    (λ e. one_text t own ft fo (sym second ∙ (sym (h.0 e) ∙ first)) ∙ is, λ e. h.1 (first ∙ (ap text_of (is ∙ sym e) ∙ sym second)))
