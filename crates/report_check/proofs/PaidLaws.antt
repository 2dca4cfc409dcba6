-- A report pays as it says exactly where the coins of its inputs do so, part by part.
use Rattle.std.specs.Prelude.{ℕ, ◌≡◌, ◌≢◌, ◌==◌, ◌<◌, ◌⊎◌, ◌↔◌, not, cond, Bool, true, false, List, [], ◌∷◌, map, find, length, unwrap_or, All, Contains, IsSome, IsTrue, Option, Some, None, Ok, Result}
use Rattle.std.specs.List.{AllZip}
use Rattle.std.proofs.Common.{refl, sym, ap, subst, inl, inr, ◌∙◌, arith}
use Rattle.std.proofs.lemmas.Bool.Decides.{Decides-eqb}
use Rattle.std.proofs.lemmas.List.Elements.{All-contains, All-cons, All-head, All-nil, All-tail, All-weaker}
use Rattle.fee_rates.specs.declared.terms.PaymentLoad.{PaymentLoad}
use Rattle.fund_base.proofs.Laws.{whole_again}
use Rattle.fund_base.proofs.Lists.{any_found, in_tail}
use Rattle.fund_base.proofs.OutpointLaws.{same_outpoint-Decides}
use Rattle.fund_base.specs.Outpoints.{same_outpoint}
use Rattle.coin_candidates.specs.declared.candidate.Candidate.{Candidate}
use Rattle.fund_base.specs.declared.outpoint.OutPoint.{OutPoint}
use Rattle.fund_plan.proofs.AmongLaws.{coins_apart}
use Rattle.fund_plan.proofs.FoundLaws.{sorted_apart}
use Rattle.fund_plan.proofs.PaysLaws.{pays_with, pays_without}
use Rattle.fund_plan.proofs.RowLaws.{numbered}
use Rattle.fund_plan.specs.Chosen.{load_by, load_for, no_row, row_among, row_of}
use Rattle.fund_plan.specs.Pays.{Balances, Pays as PaysIn, payment_from, unsigned_input}
use Rattle.fund_plan.specs.Steps.{load_in}
use Rattle.fund_report.specs.PlainFunded.{PlainFunded}
use Rattle.fund_steps.proofs.PresetLaws.{presets_listed}
use Rattle.fund_steps.specs.Amounts.{AreWithin, value_of}
use Rattle.fund_steps.specs.Listed.{listed_in, presets_by, presets_in}
use Rattle.fund_steps.specs.Plan.{IsEligible, IsPlan, PlainBump, PlainPlan, coins_in, ladder_in}
use Rattle.fund_steps.specs.Selection.{AreSorted, is_listed, unlisted}
use Rattle.output_groups.proofs.Members.{all_from, from_filter, head_in, in_filter}
use Rattle.output_groups.proofs.PlaceLaws.{one_coin}
use Rattle.output_groups.specs.Ladder.{ladder_of}
use Rattle.request_text.specs.PlainRequest.{PlainRequest}
use Rattle.output_groups.specs.declared.rows.Row.{Row}
use Rattle.psbt_codec.specs.PartialTransaction.{PartialTransaction}
use Rattle.psbt_codec.specs.Reading.{start}
use Rattle.psbt_codec.specs.Text.{IsPsbtText}
use Rattle.tx_codec.proofs.Laws.{tx_reads}
use Rattle.tx_codec.specs.Reading.{tx_at}
use Rattle.tx_codec.specs.Transaction.{Transaction}
use Rattle.tx_codec.specs.TransactionText.{IsTransaction, text_of}
use Rattle.tx_codec.specs.declared.fault.TxFault.{TxFault}
use Rattle.tx_codec.specs.declared.fault.TxFault.TheVariants as txs
use Rattle.tx_codec.specs.declared.tx.TxIn.{TxIn}
use Rattle.wallet_text.specs.declared.wallet.Watch.{Watch}
use Rattle.fund_report.specs.declared.report.Report.TheVariants as reports
use Rattle.report_check.specs.Finding.{IsFirstUntaken, MayTake, Takes}
use Rattle.report_check.specs.PaidRefused.{IsCoinRefusal, IsPaidRefusal}
use Rattle.report_check.specs.Refused.{IsPsbtRefusal}
use Rattle.report_check.specs.Verdict.{IsUnpaid}
use Rattle.report_check.specs.declared.fault.CheckFault.{CheckFault}
use Rattle.report_check.specs.declared.fault.CheckFault.TheVariants.{Report as ReportFault, Psbt, Coin, Pays, LogForm, Section, Log, Answer, Memory}
use Rattle.report_check.specs.Paying.{AreTaken, HasCoinOf, HasEach, IsEven, IsSaid, Says, row_at}
use Rattle.report_check.specs.Payment.{AreSpendable, HasSpendable, IsFirstForeign, IsNamedRow, IsRowAt, MayBeSpent, PaysBy}
use Rattle.report_check.proofs.PaymentLaws.{all_held, same_transaction, spendable_held, spent_within, sum_of}

-- ---- a text has one transaction

pub one_text : (t u : Transaction) → IsTransaction t → IsTransaction u → text_of t ≡ text_of u → t ≡ u
one_text t u ft fu e =
    let a = whole_again (λ p. txs.Trailing p) tx_at text_of IsTransaction tx_reads (start (text_of u)) t ft (sym e) in
    let b = whole_again (λ p. txs.Trailing p) tx_at text_of IsTransaction tx_reads (start (text_of u)) u fu refl in
    let both : ◌≡◌ {A = Result Transaction TxFault} (Ok t) (Ok u) = sym a ∙ b in
    cc

-- ---- the row

found_is : (rows : List Row) (n : ℕ) (r : Row) → find (λ (q : Row). q.number == n) rows ≡ Some r → Contains rows r × (r.number ≡ n)
found_is [] n r e = absurd (cc)
found_is (q ∷ rows) n r e = by (q.number == n) refl e (found_is rows n r)
  where
    by : (b : Bool) → (q.number == n) ≡ b → cond b (Some q) (find (λ (x : Row). x.number == n) rows) ≡ Some r → (find (λ (x : Row). x.number == n) rows ≡ Some r → Contains rows r × (r.number ≡ n)) → Contains (q ∷ rows) r × (r.number ≡ n)
    by true same is later =
        let one : q ≡ r = cc in
        (subst (Contains (q ∷ rows)) one (head_in q rows), ap (λ (x : Row). x.number) (sym one) ∙ (Decides-eqb q.number n).0 same)
    by false other is later = let h = later is in (in_tail q rows r h.0, h.1)

-- the row of a number is looked up
pub row_found : (p : PlainPlan) (n : ℕ) (r : Row) → row_at p n ≡ Some r → IsRowAt p n r
row_found p n r e = found_is (ladder_in p) n r e

-- and there is no other
pub row_is : (p : PlainPlan) (n : ℕ) (r : Row) → IsRowAt p n r → row_at p n ≡ Some r
row_is p n r (there, number) =
    let k = numbered p r there in
    let among : row_among (ladder_in p) n ≡ r = subst (λ (m : ℕ). row_among (ladder_in p) m ≡ r) number k.0 in
    by (row_at p n) among k.1
  where
    by : (o : Option Row) → unwrap_or o no_row ≡ r → r.number ≢ 0 → o ≡ Some r
    by None e some = absurd (some (sym (ap (λ (x : Row). x.number) e)))
    by (Some q) e some = ap (λ (x : Row). Some x) e

-- the number of a row of the ladder isn't 0
pub row_some : (p : PlainPlan) (n : ℕ) (r : Row) → IsRowAt p n r → n ≢ 0
row_some p n r (there, number) e = (numbered p r there).1 (number ∙ e)

pub load_given : (p : PlainPlan) → load_for p 0 ≡ load_by p true 0
load_given p = refl

pub load_row : (p : PlainPlan) (n : ℕ) (r : Row) → IsRowAt p n r → load_in p r ≡ load_for p n
load_row p n r at =
    let not_zero : (n == 0) ≡ false = by (n == 0) refl in
    let own : row_of p n ≡ r = ap (λ (o : Option Row). unwrap_or o no_row) (row_is p n r at) in
    ap (load_in p) (sym own) ∙ sym (ap (λ (b : Bool). load_by p b n) not_zero)
  where
    by : (b : Bool) → (n == 0) ≡ b → (n == 0) ≡ false
    by true e = absurd (row_some p n r at ((Decides-eqb n 0).0 e))
    by false e = e

-- ---- what may be spent

pub may_spend : (p : PlainPlan) (n : ℕ) (c : Candidate) → MayTake (presets_in p) (unlisted p.request.coins p.candidates) (row_at p n) c → MayBeSpent p n c
may_spend p n c (inl preset) = inl preset
may_spend p n c (inr (there, (r, is, meets))) =
    inr ((from_filter (λ (d : Candidate). not (is_listed p.request.coins d.coin)) p.candidates c there).0, (r, row_found p n r is, meets))

listed_or : (b : Bool) → (b ≡ true) ⊎ (not b ≡ true)
listed_or true = inl refl
listed_or false = inr refl

-- a listed candidate is among the listed coins
listed_there : (p : PlainPlan) (c : Candidate) → IsPlan p → Contains p.candidates c → is_listed p.request.coins c.coin ≡ true → Contains (listed_in p) c
listed_there p c h there listed =
    let f = any_found (λ (q : OutPoint). same_outpoint q c.coin) p.request.coins listed in
    let point : f.0 ≡ c.coin = (same_outpoint-Decides f.0 c.coin).0 f.2 in
    let all = presets_listed p h.eligible in
    let d = All-contains (λ (q : OutPoint). (e : Candidate) × Contains (listed_in p) e × (e.coin ≡ q)) p.request.coins f.0 all.all f.1 in
    let held : Contains p.candidates d.0 = (All-contains (IsEligible p) (listed_in p) d.0 all.eligible d.1).candidate in
    subst (Contains (listed_in p)) (one_coin p.candidates d.0 c h.candidates.distinct held there (d.2 ∙ point)) d.1

-- where a payment is replaced none is listed
none_listed : (p : PlainPlan) (b : PlainBump) (c : Candidate) → IsPlan p → p.bump ≡ Some b → is_listed p.request.coins c.coin ≡ true → ⊥
none_listed p b c h is listed =
    let none : length p.request.coins ≡ 0 = h.request.alone (h.bump.asked.0 (subst (λ (o : Option PlainBump). IsSome o) (sym is) refl)) in
    let f = any_found (λ (q : OutPoint). same_outpoint q c.coin) p.request.coins listed in
    let lt = f.1.1 in
    omega (arith, none, lt)

-- so it is a preset
listed_preset : (p : PlainPlan) (c : Candidate) → IsPlan p → Contains p.candidates c → is_listed p.request.coins c.coin ≡ true → Contains (presets_in p) c
listed_preset p c h there listed = by p.bump refl
  where
    by : (bump : Option PlainBump) → p.bump ≡ bump → Contains (presets_by bump (listed_in p)) c
    by None is = listed_there p c h there listed
    by (Some b) is = absurd (none_listed p b c h is listed)

pub may_take : (p : PlainPlan) (n : ℕ) (c : Candidate) → IsPlan p → MayBeSpent p n c → MayTake (presets_in p) (unlisted p.request.coins p.candidates) (row_at p n) c
may_take p n c h (inl preset) = inl preset
may_take p n c h (inr (there, (r, at, meets))) = by (listed_or (is_listed p.request.coins c.coin))
  where
    by : (is_listed p.request.coins c.coin ≡ true) ⊎ (not (is_listed p.request.coins c.coin) ≡ true) → MayTake (presets_in p) (unlisted p.request.coins p.candidates) (row_at p n) c
    by (inl listed) = inl (listed_preset p c h there listed)
    by (inr other) = inr (in_filter (λ (d : Candidate). not (is_listed p.request.coins d.coin)) p.candidates c there other, (r, row_is p n r at, meets))

-- ---- the coins of the inputs

spent_all : (p : PlainPlan) (n : ℕ) (inputs : List TxIn) (coins : List Candidate) → AreTaken p n inputs coins → All (MayBeSpent p n) coins
spent_all p n [] [] h = All-nil (MayBeSpent p n)
spent_all p n [] (c ∷ cs) h = absurd h
spent_all p n (i ∷ is) [] h = absurd h
spent_all p n (i ∷ is) (c ∷ cs) h = All-cons (MayBeSpent p n) c cs (may_spend p n c h.0.0) (spent_all p n is cs h.1)

pub spendable_all : (p : PlainPlan) (n : ℕ) (inputs : List TxIn) (coins : List Candidate) → AreTaken p n inputs coins → AreSpendable p n inputs
spendable_all p n [] [] h = All-nil (λ (i : TxIn). HasSpendable p n i.prev)
spendable_all p n [] (c ∷ cs) h = absurd h
spendable_all p n (i ∷ is) [] h = absurd h
spendable_all p n (i ∷ is) (c ∷ cs) h = All-cons (λ (j : TxIn). HasSpendable p n j.prev) i is (c, may_spend p n c h.0.0, h.0.1) (spendable_all p n is cs h.1)

pub taken_count : (p : PlainPlan) (n : ℕ) (inputs : List TxIn) (coins : List Candidate) → AreTaken p n inputs coins → length inputs ≡ length coins
taken_count p n [] [] h = refl
taken_count p n [] (c ∷ cs) h = absurd h
taken_count p n (i ∷ is) [] h = absurd h
taken_count p n (i ∷ is) (c ∷ cs) h = let more = taken_count p n is cs h.1 in omega (arith, more)

-- coins that were looked up are those that the inputs were made of
taken_are : (p : PlainPlan) (n : ℕ) (b : Bool) (inputs : List TxIn) (coins others : List Candidate) → IsPlan p → AreTaken p n inputs coins → inputs ≡ map (unsigned_input b) others → All (MayBeSpent p n) others → coins ≡ others
taken_are p n b [] [] [] h taken e may = refl
taken_are p n b [] [] (d ∷ ds) h taken e may = absurd (cc)
taken_are p n b [] (c ∷ cs) others h taken e may = absurd taken
taken_are p n b (i ∷ is) [] others h taken e may = absurd taken
taken_are p n b (i ∷ is) (c ∷ cs) [] h taken e may = absurd (cc)
taken_are p n b (i ∷ is) (c ∷ cs) (d ∷ ds) h taken e may =
    let here : i ≡ unsigned_input b d = cc in
    let later : is ≡ map (unsigned_input b) ds = cc in
    let first : Contains (coins_in p) c = spendable_held p n c h (may_spend p n c taken.0.0) in
    let second : Contains (coins_in p) d = spendable_held p n d h (All-head (MayBeSpent p n) d ds may) in
    let same : c ≡ d = one_coin (coins_in p) c d (coins_apart p h) first second (taken.0.1 ∙ ap (λ (j : TxIn). j.prev) here) in
    ap (λ (x : Candidate). x ∷ cs) same ∙ ap (λ (xs : List Candidate). d ∷ xs) (taken_are p n b is cs ds h taken.1 later (All-tail (MayBeSpent p n) d ds may))

-- sorted coins that were looked up are within their bounds
pub taken_fit : (p : PlainPlan) (n : ℕ) (inputs : List TxIn) (coins : List Candidate) → IsPlan p → AreTaken p n inputs coins → AreSorted coins → AreWithin coins
taken_fit p n inputs coins h taken sorted = spent_within p coins h (sorted_apart coins sorted) (all_held p n coins h (spent_all p n inputs coins taken))

-- ---- what is first refused

pub foreign_first : (p : PlainPlan) (n : ℕ) (inputs : List TxIn) (point : OutPoint) → IsPlan p → IsFirstUntaken (presets_in p) (unlisted p.request.coins p.candidates) (row_at p n) inputs point → IsFirstForeign p n inputs point
foreign_first p n inputs point h u = record {
  front = u.front;
  input = u.input;
  rest = u.back;
  parts = u.parts;
  before = All-weaker (λ (i : TxIn). (c : Candidate) × Takes (presets_in p) (unlisted p.request.coins p.candidates) (row_at p n) i c) (λ (i : TxIn). HasSpendable p n i.prev)
      (λ i t. (t.0, may_spend p n t.0 t.1.0, t.1.1)) u.front u.before;
  point_is = u.point_is;
  foreign = λ s. u.none s.0 (may_take p n s.0 h s.1) s.2;
}

-- ---- part by part

preset_there : (p : PlainPlan) (n : ℕ) (coins : List Candidate) → IsPlan p → All (MayBeSpent p n) coins → HasEach coins (presets_in p) → All (Contains coins) (presets_in p)
preset_there p n coins h may given =
    all_from (Contains coins) (presets_in p)
    (λ c there.
    let d = All-contains (HasCoinOf coins) (presets_in p) c given there in
    let first : Contains (coins_in p) d.0 = spendable_held p n d.0 h (All-contains (MayBeSpent p n) coins d.0 may d.1) in
    let second : Contains (coins_in p) c = spendable_held p n c h (inl there) in
    subst (Contains coins) (one_coin (coins_in p) d.0 c (coins_apart p h) first second d.2) d.1)

pays_by : (p : PlainPlan) (l : PaymentLoad) (coins : List Candidate) (amount : Option ℕ) → AreSorted coins → IsEven p.request l coins amount → PaysIn p.request p.change l coins amount (payment_from p.request p.change coins amount)
pays_by p l coins None sorted h = pays_without p.request p.change l coins sorted h.balance h.weight
pays_by p l coins (Some n) sorted h = pays_with p.request p.change l coins n sorted h.balance h.worth h.weight

pub said_pays : (p : PlainPlan) (f : PlainFunded) (t : PartialTransaction) (coins : List Candidate) → IsPlan p → AreTaken p f.row t.tx.inputs coins → IsSaid p f t coins → PaysBy p f t
said_pays p f t coins h taken s =
    let may = spent_all p f.row t.tx.inputs coins taken in
    record {
      coins = coins;
      row = s.row;
      spendable = may;
      presets = preset_there p f.row coins h may s.given;
      pays = subst (PaysIn p.request p.change (load_for p f.row) coins f.change) (sym s.transaction) (pays_by p (load_for p f.row) coins f.change s.sorted s.says.even);
      lines = s.says.lines;
      weight = s.says.figures.weight;
      vsize = s.says.figures.vsize;
      fee = s.says.figures.fee;
      waste = s.says.figures.waste;
      shows = s.says.shows;
    }

is_payment : (p : PlainPlan) (l : PaymentLoad) (coins : List Candidate) (amount : Option ℕ) (t : Transaction) → PaysIn p.request p.change l coins amount t → t ≡ payment_from p.request p.change coins amount
unfolding payment_from
is_payment p l coins amount t h = same_transaction t (payment_from p.request p.change coins amount) h.version h.inputs h.outputs h.locktime h.bare

-- its coins balance with its change
pub pays_even : (p : PlainPlan) (f : PlainFunded) (t : PartialTransaction) (k : PaysBy p f t) → IsEven p.request (load_for p f.row) k.coins f.change
pays_even p f t k =
    let sum = sum_of p.request p.change (load_for p f.row) k.coins f.change t.tx k.pays in
    record {
      balance = subst (λ (n : ℕ). Balances p.request (load_for p f.row) k.coins f.change (value_of k.coins) n) sum k.pays.fee;
      worth = k.pays.change_worth;
      weight = k.pays.weight;
    }

pub pays_said : (p : PlainPlan) (f : PlainFunded) (t : PartialTransaction) (coins : List Candidate) → IsPlan p → AreTaken p f.row t.tx.inputs coins → PaysBy p f t → IsSaid p f t coins
pays_said p f t coins h taken k =
    let same : coins ≡ k.coins = taken_are p f.row p.request.replaceable t.tx.inputs coins k.coins h taken k.pays.inputs k.spendable in
    subst (IsSaid p f t) (sym same)
    (record {
      sorted = k.pays.sorted;
      given = All-weaker (Contains k.coins) (HasCoinOf k.coins) (λ c there. (c, there, refl)) (presets_in p) k.presets;
      row = k.row;
      says = record {
        even = pays_even p f t k;
        figures = record { weight = k.weight; vsize = k.vsize; fee = k.fee; waste = k.waste };
        lines = k.lines;
        shows = k.shows;
      };
      transaction = is_payment p (load_for p f.row) k.coins f.change t.tx k.pays;
    })

-- ---- as the code tells it

pub row_same : (p : PlainPlan) (request : PlainRequest) (n : ℕ) (row : Option Row) (rows : List Row) → p.request ≡ request → rows ≡ ladder_of request.zero_conf request.include_unsafe → row ≡ find (λ (r : Row). r.number == n) rows → row ≡ row_at p n
row_same p request n row rows e is found =
    found ∙ ap (find (λ (r : Row). r.number == n)) (is ∙ sym (ap (λ (q : PlainRequest). ladder_of q.zero_conf q.include_unsafe) e))

-- what was looked up in these coins by this row
record AreSources (p : PlainPlan) (n : ℕ) (presets rest : List Candidate) (row : Option Row) : Type 0 where
  presets_are : presets ≡ presets_in p
  rest_are : rest ≡ unlisted p.request.coins p.candidates
  row_as : row ≡ row_at p n

moved : (p : PlainPlan) (n : ℕ) (presets rest : List Candidate) (row : Option Row) (P : List Candidate → List Candidate → Option Row → Type 0) → AreSources p n presets rest row → P presets rest row → P (presets_in p) (unlisted p.request.coins p.candidates) (row_at p n)
moved p n presets rest row P s h =
    subst (λ (cs : List Candidate). P cs (unlisted p.request.coins p.candidates) (row_at p n)) s.presets_are
    (subst (λ (cs : List Candidate). P presets cs (row_at p n)) s.rest_are (subst (λ (o : Option Row). P presets rest o) s.row_as h))

pub taken_as : (p : PlainPlan) (n : ℕ) (presets rest : List Candidate) (row : Option Row) (inputs : List TxIn) (coins : List Candidate) → presets ≡ presets_in p → rest ≡ unlisted p.request.coins p.candidates → row ≡ row_at p n → AllZip (Takes presets rest row) inputs coins → AreTaken p n inputs coins
taken_as p n presets rest row inputs coins a b c h =
    moved p n presets rest row (λ (cs ds : List Candidate) (o : Option Row). AllZip (Takes cs ds o) inputs coins) (record { presets_are = a; rest_are = b; row_as = c }) h

pub coins_refused : (p : PlainPlan) (f : PlainFunded) (t : PartialTransaction) (presets rest : List Candidate) (row : Option Row) (e : CheckFault) → IsPlan p → IsPsbtText f.text t → presets ≡ presets_in p → rest ≡ unlisted p.request.coins p.candidates → row ≡ row_at p f.row → IsCoinRefusal presets rest row t.tx.inputs e → IsPaidRefusal p f e
coins_refused p f t presets rest row (Coin point) h text a b c refused =
    (t, text, foreign_first p f.row t.tx.inputs point h (moved p f.row presets rest row (λ (cs ds : List Candidate) (o : Option Row). IsFirstUntaken cs ds o t.tx.inputs point) (record { presets_are = a; rest_are = b; row_as = c }) refused))
coins_refused p f t presets rest row Memory h text a b c refused = tt
coins_refused p f t presets rest row (ReportFault place) h text a b c refused = absurd refused
coins_refused p f t presets rest row (Psbt e) h text a b c refused = absurd refused
coins_refused p f t presets rest row Pays h text a b c refused = absurd refused
coins_refused p f t presets rest row (LogForm place) h text a b c refused = absurd refused
coins_refused p f t presets rest row (Section i) h text a b c refused = absurd refused
coins_refused p f t presets rest row (Log i e) h text a b c refused = absurd refused
coins_refused p f t presets rest row Answer h text a b c refused = absurd refused

pub text_refused : (p : PlainPlan) (f : PlainFunded) (e : CheckFault) → IsPsbtRefusal f.text e → IsPaidRefusal p f e
text_refused p f (Psbt e) h = h
text_refused p f Memory h = tt
text_refused p f (Coin point) h = absurd h
text_refused p f (ReportFault place) h = absurd h
text_refused p f Pays h = absurd h
text_refused p f (LogForm place) h = absurd h
text_refused p f (Section i) h = absurd h
text_refused p f (Log i e) h = absurd h
text_refused p f Answer h = absurd h

pub unpaid : (p : PlainPlan) (f : PlainFunded) (t : PartialTransaction) (coins : List Candidate) → IsPsbtText f.text t → AreTaken p f.row t.tx.inputs coins → (PaysBy p f t → ⊥) → IsUnpaid p (reports.Funded f)
unpaid p f t coins text taken apart = (t, text, spendable_all p f.row t.tx.inputs coins taken, apart)

pub text_has : (text : List ℕ) (t : PartialTransaction) → IsPsbtText text t → IsTransaction t.tx
text_has text t h = h.readable.psbt.text

-- a payment has a coin
pub taken_some : (p : PlainPlan) (n : ℕ) (t : Transaction) (coins : List Candidate) → IsTransaction t → AreTaken p n t.inputs coins → 0 < length coins
taken_some p n t coins h taken = let same = taken_count p n t.inputs coins taken in omega (arith, same, h.inputs_some)

-- part by part: what is tested first, and last
pub said_all : (p : PlainPlan) (f : PlainFunded) (t : PartialTransaction) (coins : List Candidate) (l : PaymentLoad) → AreSorted coins × HasEach coins (presets_in p) → IsNamedRow p f.row → l ≡ load_for p f.row → Says p.request l f coins t.spent → t.tx ≡ payment_from p.request p.change coins f.change → IsSaid p f t coins
said_all p f t coins l own row is says transaction =
    record { sorted = own.0; given = own.1; row = row; says = subst (λ (m : PaymentLoad). Says p.request m f coins t.spent) is says; transaction = transaction }

pub said_by : (p : PlainPlan) (f : PlainFunded) (t : PartialTransaction) (coins : List Candidate) (l : PaymentLoad) → l ≡ load_for p f.row → IsSaid p f t coins → Says p.request l f coins t.spent
said_by p f t coins l is h = subst (λ (m : PaymentLoad). Says p.request m f coins t.spent) (sym is) h.says

pub said_iff : (p : PlainPlan) (request : PlainRequest) (change : Watch) (f : PlainFunded) (t : PartialTransaction) (coins : List Candidate) (l : PaymentLoad) (b : Bool) → IsPlan p → p.request ≡ request → p.change ≡ change → AreTaken p f.row t.tx.inputs coins → AreSorted coins × HasEach coins (presets_in p) → IsNamedRow p f.row → l ≡ load_for p f.row →
    (IsTrue b ↔ (Says request l f coins t.spent × (t.tx ≡ payment_from request change coins f.change))) → (IsTrue b ↔ PaysBy p f t)
said_iff p request change f t coins l b h r w taken own row is says =
    let At : PlainRequest → Watch → Type 0 = λ q v. Says q l f coins t.spent × (t.tx ≡ payment_from q v coins f.change) in
    let there : At request change → At p.request p.change = λ k. subst (λ (q : PlainRequest). At q p.change) (sym r) (subst (At request) (sym w) k) in
    let back : At p.request p.change → At request change = λ k. subst (At request) w (subst (λ (q : PlainRequest). At q p.change) r k) in (
      λ e. let k = there (says.0 e) in said_pays p f t coins h taken (said_all p f t coins l own row is k.0 k.1),
      λ pays. let s = pays_said p f t coins h taken pays in says.1 (back (said_by p f t coins l is s, s.transaction)),
    )

pub not_own : (p : PlainPlan) (f : PlainFunded) (t : PartialTransaction) (coins : List Candidate) → IsPlan p → AreTaken p f.row t.tx.inputs coins → (AreSorted coins × HasEach coins (presets_in p) → ⊥) → PaysBy p f t → ⊥
not_own p f t coins h taken apart pays = let s = pays_said p f t coins h taken pays in apart (s.sorted, s.given)

pub no_such_row : (p : PlainPlan) (f : PlainFunded) (t : PartialTransaction) → (IsNamedRow p f.row → ⊥) → PaysBy p f t → ⊥
no_such_row p f t apart pays = apart pays.row

pub own_as : (p q : PlainPlan) (coins slice given : List Candidate) (b : Bool) → slice ≡ coins → given ≡ presets_in q → q ≡ p → (IsTrue b ↔ (AreSorted slice × HasEach slice given)) → (IsTrue b ↔ (AreSorted coins × HasEach coins (presets_in p)))
own_as p q coins slice given b a c e h =
    subst (λ (cs : List Candidate). IsTrue b ↔ (AreSorted cs × HasEach cs (presets_in p))) a
    (subst (λ (g : List Candidate). IsTrue b ↔ (AreSorted slice × HasEach slice g)) (c ∙ ap presets_in e) h)
