-- The money of a payment goes where it is asked for.
use Rattle.std.proofs.Common.{◌≡◌, ◌∙◌, ◌+◌, ℕ, Bool, true, false, List, [], ◌∷◌, ◌++◌, length, map, Option, Some, None, refl, sym, ap, subst, string_bytes, arith, inl, inr, append-nil, append_assoc}
use Rattle.std.specs.Prelude.{◌==◌, ◌||◌, ◌⊎◌, ⊤, codes, nat_lt, nat_le, String, Result, Ok, Err, All, Contains, slice_index_or, sum_by, if◌then◌else◌}
use Rattle.std.specs.List.{AllZip}
use Rattle.std.specs.Option.{ok_or, option_map}
use Rattle.std.specs.declared.alloc.Global.{Global}
use Rattle.std.proofs.lemmas.List.{get_or-map, length-map}
use Rattle.std.proofs.lemmas.List.Elements.{All-contains, All-cons, All-nil, Contains-append_left, Contains-push}
use Rattle.std.proofs.lemmas.List.Folds.{fold-map}
use Rattle.fund_base.proofs.Laws.{bind_ok, guard_ok, told_ok}
use Rattle.fund_base.specs.Parsing.{fault_as}
use Rattle.coin_candidates.specs.declared.candidate.Candidate.{Candidate}
use Rattle.fund_base.specs.declared.outpoint.OutPoint.{OutPoint}
use Rattle.fee_rates.specs.Output.{dust_of}
use Rattle.segwit_addr.specs.Reading.{decode_of}
use Rattle.json_fields.specs.Fields.{coin_in}
use Rattle.json_fields.specs.declared.fault.FieldFault.TheVariants.{Kind}
use Rattle.request_text.specs.PlainRequest.{PlainRequest, paid_to}
use Rattle.request_text.specs.RequestText.{field, index_of, paid_at, repeat_behind, distinct_at}
use Rattle.request_text.specs.declared.fault.Refusal.{Refusal}
use Rattle.request_text.specs.declared.fault.Refusal.TheVariants as refusals
use Rattle.request_text.specs.declared.request.Recipient.{Recipient}
use Rattle.request_making.specs.Asked.{asked_of, coins_asked, coins_named, none_beside, number_asked, payee_paid, payment_asked, payments_asked, rate_asked, recipients_asked, tries_asked, whole_asked}
use Rattle.request_making.specs.declared.payment.Payee.{Payee}
use Rattle.request_making.specs.declared.payment.Payee.TheVariants as payees
use Rattle.request_making.specs.declared.payment.Payment.{Payment}
use Rattle.request_making.specs.declared.settings.Settings.{Settings}
use Rattle.tx_codec.specs.declared.tx.TxIn.{TxIn}
use Rattle.coin_book.specs.History.{History}
use Rattle.fee_bump.specs.Bump.{terms_of}
use Rattle.fund_shelf.specs.Causes.{ShelfView}
use Rattle.fund_files.specs.Chain.{chain_from, history_of}
use Rattle.fund_payment.specs.Report.{line_of, psbt_of, reported}
use Rattle.fund_plan.proofs.FigureLaws.{figures_agree}
use Rattle.fund_plan.specs.Pays.{payment_from, recipient_output, unsigned_input}
use Rattle.fund_report.specs.PlainFunded as reports
use Rattle.psbt_codec.specs.Text.{psbt_text}
use Rattle.fund_report.specs.declared.report.InLine.{InLine}
use Rattle.fund_steps.proofs.PresetLaws.{presets_listed}
use Rattle.fund_steps.specs.Amounts.{value_of}
use Rattle.fund_steps.specs.Listed.{AreListed, listed_in, presets_by}
use Rattle.fund_steps.specs.Plan.{PlainBump, PlainPlan}
use Rattle.command_inputs.specs.Outcome.{bump_of, plan_of}
use Rattle.pay_words.specs.declared.asked.Asked.{Asked}
use Rattle.command_pay.specs.AsAsked.{IsAsAsked, tries_by}
use Rattle.command_pay.specs.Money.{IsMoneyOf, IsPaidBy, IsScriptOf, IsSpentBy}
use Rattle.command_pay.specs.declared.report.PaidReport.TheVariants.{Whole}

-- ---- who is paid

-- the amount and the script of a recipient
paid_at_is : (index : ℕ) (script : List ℕ) (amount : ℕ) (q : Recipient) → paid_at index script amount ≡ Ok q → (q.script ≡ script) × (q.amount ≡ amount)
unfolding paid_at
paid_at_is index script amount q is =
    let it : Recipient = record { script = script; amount = amount } in
    let range = guard_ok (nat_lt 2_100_000_000_000_000 amount) (refusals.AmountRange index) (if nat_lt amount (dust_of script) then Err (refusals.Dust index) else Ok it) q is in
    let dust = guard_ok (nat_lt amount (dust_of script)) (refusals.Dust index) (Ok it) q range.1 in
    let made : Result Recipient Refusal = Ok it in
    let same : made ≡ Ok q = dust.1 in
    let one : q ≡ it = cc in
    (ap (λ (r : Recipient). r.script) one, ap (λ (r : Recipient). r.amount) one)

-- to whom
payee_is : (index amount : ℕ) (to : Payee) (q : Recipient) → payee_paid index amount to ≡ Ok q → IsScriptOf to q.script × (q.amount ≡ amount)
payee_is index amount (payees.Address text) q is =
    let found = bind_ok (fault_as (refusals.Address index) (decode_of (string_bytes text))) (λ script. paid_at index script amount) q is in
    let paid = paid_at_is index found.0 amount q found.2 in
    (told_ok (refusals.Address index) (decode_of (string_bytes text)) found.0 found.1 ∙ ap Ok (sym paid.0), paid.1)
payee_is index amount (payees.Script given) q is =
    let size = guard_ok (length given == 0 || nat_lt 10_000 (length given)) (refusals.Script index) (paid_at index given amount) q is in
    paid_at_is index given amount q size.1

-- a number that is taken is the one that is given
number_is : (name : List ℕ) (most n x : ℕ) → number_asked name most n ≡ Ok x → x ≡ n
number_is name most n x is = by (nat_le n most) (told_ok refusals.Field (if nat_le n most then Ok n else Err (Kind name)) x is)
  where
    by : (b : Bool) → (if b then Ok n else Err (Kind name)) ≡ Ok x → x ≡ n
    by true same = cc
    by false same = absurd cc

-- a payment
payment_is : (before : List Recipient) (p : Payment) (q : Recipient) → payment_asked before p ≡ Ok q → IsPaidBy p (recipient_output q)
payment_is before p q is =
    let found = bind_ok (whole_asked (codes "amount") p.amount) (λ amount. payee_paid (index_of (length before)) amount p.to) q is in
    let paid = payee_is (index_of (length before)) found.0 p.to q found.2 in
    record { amount = paid.1 ∙ number_is (codes "amount") 18_446_744_073_709_551_615 p.amount found.0 found.1; script = paid.0 }

-- each of them
payments_are : (before : List Recipient) (ps : List Payment) (rs : List Recipient) → payments_asked before ps ≡ Ok rs → (news : List Recipient) × (rs ≡ before ++ news) × AllZip IsPaidBy ps (map recipient_output news)
unfolding payments_asked
payments_are before [] rs is = ([], (let same : rs ≡ before = cc in same ∙ sym (append-nil before)), tt)
payments_are before (p ∷ ps) rs is =
    let found = bind_ok (payment_asked before p) (λ r. payments_asked (before ++ r ∷ []) ps) rs is in
    let rest = payments_are (before ++ found.0 ∷ []) ps rs found.2 in
    (found.0 ∷ rest.0, rest.1 ∙ append_assoc before (found.0 ∷ []) rest.0, (payment_is before p found.0 found.1, rest.2))

recipients_are : (ps : List Payment) (rs : List Recipient) → recipients_asked ps ≡ Ok rs → AllZip IsPaidBy ps (map recipient_output rs)
recipients_are ps rs is =
    let found = bind_ok (payments_asked [] ps) _ rs is in
    let some = guard_ok (length found.0 == 0) refusals.NoRecipients _ rs found.2 in
    let sum = guard_ok (nat_lt 2_100_000_000_000_000 (paid_to found.0)) refusals.SumRange (Ok found.0) rs some.1 in
    let all = payments_are [] ps found.0 found.1 in
    let same : rs ≡ found.0 = (let it = sum.1 in cc) in
    subst (λ (x : List Recipient). AllZip IsPaidBy ps (map recipient_output x)) (sym (same ∙ all.1)) all.2

-- ---- the coins that are listed

-- a point that a word spells is one of these
abbrev IsNamed : List OutPoint → String Global → Type 0
IsNamed points word = (point : OutPoint) × Contains points point × (coin_in (string_bytes word) ≡ Some point)

spelled : (word : String Global) (x : OutPoint) → ok_or (coin_in (string_bytes word)) (Kind (codes "coins")) ≡ Ok x → coin_in (string_bytes word) ≡ Some x
spelled word x is = by (coin_in (string_bytes word)) is
  where
    by : (o : Option OutPoint) → ok_or o (Kind (codes "coins")) ≡ Ok x → o ≡ Some x
    by (Some y) same = cc
    by None same = absurd cc

points_are : (before : List OutPoint) (words : List (String Global)) (points : List OutPoint) → coins_named before words ≡ Ok points → (news : List OutPoint) × (points ≡ before ++ news) × All (IsNamed points) words
unfolding coins_named
points_are before [] points is = ([], (let same : points ≡ before = cc in same ∙ sym (append-nil before)), All-nil (IsNamed points))
points_are before (word ∷ words) points is =
    let found = bind_ok (ok_or (coin_in (string_bytes word)) (Kind (codes "coins"))) (λ c. coins_named (before ++ c ∷ []) words) points is in
    let rest = points_are (before ++ found.0 ∷ []) words points found.2 in
    let there : Contains (before ++ found.0 ∷ []) found.0 = Contains-push before found.0 in
    let here : Contains points found.0 = subst (λ (x : List OutPoint). Contains x found.0) (sym rest.1) (Contains-append_left (before ++ found.0 ∷ []) rest.0 found.0 there) in
    (found.0 ∷ rest.0, rest.1 ∙ append_assoc before (found.0 ∷ []) rest.0, All-cons (IsNamed points) word words (found.0, here, spelled word found.0 found.1) rest.2)

coins_are : (words : List (String Global)) (points : List OutPoint) → coins_asked words ≡ Ok points → All (IsNamed points) words
coins_are words points is =
    let found = bind_ok (field (coins_named [] words)) _ points is in
    let named = points_are [] words found.0 (told_ok refusals.Field (coins_named [] words) found.0 found.1) in
    let same : points ≡ found.0 = once (repeat_behind [] found.0) found.0 points found.2 in
    subst (λ (x : List OutPoint). All (IsNamed x) words) (sym same) named.2
  where
    once : (o : Option ℕ) (xs ys : List OutPoint) → distinct_at xs o ≡ Ok ys → ys ≡ xs
    once None xs ys same = cc
    once (Some place) xs ys same = absurd cc

-- what a request is asked for, by its parts
pub record Parts (ps : List Payment) (words : List (String Global)) (r : PlainRequest) : Type 0 where
  pub recipients : AllZip IsPaidBy ps (map recipient_output r.recipients)
  pub coins : All (IsNamed r.coins) words
  -- no coin is listed beside a payment that is replaced
  pub alone : (r.bump ≡ None) ⊎ (words ≡ [])
  pub psbt : r.psbt ≡ 0

alone_by : (words : List (String Global)) (bump found : Option (List ℕ)) (none : ⊤) → bump ≡ found → field (none_beside bump words) ≡ Ok none → (found ≡ None) ⊎ (words ≡ [])
alone_by words None found none same alone = inl (sym same)
alone_by [] (Some txid) found none same alone = inr refl
alone_by (word ∷ words) (Some txid) found none same alone = absurd cc

pub parts_of : (ps : List Payment) (words : List (String Global)) (s : Settings) (r : PlainRequest) → asked_of ps words s ≡ Ok r → Parts ps words r
unfolding asked_of
parts_of ps words s r is =
    let alone = bind_ok (field (none_beside s.bump words)) _ r is in
    let recipients = bind_ok (recipients_asked ps) _ r alone.2 in
    let rate = bind_ok (rate_asked (codes "rate") s.rate) _ r recipients.2 in
    let long_term = bind_ok (rate_asked (codes "long_term") s.long_term) _ r rate.2 in
    let discard = bind_ok (rate_asked (codes "discard") s.discard) _ r long_term.2 in
    let target = bind_ok (number_asked (codes "change_target") 2_100_000_000_000_000 s.change_target) _ r discard.2 in
    let tries = bind_ok (tries_asked s.tries) _ r target.2 in
    let listed = bind_ok (coins_asked words) _ r tries.2 in
    let locktime = bind_ok (number_asked (codes "locktime") 4_294_967_295 s.locktime) _ r listed.2 in
    let paid : recipients.0 ≡ r.recipients = ap (λ (x : Result PlainRequest Refusal). of_ok (λ (q : PlainRequest). q.recipients) recipients.0 x) locktime.2 in
    let coins : listed.0 ≡ r.coins = ap (λ (x : Result PlainRequest Refusal). of_ok (λ (q : PlainRequest). q.coins) listed.0 x) locktime.2 in
    let bump : s.bump ≡ r.bump = ap (λ (x : Result PlainRequest Refusal). of_ok (λ (q : PlainRequest). q.bump) s.bump x) locktime.2 in
    let psbt : 0 ≡ r.psbt = ap (λ (x : Result PlainRequest Refusal). of_ok (λ (q : PlainRequest). q.psbt) 0 x) locktime.2 in
    record {
      recipients = subst (λ (x : List Recipient). AllZip IsPaidBy ps (map recipient_output x)) paid (recipients_are ps recipients.0 recipients.1);
      coins = subst (λ (x : List OutPoint). All (IsNamed x) words) coins (coins_are words listed.0 listed.1);
      alone = alone_by words s.bump r.bump alone.0 bump alone.1;
      psbt = sym psbt;
    }
  where
    of_ok : {X : Type 0} → (PlainRequest → X) → X → Result PlainRequest Refusal → X
    of_ok get default (Ok q) = get q
    of_ok get default (Err e) = default

-- ---- the payment

-- an input that spends the coin of a point
spent : (replaceable : Bool) (coins : List Candidate) (word : String Global) (c : Candidate) → Contains coins c → coin_in (string_bytes word) ≡ Some c.coin → IsSpentBy (map (unsigned_input replaceable) coins) word
spent replaceable coins word c there is =
    let lt = there.1 in
    let long = length-map coins (unsigned_input replaceable) in
    (unsigned_input replaceable c, (there.0, omega arith, get_or-map (unsigned_input replaceable) coins there.0 c (unsigned_input replaceable c) there.1 ∙ ap (unsigned_input replaceable) there.2), is)

-- the listed coins are among the coins of the payment
listed_spent : (p : PlainPlan) (coins : List Candidate) (replaceable : Bool) (word : String Global) → AreListed p (listed_in p) → All (Contains coins) (listed_in p) → IsNamed p.request.coins word → IsSpentBy (map (unsigned_input replaceable) coins) word
listed_spent p coins replaceable word listed all (point, there, is) =
    let c : (c : Candidate) × Contains (listed_in p) c × (c.coin ≡ point) = All-contains (λ (x : OutPoint). (c : Candidate) × Contains (listed_in p) c × (c.coin ≡ x)) p.request.coins point listed.all there in
    spent replaceable coins word c.0 (All-contains (Contains coins) (listed_in p) c.0 all c.1) (is ∙ ap Some (sym c.2))

pub prevs : (replaceable : Bool) (coins : List Candidate) → map (λ (i : TxIn). i.prev) (map (unsigned_input replaceable) coins) ≡ map (λ (c : InLine). c.coin) (map line_of coins)
prevs replaceable [] = refl
prevs replaceable (c ∷ coins) = ap (λ (x : List OutPoint). c.coin ∷ x) (prevs replaceable coins)

presets_listed_in : (p : PlainPlan) (bump : Option PlainBump) → bump ≡ None → presets_by bump (listed_in p) ≡ listed_in p
presets_listed_in p bump is = ap (λ (b : Option PlainBump). presets_by b (listed_in p)) is

pub planned_money : (a : Asked) (files : ShelfView) (f : reports.PlainFunded) (log : List ℕ) (k : IsAsAsked a files (Whole f) log) → IsMoneyOf a k.wallet.change (Whole f)
unfolding payment_from psbt_of
planned_money a files f log k =
    let history : History = history_of k.wallet k.blocks in
    let plan : PlainPlan = plan_of (chain_from k.wallet k.blocks) k.request in
    let parts = parts_of a.payments.items a.coins.items a.settings k.request k.asks in
    let sums = figures_agree plan k.paid.funded k.paid.pays in
    let all_spent : All (IsSpentBy (map (unsigned_input k.request.replaceable) k.paid.funded.coins)) a.coins.items = elim parts.alone [
      | inl none ↦
          (let no_bump : plan.bump ≡ None = ap (λ (o : Option (List ℕ)). option_map bump_of (option_map (λ (txid : List ℕ). terms_of k.wallet (chain_from k.wallet k.blocks).book (chain_from k.wallet k.blocks).tip.height k.request) o)) none in
          let listed : All (Contains k.paid.funded.coins) (listed_in plan) = subst (λ (x : List Candidate). All (Contains k.paid.funded.coins) x) (presets_listed_in plan plan.bump no_bump) k.paid.pays.presets in
          λ n word within. listed_spent plan k.paid.funded.coins k.request.replaceable (slice_index_or a.coins.items n word) (presets_listed plan k.paid.plan.eligible) listed (parts.coins n word within))
      | inr no_words ↦
          subst (λ (words : List (String Global)). All (IsSpentBy (map (unsigned_input k.request.replaceable) k.paid.funded.coins)) words) (sym no_words) (All-nil (IsSpentBy (map (unsigned_input k.request.replaceable) k.paid.funded.coins)))
    ] in
    let worth : sum_by (λ (c : InLine). c.value) (map line_of k.paid.funded.coins) ≡ value_of k.paid.funded.coins = fold-map (λ (n : ℕ) (c : InLine). n + c.value) line_of 0 k.paid.funded.coins in
    let it : IsMoneyOf a k.wallet.change (Whole (reported history k.request k.wallet.change (tries_by a.way plan) k.paid.funded)) = record {
      psbt = psbt_of history k.request k.wallet.change k.paid.funded;
      paid = map recipient_output k.request.recipients;
      is = k.paid.psbt;
      text = ap (λ (version : ℕ). psbt_text version (psbt_of history k.request k.wallet.change k.paid.funded)) parts.psbt;
      payments = parts.recipients;
      outputs = refl;
      spends = prevs k.request.replaceable k.paid.funded.coins;
      listed = all_spent;
      money = worth ∙ sums.money;
    } in
    subst (λ (x : reports.PlainFunded). IsMoneyOf a k.wallet.change (Whole x)) (sym k.paid.report) it
