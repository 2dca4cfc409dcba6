-- What pays: sums over one coin, and whether it does.
use Rattle.std.specs.Prelude.{ℕ, ℤ, pos, ◌≡◌, ◌+◌, ◌-◌, ◌*◌, ◌≤◌, ◌<◌, ◌-ℤ◌, ◌+ℤ◌, ◌≤ℤ◌, ◌&&◌, List, [], ◌∷◌, ◌++◌, length, map, sum_by, Bool, true, false, cond, T, Option, Some, None, IfSome, int_le, nat_le, not, ◌==◌, unsigned_abs, if◌then◌else◌}
use Rattle.std.specs.Int.{int_max}
use Rattle.std.specs.Int.Signed.{pos-nat_abs, yes_non_neg}
use Rattle.std.proofs.Common.{arith, refl, sym, ap, subst, get_or, ◌∙◌}
use Rattle.std.proofs.lemmas.Bool.{and_parts, and_from, leb-true, le-leb, eqb-true, not-false, both_ways}
use Rattle.std.proofs.lemmas.Int.{ints, int_max_is}
use Rattle.std.proofs.lemmas.List.Sums.{sum_by-cons, sum_by-append, get_or-le-sum_by}
use Rattle.fund_base.proofs.Lists.{int_le_true}
use Rattle.coin_candidates.specs.declared.candidate.Candidate.{Candidate}
use Rattle.tx_codec.specs.declared.tx.TxOut.{TxOut}
use Rattle.tx_codec.specs.Transaction.{Transaction}
use Rattle.fee_rates.specs.Fee.{fee_of, vsize_of}
use Rattle.fee_rates.specs.Output.{output_size_of}
use Rattle.fee_rates.proofs.TermsLaws.{asked_target, target_asked}
use Rattle.fee_rates.specs.Terms.{asked_of, base_of, target_of, hi_of, small_of, change_fee_of, change_least_of}
use Rattle.fee_rates.specs.declared.terms.PaymentLoad.{PaymentLoad}
use Rattle.fee_rates.proofs.FeeLaws.{weighed_parts, input_fee_parts, fee_below, vsize_bytes}
use Rattle.request_text.specs.PlainRequest.{PlainRequest, paid_to}
use Rattle.request_text.specs.declared.request.Recipient.{Recipient}
use Rattle.wallet_text.specs.declared.wallet.Watch.{Watch}
use Rattle.fund_steps.proofs.SumLaws.{charges_are}
use Rattle.fund_steps.specs.Amounts.{AreWithin, charges_of, prices_of, value_of, weight_of}
use Rattle.fund_plan.specs.Answer.{IsSelection}
use Rattle.fund_plan.specs.Selection.{PlainFunded}
use Rattle.fund_plan.specs.Pays.{Balances, Pays, change_outputs, outputs_of, payment_from, payment_weight, raised_of, recipient_output}
use Rattle.fund_steps.specs.Presets.{presets_of}
use Rattle.fund_steps.specs.Selection.{AreSorted}
use Rattle.fund_steps.specs.Terms.{load_of, rates_of}
use Rattle.fund_steps.specs.declared.presets.Presets.TheVariants.{Short, Plain, Change}

pub sum_one : {X : Type 0} (f : X → ℕ) (x : X) → sum_by f (x ∷ []) ≡ f x
sum_one f x = omega (arith, sum_by-cons f x [])

-- each amount is within the sum
pub amount_within : (rs : List Recipient) (i : ℕ) (q : Recipient) (most : ℕ) → q ≡ get_or rs i q → i < length rs → sum_by (λ (p : Recipient). p.amount) rs ≤ most → q.amount ≤ most
amount_within rs i q most is lt h = let e = ap (λ (p : Recipient). p.amount) is in omega (arith, get_or-le-sum_by (λ (p : Recipient). p.amount) rs i q lt)

true_from_T : (b : Bool) → T b → b ≡ true
true_from_T true t = refl
true_from_T false t = absurd t

le_test : (x y : ℤ) → x ≤ℤ y → int_le x y ≡ true
le_test x y h = true_from_T (int_le x y) h.le

-- what the recipients get of the outputs
sum_of_recipients : (rs : List Recipient) → sum_by (λ (o : TxOut). o.value) (map recipient_output rs) ≡ paid_to rs
sum_of_recipients [] = refl
sum_of_recipients (q ∷ rs) =
    omega (arith, sum_of_recipients rs, sum_by-cons (λ (o : TxOut). o.value) (recipient_output q) (map recipient_output rs), sum_by-cons (λ (p : Recipient). p.amount) q rs)

pub sum_plain : (rs : List Recipient) (outputs : List TxOut) → outputs ≡ map recipient_output rs ++ [] → sum_by (λ (o : TxOut). o.value) outputs ≡ paid_to rs
sum_plain rs outputs e = rw e (omega (arith, sum_of_recipients rs, sum_by-append (λ (o : TxOut). o.value) (map recipient_output rs) []))

pub sum_change : (rs : List Recipient) (outputs : List TxOut) (change : TxOut) → outputs ≡ map recipient_output rs ++ change ∷ [] → sum_by (λ (o : TxOut). o.value) outputs ≡ paid_to rs + change.value
sum_change rs outputs change e =
    rw e (omega (arith, sum_of_recipients rs, sum_by-append (λ (o : TxOut). o.value) (map recipient_output rs) (change ∷ []), sum_one (λ (o : TxOut). o.value) change))

-- ---- the target, its window, and what is left

-- what coins have to bring, the paid amount, the fee of the base, the burden and the raise being these
abbrev needed : (paid base burden raised value fees : ℕ) → ℤ
needed paid base burden raised value fees = pos (paid + base + burden + raised) -ℤ (pos value -ℤ pos fees)

-- within the window
window : (paid base burden raised value fees cf cl : ℕ) → needed paid base burden raised value fees ≤ℤ pos 0 → pos 0 ≤ℤ ((needed paid base burden raised value fees +ℤ pos cf +ℤ pos cl) -ℤ pos 1)
    → (paid + base + fees + burden + raised ≤ value) × (value + 1 ≤ paid + base + fees + burden + raised + cf + cl)
window paid base burden raised value fees cf cl a b = (omega (arith, ints), omega (arith, ints))

window_back : (paid base burden raised value fees cf cl : ℕ) → paid + base + fees + burden + raised ≤ value → value + 1 ≤ paid + base + fees + burden + raised + cf + cl
    → (needed paid base burden raised value fees ≤ℤ pos 0) × (pos 0 ≤ℤ ((needed paid base burden raised value fees +ℤ pos cf +ℤ pos cl) -ℤ pos 1))
window_back paid base burden raised value fees cf cl a b = (omega (arith, ints), omega (arith, ints))

-- enough for the least change
left_as : (paid base burden raised value fees cf cl change : ℕ) → pos change ≡ (pos 0 -ℤ needed paid base burden raised value fees) -ℤ pos cf → (needed paid base burden raised value fees +ℤ pos cf +ℤ pos cl) ≤ℤ pos 0
    → (value ≡ paid + change + base + fees + burden + raised + cf) × (cl ≤ change)
left_as paid base burden raised value fees cf cl change e h = (omega (arith, ints, e), omega (arith, ints, e))

left_some : (paid base burden raised value fees cf cl : ℕ) → (needed paid base burden raised value fees +ℤ pos cf +ℤ pos cl) ≤ℤ pos 0 → pos 0 ≤ℤ ((pos 0 -ℤ needed paid base burden raised value fees) -ℤ pos cf)
left_some paid base burden raised value fees cf cl h = omega (arith, ints)

left : (paid base burden raised value fees cf cl change : ℕ) → change ≡ unsigned_abs ((pos 0 -ℤ needed paid base burden raised value fees) -ℤ pos cf) → (needed paid base burden raised value fees +ℤ pos cf +ℤ pos cl) ≤ℤ pos 0
    → (value ≡ paid + change + base + fees + burden + raised + cf) × (cl ≤ change)
left paid base burden raised value fees cf cl change is h =
    left_as paid base burden raised value fees cf cl change (ap (λ n. pos n) is ∙ pos-nat_abs _ (yes_non_neg (left_some paid base burden raised value fees cf cl h))) h

left_back : (paid base burden raised value fees cf cl change : ℕ) → value ≡ paid + change + base + fees + burden + raised + cf → cl ≤ change → (needed paid base burden raised value fees +ℤ pos cf +ℤ pos cl) ≤ℤ pos 0
left_back paid base burden raised value fees cf cl change a b = omega (arith, ints)

-- the target is raised where there are no coins
pub raised_as : (some : Bool) (n value fees : ℕ) → (some ≡ false → (value ≡ 0) × (fees ≡ 0))
    → (if some then pos n -ℤ (pos value -ℤ pos fees) else int_max (pos n -ℤ (pos value -ℤ pos fees)) (pos 1)) ≡ pos (n + (if some then 0 else 1 - n)) -ℤ (pos value -ℤ pos fees)
raised_as true n value fees none = ap (λ m. pos m -ℤ (pos value -ℤ pos fees)) (omega arith)
raised_as false n value fees none = omega (arith, ints, int_max_is (pos n -ℤ (pos value -ℤ pos fees)) (pos 1), (none refl).0, (none refl).1)

pub none_worth : (rate : ℕ) (coins : List Candidate) → not (length coins == 0) ≡ false → (value_of coins ≡ 0) × (charges_of rate coins ≡ 0)
none_worth rate [] e = (refl, refl)
none_worth rate (c ∷ coins) e = let none = eqb-true (length (c ∷ coins)) 0 (not-false _ e) in absurd (omega (arith, none))

-- what the payment from the coins has to bring
asked_here : (r : PlainRequest) (w : Watch) (coins : List Candidate) (d : ℕ)
    → asked_of (rates_of r) (load_of r w coins d) ≡ needed (paid_to r.recipients) (fee_of r.rate (vsize_of (base_of (load_of r w coins d)))) d (raised_of r.rate (load_of r w coins d)) (value_of coins) (charges_of r.rate coins)
unfolding load_of
asked_here r w coins d =
    raised_as (not (length coins == 0)) (paid_to r.recipients + fee_of r.rate (vsize_of (base_of (load_of r w coins d))) + d) (value_of coins) (charges_of r.rate coins) (none_worth r.rate coins)

nothing_below : (t : ℤ) → t ≤ℤ pos 0 → t ≤ℤ pos 999_999_999_999_999_999
nothing_below t h = omega (arith, ints, h)

-- the target is that where nothing more is to be brought
target_here : (r : PlainRequest) (w : Watch) (coins : List Candidate) (d : ℕ) → target_of (rates_of r) (load_of r w coins d) ≤ℤ pos 0
    → target_of (rates_of r) (load_of r w coins d) ≡ needed (paid_to r.recipients) (fee_of r.rate (vsize_of (base_of (load_of r w coins d)))) d (raised_of r.rate (load_of r w coins d)) (value_of coins) (charges_of r.rate coins)
target_here r w coins d low = target_asked (rates_of r) (load_of r w coins d) (nothing_below _ low) ∙ asked_here r w coins d

within_cut : (t : ℤ) → t ≤ℤ pos 0 → t ≤ℤ pos 1_000_000_000_000_000_000
within_cut t h = omega (arith, ints, h)

needed_here : (r : PlainRequest) (w : Watch) (coins : List Candidate) (d : ℕ)
    → needed (paid_to r.recipients) (fee_of r.rate (vsize_of (base_of (load_of r w coins d)))) d (raised_of r.rate (load_of r w coins d)) (value_of coins) (charges_of r.rate coins) ≤ℤ pos 0
    → target_of (rates_of r) (load_of r w coins d) ≡ needed (paid_to r.recipients) (fee_of r.rate (vsize_of (base_of (load_of r w coins d)))) d (raised_of r.rate (load_of r w coins d)) (value_of coins) (charges_of r.rate coins)
needed_here r w coins d low = asked_target (rates_of r) (load_of r w coins d) (within_cut _ (subst (λ (t : ℤ). t ≤ℤ pos 0) (sym (asked_here r w coins d)) low)) ∙ asked_here r w coins d

-- which of three it was
was_plain : (a b : Bool) (n : ℕ) → cond a Plain (cond b (Change n) Short) ≡ Plain → a ≡ true
was_plain true b n e = refl
was_plain false true n e = absurd (cc)
was_plain false false n e = absurd (cc)

was_change : (a b : Bool) (n k : ℕ) → cond a Plain (cond b (Change n) Short) ≡ Change k → (b ≡ true) × (k ≡ n)
was_change true b n k e = absurd (cc)
was_change false true n k e = (refl, cc)
was_change false false n k e = absurd (cc)

was_short : (a b : Bool) (n : ℕ) → cond a Plain (cond b (Change n) Short) ≡ Short → (a ≡ false) × (b ≡ false)
was_short true b n e = absurd (cc)
was_short false true n e = absurd (cc)
was_short false false n e = (refl, refl)

-- the fee of the whole weight and the prices are within the parts
pub plain_covers : (rate base paid more value : ℕ) (coins : List Candidate) → paid + fee_of rate (vsize_of base) + charges_of rate coins + 0 + more ≤ value → paid + fee_of rate (vsize_of (base + weight_of coins)) + prices_of coins ≤ value
plain_covers rate base paid more value coins h = omega (arith, weighed_parts (λ (c : Candidate). c.weight) rate base coins, charges_are rate coins)

pub change_covers : (rate base paid more value size : ℕ) (coins : List Candidate) → value ≡ paid + fee_of rate (vsize_of base) + charges_of rate coins + 0 + more + fee_of rate size → paid + fee_of rate (vsize_of (base + weight_of coins + 4 * size)) + prices_of coins ≤ value
change_covers rate base paid more value size coins h =
    omega (
      arith,
      weighed_parts (λ (c : Candidate). c.weight) rate base coins,
      charges_are rate coins,
      input_fee_parts rate (base + weight_of coins) (4 * size),
      fee_below rate (vsize_of (4 * size)) rate size (omega arith) (omega (arith, vsize_bytes size)),
    )

-- ---- the tests as facts, at plain numbers

plain_facts : (target hi : ℤ) (weight : ℕ) → (int_le target (pos 0) && int_le (pos 0) hi && nat_le weight 400_000) ≡ true → (target ≤ℤ pos 0) × (pos 0 ≤ℤ hi) × (weight ≤ 400_000)
plain_facts target hi weight e =
    let all = and_parts (int_le target (pos 0) && int_le (pos 0) hi) (nat_le weight 400_000) e in
    let two = and_parts (int_le target (pos 0)) (int_le (pos 0) hi) all.0 in
    (int_le_true target (pos 0) two.0, int_le_true (pos 0) hi two.1, leb-true weight 400_000 all.1)

plain_test : (target hi : ℤ) (weight : ℕ) → target ≤ℤ pos 0 → pos 0 ≤ℤ hi → weight ≤ 400_000 → (int_le target (pos 0) && int_le (pos 0) hi && nat_le weight 400_000) ≡ true
plain_test target hi weight a b h =
    and_from (int_le target (pos 0) && int_le (pos 0) hi) (nat_le weight 400_000)
    (and_from (int_le target (pos 0)) (int_le (pos 0) hi) (le_test target (pos 0) a) (le_test (pos 0) hi b))
    (le-leb weight 400_000 h)

change_facts : (small : ℤ) (weight : ℕ) → (int_le small (pos 0) && nat_le weight 400_000) ≡ true → (small ≤ℤ pos 0) × (weight ≤ 400_000)
change_facts small weight e =
    let all = and_parts (int_le small (pos 0)) (nat_le weight 400_000) e in
    (int_le_true small (pos 0) all.0, leb-true weight 400_000 all.1)

change_test : (small : ℤ) (weight : ℕ) → small ≤ℤ pos 0 → weight ≤ 400_000 → (int_le small (pos 0) && nat_le weight 400_000) ≡ true
change_test small weight a h = and_from (int_le small (pos 0)) (nat_le weight 400_000) (le_test small (pos 0) a) (le-leb weight 400_000 h)

-- ---- what the coins of a request come to

-- the fee of the base
abbrev base_fee : PlainRequest → Watch → List Candidate → ℕ → ℕ
base_fee r w coins d = fee_of r.rate (vsize_of (base_of (load_of r w coins d)))

-- inputs less outputs, where they pay without change
plain_window : (r : PlainRequest) (w : Watch) (coins : List Candidate) (d : ℕ) → target_of (rates_of r) (load_of r w coins d) ≤ℤ pos 0 → pos 0 ≤ℤ hi_of (rates_of r) (load_of r w coins d)
    → (paid_to r.recipients + base_fee r w coins d + charges_of r.rate coins + d + raised_of r.rate (load_of r w coins d) ≤ value_of coins)
    × (value_of coins + 1 ≤ paid_to r.recipients + base_fee r w coins d + charges_of r.rate coins + d + raised_of r.rate (load_of r w coins d) + change_fee_of (rates_of r) (load_of r w coins d) + change_least_of (rates_of r) (load_of r w coins d))
plain_window r w coins d low high =
    let l = load_of r w coins d in
    let cf = change_fee_of (rates_of r) l in
    let cl = change_least_of (rates_of r) l in
    window (paid_to r.recipients) (base_fee r w coins d) d (raised_of r.rate l) (value_of coins) (charges_of r.rate coins) cf cl
    (subst (λ (t : ℤ). t ≤ℤ pos 0) (target_here r w coins d low) low)
    (subst (λ (t : ℤ). pos 0 ≤ℤ ((t +ℤ pos cf +ℤ pos cl) -ℤ pos 1)) (target_here r w coins d low) high)

no_more : (t : ℤ) (cf cl : ℕ) → (t +ℤ pos cf +ℤ pos cl) ≤ℤ pos 0 → t ≤ℤ pos 0
no_more t cf cl h = omega (arith, ints, h)

-- inputs less outputs, where they pay with change
change_rest : (r : PlainRequest) (w : Watch) (coins : List Candidate) (d amount : ℕ) → amount ≡ unsigned_abs ((pos 0 -ℤ target_of (rates_of r) (load_of r w coins d)) -ℤ pos (change_fee_of (rates_of r) (load_of r w coins d))) → small_of (rates_of r) (load_of r w coins d) ≤ℤ pos 0
    → (value_of coins ≡ paid_to r.recipients + amount + base_fee r w coins d + charges_of r.rate coins + d + raised_of r.rate (load_of r w coins d) + change_fee_of (rates_of r) (load_of r w coins d))
    × (change_least_of (rates_of r) (load_of r w coins d) ≤ amount)
change_rest r w coins d amount is small =
    let l = load_of r w coins d in
    let cf = change_fee_of (rates_of r) l in
    let cl = change_least_of (rates_of r) l in
    let low = no_more (target_of (rates_of r) l) cf cl small in
    left (paid_to r.recipients) (base_fee r w coins d) d (raised_of r.rate l) (value_of coins) (charges_of r.rate coins) cf cl amount
    (is ∙ ap (λ (t : ℤ). unsigned_abs ((pos 0 -ℤ t) -ℤ pos cf)) (target_here r w coins d low))
    (subst (λ (t : ℤ). (t +ℤ pos cf +ℤ pos cl) ≤ℤ pos 0) (target_here r w coins d low) small)

-- coins that balance without change pay
pub pays_without : (r : PlainRequest) (w : Watch) (l : PaymentLoad) (coins : List Candidate) → AreSorted coins → Balances r l coins None (value_of coins) (paid_to r.recipients) → payment_weight l coins None ≤ 400_000
    → Pays r w l coins None (payment_from r w coins None)
unfolding payment_from
pays_without r w l coins sorted balance weight =
    let total = sum_plain r.recipients (map recipient_output r.recipients ++ []) refl in
    let due : paid_to r.recipients + fee_of r.rate (vsize_of (base_of l)) + charges_of r.rate coins + l.burden + raised_of r.rate l ≤ value_of coins = balance.0 in
    record {
      inputs = refl;
      sorted = sorted;
      outputs = refl;
      version = refl;
      locktime = refl;
      bare = refl;
      fee = rw total balance;
      change_worth = tt;
      weight = weight;
      fee_covers = rw total (plain_covers r.rate (base_of l) (paid_to r.recipients) (l.burden + raised_of r.rate l) (value_of coins) coins (omega (arith, due)));
    }

-- coins that balance with this change pay
pub pays_with : (r : PlainRequest) (w : Watch) (l : PaymentLoad) (coins : List Candidate) (amount : ℕ) → AreSorted coins → Balances r l coins (Some amount) (value_of coins) (paid_to r.recipients + amount) → change_least_of (rates_of r) l ≤ amount
    → payment_weight l coins (Some amount) ≤ 400_000 → Pays r w l coins (Some amount) (payment_from r w coins (Some amount))
unfolding payment_from
pays_with r w l coins amount sorted balance worth weight =
    let change : TxOut = record { value = amount; script = w.script } in
    let total = sum_change r.recipients (map recipient_output r.recipients ++ change ∷ []) change refl in
    let due : value_of coins ≡ paid_to r.recipients + amount + fee_of r.rate (vsize_of (base_of l)) + charges_of r.rate coins + l.burden + raised_of r.rate l + fee_of r.rate l.change_size = balance in
    record {
      inputs = refl;
      sorted = sorted;
      outputs = refl;
      version = refl;
      locktime = refl;
      bare = refl;
      fee = rw total balance;
      change_worth = worth;
      weight = weight;
      fee_covers = rw total (change_covers r.rate (base_of l) (paid_to r.recipients + amount) (l.burden + raised_of r.rate l) (value_of coins) l.change_size coins (omega (arith, due)));
    }

-- without change they pay
pub pays_plain : (r : PlainRequest) (w : Watch) (coins : List Candidate) (d : ℕ) → AreSorted coins → presets_of (rates_of r) (load_of r w coins d) ≡ Plain → Pays r w (load_of r w coins d) coins None (payment_from r w coins None)
unfolding presets_of load_of
pays_plain r w coins d sorted e =
    let l = load_of r w coins d in
    let f = plain_facts (target_of (rates_of r) l) (hi_of (rates_of r) l) (base_of l + weight_of coins) (was_plain _ _ _ e) in
    pays_without r w l coins sorted (plain_window r w coins d f.0 f.1) f.2

-- with change they pay
pub pays_change : (r : PlainRequest) (w : Watch) (coins : List Candidate) (d amount : ℕ) → AreSorted coins → presets_of (rates_of r) (load_of r w coins d) ≡ Change amount
    → Pays r w (load_of r w coins d) coins (Some amount) (payment_from r w coins (Some amount))
unfolding presets_of load_of
pays_change r w coins d amount sorted e =
    let l = load_of r w coins d in
    let b = was_change _ _ _ _ e in
    let f = change_facts (small_of (rates_of r) l) (base_of l + weight_of coins + 4 * output_size_of w.script) b.0 in
    let rest = change_rest r w coins d amount b.1 f.0 in
    pays_with r w l coins amount sorted rest.0 rest.1 f.1

-- otherwise nothing pays
pub pays_none : (r : PlainRequest) (w : Watch) (coins : List Candidate) (d : ℕ) → presets_of (rates_of r) (load_of r w coins d) ≡ Short → (amount : Option ℕ) (t : Transaction) → Pays r w (load_of r w coins d) coins amount t → ⊥
unfolding presets_of load_of
pays_none r w coins d e None t p =
    let l = load_of r w coins d in
    let f = was_short _ _ _ e in
    let cf = change_fee_of (rates_of r) l in
    let cl = change_least_of (rates_of r) l in
    let fee = rw (sum_plain r.recipients t.outputs p.outputs) at p.fee in
    let back = window_back (paid_to r.recipients) (base_fee r w coins d) d (raised_of r.rate l) (value_of coins) (charges_of r.rate coins) cf cl fee.0 fee.1 in
    let target = needed_here r w coins d back.0 in
    let low = subst (λ (t : ℤ). t ≤ℤ pos 0) (sym target) back.0 in
    let high = subst (λ (t : ℤ). pos 0 ≤ℤ ((t +ℤ pos cf +ℤ pos cl) -ℤ pos 1)) (sym target) back.1 in
    both_ways _ f.0 (plain_test (target_of (rates_of r) l) (hi_of (rates_of r) l) (base_of l + weight_of coins) low high p.weight)
pays_none r w coins d e (Some amount) t p =
    let l = load_of r w coins d in
    let f = was_short _ _ _ e in
    let fee = rw (sum_change r.recipients t.outputs (record { value = amount; script = w.script }) p.outputs) at p.fee in
    let cf = change_fee_of (rates_of r) l in
    let cl = change_least_of (rates_of r) l in
    let back = left_back (paid_to r.recipients) (base_fee r w coins d) d (raised_of r.rate l) (value_of coins) (charges_of r.rate coins) cf cl amount fee p.change_worth in
    let target = needed_here r w coins d (no_more _ cf cl back) in
    let small = subst (λ (t : ℤ). (t +ℤ pos cf +ℤ pos cl) ≤ℤ pos 0) (sym target) back in
    both_ways _ f.1 (change_test (small_of (rates_of r) l) (base_of l + weight_of coins + 4 * output_size_of w.script) small p.weight)

-- ---- what pays is a selection

pub outputs_sum : (r : PlainRequest) (w : Watch) (amount : Option ℕ) → sum_by (λ (o : TxOut). o.value) (map recipient_output r.recipients ++ change_outputs w amount) ≡ outputs_of r amount
outputs_sum r w None = sum_plain r.recipients (map recipient_output r.recipients ++ []) refl
outputs_sum r w (Some amount) = sum_change r.recipients (map recipient_output r.recipients ++ record { value = amount; script = w.script } ∷ []) (record { value = amount; script = w.script }) refl

-- the outputs take no more than the coins are worth
pub pays_within : (r : PlainRequest) (w : Watch) (l : PaymentLoad) (coins : List Candidate) (amount : Option ℕ) (t : Transaction) → Pays r w l coins amount t → outputs_of r amount ≤ value_of coins
pays_within r w l coins amount t p = let sum = ap (sum_by (λ (o : TxOut). o.value)) p.outputs ∙ outputs_sum r w amount in omega (arith, sum, p.fee_covers)

-- nothing pays from no coins
none_pay : (r : PlainRequest) (w : Watch) (d : ℕ) (amount : Option ℕ) (t : Transaction) → Pays r w (load_of r w [] d) [] amount t → ⊥
unfolding load_of
none_pay r w d None t p =
    let sum = sum_plain r.recipients t.outputs p.outputs in
    let due = p.fee.0 in
    absurd (omega (arith, due, sum))
none_pay r w d (Some amount) t p =
    let sum = sum_change r.recipients t.outputs (record { value = amount; script = w.script }) p.outputs in
    let due = p.fee in
    absurd (omega (arith, due, sum, p.change_worth))

pub pays_some : (r : PlainRequest) (w : Watch) (coins : List Candidate) (d : ℕ) (amount : Option ℕ) (t : Transaction) → Pays r w (load_of r w coins d) coins amount t → 0 < length coins
pays_some r w [] d amount t p = absurd (none_pay r w d amount t p)
pays_some r w (c ∷ coins) d amount t p = omega arith

pub amount_most : (r : PlainRequest) (amount : Option ℕ) → outputs_of r amount ≤ 2_100_000_000_000_000 → IfSome amount (λ n. n ≤ 2_100_000_000_000_000)
amount_most r None h = tt
amount_most r (Some n) h = omega (arith, h)

pub selection_is : (r : PlainRequest) (w : Watch) (l : PaymentLoad) (f : PlainFunded) (t : Transaction) → AreWithin f.coins → 0 < length f.coins → Pays r w l f.coins f.change t → IsSelection r f
selection_is r w l f t h some p =
    let within = pays_within r w l f.coins f.change t p in
    record { coins = h; some = some; change = amount_most r f.change (omega (arith, within, h.value)); within = within }
