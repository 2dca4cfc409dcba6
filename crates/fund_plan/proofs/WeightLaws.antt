-- The declared weight of a payment is the weight of its text, each input counting as its coin declares.
use Rattle.std.specs.Prelude.{ℕ, ◌≡◌, ◌+◌, ◌-◌, ◌*◌, ◌^◌, ◌≤◌, ◌<◌, List, [], ◌∷◌, ◌++◌, length, map, sum_by, All, Bool, Contains, ◌==◌, true, false, Option, Some, None, nat_le, if◌then◌else◌}
use Rattle.std.specs.Int.{w32, to_le_bytes}
use Rattle.std.specs.List.{flat_map}
use Rattle.std.proofs.Common.{arith, refl, sym, subst, ap, inl, inr, ◌∙◌, length-append}
use Rattle.std.proofs.lemmas.Bool.Decides.{nat_tests}
use Rattle.std.proofs.lemmas.List.{length-map}
use Rattle.std.proofs.lemmas.List.Elements.{All-head, All-tail, All-weaker, Contains-append_left, Contains-append_right}
use Rattle.std.proofs.lemmas.List.Sums.{sum_by-cons, sum_by-append}
use Rattle.coin_candidates.specs.Candidates.{IsCandidate}
use Rattle.fund_base.specs.CompactSize.{compact, counted, prefixed}
use Rattle.coin_candidates.specs.declared.candidate.Candidate.{Candidate}
use Rattle.tx_codec.specs.declared.tx.TxIn.{TxIn}
use Rattle.tx_codec.specs.declared.tx.TxOut.{TxOut}
use Rattle.tx_codec.specs.Transaction.{Transaction}
use Rattle.tx_codec.specs.TransactionText.{InputFits, bare_text, input_text, output_text}
use Rattle.tx_codec.specs.Weight.{weight_of as text_weight}
use Rattle.fee_rates.specs.Output.{output_size_of}
use Rattle.fee_rates.specs.Terms.{base_of}
use Rattle.fee_rates.proofs.CompactLaws.{compact_len_is, output_text_length}
use Rattle.request_text.specs.PlainRequest.{PlainRequest}
use Rattle.request_text.specs.declared.request.Recipient.{Recipient}
use Rattle.wallet_text.specs.declared.wallet.Watch.{Watch}
use Rattle.fund_steps.specs.Amounts.{AreWithin, weight_of}
use Rattle.fund_plan.specs.Answer.{IsAtHandBy, IsPayment}
use Rattle.fund_plan.specs.Chosen.{load_by, load_for, row_of}
use Rattle.fund_plan.specs.Weighed.{HasOutpoint, IsWeighed, room_of, signed_weight}
use Rattle.fund_plan.specs.Steps.{pool_in}
use Rattle.fund_plan.specs.Pays.{change_outputs, payment_from, payment_weight, recipient_output, unsigned_input}
use Rattle.fund_steps.specs.Listed.{presets_in}
use Rattle.fund_steps.specs.Plan.{PlainPlan}
use Rattle.fund_plan.specs.Selection.{PlainFunded}
use Rattle.fund_steps.specs.Terms.{load_of}
use Rattle.fund_plan.proofs.PaymentLaws.{IsLoadOf, points_fit, recipients_few}
use Rattle.fund_plan.proofs.FoundLaws.{sorted_apart}
use Rattle.fund_plan.proofs.SpendLaws.{AreApart, some_count}
use Rattle.fund_base.proofs.Lists.{cons_cases}
use Rattle.fee_rates.specs.declared.terms.PaymentLoad.{PaymentLoad}
use Rattle.fund_plan.proofs.PaysLaws.{sum_one}

-- ---- inputs and outputs

-- an unsigned input takes 41 bytes
input_rest : (index sequence : ℕ) → length (to_le_bytes w32 index ++ (prefixed [] ++ to_le_bytes w32 sequence)) ≡ 9
unfolding compact
input_rest index sequence = refl

one_input : (replaceable : Bool) (c : Candidate) → length c.coin.txid ≡ 32 → length (input_text (unsigned_input replaceable c)) ≡ 41
unfolding input_text
one_input replaceable c len =
    let sequence = (unsigned_input replaceable c).sequence in
    omega (arith, len, input_rest c.coin.index sequence, length-append c.coin.txid (to_le_bytes w32 c.coin.index ++ (prefixed [] ++ to_le_bytes w32 sequence)))

all_inputs : (replaceable : Bool) (coins : List Candidate) → All InputFits (map (unsigned_input replaceable) coins) → length (flat_map input_text (map (unsigned_input replaceable) coins)) ≡ 41 * length coins
all_inputs replaceable [] fit = refl
all_inputs replaceable (c ∷ coins) fit =
    let inputs : List TxIn = map (unsigned_input replaceable) coins in
    let here : InputFits (unsigned_input replaceable c) = All-head InputFits (unsigned_input replaceable c) inputs fit in
    let rest = all_inputs replaceable coins (All-tail InputFits (unsigned_input replaceable c) inputs fit) in
    omega (arith, rest, one_input replaceable c here.txid_len, length-append (input_text (unsigned_input replaceable c)) (flat_map input_text inputs))

abbrev pub size_of : TxOut → ℕ
size_of o = output_size_of o.script

one_output : (o : TxOut) → length (output_text o) ≡ size_of o
unfolding output_text
one_output o = output_text_length o.value o.script

pub all_outputs : (os : List TxOut) → length (flat_map output_text os) ≡ sum_by size_of os
all_outputs [] = refl
all_outputs (o ∷ os) = omega (arith, all_outputs os, one_output o, length-append (output_text o) (flat_map output_text os), sum_by-cons size_of o os)

pub recipients_size : (rs : List Recipient) → sum_by size_of (map recipient_output rs) ≡ sum_by (λ (q : Recipient). output_size_of q.script) rs
recipients_size [] = refl
recipients_size (q ∷ rs) = omega (arith, recipients_size rs, sum_by-cons size_of (recipient_output q) (map recipient_output rs), sum_by-cons (λ (p : Recipient). output_size_of p.script) q rs)

-- the coins weigh no less than their unsigned inputs
pub coins_weigh : (coins : List Candidate) → All IsCandidate coins → 165 * length coins ≤ weight_of coins
coins_weigh [] fit = omega arith
coins_weigh (c ∷ coins) fit =
    let here : IsCandidate c = All-head IsCandidate c coins fit in
    omega (arith, coins_weigh coins (All-tail IsCandidate c coins fit), here.least_weight, sum_by-cons (λ (d : Candidate). d.weight) c coins)

-- ---- counts

pub inputs_count : (n : ℕ) → n < 65536 → length (compact n) ≡ (if nat_le n 252 then 1 else 3)
inputs_count n few = grind (arith, nat_tests, compact_len_is)

pub outputs_count : (n : ℕ) → n < 4294967295 → (length (compact n) ≤ length (compact (n + 1))) × (length (compact (n + 1)) ≤ length (compact n) + 2)
outputs_count n few = (grind (arith, nat_tests, compact_len_is), grind (arith, nat_tests, compact_len_is))

-- ---- the text

pub bare_len : (t : Transaction) → length (bare_text t) ≡ 8 + length (compact (length t.inputs)) + length (flat_map input_text t.inputs) + length (compact (length t.outputs)) + length (flat_map output_text t.outputs)
unfolding bare_text
bare_len t =
    let outputs = counted output_text t.outputs in
    let behind : List ℕ = outputs ++ to_le_bytes w32 t.locktime in
    omega (
      arith,
      length-append (counted input_text t.inputs) behind,
      length-append outputs (to_le_bytes w32 t.locktime),
      length-append (compact (length t.inputs)) (flat_map input_text t.inputs),
      length-append (compact (length t.outputs)) (flat_map output_text t.outputs),
    )

text_len : (t : Transaction) (n : ℕ) → t.segwit ≡ false → length (bare_text t) ≡ n → n < 2 ^ 60 → text_weight t ≡ 4 * n
unfolding text_weight bare_text
text_len t n bare len small = rw (bare, len) (omega arith)

abbrev pub sizes_of : PlainRequest → ℕ
sizes_of r = sum_by (λ (q : Recipient). output_size_of q.script) r.recipients

abbrev pub inputs_bytes : List Candidate → ℕ
inputs_bytes coins = if nat_le (length coins) 252 then 1 else 3

-- the bytes of a payment whose change outputs are so many, and so large together
payment_len : (r : PlainRequest) (w : Watch) (coins : List Candidate) (amount : Option ℕ) (k size : ℕ) → length (change_outputs w amount) ≡ k → sum_by size_of (change_outputs w amount) ≡ size → length coins < 65536 → All InputFits (map (unsigned_input r.replaceable) coins)
    → length (bare_text (payment_from r w coins amount)) ≡ 8 + inputs_bytes coins + 41 * length coins + length (compact (length r.recipients + k)) + (sizes_of r + size)
unfolding payment_from
payment_len r w coins amount k size count sized few fit =
    let inputs : List TxIn = map (unsigned_input r.replaceable) coins in
    let paid : List TxOut = map recipient_output r.recipients in
    let outputs : List TxOut = paid ++ change_outputs w amount in
    let ins : length (compact (length inputs)) ≡ inputs_bytes coins = ap (λ (n : ℕ). length (compact n)) (length-map coins (unsigned_input r.replaceable)) ∙ inputs_count (length coins) few in
    let number : length outputs ≡ length r.recipients + k = omega (arith, count, length-append paid (change_outputs w amount), length-map r.recipients recipient_output) in
    let outs : length (compact (length outputs)) ≡ length (compact (length r.recipients + k)) = ap (λ (n : ℕ). length (compact n)) number in
    let total : sum_by size_of outputs ≡ sizes_of r + size = omega (arith, sized, sum_by-append size_of paid (change_outputs w amount), recipients_size r.recipients) in
    omega (arith, bare_len (payment_from r w coins amount), ins, outs, total, all_inputs r.replaceable coins fit, all_outputs outputs)

-- the bytes that a load keeps for the number of inputs
abbrev pub kept_bytes : PaymentLoad → ℕ
kept_bytes l = if nat_le l.coins 252 then 1 else 3

-- the base, where nothing is above what is counted
pub base_is : (r : PlainRequest) (w : Watch) (l : PaymentLoad) → IsLoadOf r w l → length r.recipients ≤ 100_000 → sizes_of r ≤ 100_000
    → base_of l ≡ 4 * (8 + kept_bytes l + length (compact (length r.recipients + 1)) + sizes_of r) + 2
base_is r w l is few small =
    let count : l.count ≡ length r.recipients = omega (arith, few, is.count) in
    let outputs : l.outputs ≡ sizes_of r = omega (arith, small, is.outputs) in
    let outs : length (compact (l.count + 1)) ≡ length (compact (length r.recipients + 1)) = ap (λ (n : ℕ). length (compact (n + 1))) count in
    omega (arith, outs, outputs)

pub sizes_few : (r : PlainRequest) (w : Watch) (l : PaymentLoad) → IsLoadOf r w l → base_of l ≤ 400_000 → sizes_of r ≤ 100_000
sizes_few r w l is h = omega (arith, h, is.outputs)

-- no fewer bytes are kept than are needed
pub bytes_kept : (n m : ℕ) → n ≤ m → (if nat_le n 252 then 1 else 3) ≤ (if nat_le m 252 then 1 else 3)
bytes_kept n m h = grind (arith, nat_tests)

-- at plain numbers, W being the declared weight of the coins
plain_weighs : (text ins kept outs more n sizes W : ℕ) → text ≡ 4 * (8 + ins + 41 * n + outs + (sizes + 0)) → ins ≤ kept → outs ≤ more → more ≤ outs + 2 → 165 * n ≤ W
    → (text + (W - 164 * n) + 2 + 4 * (kept - ins) ≤ 4 * (8 + kept + more + sizes) + 2 + W) × (4 * (8 + kept + more + sizes) + 2 + W ≤ text + (W - 164 * n) + 2 + 4 * (kept - ins) + 8)
plain_weighs text ins kept outs more n sizes W is room least most low = (omega (arith, is, room, least, most, low), omega (arith, is, room, least, most, low))

change_weighs : (text ins kept outs n sizes size W : ℕ) → text ≡ 4 * (8 + ins + 41 * n + outs + (sizes + size)) → ins ≤ kept → 165 * n ≤ W → 4 * (8 + kept + outs + sizes) + 2 + W + 4 * size ≡ text + (W - 164 * n) + 2 + 4 * (kept - ins)
change_weighs text ins kept outs n sizes size W is room low = omega (arith, is, room, low)

bare_form : (r : PlainRequest) (w : Watch) (coins : List Candidate) (amount : Option ℕ) → (payment_from r w coins amount).segwit ≡ false
unfolding payment_from
bare_form r w coins amount = refl

pub weighed : (r : PlainRequest) (w : Watch) (l : PaymentLoad) (coins : List Candidate) (amount : Option ℕ) → IsLoadOf r w l → length coins ≤ l.coins → AreWithin coins → All InputFits (map (unsigned_input r.replaceable) coins) → payment_weight l coins amount ≤ 400_000
    → IsWeighed amount (payment_weight l coins amount) (signed_weight r w coins amount) (room_of l coins)
weighed r w l coins None is there within fit light =
    let n = length coins in
    let k = length r.recipients in
    let low = coins_weigh coins within.each in
    let few = recipients_few r w l coins None is light in
    let small = sizes_few r w l is (omega (arith, light)) in
    let len = payment_len r w coins None 0 0 refl refl (omega (arith, low, light)) fit in
    let base = base_is r w l is few small in
    let room = bytes_kept n l.coins there in
    let outs = outputs_count k (omega (arith, few)) in
    let same : length (compact (k + 0)) ≡ length (compact k) = ap (λ (m : ℕ). length (compact m)) (omega arith) in
    let size : ℕ = 8 + inputs_bytes coins + 41 * n + length (compact k) + (sizes_of r + 0) in
    let text = text_len (payment_from r w coins None) size (bare_form r w coins None) (omega (arith, len, same)) (omega (arith, base, light, low, outs.0, room)) in
    let parts = plain_weighs (text_weight (payment_from r w coins None)) (inputs_bytes coins) (kept_bytes l) (length (compact k)) (length (compact (k + 1))) n (sizes_of r) (weight_of coins) text room outs.0 outs.1 low in
    (omega (arith, parts.0, base), omega (arith, parts.1, base))
weighed r w l coins (Some amount) is there within fit light =
    let n = length coins in
    let k = length r.recipients in
    let change = output_size_of w.script in
    let low = coins_weigh coins within.each in
    let few = recipients_few r w l coins (Some amount) is light in
    let small = sizes_few r w l is (omega (arith, light)) in
    let len = payment_len r w coins (Some amount) 1 change refl (sum_one size_of (record { value = amount; script = w.script })) (omega (arith, low, light)) fit in
    let base = base_is r w l is few small in
    let room = bytes_kept n l.coins there in
    let size : ℕ = 8 + inputs_bytes coins + 41 * n + length (compact (k + 1)) + (sizes_of r + change) in
    let text = text_len (payment_from r w coins (Some amount)) size (bare_form r w coins (Some amount)) len (omega (arith, base, light, low, is.change_size, room)) in
    let parts = change_weighs (text_weight (payment_from r w coins (Some amount))) (inputs_bytes coins) (kept_bytes l) (length (compact (k + 1))) n (sizes_of r) change (weight_of coins) text room low in
    omega (arith, parts, base, is.change_size)

-- ---- what a payment of a plan is to carry

load_is_by : (p : PlainPlan) (b : Bool) (n : ℕ) → IsLoadOf p.request p.change (load_by p b n)
unfolding load_of
load_is_by p true n = record { outputs = refl; count = refl; change_size = refl; paid = refl }
load_is_by p false n = record { outputs = refl; count = refl; change_size = refl; paid = refl }

pub load_is : (p : PlainPlan) (n : ℕ) → IsLoadOf p.request p.change (load_for p n)
load_is p n = load_is_by p (n == 0) n

grouped_count : (groups : List (List Candidate)) → length (flat_map (λ (g : List Candidate). g) groups) ≡ sum_by (λ (g : List Candidate). length g) groups
grouped_count [] = refl
grouped_count (g ∷ groups) = omega (arith, grouped_count groups, length-append g (flat_map (λ (h : List Candidate). h) groups), sum_by-cons (λ (h : List Candidate). length h) g groups)

in_groups : (groups : List (List Candidate)) (g : List Candidate) (c : Candidate) → Contains groups g → Contains g c → Contains (flat_map (λ (h : List Candidate). h) groups) c
in_groups [] g c held has = absurd (omega (arith, held.1))
in_groups (h ∷ groups) g c held has =
    elim (cons_cases h groups g held) [
      | inl same ↦ Contains-append_left h (flat_map (λ (x : List Candidate). x) groups) c (subst (λ (x : List Candidate). Contains x c) (sym same) has)
      | inr later ↦ Contains-append_right h (flat_map (λ (x : List Candidate). x) groups) c (in_groups groups g c later has)
    ]

-- no more coins are spent than are at hand
hand_by : (p : PlainPlan) (b : Bool) (n : ℕ) (coins : List Candidate) → AreApart coins → All (IsAtHandBy p b n) coins → length coins ≤ (load_by p b n).coins
unfolding load_of
hand_by p true n coins apart held = some_count coins (presets_in p) apart held
hand_by p false n coins apart held =
    let groups = (pool_in p (row_of p n)).groups in
    let all = presets_in p ++ flat_map (λ (g : List Candidate). g) groups in
    let there : All (Contains all) coins =
    All-weaker (IsAtHandBy p false n) (Contains all)
    (λ c at. elim at [
      | inl given ↦ Contains-append_left (presets_in p) (flat_map (λ (g : List Candidate). g) groups) c given
      | inr chosen ↦ Contains-append_right (presets_in p) (flat_map (λ (g : List Candidate). g) groups) c (in_groups groups chosen.0 c chosen.1 chosen.2)
    ]) coins held in
    omega (arith, some_count coins all apart there, length-append (presets_in p) (flat_map (λ (g : List Candidate). g) groups), grouped_count groups)

pub at_hand_count : (p : PlainPlan) (f : PlainFunded) → IsPayment p f → length f.coins ≤ (load_for p f.row).coins
at_hand_count p f a = hand_by p (f.row == 0) f.row f.coins (sorted_apart f.coins a.pays.sorted) a.at_hand

pub answer_weighed : (p : PlainPlan) (f : PlainFunded) → IsPayment p f → All HasOutpoint f.coins → IsWeighed f.change f.weight (signed_weight p.request p.change f.coins f.change) (room_of (load_for p f.row) f.coins)
answer_weighed p f a points =
    let l = load_for p f.row in
    subst (λ (n : ℕ). IsWeighed f.change n (signed_weight p.request p.change f.coins f.change) (room_of l f.coins)) (sym a.weight_is)
    (weighed p.request p.change l f.coins f.change (load_is p f.row) (at_hand_count p f a) a.coins (points_fit p.request f.coins points) a.pays.weight)
