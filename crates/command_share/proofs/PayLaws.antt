-- A payment whose recipients keep what they are left with.
use Rattle.std.specs.Prelude.{ℕ, suc, ◌≡◌, ◌≤◌, ◌<◌, ◌+◌, List, [], ◌∷◌, length, map, sum, slice_index, All, Option, Some, None, IfSome}
use Rattle.std.proofs.Common.{refl, ◌∙◌, arith}
use Rattle.std.proofs.lemmas.List.{length-map}
use Rattle.std.proofs.lemmas.List.Elements.{All-cons, All-head, All-nil, All-tail}
use Rattle.std.proofs.lemmas.List.Sums.{sum_by-cons}
use Rattle.fee_rates.specs.Fee.{fee_of, vsize_of}
use Rattle.fee_rates.specs.Output.{dust_of}
use Rattle.fee_sharing.specs.RowShares.{amount_of}
use Rattle.fee_sharing.specs.Shares.{AreLeft}
use Rattle.fund_plan.specs.Pays.{outputs_of}
use Rattle.fund_steps.specs.Amounts.{value_of}
use Rattle.request_text.specs.PlainRequest.{IsRecipient, IsRequest, PlainRequest, paid_to}
use Rattle.request_text.specs.declared.request.Recipient.{Recipient}
use Rattle.fund_files.specs.declared.chain.Chain.{Chain}
use Rattle.command_amounts.specs.Amounts.{amounts_of, given}
use Rattle.command_amounts.specs.Signing.{CanBeSigned}
use Rattle.command_share.specs.Endings.{CanPay}
use Rattle.command_share.specs.Paying.{PlainPaying, amounts_left, dusts_of, shared_request}

abbrev amount_in : Recipient → ℕ
amount_in q = q.amount

abbrev dust_in : Recipient → ℕ
dust_in q = dust_of q.script

sum_cons : (n : ℕ) (ns : List ℕ) → sum (n ∷ ns) ≡ n + sum ns
sum_cons n ns = sum_by-cons (λ (m : ℕ). m) n ns

given_paid : (qs : List Recipient) (ns : List ℕ) → length ns ≡ length qs → paid_to (given qs ns) ≡ sum ns
given_paid [] [] same = refl
given_paid [] (n ∷ ns) same = absurd (omega (arith, same))
given_paid (q ∷ qs) [] same = absurd (omega (arith, same))
given_paid (q ∷ qs) (n ∷ ns) same =
    omega (arith, given_paid qs ns (omega (arith, same)), sum_cons n ns, sum_by-cons amount_in (record q { amount = n }) (given qs ns))

asked_sum : (qs : List Recipient) → sum (map amount_in qs) ≡ paid_to qs
asked_sum [] = refl
asked_sum (q ∷ qs) = omega (arith, asked_sum qs, sum_cons q.amount (map amount_in qs), sum_by-cons amount_in q qs)

given_kept : (qs : List Recipient) (ns : List ℕ) → All IsRecipient qs → ((k : ℕ) → k < length qs → slice_index (map dust_in qs) k ≤ slice_index ns k) → ((k : ℕ) → k < length qs → slice_index ns k ≤ slice_index (map amount_in qs) k) → All IsRecipient (given qs ns)
given_kept [] ns h least most = All-nil IsRecipient
given_kept (q ∷ qs) [] h least most = All-nil IsRecipient
given_kept (q ∷ qs) (n ∷ ns) h least most =
    let own = All-head IsRecipient q qs h in
    let dust : dust_of q.script ≤ n = least 0 (omega arith) in
    let less : n ≤ q.amount = most 0 (omega arith) in
    All-cons IsRecipient (record q { amount = n }) (given qs ns)
    (record { bytes = own.bytes; some = own.some; most = own.most; dust = dust; money = omega (arith, less, own.money) })
    (given_kept qs ns (All-tail IsRecipient q qs h) (λ k below. least (suc k) (omega (arith, below))) (λ k below. most (suc k) (omega (arith, below))))

given_count : (qs : List Recipient) (ns : List ℕ) → length ns ≡ length qs → length (given qs ns) ≡ length qs
given_count [] ns same = refl
given_count (q ∷ qs) [] same = absurd (omega (arith, same))
given_count (q ∷ qs) (n ∷ ns) same = omega (arith, given_count qs ns (omega (arith, same)))

module _ (r : PlainRequest) (borne : ℕ) (left : AreLeft borne (amounts_of r) (dusts_of r) (amounts_left r borne)) where
  asked_count : length (amounts_of r) ≡ length r.recipients
  asked_count = length-map r.recipients amount_in

  pub left_count : length (amounts_left r borne) ≡ length r.recipients
  left_count = left.count ∙ asked_count

  -- what the recipients get and bear is what they are asked to get
  pub paid_together : paid_to (shared_request r borne).recipients + borne ≡ paid_to r.recipients
  paid_together = omega (arith, given_paid r.recipients (amounts_left r borne) left_count, left.together, asked_sum r.recipients)

  pub request_kept : IsRequest r → IsRequest (shared_request r borne)
  request_kept h = record {
    some = omega (arith, h.some, given_count r.recipients (amounts_left r borne) left_count);
    recipients = given_kept r.recipients (amounts_left r borne) h.recipients (λ k below. left.dust k (omega (arith, below, asked_count))) (λ k below. omega (arith, left.each k (omega (arith, below, asked_count))));
    money = omega (arith, h.money, paid_together);
    rate = h.rate;
    long_term = h.long_term;
    discard = h.discard;
    change_target = h.change_target;
    seed = h.seed;
    tries = h.tries;
    coins = h.coins;
    distinct = h.distinct;
    bump = h.bump;
    alone = h.alone;
    locktime = h.locktime;
    psbt = h.psbt;
  }

  outputs_are : (change : Option ℕ) → outputs_of (shared_request r borne) change ≡ paid_to (shared_request r borne).recipients + amount_of change
  outputs_are None = omega arith
  outputs_are (Some amount) = refl

  -- the coins pay for the outputs and the fee
  pub pays_fee : (change : Option ℕ) (fee value : ℕ) → paid_to r.recipients + amount_of change + fee ≤ value + borne → outputs_of (shared_request r borne) change + fee ≤ value
  pays_fee change fee value covers = omega (arith, outputs_are change, paid_together, covers)

change_within : (change : Option ℕ) (most : ℕ) → amount_of change ≤ most → IfSome change (λ n. n ≤ most)
change_within None most h = tt
change_within (Some amount) most h = h

pub outputs_within : (k : Chain) (r : PlainRequest) (f : PlainPaying) → AreLeft f.borne (amounts_of r) (dusts_of r) (amounts_left r f.borne) → CanPay k r f → outputs_of (shared_request r f.borne) f.change ≤ value_of f.coins
outputs_within k r f left can = omega (arith, pays_fee r f.borne left f.change (fee_of r.rate (vsize_of f.weight)) (value_of f.coins) can.covers)

change_below : (r : PlainRequest) (change : Option ℕ) → amount_of change ≤ outputs_of r change
change_below r None = omega arith
change_below r (Some amount) = omega arith

pub can_sign : (k : Chain) (r : PlainRequest) (f : PlainPaying) → AreLeft f.borne (amounts_of r) (dusts_of r) (amounts_left r f.borne) → CanPay k r f → CanBeSigned (shared_request r f.borne) f.coins f.change
can_sign k r f left can =
    let within = outputs_within k r f left can in
    record {
      coins_fit = can.coins;
      some = can.some;
      change_fits = change_within f.change 2_100_000_000_000_000 (omega (arith, change_below (shared_request r f.borne) f.change, within, can.coins.value));
      within = within;
    }
