-- The PSBT of a payment is made whole.
use Rattle.std.proofs.Common.{Bool, List, [], ◌∷◌, map, Option, Some, None, refl, ap, All}
use Rattle.std.specs.List.{AllZip, zip}
use Rattle.std.specs.Option.{option_or}
use Rattle.std.proofs.lemmas.Bool.{cond_both}
use Rattle.std.proofs.lemmas.List.Elements.{All-head, All-tail}
use Rattle.coin_book.specs.Coins.{parent_of}
use Rattle.coin_book.specs.History.{History}
use Rattle.fee_rates.specs.Output.{is_program_of}
use Rattle.coin_candidates.specs.declared.candidate.Candidate.{Candidate}
use Rattle.fund_files.specs.Chain.{HasTexts}
use Rattle.fund_payment.specs.Report.{psbt_of, spent_of}
use Rattle.fund_plan.specs.Pays.{payment_from, unsigned_input}
use Rattle.fund_plan.specs.Selection.{PlainFunded}
use Rattle.payment_states.specs.Makers.{HasMaker}
use Rattle.psbt_codec.specs.PartialTransaction.{PartialTransaction}
use Rattle.psbt_codec.specs.declared.psbt.Spent.{Spent}
use Rattle.request_text.specs.PlainRequest.{PlainRequest}
use Rattle.tx_codec.specs.Transaction.{Transaction}
use Rattle.wallet_text.specs.declared.wallet.Watch.{Watch}
use Rattle.command_complete.proofs.InputLaws.{book_parent}
use Rattle.command_complete.specs.Completed.{IsCompleted, IsCompletedInput}
use Rattle.command_complete.specs.Faults.{CanBeCompleted}

-- the input of a coin can be completed
input_can : (h : History) (b : Bool) (c : Candidate) → HasTexts h → HasMaker h c → CanBeCompleted h (unsigned_input b c, spent_of h c)
unfolding spent_of
input_can h b c texts m =
    let parent = book_parent h (unsigned_input b c) m.maker texts m.parent in
    cond_both (is_program_of c.script) (record { whole = None; paid = Some (record { value = c.value; script = c.script }) }) (record { whole = parent_of h c.coin; paid = None })
    (λ (s : Spent). CanBeCompleted h (unsigned_input b c, s))
    (λ _. (record { whole = Some m.maker; paid = Some (record { value = c.value; script = c.script }) }, record { whole = m.maker; is_due = m.parent; parent = parent; told = m.makes.output; shown = refl; paid = refl }))
    (λ _. (record { whole = Some m.maker; paid = None }, record { whole = m.maker; is_due = ap (λ (o : Option Transaction). option_or o (parent_of h c.coin)) m.parent; parent = parent; told = tt; shown = refl; paid = refl }))

Whole : History → Bool → List Candidate → Type 0
Whole h b coins = (xs : List Spent) × AllZip (IsCompletedInput h) (zip (map (unsigned_input b) coins) (map (spent_of h) coins)) xs

-- those of all coins
inputs_can : (h : History) (b : Bool) (coins : List Candidate) → HasTexts h → All (HasMaker h) coins → Whole h b coins
unfolding Whole
inputs_can h b [] texts m = ([], tt)
inputs_can h b (c ∷ coins) texts m =
    let first = input_can h b c texts (All-head (HasMaker h) c coins m) in
    let rest = inputs_can h b coins texts (All-tail (HasMaker h) c coins m) in
    (first.0 ∷ rest.0, (first.1, rest.1))

pub payment_whole : (h : History) (r : PlainRequest) (change : Watch) (f : PlainFunded) → HasTexts h → All (HasMaker h) f.coins → (q : PartialTransaction) × IsCompleted h (psbt_of h r change f) q
unfolding psbt_of payment_from Whole
payment_whole h r change f texts made =
    let inputs = inputs_can h r.replaceable f.coins texts made in
    (record { tx = (psbt_of h r change f).tx; spent = inputs.0 }, record { tx = refl; inputs = inputs.1 })
