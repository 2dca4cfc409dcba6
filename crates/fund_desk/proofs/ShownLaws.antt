-- The inputs of a payment show its coins, where each of these may still be spent.
use Rattle.std.specs.Prelude.{ℕ, ◌≡◌, List, All, Some, slice_get}
use Rattle.std.proofs.Common.{sym, ap, ◌∙◌}
use Rattle.std.proofs.lemmas.List.Elements.{All-contains, All-weaker}
use Rattle.coin_book.specs.Coins.{parent_of}
use Rattle.coin_book.specs.History.{History}
use Rattle.coin_candidates.specs.declared.candidate.Candidate.{Candidate}
use Rattle.fund_base.specs.declared.outpoint.OutPoint.{OutPoint}
use Rattle.fund_files.specs.declared.chain.Chain.{Chain}
use Rattle.fund_payment.proofs.ShownLaws.{shown_all}
use Rattle.fund_payment.specs.Report.{psbt_of}
use Rattle.fund_payment.specs.Shown.{ShowsCoins}
use Rattle.fund_plan.specs.Selection.{PlainFunded}
use Rattle.payment_states.specs.Makers.{HasMaker, output_of}
use Rattle.request_text.specs.PlainRequest.{PlainRequest}
use Rattle.tx_codec.specs.declared.tx.TxOut.{TxOut}
use Rattle.wallet_text.specs.declared.wallet.Watch.{Watch}
use Rattle.desk_machine.specs.Commits.{IsSame, IsSpendable}
use Rattle.desk_machine.specs.State.{Payment, candidates_in}

abbrev output : ℕ → List ℕ → TxOut
output value script = record { value = value; script = script }

output_same : (c t : Candidate) → IsSame c t → output_of t ≡ output_of c
output_same c t s = ap (λ (v : ℕ). output v t.script) (sym s.value) ∙ ap (λ (x : List ℕ). output c.value x) (sym s.script)

-- what made a coin made each coin of the same output, value, weight and script
maker_same : (h : History) (c t : Candidate) → IsSame c t → HasMaker h t → HasMaker h c
maker_same h c t same m = record {
  maker = m.maker;
  parent = ap (parent_of h) same.coin ∙ m.parent;
  makes = record {
    txid = m.makes.txid ∙ sym (ap (λ (o : OutPoint). o.txid) same.coin);
    output = ap (λ (o : OutPoint). slice_get m.maker.outputs o.index) same.coin ∙ m.makes.output ∙ ap (λ (o : TxOut). Some o) (output_same c t same);
  };
}

pub still_shown : (k : Chain) (r : PlainRequest) (change : Watch) (f : PlainFunded) (ps : List Payment) (q : PlainRequest) (n : ℕ) → All (HasMaker k.book) (candidates_in k) → All (IsSpendable ps (candidates_in k) q n) f.coins → ShowsCoins f.coins (psbt_of k.book r change f)
still_shown k r change f ps q n made all =
    shown_all k.book r change f (All-weaker (IsSpendable ps (candidates_in k) q n) (HasMaker k.book) (λ c s. maker_same k.book c s.there s.same (All-contains (HasMaker k.book) (candidates_in k) s.there made s.stands)) f.coins all)
