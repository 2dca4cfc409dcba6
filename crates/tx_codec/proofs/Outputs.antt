-- Reading the outputs, one after the other, with their number and the sum of their values.
use Rattle.std.proofs.Common.{◌≡◌, ◌≢◌, ℕ, ◌+◌, ◌≤◌, ◌<◌, List, [], ◌∷◌, ◌++◌, length, Ok, Err, refl, arith}
use Rattle.std.specs.Prelude.{sum_by}
use Rattle.std.proofs.lemmas.List.{length-append}
use Rattle.std.proofs.lemmas.List.Sums.{sum_by_push}
use Rattle.fund_base.specs.Cursor.{At}
use Rattle.fund_base.specs.Parsing.{many_from}
use Rattle.fund_base.proofs.Repeat.{SoFar, so_far_none, so_far_more, so_far_all, so_far_fails}
use Rattle.tx_codec.specs.declared.fault.TxFault.{TxFault}
use Rattle.tx_codec.specs.declared.fault.TxFault.TheVariants.{Memory}
use Rattle.tx_codec.specs.declared.tx.TxOut.{TxOut}
use Rattle.tx_codec.specs.Reading.{output_at, output_in}

abbrev pub worth : List TxOut → ℕ
worth outputs = sum_by (λ (o : TxOut). o.value) outputs

pub record OutputsSoFar (count : ℕ) (from : At) (done : List TxOut) (i sum : ℕ) (now : At) : Type 0 where
  pub so_far : SoFar output_in count from done i now
  pub number : i ≡ length done
  pub total : sum ≡ worth done
  pub range : sum ≤ 2_100_000_000_000_000

pub outputs_more : (count : ℕ) (from : At) (done : List TxOut) (i sum : ℕ) (now : At) (o : TxOut) (next : At) → i < count → output_at i sum now ≡ Ok (o, next) → sum + o.value ≤ 2_100_000_000_000_000
    → OutputsSoFar count from done i sum now → OutputsSoFar count from (done ++ o ∷ []) (i + 1) (sum + o.value) next
outputs_more count from done i sum now o next lt h range so_far =
    let same : output_in done now ≡ Ok (o, next) = rw (← so_far.number, ← so_far.total) h in
    record {
      so_far = so_far_more output_in count from done i now o next lt same so_far.so_far;
      number = omega (arith, so_far.number, length-append done (o ∷ []));
      total = rw (sum_by_push, ← so_far.total) refl;
      range = range;
    }

pub outputs_fail : (count : ℕ) (from : At) (done : List TxOut) (i sum : ℕ) (now : At) (e : TxFault) → i < count → (e ≢ Memory → output_at i sum now ≡ Err e)
    → OutputsSoFar count from done i sum now → e ≢ Memory → many_from output_in count [] from ≡ Err e
outputs_fail count from done i sum now e lt h so_far =
    so_far_fails output_in count from done i now Memory e lt (λ other. rw (← so_far.number, ← so_far.total) (h other)) so_far.so_far

pub outputs_none : (count : ℕ) (from : At) → OutputsSoFar count from [] 0 0 from
outputs_none count from = record { so_far = so_far_none output_in count from; number = refl; total = refl; range = omega arith }

pub outputs_all : (count : ℕ) (from : At) (done : List TxOut) (i sum : ℕ) (now : At) → count ≤ i → OutputsSoFar count from done i sum now → many_from output_in count [] from ≡ Ok (done, now)
outputs_all count from done i sum now le so_far = so_far_all output_in count from done i now le so_far.so_far
