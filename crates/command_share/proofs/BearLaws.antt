-- The first recipient that can't bear its share.
use Rattle.std.specs.Prelude.{ℕ, zero, suc, ◌≡◌, ◌≤◌, ◌<◌, ◌+◌, nat_lt, List, [], ◌∷◌, length, slice_index, Some, None}
use Rattle.std.proofs.Common.{refl, sym, ap, subst, ◌∙◌, arith, inl, inr}
use Rattle.std.proofs.lemmas.Bool.{cases_lt, cond-false, cond-true, le-ltb, lt-ltb}
use Rattle.std.proofs.lemmas.List.{length-map}
use Rattle.fee_rates.specs.Output.{dust_of}
use Rattle.fee_sharing.specs.Shares.{AllReach, IsFirstShort, IsFirstShortAt, share_of}
use Rattle.fee_sharing.specs.declared.fault.ShareFault.{ShareFault}
use Rattle.fee_sharing.specs.declared.fault.ShareFault.TheVariants as faults
use Rattle.fund_steps.specs.Amounts.{value_of}
use Rattle.request_text.specs.PlainRequest.{PlainRequest}
use Rattle.request_text.specs.declared.request.Recipient.{Recipient}
use Rattle.fund_files.specs.declared.chain.Chain.{Chain}
use Rattle.command_amounts.specs.Amounts.{amounts_of}
use Rattle.command_amounts.specs.Coins.{coins_for}
use Rattle.command_share.proofs.OutcomeLaws.{dust_due}
use Rattle.command_share.specs.Bearing.{IsBearFault}
use Rattle.command_share.specs.Inputs.{IsFoundIn}
use Rattle.command_share.specs.Outcome.{ShareDust, shared}
use Rattle.command_share.specs.Paying.{PlainPaying, dusts_of, short_from, short_in}
use Rattle.command_share.specs.Results.{ComeTo}
use Rattle.command_share.specs.Rows.{PlainRun}
use Rattle.command_share.specs.Stops.{StopsSharing, bear_stop_of}
use Rattle.command_share.specs.declared.rows.RowsEnd.TheVariants as ends

no_less : (a b : ℕ) → (a < b → ⊥) → b ≤ a
no_less a b h =
    elim (cases_lt a b) [
      | inl less ↦ absurd (h less)
      | inr more ↦ more
    ]

same_count : (r : PlainRequest) → length (dusts_of r) ≡ length (amounts_of r)
same_count r = length-map r.recipients (λ (q : Recipient). dust_of q.script) ∙ sym (length-map r.recipients (λ (q : Recipient). q.amount))

module _ (borne count : ℕ) where
  abbrev AreShortAt : (place : ℕ) → (a d : ℕ) → Type 0
  AreShortAt place a d = a < share_of borne count place + d

  here : (place a d : ℕ) → AreShortAt (place + 0) a d → AreShortAt place a d
  here place a d h = subst (λ (n : ℕ). AreShortAt n a d) (plus place) h
    where
      plus : (n : ℕ) → n + 0 ≡ n
      plus n = omega arith

  here_too : (place a d : ℕ) → AreShortAt place a d → AreShortAt (place + 0) a d
  here_too place a d h = subst (λ (n : ℕ). AreShortAt n a d) (plus place) h
    where
      plus : (n : ℕ) → n ≡ n + 0
      plus n = omega arith

  later : (place k a d : ℕ) → AreShortAt (suc place + k) a d → AreShortAt (place + suc k) a d
  later place k a d h = subst (λ (n : ℕ). AreShortAt n a d) (plus place k) h
    where
      plus : (n k : ℕ) → suc n + k ≡ n + suc k
      plus n k = omega arith

  sooner : (place k a d : ℕ) → AreShortAt (place + suc k) a d → AreShortAt (suc place + k) a d
  sooner place k a d h = subst (λ (n : ℕ). AreShortAt n a d) (plus place k) h
    where
      plus : (n k : ℕ) → n + suc k ≡ suc n + k
      plus n k = omega arith

  goes_on : (place a d : ℕ) (others ds : List ℕ) → (AreShortAt place a d → ⊥) → short_from borne count place (a ∷ others) (d ∷ ds) ≡ short_from borne count (suc place) others ds
  goes_on place a d others ds enough =
      cond-false (nat_lt a (share_of borne count place + d)) (Some place) (short_from borne count (suc place) others ds) (le-ltb a (share_of borne count place + d) (no_less a (share_of borne count place + d) enough))

  none_from : (place : ℕ) (amounts dusts : List ℕ) → ((k : ℕ) → k < length amounts → AreShortAt (place + k) (slice_index amounts k) (slice_index dusts k) → ⊥) → short_from borne count place amounts dusts ≡ None
  none_from place [] dusts reach = refl
  none_from place (a ∷ others) [] reach = refl
  none_from place (a ∷ others) (d ∷ ds) reach =
      goes_on place a d others ds (λ short. reach 0 (omega arith) (here_too place a d short))
      ∙ none_from (suc place) others ds (λ k below short. reach (suc k) (omega (arith, below)) (later place k (slice_index others k) (slice_index ds k) short))

  first_from : (place : ℕ) (amounts dusts : List ℕ) (q : ℕ) → length dusts ≡ length amounts → q < length amounts → AreShortAt (place + q) (slice_index amounts q) (slice_index dusts q)
      → ((k : ℕ) → k < q → AreShortAt (place + k) (slice_index amounts k) (slice_index dusts k) → ⊥) → short_from borne count place amounts dusts ≡ Some (place + q)
  first_from place [] dusts q same below short before = absurd (omega (arith, below))
  first_from place (a ∷ others) [] q same below short before = absurd (omega (arith, same))
  first_from place (a ∷ others) (d ∷ ds) zero same below short before =
      cond-true (nat_lt a (share_of borne count place + d)) (Some place) (short_from borne count (suc place) others ds) (lt-ltb a (share_of borne count place + d) (here place a d short))
      ∙ ap (λ (n : ℕ). Some n) (plus place)
    where
      plus : (n : ℕ) → n ≡ n + 0
      plus n = omega arith
  first_from place (a ∷ others) (d ∷ ds) (suc q) same below short before =
      goes_on place a d others ds (λ now. before 0 (omega arith) (here_too place a d now))
      ∙ (first_from (suc place) others ds q (omega (arith, same)) (omega (arith, below)) (sooner place q (slice_index others q) (slice_index ds q) short) (λ k less now. before (suc k) (omega (arith, less)) (later place k (slice_index others k) (slice_index ds k) now))
      ∙ ap (λ (n : ℕ). Some n) (plus place q))
    where
      plus : (n k : ℕ) → suc n + k ≡ n + suc k
      plus n k = omega arith

none_plus : (k : ℕ) → 0 + k ≡ k
none_plus k = omega arith

pub none_short : (r : PlainRequest) (borne : ℕ) → AllReach borne (amounts_of r) (dusts_of r) → short_in r borne ≡ None
none_short r borne reach =
    let count = length (amounts_of r) in
    none_from borne count 0 (amounts_of r) (dusts_of r) (λ k below short. reach k below (subst (λ (n : ℕ). slice_index (amounts_of r) k < share_of borne count n + slice_index (dusts_of r) k) (none_plus k) short))

pub first_short : (r : PlainRequest) (borne place : ℕ) → IsFirstShort borne (amounts_of r) (dusts_of r) place → short_in r borne ≡ Some place
first_short r borne place h =
    let count = length (amounts_of r) in
    first_from borne count 0 (amounts_of r) (dusts_of r) place (same_count r) h.within
    (subst (λ (n : ℕ). slice_index (amounts_of r) place < share_of borne count n + slice_index (dusts_of r) place) (sym (none_plus place)) h.short)
    (λ k less now. h.before k less (subst (λ (n : ℕ). slice_index (amounts_of r) k < share_of borne count n + slice_index (dusts_of r) k) (none_plus k) now))
    ∙ ap (λ (n : ℕ). Some n) (none_plus place)

-- the first that can't bear its share is told by its index
pub dust_shown : (k : Chain) (r : PlainRequest) (run : PlainRun) (f : PlainPaying) (index : ℕ) → value_of (coins_for k r) ≤ 2_100_000_000_000_000 → ComeTo k r run → run.end ≡ ends.Found f → IsFirstShortAt f.borne (amounts_of r) (dusts_of r) index → shared k r ≡ ShareDust index
dust_shown k r run f index worth is e short = dust_due k r run f short.place worth is e (first_short r f.borne short.place short.first) ∙ ap ShareDust (sym short.index_is)

-- a recipient that can't bear its share
pub bear_stops : (k : Chain) (r : PlainRequest) (run : PlainRun) (f : PlainPaying) (fault : ShareFault) → value_of (coins_for k r) ≤ 2_100_000_000_000_000 → ComeTo k r run → run.end ≡ ends.Found f → IsFoundIn k r run.sections f → IsBearFault r f.borne fault → StopsSharing k r (bear_stop_of fault)
bear_stops k r run f (faults.ShareDust index) worth is e found short =
    (dust_shown k r run f index worth is e short, record { worth = worth; run = run; paying = f; comes_to = is; end_is = e; found = found; short = short })
bear_stops k r run f faults.Memory worth is e found short = tt
