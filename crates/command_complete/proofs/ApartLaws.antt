-- No two refusals of a PSBT file are said alike.
use Rattle.std.proofs.Common.{◌≡◌, ◌∙◌, ◌++◌, ◌<◌, ◌^◌, ℕ, List, ◌∷◌, codes, refl, sym, ap}
use Rattle.std.specs.Fmt.{decimal}
use Rattle.fault_laws.proofs.OtherFaults.{psbt_apart}
use Rattle.fault_laws.proofs.WordLaws.{after, decimal_apart, decimal_plain, differ, peel}
use Rattle.command_end.proofs.CoinLaws.{coins_apart}
use Rattle.command_end.specs.Coin.{IsShown, coin_text}
use Rattle.command_end.specs.Words.{psbt_fault_words}
use Rattle.fund_base.specs.declared.outpoint.OutPoint.{OutPoint}
use Rattle.psbt_codec.specs.declared.fault.PsbtFault.{PsbtFault}
use Rattle.psbt_codec.specs.declared.fault.PsbtFault.TheVariants as psbts
use Rattle.command_complete.specs.declared.fault.CompleteFault.TheVariants.{Missing, OtherOutput, Memory}
use Rattle.command_complete.specs.Numbers.{HasNumbers}
use Rattle.command_complete.specs.Words.{input_fault_words, refusal_words}
use Rattle.command_complete.specs.declared.stop.Refusal.{Refusal}
use Rattle.command_complete.specs.declared.stop.Refusal.TheVariants.{Psbt, OtherPairs, Input}

-- no fault of a PSBT begins with one of these words
other_pairs : (f : PsbtFault) → psbt_fault_words f ≡ codes "OtherPairs" → ⊥
unfolding psbt_fault_words
other_pairs psbts.Magic e = differ (codes "Magic") (codes "OtherPairs") refl e
other_pairs f e = differ (psbt_fault_words f) (codes "OtherPairs") refl e

no_missing : (f : PsbtFault) (rest : List ℕ) → psbt_fault_words f ≡ codes "Missing " ++ rest → ⊥
unfolding psbt_fault_words
no_missing psbts.Magic rest e = differ (codes "Magic") (codes "Missing " ++ rest) refl e
no_missing f rest e = differ (psbt_fault_words f) (codes "Missing " ++ rest) refl e

no_other_output : (f : PsbtFault) (rest : List ℕ) → psbt_fault_words f ≡ codes "OtherOutput " ++ rest → ⊥
unfolding psbt_fault_words
no_other_output psbts.Magic rest e = differ (codes "Magic") (codes "OtherOutput " ++ rest) refl e
no_other_output f rest e = differ (psbt_fault_words f) (codes "OtherOutput " ++ rest) refl e

-- an index and a coin are read from their words
fields : (i j : ℕ) (c d : OutPoint) → i < 2 ^ 128 → j < 2 ^ 128 → IsShown c → IsShown d → decimal i ++ (32 ∷ coin_text c) ≡ decimal j ++ (32 ∷ coin_text d) → (i ≡ j) × (c ≡ d)
fields i j c d a b x y e =
    let parts = peel (decimal i) (decimal j) (coin_text c) (coin_text d) (decimal_plain i a) (decimal_plain j b) e in
    (decimal_apart i j a b parts.0, coins_apart c d x y parts.1)

-- the words of the index and the coin of an input
abbrev told : ℕ → OutPoint → List ℕ
told i c = decimal i ++ (32 ∷ coin_text c)

pub refusals_apart : (a b : Refusal) → HasNumbers a → HasNumbers b → refusal_words a ≡ refusal_words b → a ≡ b
unfolding refusal_words input_fault_words
refusals_apart (Psbt f) (Psbt g) p q e = ap (λ (x : PsbtFault). Psbt x) (psbt_apart f g p q (after (codes "input psbt ") (psbt_fault_words f) (psbt_fault_words g) e))
refusals_apart (Psbt f) OtherPairs p q e = absurd (other_pairs f (after (codes "input psbt ") (psbt_fault_words f) (codes "OtherPairs") e))
refusals_apart (Psbt f) (Input (Missing j d)) p q e = absurd (no_missing f (told j d) (after (codes "input psbt ") (psbt_fault_words f) (codes "Missing " ++ told j d) e))
refusals_apart (Psbt f) (Input (OtherOutput j d)) p q e = absurd (no_other_output f (told j d) (after (codes "input psbt ") (psbt_fault_words f) (codes "OtherOutput " ++ told j d) e))
refusals_apart (Psbt f) (Input Memory) p q e = absurd q
refusals_apart OtherPairs (Psbt g) p q e = absurd (other_pairs g (after (codes "input psbt ") (psbt_fault_words g) (codes "OtherPairs") (sym e)))
refusals_apart OtherPairs OtherPairs p q e = refl
refusals_apart OtherPairs (Input (Missing j d)) p q e = absurd (differ (codes "OtherPairs") (codes "Missing " ++ told j d) refl (after (codes "input psbt ") (codes "OtherPairs") (codes "Missing " ++ told j d) e))
refusals_apart OtherPairs (Input (OtherOutput j d)) p q e = absurd (differ (codes "OtherPairs") (codes "OtherOutput " ++ told j d) refl (after (codes "input psbt ") (codes "OtherPairs") (codes "OtherOutput " ++ told j d) e))
refusals_apart OtherPairs (Input Memory) p q e = absurd q
refusals_apart (Input (Missing i c)) (Psbt g) p q e = absurd (no_missing g (told i c) (after (codes "input psbt ") (psbt_fault_words g) (codes "Missing " ++ told i c) (sym e)))
refusals_apart (Input (Missing i c)) OtherPairs p q e = absurd (differ (codes "Missing " ++ told i c) (codes "OtherPairs") refl (after (codes "input psbt ") (codes "Missing " ++ told i c) (codes "OtherPairs") e))
refusals_apart (Input (Missing i c)) (Input (Missing j d)) p q e =
    let same = fields i j c d p.0 q.0 p.1 q.1 (after (codes "input psbt Missing ") (told i c) (told j d) e) in
    ap (λ (n : ℕ). Input (Missing n c)) same.0 ∙ ap (λ (o : OutPoint). Input (Missing j o)) same.1
refusals_apart (Input (Missing i c)) (Input (OtherOutput j d)) p q e =
    absurd (differ (codes "Missing " ++ told i c) (codes "OtherOutput " ++ told j d) refl (after (codes "input psbt ") (codes "Missing " ++ told i c) (codes "OtherOutput " ++ told j d) e))
refusals_apart (Input (Missing i c)) (Input Memory) p q e = absurd q
refusals_apart (Input (OtherOutput i c)) (Psbt g) p q e = absurd (no_other_output g (told i c) (after (codes "input psbt ") (psbt_fault_words g) (codes "OtherOutput " ++ told i c) (sym e)))
refusals_apart (Input (OtherOutput i c)) OtherPairs p q e = absurd (differ (codes "OtherOutput " ++ told i c) (codes "OtherPairs") refl (after (codes "input psbt ") (codes "OtherOutput " ++ told i c) (codes "OtherPairs") e))
refusals_apart (Input (OtherOutput i c)) (Input (Missing j d)) p q e =
    absurd (differ (codes "OtherOutput " ++ told i c) (codes "Missing " ++ told j d) refl (after (codes "input psbt ") (codes "OtherOutput " ++ told i c) (codes "Missing " ++ told j d) e))
refusals_apart (Input (OtherOutput i c)) (Input (OtherOutput j d)) p q e =
    let same = fields i j c d p.0 q.0 p.1 q.1 (after (codes "input psbt OtherOutput ") (told i c) (told j d) e) in
    ap (λ (n : ℕ). Input (OtherOutput n c)) same.0 ∙ ap (λ (o : OutPoint). Input (OtherOutput j o)) same.1
refusals_apart (Input (OtherOutput i c)) (Input Memory) p q e = absurd q
refusals_apart (Input Memory) b p q e = absurd p
