-- A text is one PSBT at most, and its first input that may not be spent is one.
use Rattle.std.specs.Prelude.{ℕ, ◌≡◌, List, [], ◌∷◌, ◌++◌, Contains, Result, Ok, Err}
use Rattle.std.proofs.Common.{refl, sym, ap, subst, inl, inr, ◌∙◌}
use Rattle.std.proofs.lemmas.List.Elements.{All-contains, All-head, All-tail, Contains-append_right}
use Rattle.base64.proofs.EngineFacts.{decode_of-encode_of}
use Rattle.base64.specs.Engines.{standard}
use Rattle.base64.specs.GeneralPurpose.{decode_of, encode_of}
use Rattle.fund_base.proofs.LawsOfNumbers.{byte_at}
use Rattle.fund_base.specs.Cursor.{IsBytes}
use Rattle.coin_candidates.specs.declared.candidate.Candidate.{Candidate}
use Rattle.fund_base.specs.declared.outpoint.OutPoint.{OutPoint}
use Rattle.fund_plan.specs.Pays.{unsigned_input}
use Rattle.fund_report.specs.PlainFunded.{PlainFunded}
use Rattle.fund_steps.specs.Plan.{PlainPlan}
use Rattle.output_groups.proofs.Members.{all_from, from_map, head_in}
use Rattle.psbt_codec.proofs.Readable.{read_again, versioned_in}
use Rattle.psbt_codec.specs.PartialTransaction.{PartialTransaction}
use Rattle.psbt_codec.specs.Reading.{of_version, read_of, versioned_of}
use Rattle.psbt_codec.specs.Text.{HasPsbtFault, IsPsbtText, IsPsbtTextIn}
use Rattle.psbt_codec.specs.declared.fault.PsbtFault.{PsbtFault}
use Rattle.psbt_codec.specs.declared.psbt.Versioned.{Versioned}
use Rattle.tx_codec.specs.declared.tx.TxIn.{TxIn}
use Rattle.report_check.specs.Payment.{AreSpendable, HasSpendable, IsFirstForeign, MayBeSpent, PaysBy}

-- ---- the PSBT

one_ok : {X E : Type 0} (a b : X) (r : Result X E) → r ≡ Ok a → r ≡ Ok b → a ≡ b
one_ok {X = X} {E = E} a b r h k = let both : ◌≡◌ {A = Result X E} (Ok a) (Ok b) = sym h ∙ k in cc

one_err : {X E : Type 0} (a b : E) (r : Result X E) → r ≡ Err a → r ≡ Err b → a ≡ b
one_err {X = X} {E = E} a b r h k = let both : ◌≡◌ {A = Result X E} (Err a) (Err b) = sym h ∙ k in cc

not_both : {X E : Type 0} (a : X) (b : E) (r : Result X E) → r ≡ Ok a → r ≡ Err b → ⊥
not_both {X = X} {E = E} a b r h k = let both : ◌≡◌ {A = Result X E} (Ok a) (Err b) = sym h ∙ k in cc

decoded : (text bytes : List ℕ) → IsBytes bytes → text ≡ encode_of standard bytes → decode_of standard text ≡ Ok bytes
decoded text bytes are is = ap (decode_of standard) is ∙ decode_of-encode_of standard bytes refl (λ i. byte_at bytes i are)

one_bytes : (text b c : List ℕ) → IsBytes b → IsBytes c → text ≡ encode_of standard b → text ≡ encode_of standard c → b ≡ c
one_bytes text b c are_b are_c is_b is_c = one_ok b c (decode_of standard text) (decoded text b are_b is_b) (decoded text c are_c is_c)

pub one_psbt : (text : List ℕ) (t u : PartialTransaction) → IsPsbtText text t → IsPsbtText text u → t ≡ u
one_psbt text t u h k =
    let same : h.bytes ≡ k.bytes = one_bytes text h.bytes k.bytes h.are_bytes k.are_bytes h.text_is k.text_is in
    one_ok t u (read_of k.bytes) (subst (λ (b : List ℕ). read_of b ≡ Ok t) same (read_again h.bytes t h.readable)) (read_again k.bytes u k.readable)

-- and in one version
pub one_psbt_in : (text : List ℕ) (v w : ℕ) (t u : PartialTransaction) → IsPsbtTextIn v text t → IsPsbtTextIn w text u → (v ≡ w) × (t ≡ u)
one_psbt_in text v w t u h k =
    let same : h.0.bytes ≡ k.0.bytes = one_bytes text h.0.bytes k.0.bytes h.0.are_bytes k.0.are_bytes h.0.text_is k.0.text_is in
    let first : versioned_of h.0.bytes ≡ Ok (of_version v t) = versioned_in h.0.bytes v t (h.0.readable, h.1) in
    let both = one_ok (of_version v t) (of_version w u) (versioned_of k.0.bytes) (subst (λ (b : List ℕ). versioned_of b ≡ Ok (of_version v t)) same first) (versioned_in k.0.bytes w u (k.0.readable, k.1)) in
    (ap (λ (x : Versioned). x.version) both, ap (λ (x : Versioned). x.psbt) both)

pub psbt_apart : (text : List ℕ) (t : PartialTransaction) (e : PsbtFault) → IsPsbtText text t → HasPsbtFault text e → ⊥
psbt_apart text t e h (inl (is, none)) = none h.bytes h.are_bytes h.text_is
psbt_apart text t e h (inr (bytes, are, is, read)) =
    let same : h.bytes ≡ bytes = one_bytes text h.bytes bytes h.are_bytes are h.text_is is in
    not_both t e (read_of bytes) (subst (λ (b : List ℕ). read_of b ≡ Ok t) same (read_again h.bytes t h.readable)) read

pub one_psbt_fault : (text : List ℕ) (d e : PsbtFault) → HasPsbtFault text d → HasPsbtFault text e → d ≡ e
one_psbt_fault text d e (inl (is, none)) (inl (too, again)) = is ∙ sym too
one_psbt_fault text d e (inl (is, none)) (inr (bytes, are, same, read)) = absurd (none bytes are same)
one_psbt_fault text d e (inr (bytes, are, same, read)) (inl (too, none)) = absurd (none bytes are same)
one_psbt_fault text d e (inr (b, are_b, is_b, read_b)) (inr (c, are_c, is_c, read_c)) =
    let same : b ≡ c = one_bytes text b c are_b are_c is_b is_c in
    one_err d e (read_of c) (subst (λ (bytes : List ℕ). read_of bytes ≡ Err d) same read_b) read_c

-- ---- its inputs

first_same : (p : PlainPlan) (n : ℕ) (f fr g gr : List TxIn) (i j : TxIn) → f ++ i ∷ fr ≡ g ++ j ∷ gr → AreSpendable p n f → AreSpendable p n g → (HasSpendable p n i.prev → ⊥) → (HasSpendable p n j.prev → ⊥) → i ≡ j
first_same p n [] fr [] gr i j e h k a b = cc
first_same p n [] fr (y ∷ g) gr i j e h k a b =
    let same : y ≡ i = cc in
    absurd (a (subst (λ (x : TxIn). HasSpendable p n x.prev) same (All-head (λ (x : TxIn). HasSpendable p n x.prev) y g k)))
first_same p n (x ∷ f) fr [] gr i j e h k a b =
    let same : x ≡ j = cc in
    absurd (b (subst (λ (y : TxIn). HasSpendable p n y.prev) same (All-head (λ (y : TxIn). HasSpendable p n y.prev) x f h)))
first_same p n (x ∷ f) fr (y ∷ g) gr i j e h k a b =
    first_same p n f fr g gr i j (cc) (All-tail (λ (z : TxIn). HasSpendable p n z.prev) x f h) (All-tail (λ (z : TxIn). HasSpendable p n z.prev) y g k) a b

never : (p : PlainPlan) (n : ℕ) (inputs : List TxIn) (point : OutPoint) (h : IsFirstForeign p n inputs point) → HasSpendable p n h.input.prev → ⊥
never p n inputs point h k = h.foreign (subst (HasSpendable p n) h.point_is k)

pub one_foreign : (p : PlainPlan) (n : ℕ) (inputs : List TxIn) (a b : OutPoint) → IsFirstForeign p n inputs a → IsFirstForeign p n inputs b → a ≡ b
one_foreign p n inputs a b h k =
    let same : h.input ≡ k.input = first_same p n h.front h.rest k.front k.rest h.input k.input (sym h.parts ∙ k.parts) h.before k.before (never p n inputs a h) (never p n inputs b k) in
    sym h.point_is ∙ (ap (λ (i : TxIn). i.prev) same ∙ k.point_is)

pub foreign_apart : (p : PlainPlan) (n : ℕ) (inputs : List TxIn) (point : OutPoint) → AreSpendable p n inputs → IsFirstForeign p n inputs point → ⊥
foreign_apart p n inputs point h k =
    let there : Contains inputs k.input = subst (λ (xs : List TxIn). Contains xs k.input) (sym k.parts) (Contains-append_right k.front (k.input ∷ k.rest) k.input (head_in k.input k.rest)) in
    never p n inputs point k (All-contains (λ (i : TxIn). HasSpendable p n i.prev) inputs k.input h there)

-- what pays spends coins that may be spent
pub paid_spendable : (p : PlainPlan) (f : PlainFunded) (t : PartialTransaction) → PaysBy p f t → AreSpendable p f.row t.tx.inputs
paid_spendable p f t h =
    let input : Candidate → TxIn = unsigned_input p.request.replaceable in
    all_from (λ (i : TxIn). HasSpendable p f.row i.prev) t.tx.inputs
    (λ i there.
    let at = from_map input h.coins i (subst (λ (xs : List TxIn). Contains xs i) h.pays.inputs there) in
    (at.0, All-contains (MayBeSpent p f.row) h.coins at.0 h.spendable at.1, ap (λ (x : TxIn). x.prev) at.2))
