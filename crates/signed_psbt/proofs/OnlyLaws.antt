-- A PSBT whose inputs are all final makes one transaction, and has no fault.
use Rattle.std.proofs.Common.{◌≡◌, ◌≢◌, ◌∙◌, ◌++◌, ℕ, Bool, true, false, List, [], ◌∷◌, All, Option, Some, None, refl, sym, ap, subst}
use Rattle.std.specs.Prelude.{Any, MatchResult, Result, length}
use Rattle.std.proofs.lemmas.List.{append-nil}
use Rattle.std.proofs.lemmas.List.Elements.{All-cons, All-head, All-nil, All-tail}
use Rattle.base64.specs.Engines.{standard}
use Rattle.base64.specs.GeneralPurpose.{encode_of}
use Rattle.fund_base.specs.CompactSize.{counted, prefixed}
use Rattle.fund_base.specs.Cursor.{At, IsBytes}
use Rattle.fund_base.specs.declared.outpoint.OutPoint.{OutPoint}
use Rattle.fund_base.proofs.Laws.{ok_is}
use Rattle.tx_codec.specs.Reading.{stack_at}
use Rattle.tx_codec.specs.Transaction.{Transaction}
use Rattle.tx_codec.specs.TransactionText.{HasWitness}
use Rattle.tx_codec.specs.declared.tx.TxIn.{TxIn}
use Rattle.tx_codec.specs.declared.tx.TxOut.{TxOut}
use Rattle.psbt_codec.specs.PartialTransaction.{PartialTransaction}
use Rattle.psbt_codec.specs.Psbt.{IsReadable, Pair}
use Rattle.psbt_codec.specs.Reading.{read_of, value_of}
use Rattle.psbt_codec.specs.declared.fault.PsbtFault.TheVariants.{Memory}
use Rattle.psbt_codec.proofs.PublicClauses.{only_memory}
use Rattle.psbt_codec.proofs.Readable.{read_again}
use Rattle.signed_psbt.specs.Signed.{AreFinal, CanBeFinal, IsFinal, IsFirstFault, IsInputFault, IsSignedPsbt, IsSignedText, IsStackOf}
use Rattle.signed_psbt.specs.declared.fault.SignedFault.{SignedFault}
use Rattle.signed_psbt.specs.declared.fault.SignedFault.TheVariants.{Psbt, Unsigned, Witness}
use Rattle.signed_psbt.proofs.StackLaws.{stack_reads, start}
use Rattle.signed_psbt.proofs.WholeLaws.{IsMade}

-- ---- one answer

same_stack : (o : Option (List ℕ)) (a b : List (List ℕ)) → IsStackOf o a → IsStackOf o b → a ≡ b
same_stack None a b p q = p ∙ sym q
same_stack (Some text) a b p q =
    let x = stack_reads.again a (start text) [] p.0 (p.1 ∙ sym (append-nil (counted prefixed a))) in
    let y = stack_reads.again b (start text) [] q.0 (q.1 ∙ sym (append-nil (counted prefixed b))) in
    ap (λ (z : List (List ℕ) × At). z.0) (ok_is (a, x.next) (b, y.next) (stack_at (start text)) x.reads y.reads)

abbrev input : OutPoint → List ℕ → ℕ → List (List ℕ) → TxIn
input prev script sequence witness = record { prev = prev; script = script; sequence = sequence; witness = witness }

same_parts : (o p : OutPoint) (s t : List ℕ) (m n : ℕ) (v w : List (List ℕ)) → o ≡ p → s ≡ t → m ≡ n → v ≡ w → input o s m v ≡ input p t n w
same_parts o p s t m n v w a b c d = ap (λ (x : OutPoint). input x s m v) a ∙ ap (λ (x : List ℕ). input p x m v) b ∙ ap (λ (x : ℕ). input p t x v) c ∙ ap (λ (x : List (List ℕ)). input p t n x) d

same_input : (i : TxIn) (m : List Pair) (j k : TxIn) → IsFinal i m j → IsFinal i m k → j ≡ k
same_input i m j k a b =
    same_parts j.prev k.prev j.script k.script j.sequence k.sequence j.witness k.witness (a.prev ∙ sym b.prev) (a.script ∙ sym b.script) (a.sequence ∙ sym b.sequence) (same_stack (value_of 8 m) j.witness k.witness a.witness b.witness)

same_inputs : (is : List TxIn) (ms : List (List Pair)) (js ks : List TxIn) → AreFinal is ms js → AreFinal is ms ks → js ≡ ks
same_inputs [] [] [] [] a b = refl
same_inputs [] [] [] (k ∷ ks) a b = absurd b
same_inputs [] [] (j ∷ js) ks a b = absurd a
same_inputs [] (m ∷ ms) js ks a b = absurd a
same_inputs (i ∷ is) [] js ks a b = absurd a
same_inputs (i ∷ is) (m ∷ ms) [] ks a b = absurd a
same_inputs (i ∷ is) (m ∷ ms) (j ∷ js) [] a b = absurd b
same_inputs (i ∷ is) (m ∷ ms) (j ∷ js) (k ∷ ks) a b =
    ap (λ (x : TxIn). x ∷ js) (same_input i m j k a.0 b.0) ∙ ap (λ (l : List TxIn). k ∷ l) (same_inputs is ms js ks a.1 b.1)

same_bool : (a b : Bool) → (a ≡ true → b ≡ true) → (b ≡ true → a ≡ true) → a ≡ b
same_bool true true f g = refl
same_bool true false f g = let h = f refl in absurd cc
same_bool false true f g = let h = g refl in absurd cc
same_bool false false f g = refl

abbrev whole : ℕ → List TxIn → List TxOut → ℕ → Bool → Transaction
whole version inputs outputs locktime segwit = record { version = version; inputs = inputs; outputs = outputs; locktime = locktime; segwit = segwit }

same_whole : (u v : ℕ) (is js : List TxIn) (os ps : List TxOut) (l k : ℕ) (a b : Bool) → u ≡ v → is ≡ js → os ≡ ps → l ≡ k → a ≡ b → whole u is os l a ≡ whole v js ps k b
same_whole u v is js os ps l k a b p q r s t =
    ap (λ (x : ℕ). whole x is os l a) p ∙ ap (λ (x : List TxIn). whole v x os l a) q ∙ ap (λ (x : List TxOut). whole v js x l a) r ∙ ap (λ (x : ℕ). whole v js ps x a) s ∙ ap (λ (x : Bool). whole v js ps k x) t

pub same_tx : (p : PartialTransaction) (maps : List (List Pair)) (t u : Transaction) → IsMade p maps t → IsMade p maps u → t ≡ u
same_tx p maps t u a b =
    let inputs = same_inputs p.tx.inputs maps t.inputs u.inputs a.final b.final in
    let there : HasWitness t → HasWitness u = λ h. subst (λ (l : List TxIn). Any (λ (i : TxIn). i.witness ≢ []) l) inputs h in
    let back : HasWitness u → HasWitness t = λ h. subst (λ (l : List TxIn). Any (λ (i : TxIn). i.witness ≢ []) l) (sym inputs) h in
    let form = same_bool t.segwit u.segwit (λ e. b.form.1 (there (a.form.0 e))) (λ e. a.form.1 (back (b.form.0 e))) in
    same_whole t.version u.version t.inputs u.inputs t.outputs u.outputs t.locktime u.locktime t.segwit u.segwit (a.version ∙ sym b.version) inputs (a.outputs ∙ sym b.outputs) (a.locktime ∙ sym b.locktime) form

-- what bytes hold is made by maps of the PSBT that was read
pub record Made (bytes : List ℕ) (p : PartialTransaction) (u : Transaction) : Type 0 where
  pub readable : IsReadable bytes p
  pub made : IsMade p readable.inputs u

pub as_made : (bytes : List ℕ) (p : PartialTransaction) (u : Transaction) → IsReadable bytes p → IsSignedPsbt bytes u → Made bytes p u
as_made bytes p u r s =
    let own : Made bytes s.psbt u = record { readable = s.readable; made = record { version = s.version; locktime = s.locktime; outputs = s.outputs; final = s.inputs; form = s.form } } in
    subst (λ (x : PartialTransaction). Made bytes x u) (ok_is s.psbt p (read_of bytes) (read_again bytes s.psbt s.readable) (read_again bytes p r)) own

-- ---- no fault

can_all : (is : List TxIn) (ms : List (List Pair)) (js : List TxIn) → AreFinal is ms js → All CanBeFinal ms
can_all [] [] [] h = All-nil CanBeFinal
can_all [] [] (j ∷ js) h = absurd h
can_all [] (m ∷ ms) js h = absurd h
can_all (i ∷ is) [] js h = absurd h
can_all (i ∷ is) (m ∷ ms) [] h = absurd h
can_all (i ∷ is) (m ∷ ms) (j ∷ js) h = let here = h.0 in All-cons CanBeFinal m ms (here.final, (j.witness, here.witness)) (can_all is ms js h.1)

all_middle : (front : List (List Pair)) (m : List Pair) (back : List (List Pair)) → All CanBeFinal (front ++ m ∷ back) → CanBeFinal m
all_middle [] m back all = All-head CanBeFinal m back all
all_middle (x ∷ front) m back all = all_middle front m back (All-tail CanBeFinal x (front ++ m ∷ back) all)

not_both : (n : ℕ) (pairs : List Pair) (e : SignedFault) → IsInputFault n pairs e → CanBeFinal pairs → ⊥
not_both n pairs (Psbt fault) wrong can = wrong
not_both n pairs (Unsigned index) wrong can = wrong.1 can.0
not_both n pairs (Witness index) wrong can = wrong.2 can.1.0 can.1.1

pub no_fault : (is : List TxIn) (ms : List (List Pair)) (js : List TxIn) (e : SignedFault) → AreFinal is ms js → IsFirstFault ms e → ⊥
no_fault is ms js e final first =
    let all : All CanBeFinal (first.before ++ first.pairs ∷ first.behind) = subst (λ (l : List (List Pair)). All CanBeFinal l) first.parts (can_all is ms js final) in
    not_both (length first.before) first.pairs e first.wrong (all_middle first.before first.pairs first.behind all)

pub memory_only : (e : SignedFault) → (e ≢ Psbt Memory → ⊥) → e ≡ Psbt Memory
memory_only (Psbt fault) h = ap Psbt (only_memory fault (λ ne. h (λ e. ne cc)))
memory_only (Unsigned index) h = absurd (h (λ e. absurd cc))
memory_only (Witness index) h = absurd (h (λ e. absurd cc))

-- ---- as text

pub text_only : (text own : List ℕ) → ((bytes : List ℕ) → IsBytes bytes → text ≡ encode_of standard bytes → own ≡ bytes) → (r : Result Transaction SignedFault)
    → ((t : Transaction) → IsSignedPsbt own t → MatchResult r (λ u. u ≡ t) (λ e. e ≡ Psbt Memory)) → (t : Transaction) → IsSignedText text t → MatchResult r (λ u. u ≡ t) (λ e. e ≡ Psbt Memory)
text_only text own same r only t s = only t (subst (λ (l : List ℕ). IsSignedPsbt l t) (sym (same s.bytes s.are_bytes s.text_is)) s.signed)
