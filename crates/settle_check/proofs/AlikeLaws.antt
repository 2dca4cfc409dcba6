-- Inputs that spend alike, and outputs that pay alike.
use Rattle.std.proofs.Common.{◌≡◌, ◌∙◌, ℕ, Bool, true, false, List, [], ◌==◌, sym, ap}
use Rattle.std.specs.Prelude.{◌&&◌}
use Rattle.std.specs.Bool.{Decides}
use Rattle.std.proofs.lemmas.Bool.Decides.{Decides-and, Decides-eqb, Decides-like}
use Rattle.fund_base.proofs.OutpointLaws.{same_outpoint-Decides}
use Rattle.fund_base.specs.Outpoints.{same_outpoint}
use Rattle.fund_base.specs.declared.outpoint.OutPoint.{OutPoint}
use Rattle.tx_codec.specs.declared.tx.TxIn.{TxIn}
use Rattle.tx_codec.specs.declared.tx.TxOut.{TxOut}
use Rattle.settle_check.specs.Settled.{bare_input}

abbrev bare : OutPoint → ℕ → TxIn
bare o n = record { prev = o; script = []; sequence = n; witness = [] }

same_parts : (o p : OutPoint) (m n : ℕ) → o ≡ p → m ≡ n → bare o m ≡ bare p n
same_parts o p m n a b = ap (λ (x : OutPoint). bare x m) a ∙ ap (λ (k : ℕ). bare p k) b

-- inputs spend alike exactly where they are the same but for what signs them
pub alike_Decides : (a b : TxIn) → Decides (same_outpoint a.prev b.prev && (a.sequence == b.sequence)) (bare_input a ≡ bare_input b)
alike_Decides a b =
    Decides-like (same_outpoint a.prev b.prev && (a.sequence == b.sequence)) (λ h. same_parts a.prev b.prev a.sequence b.sequence h.0 h.1) (λ e. (ap (λ (i : TxIn). i.prev) e, ap (λ (i : TxIn). i.sequence) e))
    (Decides-and (same_outpoint a.prev b.prev) (a.sequence == b.sequence) (same_outpoint-Decides a.prev b.prev) (Decides-eqb a.sequence b.sequence))

-- where a test of it gave this
pub alike_inputs : (a b : TxIn) (t : Bool) → t ≡ (same_outpoint a.prev b.prev && (a.sequence == b.sequence)) → t ≡ true → bare_input a ≡ bare_input b
alike_inputs a b t is e = (alike_Decides a b).0 (sym is ∙ e)

pub other_inputs : (a b : TxIn) (t : Bool) → t ≡ (same_outpoint a.prev b.prev && (a.sequence == b.sequence)) → t ≡ false → bare_input a ≡ bare_input b → ⊥
other_inputs a b t is e same = let yes : t ≡ true = is ∙ (alike_Decides a b).1 same in absurd cc

-- an output is told by its value and its script
pub same_output : (o p : TxOut) → o.value ≡ p.value → o.script ≡ p.script → o ≡ p
same_output o p v s =
    let by_value : ℕ → TxOut = λ n. record { value = n; script = o.script } in
    let by_script : List ℕ → TxOut = λ b. record { value = p.value; script = b } in
    ap by_value v ∙ ap by_script s
