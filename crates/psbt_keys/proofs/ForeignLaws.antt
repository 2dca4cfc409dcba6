-- The types of due pairs say nothing of the payment.
use Rattle.std.proofs.Common.{◌≡◌, ◌<◌, ◌⊎◌, ◌==◌, ◌||◌, ℕ, Bool, true, false, List, [], ◌∷◌, ◌++◌, map, Option, Some, None, All, refl, inl, inr, arith}
use Rattle.std.specs.Prelude.{Contains}
use Rattle.std.specs.List.{list_any, zip}
use Rattle.std.proofs.lemmas.Bool.{eqb-false}
use Rattle.std.proofs.lemmas.List.Elements.{All-append, All-cons, All-nil}
use Rattle.tx_codec.specs.declared.tx.TxIn.{TxIn}
use Rattle.tx_codec.specs.declared.tx.TxOut.{TxOut}
use Rattle.psbt_codec.specs.PartialTransaction.{PartialTransaction}
use Rattle.psbt_codec.specs.Psbt.{global_field_types, global_types, input_field_types, input_types, output_field_types}
use Rattle.psbt_codec.specs.declared.psbt.Spent.{Spent}
use Rattle.keys_text.specs.PlainKeys.{PlainEntry, PlainKeyPath, PlainKeys, PlainScriptKeys}
use Rattle.psbt_keys.specs.Origins.{due_for, entry_of, entry_pairs, global_due, input_dues, key_pairs, known_pair, output_dues, path_pair, script_pairs, spent_script, types_of_input, types_of_output}
use Rattle.psbt_keys.specs.Pairs.{pair_of_type}
use Rattle.psbt_keys.specs.declared.due.PairTypes.{PairTypes}
use Rattle.psbt_keys.proofs.DueLaws.{all_mapped}
use Rattle.psbt_keys.proofs.PlaceLaws.{first_or, has_none}
use Rattle.psbt_keys.proofs.SameLaws.{IsForeign}

-- a type of one byte that isn't among these
pub record IsClear (meant : List ℕ) (kind : ℕ) : Type 0 where
  pub small : kind < 253
  pub other : Contains meant kind → ⊥

lacks : (xs : List ℕ) (n : ℕ) → list_any (λ x. x == n) xs ≡ false → Contains xs n → ⊥
lacks [] n e c = has_none n c
lacks (x ∷ xs) n e c = by (x == n) refl e (first_or x xs n c) (λ rest there. lacks xs n rest there)
  where
    by : (b : Bool) → (x == n) ≡ b → (b || list_any (λ y. y == n) xs) ≡ false → Contains xs n ⊎ (x ≡ n) → (list_any (λ y. y == n) xs ≡ false → Contains xs n → ⊥) → ⊥
    by true same none h rest = absurd cc
    by false other none (inl there) rest = rest none there
    by false other none (inr is) rest = eqb-false x n other is

-- the types of a script's pairs
pub record AreClear (meant : List ℕ) (t : PairTypes) : Type 0 where
  pub redeem : IsClear meant t.redeem
  pub witness : IsClear meant t.witness
  pub internal : IsClear meant t.internal
  pub key : IsClear meant t.key
  pub taproot : IsClear meant t.taproot

clear : (meant : List ℕ) (kind : ℕ) → kind < 253 → list_any (λ x. x == kind) meant ≡ false → IsClear meant kind
clear meant kind small none = record { small = small; other = lacks meant kind none }

-- ---- due pairs

known_foreign : (meant : List ℕ) (kind : ℕ) (o : Option (List ℕ)) → IsClear meant kind → All (IsForeign meant) (known_pair kind o)
known_foreign meant kind None c = All-nil (IsForeign meant)
known_foreign meant kind (Some bytes) c = All-cons (IsForeign meant) (pair_of_type kind [] bytes) [] (record { kind = kind; key_data = []; small = c.small; key_is = refl; other = c.other }) (All-nil (IsForeign meant))

paths_foreign : (meant before : List ℕ) (kind : ℕ) (keys : List PlainKeyPath) → IsClear meant kind → All (IsForeign meant) (map (path_pair before kind) keys)
paths_foreign meant before kind keys c = all_mapped (IsForeign meant) (path_pair before kind) (λ k. record { kind = kind; key_data = k.key; small = c.small; key_is = refl; other = c.other }) keys

keys_foreign : (meant : List ℕ) (t : PairTypes) (o : Option (List ℕ)) (keys : List PlainKeyPath) → AreClear meant t → All (IsForeign meant) (key_pairs t o keys)
keys_foreign meant t None keys c = paths_foreign meant [] t.key keys c.key
keys_foreign meant t (Some x) keys c = paths_foreign meant (0 ∷ []) t.taproot keys c.taproot

script_foreign : (meant : List ℕ) (t : PairTypes) (s : PlainScriptKeys) → AreClear meant t → All (IsForeign meant) (script_pairs t s)
script_foreign meant t s c =
    let keys = key_pairs t s.internal s.keys in
    let internal = known_pair t.internal s.internal in
    let witness = known_pair t.witness s.witness in
    All-append (IsForeign meant) (known_pair t.redeem s.redeem) (witness ++ (internal ++ keys)) (known_foreign meant t.redeem s.redeem c.redeem)
    (All-append (IsForeign meant) witness (internal ++ keys) (known_foreign meant t.witness s.witness c.witness)
    (All-append (IsForeign meant) internal keys (known_foreign meant t.internal s.internal c.internal) (keys_foreign meant t s.internal s.keys c)))

due_foreign : (meant : List ℕ) (t : PairTypes) (entries : List PlainEntry) (script : Option (List ℕ)) → AreClear meant t → All (IsForeign meant) (due_for t entries script)
due_foreign meant t entries None c = All-nil (IsForeign meant)
due_foreign meant t entries (Some script) c = by (entry_of entries script)
  where
    by : (o : Option PlainEntry) → All (IsForeign meant) (entry_pairs t o)
    by None = All-nil (IsForeign meant)
    by (Some e) = script_foreign meant t e.known c

-- ---- those of a PSBT

pub global_foreign : (meant : List ℕ) (k : PlainKeys) → IsClear meant 1 → All (IsForeign meant) (global_due k)
global_foreign meant k c = paths_foreign meant [] 1 k.xpubs c

pub inputs_foreign : (meant : List ℕ) (k : PlainKeys) (p : PartialTransaction) → AreClear meant types_of_input → All (All (IsForeign meant)) (input_dues k p.tx.inputs p.spent)
inputs_foreign meant k p c = all_mapped (All (IsForeign meant)) (λ (s : TxIn × Spent). due_for types_of_input k.scripts (spent_script s)) (λ s. due_foreign meant types_of_input k.scripts (spent_script s) c) (zip p.tx.inputs p.spent)

pub outputs_foreign : (meant : List ℕ) (k : PlainKeys) (p : PartialTransaction) → AreClear meant types_of_output → All (All (IsForeign meant)) (output_dues k p.tx.outputs)
outputs_foreign meant k p c = all_mapped (All (IsForeign meant)) (λ (o : TxOut). due_for types_of_output k.scripts (Some o.script)) (λ o. due_foreign meant types_of_output k.scripts (Some o.script) c) p.tx.outputs

pub clear_global : IsClear global_types 1
clear_global = clear global_types 1 (omega arith) refl

pub clear_global_fields : IsClear global_field_types 1
clear_global_fields = clear global_field_types 1 (omega arith) refl

clear_of_input : (meant : List ℕ) → list_any (λ x. x == 4) meant ≡ false → list_any (λ x. x == 5) meant ≡ false → list_any (λ x. x == 23) meant ≡ false → list_any (λ x. x == 6) meant ≡ false → list_any (λ x. x == 22) meant ≡ false → AreClear meant types_of_input
clear_of_input meant er ew ei ek ep = record {
  redeem = clear meant 4 (omega arith) er;
  witness = clear meant 5 (omega arith) ew;
  internal = clear meant 23 (omega arith) ei;
  key = clear meant 6 (omega arith) ek;
  taproot = clear meant 22 (omega arith) ep;
}

clear_of_output : (meant : List ℕ) → list_any (λ x. x == 0) meant ≡ false → list_any (λ x. x == 1) meant ≡ false → list_any (λ x. x == 5) meant ≡ false → list_any (λ x. x == 2) meant ≡ false → list_any (λ x. x == 7) meant ≡ false → AreClear meant types_of_output
clear_of_output meant er ew ei ek ep = record {
  redeem = clear meant 0 (omega arith) er;
  witness = clear meant 1 (omega arith) ew;
  internal = clear meant 5 (omega arith) ei;
  key = clear meant 2 (omega arith) ek;
  taproot = clear meant 7 (omega arith) ep;
}

pub clear_input : AreClear input_types types_of_input
clear_input = clear_of_input input_types refl refl refl refl refl

pub clear_input_fields : AreClear input_field_types types_of_input
clear_input_fields = clear_of_input input_field_types refl refl refl refl refl

pub clear_lock : AreClear (17 ∷ 18 ∷ []) types_of_input
clear_lock = clear_of_input (17 ∷ 18 ∷ []) refl refl refl refl refl

pub clear_output : AreClear [] types_of_output
clear_output = clear_of_output [] refl refl refl refl refl

pub clear_output_fields : AreClear output_field_types types_of_output
clear_output_fields = clear_of_output output_field_types refl refl refl refl refl
