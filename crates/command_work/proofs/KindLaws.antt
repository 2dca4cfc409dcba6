-- The three scripts keep the rules of a wallet.
use Rattle.std.proofs.Common.{◌≡◌, ◌≢◌, ℕ, zero, suc, ◌<◌, ◌≤◌, List, [], ◌∷◌, ◌++◌, length, get_or, refl, ap, arith}
use Rattle.std.specs.Prelude.{All, AllPairs, replicate}
use Rattle.std.proofs.lemmas.List.Elements.{All-append, All-cons, All-nil, All-replicate}
use Rattle.std.proofs.lemmas.List.Kept.{AllPairs-cons}
use Rattle.fund_base.specs.Cursor.{IsBytes}
use Rattle.wallet_text.specs.WalletRules.{AreDistinctScripts, IsWatch}
use Rattle.wallet_text.specs.declared.wallet.Watch.{Watch}
use Rattle.command_work.specs.Kinds.{kind_of, script_of, watch_of, watches}
use Rattle.command_work.specs.declared.kind.Kind.{Kind}
use Rattle.command_work.specs.declared.kind.Kind.TheVariants.{WitnessKeyHash, Taproot, KeyHash}

pub last_kind : (n : ℕ) → n ≢ 0 → n ≢ 1 → kind_of n ≡ KeyHash
last_kind zero a b = absurd (a refl)
last_kind (suc zero) a b = absurd (b refl)
last_kind (suc (suc n)) a b = refl

abbrev Byte : ℕ → Type 0
Byte b = b < 256

pub script_bytes : (k : Kind) → IsBytes (script_of k)
unfolding script_of
script_bytes WitnessKeyHash = All-cons Byte 0 (20 ∷ replicate 20 17) (omega arith) (All-cons Byte 20 (replicate 20 17) (omega arith) (All-replicate Byte 20 17 (omega arith)))
script_bytes Taproot = All-cons Byte 81 (32 ∷ replicate 32 34) (omega arith) (All-cons Byte 32 (replicate 32 34) (omega arith) (All-replicate Byte 32 34 (omega arith)))
script_bytes KeyHash =
    let back : All Byte (136 ∷ 172 ∷ []) = All-cons Byte 136 (172 ∷ []) (omega arith) (All-cons Byte 172 [] (omega arith) (All-nil Byte)) in
    let rest = All-append Byte (replicate 20 51) (136 ∷ 172 ∷ []) (All-replicate Byte 20 51 (omega arith)) back in
    let hash : List ℕ = replicate 20 51 ++ 136 ∷ 172 ∷ [] in
    All-cons Byte 118 (169 ∷ 20 ∷ hash) (omega arith) (All-cons Byte 169 (20 ∷ hash) (omega arith) (All-cons Byte 20 hash (omega arith) rest))

pub script_some : (k : Kind) → 0 < length (script_of k)
unfolding script_of
script_some WitnessKeyHash = let e : length (script_of WitnessKeyHash) ≡ 22 = refl in omega arith
script_some Taproot = let e : length (script_of Taproot) ≡ 34 = refl in omega arith
script_some KeyHash = let e : length (script_of KeyHash) ≡ 25 = refl in omega arith

pub script_short : (k : Kind) → length (script_of k) ≤ 34
unfolding script_of
script_short WitnessKeyHash = let e : length (script_of WitnessKeyHash) ≡ 22 = refl in omega arith
script_short Taproot = let e : length (script_of Taproot) ≡ 34 = refl in omega arith
script_short KeyHash = let e : length (script_of KeyHash) ≡ 25 = refl in omega arith

weight_least : (k : Kind) → (165 ≤ (watch_of k).weight) × ((watch_of k).weight ≤ 400_000)
weight_least WitnessKeyHash = (omega arith, omega arith)
weight_least Taproot = (omega arith, omega arith)
weight_least KeyHash = (omega arith, omega arith)

pub watch_is : (k : Kind) → IsWatch (watch_of k)
watch_is k = record {
  some = script_some k;
  most = omega (arith, script_short k);
  bytes = script_bytes k;
  least_weight = (weight_least k).0;
  most_weight = (weight_least k).1;
}

pub watches_are : All IsWatch watches
watches_are = All-cons IsWatch (watch_of WitnessKeyHash) (watch_of Taproot ∷ watch_of KeyHash ∷ []) (watch_is WitnessKeyHash) (All-cons IsWatch (watch_of Taproot) (watch_of KeyHash ∷ []) (watch_is Taproot) (All-cons IsWatch (watch_of KeyHash) [] (watch_is KeyHash) (All-nil IsWatch)))

abbrev Apart : Watch → Watch → Type 0
Apart v w = v.script ≢ w.script

first_byte : (a b : List ℕ) (m n : ℕ) → get_or a 0 0 ≡ m → get_or b 0 0 ≡ n → m ≢ n → a ≢ b
first_byte a b m n x y other e = let same : get_or a 0 0 ≡ get_or b 0 0 = ap (λ (l : List ℕ). get_or l 0 0) e in other (omega arith)

pub watches_apart : AreDistinctScripts watches
unfolding script_of
watches_apart =
    let one : Apart (watch_of WitnessKeyHash) (watch_of Taproot) = first_byte _ _ 0 81 refl refl (λ e. absurd (omega arith)) in
    let two : Apart (watch_of WitnessKeyHash) (watch_of KeyHash) = first_byte _ _ 0 118 refl refl (λ e. absurd (omega arith)) in
    let three : Apart (watch_of Taproot) (watch_of KeyHash) = first_byte _ _ 81 118 refl refl (λ e. absurd (omega arith)) in
    let last : AllPairs Apart (watch_of KeyHash ∷ []) = AllPairs-cons Apart (watch_of KeyHash) [] (All-nil (Apart (watch_of KeyHash))) (λ i j d lt within. absurd (omega arith)) in
    let back : AllPairs Apart (watch_of Taproot ∷ watch_of KeyHash ∷ []) = AllPairs-cons Apart (watch_of Taproot) (watch_of KeyHash ∷ []) (All-cons (Apart (watch_of Taproot)) (watch_of KeyHash) [] three (All-nil (Apart (watch_of Taproot)))) last in
    AllPairs-cons Apart (watch_of WitnessKeyHash) (watch_of Taproot ∷ watch_of KeyHash ∷ []) (All-cons (Apart (watch_of WitnessKeyHash)) (watch_of Taproot) (watch_of KeyHash ∷ []) one (All-cons (Apart (watch_of WitnessKeyHash)) (watch_of KeyHash) [] two (All-nil (Apart (watch_of WitnessKeyHash))))) back
