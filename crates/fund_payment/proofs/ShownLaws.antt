-- Each input shows its coin.
use Rattle.std.proofs.Common.{◌≡◌, ◌∙◌, ◌+◌, ◌≤◌, ◌&&◌, ◌||◌, inl, inr, ℕ, Bool, true, false, cond, List, [], ◌∷◌, length, map, Some, None, refl, ap, All}
use Rattle.std.specs.Prelude.{◌⊎◌, ◌==◌, nat_le, slice_index}
use Rattle.std.specs.List.{AllZip}
use Rattle.std.proofs.Math.Bool.{or-true}
use Rattle.std.proofs.lemmas.Bool.{and_from, and_parts, both_ways, eq-eqb, eqb-true, le-leb, leb-true, or_cases}
use Rattle.std.proofs.lemmas.List.Elements.{All-head, All-tail}
use Rattle.std.proofs.lemmas.Option.{none-some}
use Rattle.coin_book.specs.Coins.{parent_of}
use Rattle.coin_book.specs.History.{History}
use Rattle.fee_rates.specs.Output.{IsProgram, is_program_of}
use Rattle.coin_candidates.specs.declared.candidate.Candidate.{Candidate}
use Rattle.fund_plan.specs.Pays.{payment_from, unsigned_input}
use Rattle.fund_plan.specs.Selection.{PlainFunded}
use Rattle.payment_states.specs.Makers.{HasMaker, output_of}
use Rattle.psbt_codec.specs.declared.psbt.Spent.{Spent}
use Rattle.request_text.specs.PlainRequest.{PlainRequest}
use Rattle.tx_codec.specs.declared.tx.TxIn.{TxIn}
use Rattle.wallet_text.specs.declared.wallet.Watch.{Watch}
use Rattle.fund_payment.specs.Report.{psbt_of, spent_of}
use Rattle.fund_payment.specs.Shown.{ShowsCoin, ShowsCoins}

-- ---- witness programs

abbrev IsVersion : ℕ → Type 0
IsVersion v = (v ≡ 0) ⊎ ((81 ≤ v) × (v ≤ 96))

abbrev is_version : ℕ → Bool
is_version v = (v == 0) || (nat_le 81 v && nat_le v 96)

version_there : (v : ℕ) → ((v == 0) ≡ true) ⊎ ((nat_le 81 v && nat_le v 96) ≡ true) → IsVersion v
version_there v (inl e) = inl (eqb-true v 0 e)
version_there v (inr e) = let p = and_parts (nat_le 81 v) (nat_le v 96) e in inr (leb-true 81 v p.0, leb-true v 96 p.1)

version_back : (v : ℕ) → IsVersion v → is_version v ≡ true
version_back v (inl e) = ap (λ (b : Bool). b || (nat_le 81 v && nat_le v 96)) (eq-eqb v 0 e)
version_back v (inr h) = ap (λ (b : Bool). (v == 0) || b) (and_from (nat_le 81 v) (nat_le v 96) (le-leb 81 v h.0) (le-leb v 96 h.1)) ∙ or-true (v == 0)

program_there : (script : List ℕ) → is_program_of script ≡ true → IsProgram script
program_there script e =
    let v = slice_index script 0 in
    let n = length script in
    let a = and_parts ((nat_le 4 n && nat_le n 42) && is_version v) (slice_index script 1 + 2 == n) e in
    let b = and_parts (nat_le 4 n && nat_le n 42) (is_version v) a.0 in
    let s = and_parts (nat_le 4 n) (nat_le n 42) b.0 in
    record {
      sized = (leb-true 4 n s.0, leb-true n 42 s.1);
      version = version_there v (or_cases (v == 0) (nat_le 81 v && nat_le v 96) b.1);
      push = eqb-true (slice_index script 1 + 2) n a.1;
    }

program_back : (script : List ℕ) → IsProgram script → is_program_of script ≡ true
program_back script p =
    let v = slice_index script 0 in
    let n = length script in
    and_from ((nat_le 4 n && nat_le n 42) && is_version v) (slice_index script 1 + 2 == n)
    (and_from (nat_le 4 n && nat_le n 42) (is_version v) (and_from (nat_le 4 n) (nat_le n 42) (le-leb 4 n p.sized.0) (le-leb n 42 p.sized.1)) (version_back v p.version))
    (eq-eqb (slice_index script 1 + 2) n p.push)

-- ---- one input

shown_one : (h : History) (c : Candidate) → HasMaker h c → ShowsCoin c (spent_of h c)
unfolding spent_of
shown_one h c m = by (is_program_of c.script) refl
  where
    output : Spent
    output = record { whole = None; paid = Some (output_of c) }

    whole : Spent
    whole = record { whole = parent_of h c.coin; paid = None }

    by : (b : Bool) → is_program_of c.script ≡ b → ShowsCoin c (cond b output whole)
    by true e = record {
      shown = inl (record { paid = refl; alone = refl });
      program = (λ _. program_there c.script e, λ _. record { paid = refl; alone = refl });
    }
    by false e = record {
      shown = inr (record { maker = m.maker; whole = m.parent; makes = m.makes; alone = refl });
      program = (λ s. absurd (none-some (output_of c) s.paid), λ p. absurd (both_ways (is_program_of c.script) e (program_back c.script p)));
    }

-- ---- all inputs

spent_all : (h : History) (coins : List Candidate) → All (HasMaker h) coins → AllZip ShowsCoin coins (map (spent_of h) coins)
spent_all h [] m = tt
spent_all h (c ∷ coins) m = (shown_one h c (All-head (HasMaker h) c coins m), spent_all h coins (All-tail (HasMaker h) c coins m))

points_same : (b : Bool) (coins : List Candidate) → map (λ (i : TxIn). i.prev) (map (unsigned_input b) coins) ≡ map (λ (c : Candidate). c.coin) coins
points_same b [] = refl
points_same b (c ∷ coins) = ap (λ rest. c.coin ∷ rest) (points_same b coins)

pub shown_all : (h : History) (r : PlainRequest) (change : Watch) (f : PlainFunded) → All (HasMaker h) f.coins → ShowsCoins f.coins (psbt_of h r change f)
unfolding psbt_of payment_from
shown_all h r change f made = record { inputs = points_same r.replaceable f.coins; each = spent_all h f.coins made }
