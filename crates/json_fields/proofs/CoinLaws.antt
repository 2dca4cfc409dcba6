-- Which texts are read as coins.
use Rattle.std.proofs.Common.{◌≡◌, ◌<◌, ◌≤◌, ◌+◌, ◌^◌, ◌==◌, ℕ, zero, suc, Bool, true, false, cond, not, List, [], ◌∷◌, ◌++◌, length, get_or, take, drop, nat_lt, Option, Some, None, option_and_then, refl, sym, ap, subst, ◌∙◌, arith, true≢false, inl, inr, lit<}
use Rattle.std.proofs.Math.Seq.{take-append_seam, drop-append-add}
use Rattle.std.proofs.lemmas.Bool.{eqb-true, ltb-true, lt-ltb, cases_Bool}
use Rattle.std.proofs.lemmas.List.{length-append}
use Rattle.std.proofs.lemmas.List.Sums.{split_at_first, passes_at_first}
use Rattle.std.specs.Fmt.{decimal}
use Rattle.std.specs.List.{AllPass, before_first, after_first, position_or_len}
use Rattle.fund_base.proofs.Decimals as decimals
use Rattle.fund_base.specs.Decimal.{number_of}
use Rattle.fund_base.specs.declared.outpoint.OutPoint.{OutPoint}
use Rattle.hex.specs.Hex.{is_hex_digit}
use Rattle.json_fields.specs.Fields.{hash_in, point_in, coin_in}
use Rattle.json_fields.specs.Rules.{IsCoinText}
use Rattle.json_fields.proofs.NumberLaws.{digits}

abbrev is_colon : ℕ → Bool
is_colon b = b == 58

no_colon : (b : ℕ) → is_hex_digit b ≡ true → is_colon b ≡ false
no_colon b digit = elim (cases_Bool (is_colon b)) [
  | inl e ↦ let same : b ≡ 58 = eqb-true b 58 e in absurd (true≢false (sym (subst (λ x. is_hex_digit x ≡ true) same digit)))
  | inr e ↦ e
]

-- the first colon stands after hex digits
colon_at : (front rest : List ℕ) → AllPass is_hex_digit front → position_or_len is_colon (front ++ 58 ∷ rest) ≡ length front
colon_at [] rest pass = refl
colon_at (b ∷ front) rest pass =
    let here : is_colon b ≡ false = no_colon b (pass zero 0 (omega arith)) in
    let later : position_or_len is_colon (front ++ 58 ∷ rest) ≡ length front = colon_at front rest (λ k d lt. pass (suc k) d (omega arith)) in
    ap (λ t. cond (not t) (1 + position_or_len is_colon (front ++ 58 ∷ rest)) 0) here ∙ (omega arith)

point_found : (front back : List ℕ) (c : OutPoint) → point_in front back ≡ Some c → (hash_in front ≡ Some c.txid) × (back ≡ decimal c.index) × (c.index < 2 ^ 32)
unfolding point_in
point_found front back c e = by (hash_in front) refl (number_of 4294967295 back) refl e
  where
    by : (h : Option (List ℕ)) → hash_in front ≡ h → (n : Option ℕ) → number_of 4294967295 back ≡ n → option_and_then (λ hash. option_and_then (λ i. Some (record { txid = hash; index = i })) n) h ≡ Some c
        → (hash_in front ≡ Some c.txid) × (back ≡ decimal c.index) × (c.index < 2 ^ 32)
    by None is n number reads = absurd (cc reads)
    by (Some hash) is None number reads = absurd (cc reads)
    by (Some hash) is (Some i) number reads =
        let whole : record { txid = hash; index = i } ≡ c = cc reads in
        let law = decimals.found 4294967295 back i number in
        let bound : i ≤ 4294967295 = law.1 in
        subst (λ (p : OutPoint). (hash_in front ≡ Some p.txid) × (back ≡ decimal p.index) × (p.index < 2 ^ 32)) whole (is, law.0, omega arith)

pub found : (text : List ℕ) (c : OutPoint) → coin_in text ≡ Some c → IsCoinText text c
unfolding coin_in
found text c e = by (nat_lt (position_or_len is_colon text) (length text)) refl e
  where
    by : (b : Bool) → nat_lt (position_or_len is_colon text) (length text) ≡ b → cond b (point_in (before_first is_colon text) (after_first is_colon text)) None ≡ Some c → IsCoinText text c
    by true within reads =
        let lt = ltb-true (position_or_len is_colon text) (length text) within in
        let parts = point_found (before_first is_colon text) (after_first is_colon text) c reads in
        let colon : get_or text (position_or_len is_colon text) 0 ≡ 58 = eqb-true _ 58 (passes_at_first is_colon text 0 lt) in
        record {
          front = before_first is_colon text;
          hash = parts.0;
          index = parts.2;
          whole = split_at_first is_colon text 0 lt ∙ ap (λ b. before_first is_colon text ++ (b ∷ after_first is_colon text)) colon ∙ ap (λ r. before_first is_colon text ++ (58 ∷ r)) parts.1;
        }
    by false within reads = absurd (cc reads)

point_only : (front : List ℕ) (c : OutPoint) → hash_in front ≡ Some c.txid → c.index < 2 ^ 32 → point_in front (decimal c.index) ≡ Some c
unfolding point_in
point_only front c hash index =
    let number : number_of 4294967295 (decimal c.index) ≡ Some c.index = decimals.only 4294967295 c.index (decimal c.index) (lit< tt) (omega arith) refl in
    rw (hash, number) refl

pub only : (text : List ℕ) (c : OutPoint) → IsCoinText text c → coin_in text ≡ Some c
unfolding coin_in
only text c is =
    let parts = digits is.front c.txid is.hash in
    let rest : List ℕ = decimal c.index in
    let at : position_or_len is_colon text ≡ length is.front = ap (position_or_len is_colon) is.whole ∙ colon_at is.front rest parts.1 in
    let before : before_first is_colon text ≡ is.front = (λ i. take (at i) (is.whole i)) ∙ take-append_seam is.front (58 ∷ rest) in
    let after : after_first is_colon text ≡ rest = (λ i. drop (at i + 1) (is.whole i)) ∙ drop-append-add is.front (58 ∷ rest) 1 in
    let long : length text ≡ length is.front + length (58 ∷ rest) = ap length is.whole ∙ length-append is.front (58 ∷ rest) in
    let within : nat_lt (position_or_len is_colon text) (length text) ≡ true = lt-ltb _ _ (omega arith) in
    rw within (rw (before, after) (point_only is.front c is.hash is.index))
