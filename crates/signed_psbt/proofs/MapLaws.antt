-- Bytes that spell pairs are read as these.
use Rattle.std.proofs.Common.{◌≡◌, ◌≢◌, ◌∙◌, ◌<◌, ℕ, Bool, true, false, cond, List, [], ◌∷◌, ◌++◌, length, Option, Some, None, Result, Ok, Err, refl, sym, ap, subst, append_assoc, arith, length-append, length-drop, take, drop}
use Rattle.std.specs.Prelude.{bytes_eq, nat_lt, option_map, find}
use Rattle.std.specs.Borrow.{Bor}
use Rattle.std.specs.Option.{option_or}
use Rattle.std.proofs.lemmas.List.Elements.{All-head, All-tail}
use Rattle.fund_base.specs.CompactSize.{compact, prefixed}
use Rattle.fund_base.specs.Cursor.{At, after, take_at}
use Rattle.fund_base.specs.declared.cursor.CutFault.TheVariants.{Truncated}
use Rattle.fund_base.specs.Parsing.{Yields}
use Rattle.fund_base.proofs.Laws.{guard_ok, ok_is}
use Rattle.tx_codec.specs.Reading.{item_at}
use Rattle.tx_codec.specs.declared.fault.TxFault.{TxFault}
use Rattle.tx_codec.specs.declared.fault.TxFault.TheVariants.{Memory}
use Rattle.tx_codec.proofs.PartLaws.{string}
use Rattle.psbt_codec.specs.Psbt.{IsString, Pair, map_text, pair_text}
use Rattle.psbt_codec.specs.Reading.{value_of}
use Rattle.psbt_codec.proofs.MapReads.{map_text-cons}
use Rattle.psbt_codec.proofs.PairLaws.{compact_some}
use Rattle.signed_psbt.specs.Maps.{ArePairs, IsPlain, Tells, first_of}

-- ---- strings

-- what a call has read where a string stands
pub record Got (r : Result (Bor (List ℕ)) TxFault) (new : At) (text behind : List ℕ) : Type 0 where
  pub bytes : Bor (List ℕ)
  pub is : r ≡ Ok bytes
  pub now : bytes.now ≡ text
  pub left : new.rest ≡ behind

pub got : (old new : At) (r : Result (Bor (List ℕ)) TxFault) (text behind : List ℕ) → Yields Memory (λ (b : Bor (List ℕ)). b.now) new r (item_at old) → r ≢ Err Memory → IsString text → old.rest ≡ prefixed text ++ behind → Got r new text behind
got old new (Ok b) text behind given never fits is =
    let a = string.again text old behind fits is in
    let same : (b.now, new) ≡ (text, a.next) = ok_is (b.now, new) (text, a.next) (item_at old) given a.reads in
    record { bytes = b; is = refl; now = ap (λ (x : List ℕ × At). x.0) same; left = ap (λ (x : List ℕ × At). x.1.rest) same ∙ a.left }
got old new (Err e) text behind given never fits is =
    let a = string.again text old behind fits is in
    let refused = given (λ memory. never (ap Err memory)) in
    let reads = a.reads in
    absurd cc

pub absent : (r : Result (Bor (List ℕ)) TxFault) (new : At) (text behind : List ℕ) (e : TxFault) → Got r new text behind → r ≡ Err e → ⊥
absent r new text behind e g h = let is = g.is in absurd cc

pub key_is : (r : Result (Bor (List ℕ)) TxFault) (new : At) (text behind : List ℕ) (b : Bor (List ℕ)) → Got r new text behind → r ≡ Ok b → b.now ≡ text
key_is r new text behind b g h = ap (λ (x : Bor (List ℕ)). x.now) (ok_is b g.bytes r h g.is) ∙ g.now

-- a string takes a byte at least
pub shorter_by : (old mid new : At) (n : ℕ) (b : List ℕ) → old.rest ≡ compact n ++ mid.rest → take_at n mid ≡ Ok (b, new) → length new.rest < length old.rest
shorter_by old mid new n b e h =
    let g = guard_ok (nat_lt (length mid.rest) n) (Truncated mid.place) (Ok (take n mid.rest, after n mid)) (b, new) h in
    let same : (take n mid.rest, after n mid) ≡ (b, new) = ok_is (take n mid.rest, after n mid) (b, new) (Ok (take n mid.rest, after n mid)) refl g.1 in
    let rest : length (drop n mid.rest) ≡ length new.rest = ap (λ (x : List ℕ × At). length x.1.rest) same in
    let whole : length old.rest ≡ length (compact n ++ mid.rest) = ap (λ (l : List ℕ). length l) e in
    omega (arith, rest, whole, length-append (compact n) mid.rest, length-drop n mid.rest, compact_some n)

-- ---- pairs

pub pair_parts : (p : Pair) (rest behind : List ℕ) → rest ≡ pair_text p ++ behind → rest ≡ prefixed p.key ++ (prefixed p.value ++ behind)
unfolding pair_text
pair_parts p rest behind e = e ∙ append_assoc (prefixed p.key) (prefixed p.value) behind

pub end_parts : (rest behind : List ℕ) → rest ≡ 0 ∷ behind → rest ≡ prefixed [] ++ behind
unfolding compact
end_parts rest behind e = e

pub map_parts : (p : Pair) (pairs : List Pair) (rest behind : List ℕ) → rest ≡ map_text (p ∷ pairs) ++ behind → rest ≡ pair_text p ++ (map_text pairs ++ behind)
map_parts p pairs rest behind e = e ∙ ap (λ (l : List ℕ). l ++ behind) (map_text-cons p pairs) ∙ append_assoc (pair_text p) (map_text pairs) behind

pub end_map : (rest behind : List ℕ) → rest ≡ map_text [] ++ behind → rest ≡ 0 ∷ behind
unfolding map_text
end_map rest behind e = e

-- ---- a map

-- What is left of a map that is gone through, and what was found in it.
pub record Looked (kind : ℕ) (pairs : List Pair) (behind : List ℕ) (found : Option (List ℕ)) (rest : List ℕ) : Type 0 where
  pub left : List Pair
  pub are : ArePairs left
  pub rest_is : rest ≡ map_text left ++ behind
  pub value : option_or found (value_of kind left) ≡ value_of kind pairs

pub looked_none : (kind : ℕ) (pairs : List Pair) (behind rest : List ℕ) → ArePairs pairs → rest ≡ map_text pairs ++ behind → Looked kind pairs behind None rest
looked_none kind pairs behind rest are e = record { left = pairs; are = are; rest_is = e; value = refl }

one_more : (kind : ℕ) (found : Option (List ℕ)) (p : Pair) (pairs : List Pair) → option_or (first_of kind found p.key p.value) (value_of kind pairs) ≡ option_or found (value_of kind (p ∷ pairs))
one_more kind (Some x) p pairs = refl
one_more kind None p pairs = by (bytes_eq p.key (kind ∷ []))
  where
    by : (b : Bool) → option_or (cond b (Some p.value) None) (value_of kind pairs) ≡ option_map (λ (q : Pair). q.value) (cond b (Some p) (find (λ (q : Pair). bytes_eq q.key (kind ∷ [])) pairs))
    by true = refl
    by false = refl

-- what a call has read that reads the next pair
abbrev pub ReadsPair : List ℕ → List ℕ → Option (Bor (List ℕ) × Bor (List ℕ)) → Type 0
ReadsPair old new r = (p : Pair) (behind : List ℕ) → IsPlain p → old ≡ pair_text p ++ behind → Tells r p × (new ≡ behind)

abbrev pub ReadsEnd : List ℕ → List ℕ → Option (Bor (List ℕ) × Bor (List ℕ)) → Type 0
ReadsEnd old new r = (behind : List ℕ) → old ≡ 0 ∷ behind → (r ≡ None) × (new ≡ behind)

pub looked_next : (kind : ℕ) (pairs : List Pair) (behind old new : List ℕ) (found more : Option (List ℕ)) (r : Option (Bor (List ℕ) × Bor (List ℕ))) (x : Bor (List ℕ) × Bor (List ℕ)) → r ≡ Some x → ReadsPair old new r → ReadsEnd old new r → more ≡ first_of kind found x.0.now x.1.now
    → Looked kind pairs behind found old → Looked kind pairs behind more new
looked_next kind pairs behind old new found more r x some pair end is so_far = by so_far.left so_far.are so_far.rest_is so_far.value
  where
    by : (left : List Pair) → ArePairs left → old ≡ map_text left ++ behind → option_or found (value_of kind left) ≡ value_of kind pairs → Looked kind pairs behind more new
    by [] are rest value = let none = (end behind (end_map old behind rest)).0 in absurd cc
    by (p ∷ ps) are rest value =
        let plain : IsPlain p = All-head IsPlain p ps are in
        let h = subst (λ (o : Option (Bor (List ℕ) × Bor (List ℕ))). Tells o p × (new ≡ map_text ps ++ behind)) some (pair p (map_text ps ++ behind) plain (map_parts p ps old behind rest)) in
        let told : more ≡ first_of kind found p.key p.value = is ∙ ap (λ (k : List ℕ). first_of kind found k x.1.now) h.0.0 ∙ ap (λ (v : List ℕ). first_of kind found p.key v) h.0.1 in
        record { left = ps; are = All-tail IsPlain p ps are; rest_is = h.1; value = ap (λ (o : Option (List ℕ)). option_or o (value_of kind ps)) told ∙ one_more kind found p ps ∙ value }

or_none : (o : Option (List ℕ)) → option_or o None ≡ o
or_none None = refl
or_none (Some x) = refl

pub looked_all : (kind : ℕ) (pairs : List Pair) (behind old new : List ℕ) (found : Option (List ℕ)) (r : Option (Bor (List ℕ) × Bor (List ℕ))) → r ≡ None → ReadsPair old new r → ReadsEnd old new r → Looked kind pairs behind found old → (found ≡ value_of kind pairs) × (new ≡ behind)
looked_all kind pairs behind old new found r none pair end so_far = by so_far.left so_far.are so_far.rest_is so_far.value
  where
    by : (left : List Pair) → ArePairs left → old ≡ map_text left ++ behind → option_or found (value_of kind left) ≡ value_of kind pairs → (found ≡ value_of kind pairs) × (new ≡ behind)
    by [] are rest value = (sym (or_none found) ∙ value, (end behind (end_map old behind rest)).1)
    by (p ∷ ps) are rest value = absurd (subst (λ (o : Option (Bor (List ℕ) × Bor (List ℕ))). Tells o p) none (pair p (map_text ps ++ behind) (All-head IsPlain p ps are) (map_parts p ps old behind rest)).0)
