-- Bytes that spell a map are read as its pairs.
use Rattle.std.proofs.Common.{◌≡◌, ◌∙◌, ◌+◌, ◌<◌, ℕ, All, List, [], ◌∷◌, ◌++◌, length, Option, Some, None, refl, sym, ap, subst, append_assoc, arith, take, get_or}
use Rattle.std.specs.Prelude.{option_copied}
use Rattle.std.specs.Borrow.{Bor}
use Rattle.std.proofs.lemmas.List.{append-nil, take_more}
use Rattle.std.specs.List.{flat_map}
use Rattle.std.proofs.lemmas.Grind.{flat_map-append}
use Rattle.std.proofs.lemmas.List.Elements.{All-head, All-nil, All-push, All-tail}
use Rattle.psbt_codec.specs.Psbt.{IsString, Pair, map_text, pair_text}
use Rattle.psbt_keys.specs.Pairs.{HasLengths}
use Rattle.signed_psbt.specs.Maps.{ArePairs, IsPlain, Tells}
use Rattle.signed_psbt.proofs.MapLaws.{ReadsEnd, ReadsPair, end_map, map_parts}

-- ---- strings

pub empty_fits : IsString []
empty_fits = (All-nil (λ (b : ℕ). b < 256), omega arith)

pub none_is : (r : Option (Bor (List ℕ))) (text : List ℕ) → r ≡ None → option_copied r ≡ Some text → ⊥
none_is r text none h = let nothing : option_copied r ≡ None = ap option_copied none in absurd cc

pub some_is : (r : Option (Bor (List ℕ))) (b : Bor (List ℕ)) (text : List ℕ) → r ≡ Some b → option_copied r ≡ Some text → b.now ≡ text
some_is r b text some h = same_some b.now text (sym (ap option_copied some) ∙ h)
  where
    same_some : (x y : List ℕ) → Some x ≡ Some y → x ≡ y
    same_some x y e = cc

-- ---- a map

-- the pairs that were read, and those that are left
pub record ReadSoFar (pairs : List Pair) (behind : List ℕ) (done : List Pair) (rest : List ℕ) : Type 0 where
  pub left : List Pair
  pub are : ArePairs left
  pub rest_is : rest ≡ map_text left ++ behind
  pub parts : done ++ left ≡ pairs

pub read_none : (pairs : List Pair) (behind rest : List ℕ) → ArePairs pairs → rest ≡ map_text pairs ++ behind → ReadSoFar pairs behind [] rest
read_none pairs behind rest are e = record { left = pairs; are = are; rest_is = e; parts = refl }

pub pair_is : (p : Pair) (k v : List ℕ) → k ≡ p.key → v ≡ p.value → let q : Pair = record { key = k; value = v } in q ≡ p
pair_is p k v key value = ap (λ (l : List ℕ). let q : Pair = record { key = l; value = v } in q) key ∙ ap (λ (l : List ℕ). let q : Pair = record { key = p.key; value = l } in q) value

pub read_next : (pairs : List Pair) (behind old new : List ℕ) (done : List Pair) (q : Pair) (r : Option (Bor (List ℕ) × Bor (List ℕ))) (x : Bor (List ℕ) × Bor (List ℕ)) → r ≡ Some x → ReadsPair old new r → ReadsEnd old new r → q.key ≡ x.0.now → q.value ≡ x.1.now
    → ReadSoFar pairs behind done old → ReadSoFar pairs behind (done ++ q ∷ []) new
read_next pairs behind old new done q r x some pair end key value so_far = by so_far.left so_far.are so_far.rest_is so_far.parts
  where
    by : (left : List Pair) → ArePairs left → old ≡ map_text left ++ behind → done ++ left ≡ pairs → ReadSoFar pairs behind (done ++ q ∷ []) new
    by [] are rest parts = let none = (end behind (end_map old behind rest)).0 in absurd cc
    by (p ∷ ps) are rest parts =
        let plain : IsPlain p = All-head IsPlain p ps are in
        let h = subst (λ (o : Option (Bor (List ℕ) × Bor (List ℕ))). Tells o p × (new ≡ map_text ps ++ behind)) some (pair p (map_text ps ++ behind) plain (map_parts p ps old behind rest)) in
        let same : q ≡ p = pair_is p q.key q.value (key ∙ h.0.0) (value ∙ h.0.1) in
        record {
          left = ps;
          are = All-tail IsPlain p ps are;
          rest_is = h.1;
          parts = append_assoc done (q ∷ []) ps ∙ ap (λ (y : Pair). done ++ y ∷ ps) same ∙ parts;
        }

pub read_all : (pairs : List Pair) (behind old new : List ℕ) (done : List Pair) (r : Option (Bor (List ℕ) × Bor (List ℕ))) → r ≡ None → ReadsPair old new r → ReadsEnd old new r → ReadSoFar pairs behind done old → (done ≡ pairs) × (new ≡ behind)
read_all pairs behind old new done r none pair end so_far = by so_far.left so_far.are so_far.rest_is so_far.parts
  where
    by : (left : List Pair) → ArePairs left → old ≡ map_text left ++ behind → done ++ left ≡ pairs → (done ≡ pairs) × (new ≡ behind)
    by [] are rest parts = (sym (append-nil done) ∙ parts, (end behind (end_map old behind rest)).1)
    by (p ∷ ps) are rest parts = absurd (subst (λ (o : Option (Bor (List ℕ) × Bor (List ℕ))). Tells o p) none (pair p (map_text ps ++ behind) (All-head IsPlain p ps are) (map_parts p ps old behind rest)).0)

-- ---- what was written

-- the text of so many pairs behind what stood there
abbrev pub Wrote : List Pair → List ℕ → ℕ → List ℕ → Type 0
Wrote pairs front i text = (text ≡ front ++ flat_map pair_text (take i pairs)) × All HasLengths (take i pairs)

one_pair_text : (p : Pair) → flat_map pair_text (p ∷ []) ≡ pair_text p
one_pair_text p = append-nil (pair_text p)

pub wrote_more : (pairs : List Pair) (front old new : List ℕ) (i : ℕ) (p : Pair) → i < length pairs → p ≡ get_or pairs i p → new ≡ old ++ pair_text p → HasLengths p → Wrote pairs front i old → Wrote pairs front (i + 1) new
wrote_more pairs front old new i p lt is text fits so_far =
    let more : take (i + 1) pairs ≡ take i pairs ++ p ∷ [] = take_more pairs i p lt ∙ ap (λ (y : Pair). take i pairs ++ y ∷ []) (sym is) in
    let whole : new ≡ front ++ flat_map pair_text (take (i + 1) pairs) =
    text
    ∙ ap (λ (l : List ℕ). l ++ pair_text p) so_far.0
    ∙ append_assoc front (flat_map pair_text (take i pairs)) (pair_text p)
    ∙ ap (λ (l : List ℕ). front ++ (flat_map pair_text (take i pairs) ++ l)) (sym (one_pair_text p))
    ∙ ap (λ (l : List ℕ). front ++ l) (sym (flat_map-append pair_text (take i pairs) (p ∷ [])))
    ∙ ap (λ (l : List Pair). front ++ flat_map pair_text l) (sym more) in
    (whole, subst (λ (l : List Pair). All HasLengths l) (sym more) (All-push HasLengths (take i pairs) p so_far.1 fits))
