-- Hundreds of a run of coins, as places in the whole list.
use Rattle.std.specs.Prelude.{◌≡◌, ℕ, ◌+◌, ◌-◌, ◌*◌, ◌<◌, ◌≤◌, Bool, true, List, [], ◌∷◌, ◌++◌, All, filter, map, take, drop, length, get_or, IsPermutation}
use Rattle.std.specs.List.{range_with_len}
use Rattle.std.proofs.Common.{sym, ap, subst, ◌∙◌, arith, append_assoc}
use Rattle.std.proofs.lemmas.List.{drop-drop, drop-take, length-drop, length-take, map_more, map_push, take-take, take_min}
use Rattle.std.proofs.lemmas.List.Elements.{All-drop, All-filter, All-take, filter_passes}
use Rattle.std.proofs.lemmas.List.FromFn.{map-range_with_len_more}
use Rattle.std.proofs.lemmas.List.Sorted.{All-permutation, length_permutation}
use Rattle.std.proofs.lemmas.List.Sums.{count_by-le-length, length-filter}
use Rattle.coin_candidates.specs.Candidates.{AreCandidates, IsCandidate}
use Rattle.coin_candidates.specs.declared.candidate.Candidate.{Candidate}
use Rattle.output_groups.specs.Formed.{AreUseful, IsFormed, IsMeasured, coins_at, part_in}
use Rattle.output_groups.specs.Forming.{alone, hundred}
use Rattle.output_groups.specs.Measures.{IsGroup, is_useful}
use Rattle.output_groups.specs.Part.{Part}
use Rattle.output_groups.specs.Runs.{run_of}
use Rattle.output_groups.specs.declared.formed.Formed.{Formed}
use Rattle.output_groups.proofs.ScriptLaws.{with_script}

-- ---- useful coins

pub useful_are : (rate : ℕ) (cs : List Candidate) → AreCandidates cs → AreUseful rate (filter (is_useful rate) cs)
useful_are rate cs are = record {
  count = omega (arith, are.count, length-filter (is_useful rate) cs, count_by-le-length (is_useful rate) cs);
  each = All-filter (is_useful rate) IsCandidate cs are.each;
  useful = filter_passes (is_useful rate) cs;
}

pub useful_moved : (rate : ℕ) (xs ys : List Candidate) → IsPermutation xs ys → AreUseful rate xs → AreUseful rate ys
useful_moved rate xs ys moved are = record {
  count = omega (arith, are.count, length_permutation xs ys moved);
  each = All-permutation IsCandidate xs ys moved are.each;
  useful = All-permutation (λ c. is_useful rate c ≡ true) xs ys moved are.useful;
}

-- ---- one group more

pub single_more : (f : Formed → Part) (cs : List Candidate) (now new : List Formed) (k : ℕ) (x : Formed) → k < length cs → new ≡ now ++ x ∷ [] → map f now ≡ map alone (take k cs) → ((d : Candidate) → f x ≡ alone (get_or cs k d)) → map f new ≡ map alone (take (k + 1) cs)
single_more f cs now new k x low is was here =
    let d = with_script [] in
    ap (map f) is ∙ map_push f now x ∙ ap (λ (ps : List Part). ps ++ f x ∷ []) was ∙ ap (λ (p : Part). map alone (take k cs) ++ p ∷ []) (here d) ∙ sym (map_more alone cs k d low)

pub run_more : (f : Formed → Part) (g : ℕ → Part) (old now new : List Formed) (k : ℕ) (x : Formed) → new ≡ now ++ x ∷ [] → map f now ≡ map f old ++ map g (range_with_len 0 k) → f x ≡ g k → map f new ≡ map f old ++ map g (range_with_len 0 (k + 1))
run_more f g old now new k x is was here =
    ap (map f) is
    ∙ map_push f now x
    ∙ ap (λ (ps : List Part). ps ++ f x ∷ []) was
    ∙ append_assoc (map f old) (map g (range_with_len 0 k)) (f x ∷ [])
    ∙ ap (λ (p : Part). map f old ++ (map g (range_with_len 0 k) ++ p ∷ [])) here
    ∙ ap (λ (ps : List Part). map f old ++ ps) (sym (map-range_with_len_more g 0 k k (omega arith)))

-- ---- hundreds

-- the first coins of the first ones are the first of all
pub again : (a b : ℕ) (xs : List Candidate) → take (length (take a (take b xs))) xs ≡ take a (take b xs)
again a b xs =
    let ys = take b xs in
    let few : length (take a ys) ≤ b = omega (arith, length-take a ys, length-take b xs) in
    sym (take-take (length (take a ys)) b xs few) ∙ ap (λ (n : ℕ). take n ys) (length-take a ys) ∙ take_min a ys

hundred_cut : (cs : List Candidate) (start end place : ℕ) → start + 100 * place < end → hundred (run_of cs start end) place ≡ take 100 (take (end - start - 100 * place) (drop (start + 100 * place) cs))
hundred_cut cs start end place below =
    let m = 100 * place in
    let n = end - start in
    let whole : n ≡ m + (n - m) = omega (arith, below) in
    ap (take 100) (ap (λ (k : ℕ). drop m (take k (drop start cs))) whole ∙ drop-take m (n - m) (drop start cs) ∙ ap (take (n - m)) (drop-drop m start cs))

-- a hundred of a run stands in the list
pub hundred_placed : (cs : List Candidate) (start end place : ℕ) → start + 100 * place < end → take (length (hundred (run_of cs start end) place)) (drop (start + 100 * place) cs) ≡ hundred (run_of cs start end) place
hundred_placed cs start end place below =
    let e = hundred_cut cs start end place below in
    ap (λ (h : List Candidate). take (length h) (drop (start + 100 * place) cs)) e ∙ again 100 (end - start - 100 * place) (drop (start + 100 * place) cs) ∙ sym e

-- and is a group of useful coins
pub hundred_group : (rate : ℕ) (cs : List Candidate) (start end place : ℕ) → AreUseful rate cs → end ≤ length cs → start + 100 * place < end → IsGroup rate (hundred (run_of cs start end) place)
hundred_group rate cs start end place are within below =
    let m = 100 * place in
    let n = end - start in
    let run = take n (drop start cs) in
    let long = length-take 100 (drop m run) in
    let part : (P : Candidate → Type 0) → All P cs → All P (hundred (run_of cs start end) place) =
    λ P all. All-take P 100 (drop m run) (All-drop P m run (All-take P n (drop start cs) (All-drop P start cs all))) in
    record {
      some = omega (arith, within, below, long, length-drop m run, length-take n (drop start cs), length-drop start cs);
      few = omega (arith, long);
      each = part IsCandidate are.each;
      useful = part (λ c. is_useful rate c ≡ true) are.useful;
    }

-- it ends within the list
pub hundred_within : (cs : List Candidate) (start end place : ℕ) → end ≤ length cs → start + 100 * place < end → start + 100 * place + length (hundred (run_of cs start end) place) ≤ length cs
hundred_within cs start end place within below =
    let m = 100 * place in
    let n = end - start in
    let run = take n (drop start cs) in
    omega (arith, within, below, length-take 100 (drop m run), length-drop m run, length-take n (drop start cs), length-drop start cs)

-- what was measured of it stands there
pub placed_coins : (cs : List Candidate) (start end place : ℕ) (h : List Candidate) (f : Formed) → start + 100 * place < end → h ≡ hundred (run_of cs start end) place → f.start ≡ start + 100 * place → f.size ≡ length h → coins_at cs f ≡ h
placed_coins cs start end place h f below is at long =
    ap (λ (n : ℕ). take n (drop f.start cs)) (long ∙ ap (λ (x : List Candidate). length x) is)
    ∙ ap (λ (n : ℕ). take (length (hundred (run_of cs start end) place)) (drop n cs)) at
    ∙ hundred_placed cs start end place below
    ∙ sym is

pub placed_formed : (rate long_term : ℕ) (cs : List Candidate) (start end place : ℕ) (h : List Candidate) (f : Formed) → AreUseful rate cs → end ≤ length cs → start + 100 * place < end → h ≡ hundred (run_of cs start end) place → f.start ≡ start + 100 * place → f.size ≡ length h → IsMeasured rate long_term h f → IsFormed rate long_term cs f
placed_formed rate long_term cs start end place h f are within below is at long measures =
    let size : f.size ≡ length (hundred (run_of cs start end) place) = long ∙ ap (λ (x : List Candidate). length x) is in
    let group = hundred_group rate cs start end place are within below in
    record {
      few = omega (arith, size, group.few);
      within = omega (arith, size, at, hundred_within cs start end place within below);
      measures = subst (λ (g : List Candidate). IsMeasured rate long_term g f) (sym (placed_coins cs start end place h f below is at long)) measures;
    }

pub placed_part : (cs : List Candidate) (f : Formed) (h : List Candidate) (b : Bool) → coins_at cs f ≡ h → f.partial ≡ b → part_in cs f ≡ record { coins = h; partial = b }
placed_part cs f h b coins partial =
    let one : Part = record { coins = coins_at cs f; partial = b } in
    let first : part_in cs f ≡ one = ap (λ (x : Bool). let p : Part = record { coins = coins_at cs f; partial = x } in p) partial in
    let second : one ≡ record { coins = h; partial = b } = ap (λ (g : List Candidate). let p : Part = record { coins = g; partial = b } in p) coins in
    first ∙ second
