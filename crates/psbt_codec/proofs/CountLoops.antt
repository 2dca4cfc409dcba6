-- Looking for a wrong pair from place to place, as a loop over the pairs does.
use Rattle.std.proofs.Common.{◌≡◌, ℕ, ◌+◌, ◌≤◌, ◌<◌, true, false, List, ◌∷◌, length, get_or, drop, Ok, Err, refl, sym, ap, ◌∙◌, add-one, arith, length-append}
use Rattle.std.specs.List.{flat_map}
use Rattle.std.proofs.Math.Seq.{drop-cons}
use Rattle.std.proofs.lemmas.List.{drop_all}
use Rattle.std.proofs.lemmas.List.Concat.{flat_map-cons}
use Rattle.psbt_codec.specs.Psbt.{Pair, pair_text}
use Rattle.psbt_codec.specs.Reading.{is_wrong, right_from, wrong_fault}

-- what the loop has found after i pairs: looking goes on from here as it would have from the first, and the pairs that are
-- left end where they would have
pub record Walked (kind from : ℕ) (pairs : List Pair) (i place : ℕ) : Type 0 where
  pub goes_on : right_from kind place (drop i pairs) ≡ right_from kind from pairs
  pub room : place + length (flat_map pair_text (drop i pairs)) ≡ from + length (flat_map pair_text pairs)

pub walked_none : (kind from : ℕ) (pairs : List Pair) → Walked kind from pairs 0 from
walked_none kind from pairs = record { goes_on = refl; room = refl }

opened : (pairs : List Pair) (i : ℕ) (d : Pair) → i < length pairs → drop i pairs ≡ get_or pairs i d ∷ drop (i + 1) pairs
opened pairs i d lt = rw add-one (drop-cons pairs i d lt)

left_len : (pairs : List Pair) (i : ℕ) (d : Pair) → i < length pairs → length (flat_map pair_text (drop i pairs)) ≡ length (pair_text (get_or pairs i d)) + length (flat_map pair_text (drop (i + 1) pairs))
left_len pairs i d lt =
    ap (λ (l : List Pair). length (flat_map pair_text l)) (opened pairs i d lt)
    ∙ ap (λ (l : List ℕ). length l) (flat_map-cons pair_text (get_or pairs i d) (drop (i + 1) pairs))
    ∙ length-append (pair_text (get_or pairs i d)) (flat_map pair_text (drop (i + 1) pairs))

pub walked_more : (kind from : ℕ) (pairs : List Pair) (i place : ℕ) (d : Pair) → i < length pairs → is_wrong kind (get_or pairs i d) ≡ false → Walked kind from pairs i place → Walked kind from pairs (i + 1) (place + length (pair_text (get_or pairs i d)))
unfolding right_from
walked_more kind from pairs i place d lt right w =
    let one : right_from kind place (drop i pairs) ≡ right_from kind (place + length (pair_text (get_or pairs i d))) (drop (i + 1) pairs) = rw (opened pairs i d lt, right) refl in
    record { goes_on = sym one ∙ w.goes_on; room = omega (arith, w.room, left_len pairs i d lt) }

-- a pair ends before the last one does
pub walked_fits : (kind from : ℕ) (pairs : List Pair) (i place : ℕ) (d : Pair) → i < length pairs → Walked kind from pairs i place → place + length (pair_text (get_or pairs i d)) ≤ from + length (flat_map pair_text pairs)
walked_fits kind from pairs i place d lt w = omega (arith, w.room, left_len pairs i d lt)

pub walked_all : (kind from : ℕ) (pairs : List Pair) (i place : ℕ) → length pairs ≤ i → Walked kind from pairs i place → right_from kind from pairs ≡ Ok tt
unfolding right_from
walked_all kind from pairs i place le w =
    let one : right_from kind place (drop i pairs) ≡ Ok tt = rw (drop_all i pairs le) refl in
    sym w.goes_on ∙ one

pub walked_wrong : (kind from : ℕ) (pairs : List Pair) (i place : ℕ) (d : Pair) → i < length pairs → is_wrong kind (get_or pairs i d) ≡ true → Walked kind from pairs i place → right_from kind from pairs ≡ Err (wrong_fault kind place)
unfolding right_from
walked_wrong kind from pairs i place d lt wrong w =
    let one : right_from kind place (drop i pairs) ≡ Err (wrong_fault kind place) = rw (opened pairs i d lt, wrong) refl in
    sym w.goes_on ∙ one
