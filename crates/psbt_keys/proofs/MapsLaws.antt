-- Maps extended one after another.
use Rattle.std.proofs.Common.{◌≡◌, ◌∙◌, ◌+◌, ◌<◌, ◌≤◌, ℕ, List, [], ◌∷◌, ◌++◌, length, drop, get_or, All, refl, sym, ap, subst, inl, inr, append_assoc, arith, length-append}
use Rattle.std.specs.Prelude.{map}
use Rattle.std.specs.List.{flat_map, zip}
use Rattle.std.proofs.lemmas.Bool.{cases_order}
use Rattle.std.proofs.lemmas.Grind.{flat_map-append}
use Rattle.std.proofs.lemmas.List.{append-nil, drop_all, drop_more, get_or-map, get_or_append_left, get_or_push}
use Rattle.std.proofs.lemmas.List.Concat.{flat_map-cons}
use Rattle.std.proofs.lemmas.List.Elements.{All-nil, All-push}
use Rattle.std.proofs.lemmas.Slice.Zip.{get_or-zip, length-zip}
use Rattle.psbt_codec.specs.Fault.{shown}
use Rattle.psbt_codec.specs.Psbt.{Pair, map_text}
use Rattle.psbt_keys.specs.Extended.{AllAgree, AreExtended, IsConflict, IsExtended, IsFirstConflict, nth_map}
use Rattle.psbt_keys.specs.Pairs.{HasLengths}
use Rattle.psbt_keys.specs.Placing.{AreWritten, IsWritten}
use Rattle.psbt_keys.proofs.ExtendLaws.{agreed}

-- so many maps are extended, their text stands behind what stood there, and the others are left to read
pub record AddedSoFar (dues maps : List (List Pair)) (front behind : List ℕ) (i : ℕ) (text rest : List ℕ) : Type 0 where
  pub news : List (List Pair)
  pub many : length news ≡ i
  pub within : i ≤ length maps
  pub each : (j : ℕ) → j < i → IsExtended (nth_map dues j) (nth_map maps j) (nth_map news j)
  pub text_is : text ≡ front ++ flat_map map_text news
  pub lengths : All (All HasLengths) news
  pub rest_is : rest ≡ flat_map map_text (drop i maps) ++ behind

pub added_none : (dues maps : List (List Pair)) (front behind rest : List ℕ) → rest ≡ flat_map map_text maps ++ behind → AddedSoFar dues maps front behind 0 front rest
added_none dues maps front behind rest e = record {
  news = [];
  many = refl;
  within = omega arith;
  each = λ j lt. absurd (omega (arith, lt));
  text_is = sym (append-nil front);
  lengths = All-nil (All HasLengths);
  rest_is = e;
}

-- the map that is due next stands at the front
pub next_front : (maps : List (List Pair)) (behind : List ℕ) (i : ℕ) (rest : List ℕ) → i < length maps → rest ≡ flat_map map_text (drop i maps) ++ behind → rest ≡ map_text (nth_map maps i) ++ (flat_map map_text (drop (i + 1) maps) ++ behind)
next_front maps behind i rest lt e =
    e
    ∙ ap (λ (l : List (List Pair)). flat_map map_text l ++ behind) (drop_more maps i [] lt)
    ∙ ap (λ (l : List ℕ). l ++ behind) (flat_map-cons map_text (nth_map maps i) (drop (i + 1) maps))
    ∙ append_assoc (map_text (nth_map maps i)) (flat_map map_text (drop (i + 1) maps)) behind

one_text : (pairs : List Pair) → flat_map map_text (pairs ∷ []) ≡ map_text pairs
one_text pairs = flat_map-cons map_text pairs [] ∙ append-nil (map_text pairs)

each_more : (dues maps news : List (List Pair)) (pairs : List Pair) (i : ℕ) → length news ≡ i → ((j : ℕ) → j < i → IsExtended (nth_map dues j) (nth_map maps j) (nth_map news j)) → IsExtended (nth_map dues i) (nth_map maps i) pairs
    → (j : ℕ) → j < i + 1 → IsExtended (nth_map dues j) (nth_map maps j) (nth_map (news ++ pairs ∷ []) j)
each_more dues maps news pairs i many each here j lt =
    elim (cases_order j i) [
      | inl same ↦
          let last : nth_map (news ++ pairs ∷ []) j ≡ pairs = get_or_push news pairs [] j (many ∙ sym same) in
          subst (λ (l : List Pair). IsExtended (nth_map dues j) (nth_map maps j) l) (sym last) (subst (λ (k : ℕ). IsExtended (nth_map dues k) (nth_map maps k) pairs) (sym same) here)
      | inr other ↦ elim other [
        | inl before ↦
            let kept : nth_map (news ++ pairs ∷ []) j ≡ nth_map news j = get_or_append_left news (pairs ∷ []) [] j (omega (arith, before, many)) in
            subst (λ (l : List Pair). IsExtended (nth_map dues j) (nth_map maps j) l) (sym kept) (each j before)
        | inr behind ↦ absurd (omega (arith, behind, lt))
      ]
    ]

pub added_more : (dues maps : List (List Pair)) (front behind : List ℕ) (i : ℕ) (text rest new_text new_rest : List ℕ) (due : List Pair) → AddedSoFar dues maps front behind i text rest → i < length maps → due ≡ nth_map dues i → IsWritten due (nth_map maps i) text new_text
    → new_rest ≡ flat_map map_text (drop (i + 1) maps) ++ behind → AddedSoFar dues maps front behind (i + 1) new_text new_rest
added_more dues maps front behind i text rest new_text new_rest due s lt is w left =
    let many = s.many in
    record {
      news = s.news ++ w.pairs ∷ [];
      many = omega (arith, many, length-append s.news (w.pairs ∷ []));
      within = omega (arith, lt);
      each = each_more dues maps s.news w.pairs i s.many s.each (subst (λ (l : List Pair). IsExtended l (nth_map maps i) w.pairs) is w.extended);
      text_is = w.text_is
          ∙ ap (λ (l : List ℕ). l ++ map_text w.pairs) s.text_is
          ∙ append_assoc front (flat_map map_text s.news) (map_text w.pairs)
          ∙ ap (λ (l : List ℕ). front ++ (flat_map map_text s.news ++ l)) (sym (one_text w.pairs))
          ∙ ap (λ (l : List ℕ). front ++ l) (sym (flat_map-append map_text s.news (w.pairs ∷ [])));
      lengths = All-push (All HasLengths) s.news w.pairs s.lengths w.lengths;
      rest_is = left;
    }

pub added_all : (dues maps : List (List Pair)) (front behind : List ℕ) (i : ℕ) (text rest : List ℕ) → length maps ≤ i → AddedSoFar dues maps front behind i text rest → AreWritten dues maps front text × (rest ≡ behind)
added_all dues maps front behind i text rest le s =
    let within = s.within in
    let many = s.many in
    let written : AreWritten dues maps front text = record {
      maps = s.news;
      extended = record { many = omega (arith, le, within, many); each = λ j lt. s.each j (omega (arith, lt, le)) };
      text_is = s.text_is;
      lengths = s.lengths;
    } in
    (written, s.rest_is ∙ ap (λ (l : List (List Pair)). flat_map map_text l ++ behind) (drop_all i maps le))

-- the map of this index has the first pair that stands in the way
pub first_conflict : (dues maps : List (List Pair)) (front behind : List ℕ) (i : ℕ) (text rest : List ℕ) (due : List Pair) (number place kind : ℕ) → AddedSoFar dues maps front behind i text rest → i < length maps → due ≡ nth_map dues i → number ≡ shown i
    → IsConflict due (nth_map maps i) place kind → IsFirstConflict dues maps number kind
first_conflict dues maps front behind i text rest due number place kind s lt is shows c = record {
  index = i;
  some = lt;
  number_is = shows;
  agree = λ j before. agreed (nth_map dues j) (nth_map maps j) (nth_map s.news j) (s.each j before);
  place = place;
  conflict = subst (λ (l : List Pair). IsConflict l (nth_map maps i) place kind) is c;
}

pub all_agree : (dues olds news : List (List Pair)) → AreExtended dues olds news → AllAgree dues olds
all_agree dues olds news h = λ i lt. agreed (nth_map dues i) (nth_map olds i) (nth_map news i) (h.each i lt)

-- ---- what is due at a place

pub due_at : {X : Type 0} → (f : X → List Pair) (xs : List X) (i : ℕ) (x : X) → i < length xs → x ≡ get_or xs i x → f x ≡ nth_map (map f xs) i
due_at f xs i x lt is = ap f is ∙ sym (get_or-map f xs i x [] lt)

pub due_at_both : {A B : Type 0} → (f : A × B → List Pair) (as_ : List A) (bs : List B) (i : ℕ) (a : A) (b : B) → i < length as_ → i < length bs → a ≡ get_or as_ i a → b ≡ get_or bs i b → f (a, b) ≡ nth_map (map f (zip as_ bs)) i
due_at_both {A} {B} f as_ bs i a b left right is_a is_b =
    let whole : (a, b) ≡ get_or (zip as_ bs) i (a, b) = ap (λ (x : A). (x, b)) is_a ∙ ap (λ (y : B). (get_or as_ i a, y)) is_b ∙ sym (get_or-zip as_ bs i (a, b) left right) in
    due_at f (zip as_ bs) i (a, b) (omega (arith, length-zip as_ bs, left, right)) whole
