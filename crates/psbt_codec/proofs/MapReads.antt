-- A map that is read is spelled by its text, and that text is read as it.
use Rattle.std.proofs.Common.{◌≡◌, ℕ, zero, suc, ◌+◌, ◌^◌, ◌<◌, ◌≤◌, List, [], ◌∷◌, ◌++◌, length, Ok, refl, sym, ap, subst, ◌∙◌, append_assoc, arith}
use Rattle.std.specs.Prelude.{Option, Some, None}
use Rattle.std.specs.List.{flat_map}
use Rattle.std.proofs.lemmas.List.{append-nil, length-append}
use Rattle.std.proofs.lemmas.List.Concat.{flat_map-cons}
use Rattle.fund_base.specs.CompactSize.{compact, prefixed}
use Rattle.fund_base.specs.Cursor.{At, IsBytes}
use Rattle.fund_base.proofs.Laws.{bind_ok, bind_is, ok_is, Takes, takes_then, Again, Reads}
use Rattle.fund_base.proofs.Repeat.{AllFrom}
use Rattle.psbt_codec.specs.declared.pairs.Part.{Part}
use Rattle.psbt_codec.specs.Psbt.{Pair, pair_text, map_text}
use Rattle.psbt_codec.specs.Reading.{pairs_within, ends_or, map_at}
use Rattle.psbt_codec.proofs.PairLaws.{FitsBehind, PairRead, pair_takes, pair_again, end_again, compact_some}

-- pairs that fit after these
abbrev pub MapFits : Part → List Pair → List Pair → Type 0
MapFits part before pairs = AllFrom (λ earlier p. FitsBehind part earlier p) before pairs

-- what was read of a map after these pairs
record TakesPairs (part : Part) (before : List Pair) (at : At) (x : List Pair × At) : Type 0 where
  pub pairs : List Pair
  pub whole : x.0 ≡ before ++ pairs
  pub takes : Takes at (map_text pairs) x.1
  pub fits : MapFits part before pairs

pub map_text-cons : (p : Pair) (pairs : List Pair) → map_text (p ∷ pairs) ≡ pair_text p ++ map_text pairs
unfolding map_text
map_text-cons p pairs = rw flat_map-cons (append_assoc (pair_text p) (flat_map pair_text pairs) (0 ∷ []))

map_text-nil : map_text [] ≡ 0 ∷ []
unfolding map_text
map_text-nil = refl

-- the rest of a map, after a pair or an end that was read
goes_on : (part : Part) (before : List Pair) (n : ℕ) (at : At) (o : Option Pair × At) (x : List Pair × At)
    → ((pairs : List Pair) (next : At) → IsBytes next.rest → pairs_within n part pairs next ≡ Ok x → TakesPairs part pairs next x)
    → PairRead part before at o → ends_or before (λ pairs next. pairs_within n part pairs next) (λ pairs next. (pairs, next)) o ≡ Ok x → TakesPairs part before at x
goes_on part before n at (None, next) x others t e =
    let end : Takes at (map_text []) next = rw map_text-nil t in
    subst (λ (y : List Pair × At). TakesPairs part before at y) (ok_is (before, next) x (Ok (before, next)) refl e) (record { pairs = []; whole = sym (append-nil before); takes = end; fits = tt })
goes_on part before n at (Some p, next) x others t e =
    let rest = others (before ++ p ∷ []) next t.0.rest_fits e in
    record {
      pairs = p ∷ rest.pairs;
      whole = rest.whole ∙ append_assoc before (p ∷ []) rest.pairs;
      takes = rw map_text-cons (takes_then at next x.1 (pair_text p) (map_text rest.pairs) t.0 rest.takes);
      fits = (t.1, rest.fits);
    }

pairs_take : (part : Part) (n : ℕ) (before : List Pair) (at : At) (x : List Pair × At) → IsBytes at.rest → pairs_within n part before at ≡ Ok x → TakesPairs part before at x
unfolding pairs_within
pairs_take part zero before at x fits e = absurd cc
pairs_take part (suc n) before at x fits e =
    let a = bind_ok _ _ x e in
    goes_on part before n at a.0 x (λ pairs next fit is. pairs_take part n pairs next x fit is) (pair_takes part before at a.0 fits a.1) a.2

pair_some : (p : Pair) → 0 < length (pair_text p)
unfolding pair_text
pair_some p = omega (arith, length-append (prefixed p.key) (prefixed p.value), length-append (compact (length p.key)) p.key, compact_some (length p.key))

text_some : (pairs : List Pair) → 0 < length (map_text pairs)
unfolding map_text
text_some pairs = omega (arith, length-append (flat_map pair_text pairs) (0 ∷ []))

pairs_again : (part : Part) (pairs before : List Pair) (n : ℕ) (at : At) (rest : List ℕ) → MapFits part before pairs → length (map_text pairs) ≤ n → at.rest ≡ map_text pairs ++ rest → Again (pairs_within n part before at) (before ++ pairs) rest
unfolding pairs_within
pairs_again part pairs before zero at rest fits room is = absurd (omega (arith, text_some pairs, room))
pairs_again part [] before (suc n) at rest fits room is =
    let a = end_again part before at rest (is ∙ ap (λ (l : List ℕ). l ++ rest) map_text-nil) in
    record { next = a.next; reads = bind_is _ _ _ _ a.reads (rw (append-nil before) refl); left = a.left }
pairs_again part (p ∷ pairs) before (suc n) at rest fits room is =
    let parted : at.rest ≡ pair_text p ++ (map_text pairs ++ rest) = is ∙ ap (λ (l : List ℕ). l ++ rest) (map_text-cons p pairs) ∙ append_assoc (pair_text p) (map_text pairs) rest in
    let fewer : length (map_text pairs) ≤ n = omega (arith, room, ap (λ (l : List ℕ). length l) (map_text-cons p pairs), length-append (pair_text p) (map_text pairs), pair_some p) in
    let a = pair_again part before p at (map_text pairs ++ rest) fits.0 parted in
    let b = pairs_again part pairs (before ++ p ∷ []) n a.next rest fits.1 fewer a.left in
    let whole : (before ++ p ∷ []) ++ pairs ≡ before ++ p ∷ pairs = append_assoc before (p ∷ []) pairs in
    record { next = b.next; reads = bind_is _ _ _ _ a.reads (b.reads ∙ ap (λ (l : List Pair). Ok (l, b.next)) whole); left = b.left }

pub map_reads : (part : Part) → Reads (λ at. map_at part at) map_text (MapFits part [])
map_reads part = record {
  takes = λ at x fits e.
      let t = pairs_take part (length at.rest) [] at x fits e in
      subst (λ (l : List Pair). Takes at (map_text l) x.1 × MapFits part [] l) (sym t.whole) (t.takes, t.fits);
  again = λ pairs at rest fits is.
      let room : length (map_text pairs) ≤ length at.rest = omega (arith, ap (λ (l : List ℕ). length l) is, length-append (map_text pairs) rest) in
      pairs_again part pairs [] (length at.rest) at rest fits room is;
}

-- a map ends within the bytes that are left
pub map_room : (part : Part) (at : At) (pairs : List Pair) (next : At) → IsBytes at.rest → at.place + length at.rest < 2 ^ 64 → map_at part at ≡ Ok (pairs, next) → at.place + length (flat_map pair_text pairs) < 2 ^ 64
unfolding map_text
map_room part at pairs next fits bound e =
    let t = (map_reads part).takes at (pairs, next) fits e in
    omega (arith, bound, ap (λ (l : List ℕ). length l) t.0.parts, length-append (map_text pairs) next.rest, length-append (flat_map pair_text pairs) (0 ∷ []))
