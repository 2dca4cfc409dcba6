-- Places up to a line feed, or a word in their stead, are read exactly.
use Rattle.std.proofs.Common.{◌≡◌, ℕ, ◌^◌, ◌≤◌, ◌<◌, Bool, true, false, cond, eqb, List, [], ◌∷◌, ◌++◌, length, get_or, Ok, Err, Option, Some, None, refl, sym, ap, subst, ◌∙◌, append_assoc, arith, eqb-true, eq-eqb, ne_eqb}
use Rattle.std.specs.Prelude.{⊤, codes}
use Rattle.std.specs.Fmt.{decimal}
use Rattle.std.specs.List.{flat_map, AllByRecursion}
use Rattle.std.proofs.lemmas.Bool.{eqb-false}
use Rattle.std.proofs.lemmas.Fmt.{decimal_is_IsNumeral}
use Rattle.std.proofs.lemmas.List.{length-append}
use Rattle.std.proofs.lemmas.Str.Parse.{digit_at}
use Rattle.closing_log.specs.Exact.{Begins, StopsAt, NoneGoesOn}
use Rattle.closing_log.specs.LogText.{HasSmallPlaces, IsAnswer, answer_text}
use Rattle.closing_log.specs.Reading.{made_at, places_at, word_at}
use Rattle.closing_log.proofs.Exactness.{Piece, Held, Made, none_of}
use Rattle.closing_log.proofs.PartLaws.{made_piece, piece_as}
use Rattle.closing_log.proofs.PlaceLaws.{ArePlaces, places_piece}
use Rattle.closing_log.proofs.WordLaws.{IsWord, word_piece}
use Rattle.search_keep.specs.Reading.{best_line, chosen_line, marked_line, or_none}
use Rattle.search_keep.specs.SavedText.{chosen_text}

abbrev pub IsMarked : List ℕ → List ℕ → Option (List ℕ) → Type 0
IsMarked word text None = text ≡ word
IsMarked word text (Some ps) = ArePlaces [] text ps

abbrev to_none : ⊤ → Option (List ℕ)
to_none = λ u. None

abbrev to_some : List ℕ → Option (List ℕ)
to_some = λ ps. Some ps

none_piece : (word : List ℕ) → Piece (made_at to_none (word_at word)) (Made to_none (IsWord word))
none_piece word = made_piece to_none (word_at word) (IsWord word) (word_piece word)

some_piece : Piece (made_at to_some places_at) (Made to_some (ArePlaces []))
some_piece = made_piece to_some places_at (ArePlaces []) places_piece

from_none : (word text : List ℕ) (a : Option (List ℕ)) → Made to_none (IsWord word) text a → IsMarked word text a
from_none word text None m = m.means
from_none word text (Some ps) m = absurd (let h = m.is in cc)

from_some : (word text : List ℕ) (a : Option (List ℕ)) → Made to_some (ArePlaces []) text a → IsMarked word text a
from_some word text None m = absurd (let h = m.is in cc)
from_some word text (Some ps) m = let same : m.value ≡ ps = (let h = m.is in cc) in subst (λ (q : List ℕ). ArePlaces [] text q) same m.means

-- ---- how they begin

-- a digit
pub record IsDigit (b : ℕ) : Type 0 where
  pub low : 48 ≤ b
  pub high : b ≤ 57

decimal_head : (n : ℕ) → n < 2 ^ 64 → IsDigit (get_or (decimal n) 0 0)
decimal_head n small = let k = (decimal_is_IsNumeral n small).0 in let d = digit_at (decimal n) 0 k.1 k.0 in record { low = omega (arith, d); high = omega (arith, d) }

first_of_append : (a b : List ℕ) → 0 < length a → get_or (a ++ b) 0 0 ≡ get_or a 0 0
first_of_append [] b some = absurd (omega arith)
first_of_append (c ∷ a) b some = refl

places_head : (text ps : List ℕ) → ArePlaces [] text ps → IsDigit (get_or text 0 0) × (0 < length text)
places_head text ps m =
    let small : m.first < 2 ^ 64 = omega (arith, m.small.0) in
    let k = (decimal_is_IsNumeral m.first small).0 in
    let rest : List ℕ = flat_map (λ (q : ℕ). 32 ∷ decimal q) m.more ++ 10 ∷ [] in
    let t : text ≡ decimal m.first ++ rest = m.text_is ∙ append_assoc (decimal m.first) (flat_map (λ (q : ℕ). 32 ∷ decimal q) m.more) (10 ∷ []) in
    let head : get_or text 0 0 ≡ get_or (decimal m.first) 0 0 = ap (λ x. get_or x 0 0) t ∙ first_of_append (decimal m.first) rest k.0 in
    (subst IsDigit (sym head) (decimal_head m.first small), omega (arith, k.0, ap length t, length-append (decimal m.first) rest))

-- what begins like these bytes up to and with a byte of them has their first byte
same_head : (front : List ℕ) (d : ℕ) (r more : List ℕ) (b : ℕ) (rest : List ℕ) → b ∷ rest ≡ front ++ d ∷ r → get_or ((front ++ d ∷ []) ++ more) 0 0 ≡ b
same_head [] d r more b rest is = cc
same_head (c ∷ front) d r more b rest is = cc

-- ---- the law, for a word that begins with m, which is no digit

module _ (m : ℕ) (tail : List ℕ) (apart : IsDigit m → ⊥) where
  abbrev word : List ℕ
  word = m ∷ tail

  took : (b : ℕ) (rest : List ℕ) (x : Option (List ℕ) × List ℕ) (t : Bool)
      → cond t (made_at to_none (word_at word) (b ∷ rest)) (made_at to_some places_at (b ∷ rest)) ≡ Ok x → Held (IsMarked word) (b ∷ rest) x
  took b rest x true e = let h = (none_piece word).takes (b ∷ rest) x e in record { text = h.text; parts = h.parts; means = from_none word h.text x.0 h.means }
  took b rest x false e = let h = some_piece.takes (b ∷ rest) x e in record { text = h.text; parts = h.parts; means = from_some word h.text x.0 h.means }

  takes : (bytes : List ℕ) (x : Option (List ℕ) × List ℕ) → marked_line m word bytes ≡ Ok x → Held (IsMarked word) bytes x
  unfolding marked_line
  takes [] x e = absurd cc
  takes (b ∷ rest) x e = took b rest x (eqb b m) e

  again_none : (rest : List ℕ) → marked_line m word (word ++ rest) ≡ Ok (None, rest)
  unfolding marked_line
  again_none rest =
      let same : eqb m m ≡ true = eq-eqb m m refl in
      rw same ((none_piece word).again word rest None (record { value = tt; is = refl; means = refl }))

  again : (text rest : List ℕ) (a : Option (List ℕ)) → IsMarked word text a → marked_line m word (text ++ rest) ≡ Ok (a, rest)
  unfolding marked_line
  again text rest None means = ap (λ t. marked_line m word (t ++ rest)) means ∙ again_none rest
  again [] rest (Some ps) means = absurd (omega (arith, (places_head [] ps means).1))
  again (b ∷ text) rest (Some ps) means =
      let other : eqb b m ≡ false = ne_eqb b m (λ is. apart (subst IsDigit is (places_head (b ∷ text) ps means).0)) in
      rw other (some_piece.again (b ∷ text) rest (Some ps) (record { value = ps; is = refl; means = means }))

  only_none : (front : List ℕ) (d : ℕ) (r more : List ℕ) (b : ℕ) (rest : List ℕ) (a : Option (List ℕ)) → b ∷ rest ≡ front ++ d ∷ r → b ≡ m → IsMarked word ((front ++ d ∷ []) ++ more) a → Made to_none (IsWord word) ((front ++ d ∷ []) ++ more) a
  only_none front d r more b rest None is n means = record { value = tt; is = refl; means = means }
  only_none front d r more b rest (Some ps) is n means = absurd (apart (subst IsDigit (same_head front d r more b rest is ∙ n) (places_head ((front ++ d ∷ []) ++ more) ps means).0))

  only_some : (front : List ℕ) (d : ℕ) (r more : List ℕ) (b : ℕ) (rest : List ℕ) (a : Option (List ℕ)) → b ∷ rest ≡ front ++ d ∷ r → (b ≡ m → ⊥) → IsMarked word ((front ++ d ∷ []) ++ more) a → Made to_some (ArePlaces []) ((front ++ d ∷ []) ++ more) a
  only_some front d r more b rest None is n means = absurd (n (sym (same_head front d r more b rest is) ∙ ap (λ t. get_or t 0 0) means))
  only_some front d r more b rest (Some ps) is n means = record { value = ps; is = refl; means = means }

  stopped : (b : ℕ) (rest stop : List ℕ) (t : Bool) → eqb b m ≡ t
      → cond t (made_at to_none (word_at word) (b ∷ rest)) (made_at to_some places_at (b ∷ rest)) ≡ Err stop → StopsAt (IsMarked word) (b ∷ rest) stop
  stopped b rest stop true at e =
      let s = (none_piece word).stops (b ∷ rest) stop e in
      record {
        front = s.front;
        parts = s.parts;
        begins = record { more = s.begins.more; value = s.begins.value; means = from_none word (s.front ++ s.begins.more) s.begins.value s.begins.means };
        never = none_of (IsMarked word) (Made to_none (IsWord word)) s.front s.front stop
            (λ d r is begins. record { more = begins.more; value = begins.value; means = only_none s.front d r begins.more b rest begins.value (s.parts ∙ ap (λ t. s.front ++ t) is) (eqb-true b m at) begins.means })
            s.never;
      }
  stopped b rest stop false at e =
      let s = some_piece.stops (b ∷ rest) stop e in
      record {
        front = s.front;
        parts = s.parts;
        begins = record { more = s.begins.more; value = s.begins.value; means = from_some word (s.front ++ s.begins.more) s.begins.value s.begins.means };
        never = none_of (IsMarked word) (Made to_some (ArePlaces [])) s.front s.front stop
            (λ d r is begins. record { more = begins.more; value = begins.value; means = only_some s.front d r begins.more b rest begins.value (s.parts ∙ ap (λ t. s.front ++ t) is) (eqb-false b m at) begins.means })
            s.never;
      }

  marked_begins : Begins (IsMarked word) []
  marked_begins = record { more = word; value = None; means = refl }

  stops : (bytes stop : List ℕ) → marked_line m word bytes ≡ Err stop → StopsAt (IsMarked word) bytes stop
  unfolding marked_line
  stops [] stop e =
      let is : [] ≡ stop = cc in
      record { front = []; parts = is; begins = marked_begins; never = subst (λ (s : List ℕ). NoneGoesOn (IsMarked word) [] s) is tt }
  stops (b ∷ rest) stop e = stopped b rest stop (eqb b m) refl e

  pub marked_piece : Piece (marked_line m word) (IsMarked word)
  marked_piece = record { takes = takes; again = λ text rest x means. again text rest x means; stops = stops; some = marked_begins }

-- ---- the best selection

pub record IsBestLine (text : List ℕ) (a : Option (List ℕ)) : Type 0 where
  pub is : text ≡ answer_text a ++ codes "\n"
  pub some : IsAnswer a
  pub small : HasSmallPlaces a

abbrev none_word : List ℕ
none_word = codes "none\n"

best_to : (text : List ℕ) (a : Option (List ℕ)) → IsMarked none_word text a → IsBestLine text a
best_to text None m = record { is = m; some = tt; small = tt }
best_to text (Some ps) m = subst (λ (q : List ℕ). IsBestLine text (Some q)) (sym m.whole) (record { is = m.text_is; some = omega arith; small = m.small })

best_from : (text : List ℕ) (a : Option (List ℕ)) → IsBestLine text a → IsMarked none_word text a
best_from text None l = l.is
best_from text (Some []) l = absurd (omega (arith, l.some))
best_from text (Some (p ∷ ps)) l = record { first = p; more = ps; whole = refl; text_is = l.is; small = l.small }

pub best_piece : Piece best_line IsBestLine
best_piece = piece_as best_line (IsMarked none_word) IsBestLine best_to best_from (marked_piece 110 (codes "one\n") (λ d. omega (arith, d.high)))

-- ---- the chosen places

pub record IsChosenLine (text ps : List ℕ) : Type 0 where
  pub is : text ≡ chosen_text ps ++ codes "\n"
  pub small : AllByRecursion (λ p. p ≤ 4_294_967_295) ps

abbrev dash : List ℕ
dash = codes "-\n"

chosen_of : (text : List ℕ) (a : Option (List ℕ)) → IsMarked dash text a → IsChosenLine text (or_none a)
chosen_of text None m = record { is = m; small = tt }
chosen_of text (Some ps) m = subst (λ (q : List ℕ). IsChosenLine text q) (sym m.whole) (record { is = m.text_is; small = m.small })

chosen_to : (text ps : List ℕ) → Made or_none (IsMarked dash) text ps → IsChosenLine text ps
chosen_to text ps m = subst (IsChosenLine text) (sym m.is) (chosen_of text m.value m.means)

chosen_from : (text ps : List ℕ) → IsChosenLine text ps → Made or_none (IsMarked dash) text ps
chosen_from text [] l = record { value = None; is = refl; means = l.is }
chosen_from text (p ∷ ps) l = record { value = Some (p ∷ ps); is = refl; means = record { first = p; more = ps; whole = refl; text_is = l.is; small = l.small } }

pub chosen_piece : Piece chosen_line IsChosenLine
chosen_piece = piece_as chosen_line (Made or_none (IsMarked dash)) IsChosenLine chosen_to chosen_from (made_piece or_none (marked_line 45 dash) (IsMarked dash) (marked_piece 45 (codes "\n") (λ d. omega (arith, d.low))))
