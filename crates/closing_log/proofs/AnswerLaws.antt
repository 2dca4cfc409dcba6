-- The places of an answer, or `none`, up to a line feed, are read exactly.
use Rattle.std.proofs.Common.{◌≡◌, ℕ, ◌^◌, ◌<◌, Bool, true, false, cond, eqb, List, [], ◌∷◌, ◌++◌, length, get_or, Ok, Err, Option, Some, None, refl, sym, ap, subst, ◌∙◌, append_assoc, arith, eqb-true, ne_eqb}
use Rattle.std.specs.Prelude.{⊤, codes}
use Rattle.std.specs.Fmt.{decimal}
use Rattle.std.proofs.lemmas.Bool.{eqb-false}
use Rattle.std.proofs.lemmas.List.{length-append}
use Rattle.std.specs.List.{flat_map}
use Rattle.std.proofs.lemmas.Fmt.{decimal_is_IsNumeral}
use Rattle.std.proofs.lemmas.Str.Parse.{digit_at}
use Rattle.closing_log.specs.Exact.{StopsAt, NoneGoesOn}
use Rattle.closing_log.specs.Reading.{answer_at, made_at, word_at, places_at}
use Rattle.closing_log.proofs.Exactness.{Piece, Held, Made, none_of}
use Rattle.closing_log.proofs.PartLaws.{made_piece}
use Rattle.closing_log.proofs.PlaceLaws.{ArePlaces, places_piece}
use Rattle.closing_log.proofs.WordLaws.{IsWord, word_piece}

abbrev pub IsAnswerText : List ℕ → Option (List ℕ) → Type 0
IsAnswerText text None = text ≡ codes "none\n"
IsAnswerText text (Some ps) = ArePlaces [] text ps

abbrev to_none : ⊤ → Option (List ℕ)
to_none = λ u. None

abbrev to_some : List ℕ → Option (List ℕ)
to_some = λ ps. Some ps

none_piece : Piece (made_at to_none (word_at (codes "none\n"))) (Made to_none (IsWord (codes "none\n")))
none_piece = made_piece to_none (word_at (codes "none\n")) (IsWord (codes "none\n")) (word_piece (codes "none\n"))

some_piece : Piece (made_at to_some places_at) (Made to_some (ArePlaces []))
some_piece = made_piece to_some places_at (ArePlaces []) places_piece

from_none : (text : List ℕ) (a : Option (List ℕ)) → Made to_none (IsWord (codes "none\n")) text a → IsAnswerText text a
from_none text None m = m.means
from_none text (Some ps) m = absurd (let h = m.is in cc)

from_some : (text : List ℕ) (a : Option (List ℕ)) → Made to_some (ArePlaces []) text a → IsAnswerText text a
from_some text None m = absurd (let h = m.is in cc)
from_some text (Some ps) m = let same : m.value ≡ ps = (let h = m.is in cc) in subst (λ (q : List ℕ). ArePlaces [] text q) same m.means

-- ---- how they begin

decimal_head : (n : ℕ) → n < 2 ^ 64 → get_or (decimal n) 0 0 < 58
decimal_head n small = let k = (decimal_is_IsNumeral n small).0 in let d = digit_at (decimal n) 0 k.1 k.0 in omega (arith, d)

first_of_append : (a b : List ℕ) → 0 < length a → get_or (a ++ b) 0 0 ≡ get_or a 0 0
first_of_append [] b some = absurd (omega arith)
first_of_append (c ∷ a) b some = refl

places_head : (text ps : List ℕ) → ArePlaces [] text ps → (get_or text 0 0 < 58) × (0 < length text)
places_head text ps m =
    let small : m.first < 2 ^ 64 = omega (arith, m.small.0) in
    let k = (decimal_is_IsNumeral m.first small).0 in
    let t : text ≡ decimal m.first ++ (flat_map (λ (q : ℕ). 32 ∷ decimal q) m.more ++ 10 ∷ []) = m.text_is ∙ append_assoc (decimal m.first) (flat_map (λ (q : ℕ). 32 ∷ decimal q) m.more) (10 ∷ []) in
    (omega (arith, ap (λ x. get_or x 0 0) t, first_of_append (decimal m.first) (flat_map (λ (q : ℕ). 32 ∷ decimal q) m.more ++ 10 ∷ []) k.0, decimal_head m.first small), omega (arith, k.0, ap length t, length-append (decimal m.first) (flat_map (λ (q : ℕ). 32 ∷ decimal q) m.more ++ 10 ∷ [])))

-- what begins like these bytes up to and with a byte of them has their first byte
same_head : (front : List ℕ) (d : ℕ) (r more : List ℕ) (b : ℕ) (rest : List ℕ) → b ∷ rest ≡ front ++ d ∷ r → get_or ((front ++ d ∷ []) ++ more) 0 0 ≡ b
same_head [] d r more b rest is = cc
same_head (c ∷ front) d r more b rest is = cc

-- ---- the law

answer_took : (b : ℕ) (rest : List ℕ) (x : Option (List ℕ) × List ℕ) (t : Bool)
    → cond t (made_at to_none (word_at (codes "none\n")) (b ∷ rest)) (made_at to_some places_at (b ∷ rest)) ≡ Ok x → Held IsAnswerText (b ∷ rest) x
answer_took b rest x true e = let h = none_piece.takes (b ∷ rest) x e in record { text = h.text; parts = h.parts; means = from_none h.text x.0 h.means }
answer_took b rest x false e = let h = some_piece.takes (b ∷ rest) x e in record { text = h.text; parts = h.parts; means = from_some h.text x.0 h.means }

answer_takes : (bytes : List ℕ) (x : Option (List ℕ) × List ℕ) → answer_at bytes ≡ Ok x → Held IsAnswerText bytes x
unfolding answer_at
answer_takes [] x e = absurd cc
answer_takes (b ∷ rest) x e = answer_took b rest x (eqb b 110) e

answer_again : (text rest : List ℕ) (a : Option (List ℕ)) → IsAnswerText text a → answer_at (text ++ rest) ≡ Ok (a, rest)
unfolding answer_at
answer_again text rest None means =
    ap (λ t. answer_at (t ++ rest)) means ∙ none_piece.again (codes "none\n") rest None (record { value = tt; is = refl; means = refl })
answer_again [] rest (Some ps) means = absurd (omega (arith, (places_head [] ps means).1))
answer_again (b ∷ text) rest (Some ps) means =
    let other : eqb b 110 ≡ false = ne_eqb b 110 (λ is. omega (arith, is, (places_head (b ∷ text) ps means).0)) in
    rw other (some_piece.again (b ∷ text) rest (Some ps) (record { value = ps; is = refl; means = means }))

only_none : (front : List ℕ) (d : ℕ) (r more : List ℕ) (b : ℕ) (rest : List ℕ) (a : Option (List ℕ)) → b ∷ rest ≡ front ++ d ∷ r → b ≡ 110 → IsAnswerText ((front ++ d ∷ []) ++ more) a → Made to_none (IsWord (codes "none\n")) ((front ++ d ∷ []) ++ more) a
only_none front d r more b rest None is n means = record { value = tt; is = refl; means = means }
only_none front d r more b rest (Some ps) is n means = absurd (omega (arith, n, same_head front d r more b rest is, (places_head ((front ++ d ∷ []) ++ more) ps means).0))

only_some : (front : List ℕ) (d : ℕ) (r more : List ℕ) (b : ℕ) (rest : List ℕ) (a : Option (List ℕ)) → b ∷ rest ≡ front ++ d ∷ r → (b ≡ 110 → ⊥) → IsAnswerText ((front ++ d ∷ []) ++ more) a → Made to_some (ArePlaces []) ((front ++ d ∷ []) ++ more) a
only_some front d r more b rest None is n means = absurd (n (sym (same_head front d r more b rest is) ∙ ap (λ t. get_or t 0 0) means))
only_some front d r more b rest (Some ps) is n means = record { value = ps; is = refl; means = means }

answer_stopped : (b : ℕ) (rest stop : List ℕ) (t : Bool) → eqb b 110 ≡ t
    → cond t (made_at to_none (word_at (codes "none\n")) (b ∷ rest)) (made_at to_some places_at (b ∷ rest)) ≡ Err stop → StopsAt IsAnswerText (b ∷ rest) stop
answer_stopped b rest stop true at e =
    let s = none_piece.stops (b ∷ rest) stop e in
    record {
      front = s.front;
      parts = s.parts;
      begins = record { more = s.begins.more; value = s.begins.value; means = from_none (s.front ++ s.begins.more) s.begins.value s.begins.means };
      never = none_of IsAnswerText (Made to_none (IsWord (codes "none\n"))) s.front s.front stop
          (λ d r is begins. record { more = begins.more; value = begins.value; means = only_none (s.front) d r begins.more b rest begins.value (s.parts ∙ ap (λ t. s.front ++ t) is) (eqb-true b 110 at) begins.means })
          s.never;
    }
answer_stopped b rest stop false at e =
    let s = some_piece.stops (b ∷ rest) stop e in
    record {
      front = s.front;
      parts = s.parts;
      begins = record { more = s.begins.more; value = s.begins.value; means = from_some (s.front ++ s.begins.more) s.begins.value s.begins.means };
      never = none_of IsAnswerText (Made to_some (ArePlaces [])) s.front s.front stop
          (λ d r is begins. record { more = begins.more; value = begins.value; means = only_some (s.front) d r begins.more b rest begins.value (s.parts ∙ ap (λ t. s.front ++ t) is) (eqb-false b 110 at) begins.means })
          s.never;
    }

answer_stops : (bytes stop : List ℕ) → answer_at bytes ≡ Err stop → StopsAt IsAnswerText bytes stop
unfolding answer_at
answer_stops [] stop e =
    let is : [] ≡ stop = cc in
    record { front = []; parts = is; begins = record { more = codes "none\n"; value = None; means = refl }; never = subst (λ (s : List ℕ). NoneGoesOn IsAnswerText [] s) is tt }
answer_stops (b ∷ rest) stop e = answer_stopped b rest stop (eqb b 110) refl e

pub answer_piece : Piece answer_at IsAnswerText
answer_piece = record {
  takes = answer_takes;
  again = λ text rest x means. answer_again text rest x means;
  stops = answer_stops;
  some = record { more = codes "none\n"; value = None; means = refl };
}
