-- Places with a blank between them, and the line of an answer, are read exactly.
use Rattle.std.proofs.Common.{◌≡◌, ℕ, zero, suc, ◌≤◌, Bool, true, false, cond, eqb, List, [], ◌∷◌, ◌++◌, length, Result, Ok, ◌⊎◌, inl, inr, refl, sym, ap, subst, ◌∙◌, append_assoc, arith, eqb-true}
use Rattle.std.specs.Fmt.{decimal}
use Rattle.std.specs.List.{AllByRecursion}
use Rattle.std.proofs.lemmas.Bool.{eqb-false}
use Rattle.std.proofs.lemmas.List.{append-nil, length-append, nil_from_length}
use Rattle.std.proofs.lemmas.List.Concat.{flat_map-cons}
use Rattle.closing_log.specs.Exact.{Begins, NoneGoesOn}
use Rattle.closing_log.specs.LogText.{places_text}
use Rattle.closing_log.specs.Reading.{places_from, places_at, number_at, is_one_of}
use Rattle.closing_log.proofs.Exactness.{Piece, Law, Held, Then, then_law, law_as, piece_of}
use Rattle.closing_log.proofs.NumberLaws.{IsNumber, AreEnds, number_piece}

-- ---- laws by a test, and where nothing more is read

pub data Branch {Y : Type 0} (t : Bool) (Yes No : List ℕ → Y → Type 0) (bytes : List ℕ) (y : Y) : Type 0 where
  taken : t ≡ true → Yes bytes y → Branch t Yes No bytes y
  passed : t ≡ false → No bytes y → Branch t Yes No bytes y

from_true : {Y : Type 0} (Yes No : List ℕ → Y → Type 0) (bytes : List ℕ) (y : Y) → Branch true Yes No bytes y → Yes bytes y
from_true Yes No bytes y (taken h m) = m
from_true Yes No bytes y (passed h m) = absurd cc

from_false : {Y : Type 0} (Yes No : List ℕ → Y → Type 0) (bytes : List ℕ) (y : Y) → Branch false Yes No bytes y → No bytes y
from_false Yes No bytes y (taken h m) = absurd cc
from_false Yes No bytes y (passed h m) = m

pub branch_law : {Y : Type 0} (n : ℕ) (t : Bool) (f g : List ℕ → Result Y (List ℕ)) (Yes No : List ℕ → Y → Type 0) → Law n f Yes → Law n g No → Law n (λ bytes. cond t (f bytes) (g bytes)) (Branch t Yes No)
branch_law n true f g Yes No first second = law_as n f Yes (Branch true Yes No) (λ bytes y m. taken refl m) (from_true Yes No) first
branch_law n false f g Yes No first second = law_as n g No (Branch false Yes No) (λ bytes y m. passed refl m) (from_false Yes No) second

pub done_law : {Y : Type 0} (n : ℕ) (make : List ℕ → Y) → Law n (λ bytes. Ok (make bytes)) (λ bytes y. y ≡ make bytes)
done_law {Y = Y} n make = record {
  takes = λ bytes y le e. let same : make bytes ≡ y = cc in sym same;
  again = λ bytes y le is. ap (λ (z : Y). Ok z) (sym is);
  stops = λ bytes stop le e. absurd cc;
  some = record { more = []; value = make []; means = refl };
}

-- ---- places

abbrev pub most_place : ℕ
most_place = 4_294_967_295

abbrev pub place_ends : List ℕ
place_ends = 32 ∷ 10 ∷ []

end_case : (e : ℕ) (s t : Bool) → eqb 32 e ≡ s → eqb 10 e ≡ t → is_one_of place_ends e ≡ true → (e ≡ 32) ⊎ (e ≡ 10)
end_case e true t is at h = inl (sym (eqb-true 32 e is))
end_case e false true is at h = inr (sym (eqb-true 10 e at))
end_case e false false is at h = absurd (let no : is_one_of place_ends e ≡ false = rw (is, at) refl in let both : true ≡ false = sym h ∙ no in cc)

end_cases : (e : ℕ) → is_one_of place_ends e ≡ true → (e ≡ 32) ⊎ (e ≡ 10)
end_cases e h = end_case e (eqb 32 e) (eqb 10 e) refl refl h

pub place_ends_are : AreEnds place_ends
place_ends_are = record { low = λ e h. elim (end_cases e h) [ inl is ↦ omega arith | inr is ↦ omega arith ]; one = 10; is_one = refl }

-- what some places and a line feed are, behind others
pub record ArePlaces (done text ps : List ℕ) : Type 0 where
  pub first : ℕ
  pub more : List ℕ
  pub whole : ps ≡ done ++ first ∷ more
  pub text_is : text ≡ places_text (first ∷ more) ++ 10 ∷ []
  pub small : AllByRecursion (λ p. p ≤ 4_294_967_295) (first ∷ more)

places_some : (done : List ℕ) → Begins (Held (ArePlaces done)) []
places_some done = record {
  more = places_text (0 ∷ []) ++ 10 ∷ [];
  value = (done ++ 0 ∷ [], []);
  means = record { text = places_text (0 ∷ []) ++ 10 ∷ []; parts = sym (append-nil (places_text (0 ∷ []) ++ 10 ∷ [])); means = record { first = 0; more = []; whole = refl; text_is = refl; small = (omega arith, tt) } };
}

-- what stands behind a place: the end, or other places
abbrev behind_at : ℕ → List ℕ → ℕ × ℕ → List ℕ → Result (List ℕ × List ℕ) (List ℕ)
behind_at turns done p bytes = cond (eqb p.1 10) (Ok (done ++ p.0 ∷ [], bytes)) (places_from turns (done ++ p.0 ∷ []) bytes)

abbrev Behind : List ℕ → ℕ × ℕ → List ℕ → List ℕ × List ℕ → Type 0
Behind done p = Branch (eqb p.1 10) (λ bytes y. y ≡ (done ++ p.0 ∷ [], bytes)) (Held (ArePlaces (done ++ p.0 ∷ [])))

one_place : (p : ℕ) → places_text (p ∷ []) ≡ decimal p
one_place p = append-nil (decimal p)

more_places : (p q : ℕ) (qs : List ℕ) → places_text (p ∷ q ∷ qs) ++ 10 ∷ [] ≡ (decimal p ++ 32 ∷ []) ++ (places_text (q ∷ qs) ++ 10 ∷ [])
more_places p q qs = simp (flat_map-cons, append_assoc)

to_places_of : (done bytes : List ℕ) (y : List ℕ × List ℕ) (p : ℕ × ℕ) (front back : List ℕ) → bytes ≡ front ++ back → IsNumber most_place place_ends front p → Behind done p back y → Held (ArePlaces done) bytes y
to_places_of done bytes y p front back parts first (taken t is) =
    let feed : p.1 ≡ 10 = eqb-true p.1 10 t in
    let text : front ≡ places_text (p.0 ∷ []) ++ 10 ∷ [] = first.text_is ∙ ap (λ e. decimal p.0 ++ e ∷ []) feed ∙ ap (λ t. t ++ 10 ∷ []) (sym (one_place p.0)) in
    record {
      text = front;
      parts = parts ∙ ap (λ (z : List ℕ × List ℕ). front ++ z.1) (sym is);
      means = record { first = p.0; more = []; whole = ap (λ (z : List ℕ × List ℕ). z.0) is; text_is = text; small = (first.small, tt) };
    }
to_places_of done bytes y p front back parts first (passed t h) =
    let m = h.means in
    let blank : p.1 ≡ 32 = elim (end_cases p.1 first.end) [ inl is ↦ is | inr is ↦ absurd (eqb-false p.1 10 t is) ] in
    let text : front ++ h.text ≡ places_text (p.0 ∷ m.first ∷ m.more) ++ 10 ∷ [] =
    ap (λ t. t ++ h.text) (first.text_is ∙ ap (λ e. decimal p.0 ++ e ∷ []) blank) ∙ ap (λ t. (decimal p.0 ++ 32 ∷ []) ++ t) m.text_is ∙ sym (more_places p.0 m.first m.more) in
    record {
      text = front ++ h.text;
      parts = parts ∙ ap (λ t. front ++ t) h.parts ∙ sym (append_assoc front h.text y.1);
      means = record { first = p.0; more = m.first ∷ m.more; whole = m.whole ∙ append_assoc done (p.0 ∷ []) (m.first ∷ m.more); text_is = text; small = (first.small, m.small) };
    }

to_places : (done bytes : List ℕ) (y : List ℕ × List ℕ) → Then (IsNumber most_place place_ends) (Behind done) bytes y → Held (ArePlaces done) bytes y
to_places done bytes y t = to_places_of done bytes y t.value t.front t.back t.parts t.first t.others

from_places_of : (done bytes : List ℕ) (y : List ℕ × List ℕ) (text : List ℕ) → bytes ≡ text ++ y.1 → (first : ℕ) (more : List ℕ) → y.0 ≡ done ++ first ∷ more → text ≡ places_text (first ∷ more) ++ 10 ∷ []
    → AllByRecursion (λ p. p ≤ 4_294_967_295) (first ∷ more) → Then (IsNumber most_place place_ends) (Behind done) bytes y
from_places_of done bytes y text parts p [] whole is small = record {
  value = (p, 10);
  front = decimal p ++ 10 ∷ [];
  back = y.1;
  parts = parts ∙ ap (λ t. t ++ y.1) (is ∙ ap (λ t. t ++ 10 ∷ []) (one_place p));
  first = record { small = small.0; end = refl; text_is = refl };
  others = taken refl (ap (λ (z : List ℕ). (z, y.1)) whole);
}
from_places_of done bytes y text parts p (q ∷ qs) whole is small = record {
  value = (p, 32);
  front = decimal p ++ 32 ∷ [];
  back = (places_text (q ∷ qs) ++ 10 ∷ []) ++ y.1;
  parts = parts ∙ ap (λ t. t ++ y.1) (is ∙ more_places p q qs) ∙ append_assoc (decimal p ++ 32 ∷ []) (places_text (q ∷ qs) ++ 10 ∷ []) y.1;
  first = record { small = small.0; end = refl; text_is = refl };
  others = passed refl (record {
    text = places_text (q ∷ qs) ++ 10 ∷ [];
    parts = refl;
    means = record { first = q; more = qs; whole = whole ∙ sym (append_assoc done (p ∷ []) (q ∷ qs)); text_is = refl; small = small.1 };
  });
}

from_places : (done bytes : List ℕ) (y : List ℕ × List ℕ) → Held (ArePlaces done) bytes y → Then (IsNumber most_place place_ends) (Behind done) bytes y
from_places done bytes y h = from_places_of done bytes y h.text h.parts h.means.first h.means.more h.means.whole h.means.text_is h.means.small

number_long : (text : List ℕ) (x : ℕ × ℕ) → IsNumber most_place place_ends text x → 1 ≤ length text
number_long text x means = omega (arith, ap length means.text_is, length-append (decimal x.0) (x.1 ∷ []))

places_law : (n : ℕ) (done : List ℕ) → Law n (places_from n done) (Held (ArePlaces done))
unfolding places_from
places_law zero done = record {
  takes = λ bytes y le e. absurd cc;
  again = λ bytes y le h.
      let t = from_places done bytes y h in
      absurd (omega (arith, le, number_long t.front t.value t.first, ap length t.parts, length-append t.front t.back));
  stops = λ bytes stop le e.
      let same : bytes ≡ stop = cc in
      let nothing : [] ≡ stop = sym (nil_from_length bytes (omega arith)) ∙ same in
      record { front = []; parts = same; begins = places_some done; never = subst (λ (s : List ℕ). NoneGoesOn (Held (ArePlaces done)) [] s) nothing tt };
  some = places_some done;
}
places_law (suc n) done =
    law_as (suc n) (places_from (suc n) done) (Then (IsNumber most_place place_ends) (Behind done)) (Held (ArePlaces done)) (to_places done) (from_places done)
    (then_law (suc n) n (number_at most_place place_ends) (IsNumber most_place place_ends) (behind_at n done) (Behind done)
    (λ text x means. omega (arith, number_long text x means))
    (number_piece most_place place_ends (omega arith) place_ends_are)
    (λ p. branch_law n (eqb p.1 10) (λ bytes. Ok (done ++ p.0 ∷ [], bytes)) (places_from n (done ++ p.0 ∷ [])) (λ bytes y. y ≡ (done ++ p.0 ∷ [], bytes)) (Held (ArePlaces (done ++ p.0 ∷ [])))
    (done_law n (λ bytes. (done ++ p.0 ∷ [], bytes))) (places_law n (done ++ p.0 ∷ []))))

pub places_piece : Piece places_at (ArePlaces [])
places_piece = piece_of (λ n. places_from n []) (ArePlaces []) (λ n. places_law n []) (record {
  more = places_text (0 ∷ []) ++ 10 ∷ [];
  value = 0 ∷ [];
  means = record { first = 0; more = []; whole = refl; text_is = refl; small = (omega arith, tt) };
})
