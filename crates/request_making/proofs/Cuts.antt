-- The cut of a text into its parts, and what they come to.
use Rattle.std.proofs.Common.{◌≡◌, ℕ, ◌+◌, ◌<◌, ◌≤◌, Bool, true, false, cond, List, [], ◌∷◌, ◌++◌, length, get_or, take, drop, Option, Some, None, Ok, Err, refl, sym, ◌∙◌, ap, subst, arith, eqb, ltb}
use Rattle.std.specs.Prelude.{IfSome, is_some, unwrap_or}
use Rattle.std.specs.Char.{is_ascii_digit}
use Rattle.std.specs.List.{prefix_len}
use Rattle.std.specs.Str.Parse.{AllDigits}
use Rattle.std.proofs.lemmas.Bool.{eqb-true, eq-eqb}
use Rattle.std.proofs.lemmas.Bool.Decides.{nat_tests}
use Rattle.std.proofs.lemmas.List.{take-append-drop}
use Rattle.std.proofs.Math.Seq.{take-append_seam, drop-append_seam}
use Rattle.request_making.specs.Spelling.{IsSpelled, scaled, behind_point}
use Rattle.request_making.specs.Spelled.{IsCut, judged, pointed, spelled, valued}
use Rattle.request_making.specs.Units.{places_of}
use Rattle.request_making.specs.declared.fault.SpellingFault.TheVariants.{Digit, Fine, Range}
use Rattle.request_making.specs.declared.unit.Kind.{Kind}
use Rattle.request_making.proofs.DigitLaws.{front_digits, front_len, behind_front}
use Rattle.request_making.proofs.Words.{unit_begins}

by_other : (n : ℕ) → (n ≡ 46 → ⊥) → eqb n 46 ≡ false
by_other n other = grind (arith, nat_tests)

-- what stands behind the point, cut in two
pointed_is : (kind : Kind) (most : ℕ) (whole fraction unit : List ℕ) → AllDigits 10 fraction → is_ascii_digit (get_or unit 0 0) ≡ false
    → pointed kind most whole (fraction ++ unit) ≡ cond (eqb (length fraction) 0) (Err (Digit (length whole + 1))) (valued most (length whole + 1 + length fraction) (places_of kind true unit) whole fraction)
unfolding pointed
pointed_is kind most whole fraction unit digits fails = rw (front_len fraction unit digits fails, take-append_seam fraction unit, drop-append_seam fraction unit) refl

-- a text, cut behind its digits
spelled_is : (kind : Kind) (most : ℕ) (whole rest : List ℕ) → AllDigits 10 whole → is_ascii_digit (get_or rest 0 0) ≡ false
    → spelled kind most (whole ++ rest) ≡ cond (eqb (length whole) 0) (Err (Digit 0)) (cond (eqb (get_or rest 0 0) 46) (pointed kind most whole (drop 1 rest)) (valued most (length whole) (places_of kind false rest) whole []))
unfolding spelled
spelled_is kind most whole rest digits fails = rw (front_len whole rest digits fails, take-append_seam whole rest, drop-append_seam whole rest) refl

-- a text comes to what its parts come to
pub judged_is : (kind : Kind) (most : ℕ) (text whole : List ℕ) (fraction : Option (List ℕ)) (unit : List ℕ) → IsCut text whole fraction unit → spelled kind most text ≡ judged kind most whole fraction unit
judged_is kind most text whole None unit cut =
    let e = spelled_is kind most whole unit cut.digits cut.no_digit in
    let fails = by_other (get_or unit 0 0) cut.no_point in
    ap (spelled kind most) cut.joined ∙ e ∙ rw fails refl
judged_is kind most text whole (Some fraction) unit cut =
    let e = spelled_is kind most whole (46 ∷ (fraction ++ unit)) cut.digits refl in
    ap (spelled kind most) cut.joined ∙ e ∙ rw (pointed_is kind most whole fraction unit cut.behind cut.no_digit) refl

-- ---- Each text has a cut

pub record Cut (text : List ℕ) : Type 0 where
  pub whole : List ℕ
  pub fraction : Option (List ℕ)
  pub unit : List ℕ
  pub is : IsCut text whole fraction unit

abbrev front_of : List ℕ → List ℕ
front_of text = take (prefix_len is_ascii_digit text) text

abbrev rest_of : List ℕ → List ℕ
rest_of text = drop (prefix_len is_ascii_digit text) text

joined_by : (text rest : List ℕ) → rest_of text ≡ rest → text ≡ front_of text ++ rest
joined_by text rest e = sym (take-append-drop (prefix_len is_ascii_digit text) text) ∙ ap (λ (r : List ℕ). front_of text ++ r) e

no_digit_by : (text rest : List ℕ) → rest_of text ≡ rest → is_ascii_digit (get_or rest 0 0) ≡ false
no_digit_by text rest e = let P : List ℕ → Type 0 = λ r. is_ascii_digit (get_or r 0 0) ≡ false in subst P e (behind_front text)

plain_cut : (text rest : List ℕ) → rest_of text ≡ rest → (get_or rest 0 0 ≡ 46 → ⊥) → Cut text
plain_cut text rest e fails = record { whole = front_of text; fraction = None; unit = rest; is = record { joined = joined_by text rest e; digits = front_digits text; behind = tt; no_digit = no_digit_by text rest e; no_point = fails } }

pointed_cut : (text behind : List ℕ) → rest_of text ≡ 46 ∷ behind → Cut text
pointed_cut text behind e = record {
  whole = front_of text;
  fraction = Some (front_of behind);
  unit = rest_of behind;
  is = record {
    joined = joined_by text (46 ∷ behind) e ∙ ap (λ (r : List ℕ). front_of text ++ (46 ∷ r)) (joined_by behind (rest_of behind) refl);
    digits = front_digits text;
    behind = front_digits behind;
    no_digit = behind_front behind;
    no_point = tt;
  };
}

byte_cut : (b : Bool) (text : List ℕ) (c : ℕ) (cs : List ℕ) → rest_of text ≡ c ∷ cs → eqb c 46 ≡ b → Cut text
byte_cut true text c cs e holds = pointed_cut text cs (e ∙ ap (λ (k : ℕ). k ∷ cs) (eqb-true c 46 holds))
byte_cut false text c cs e fails = plain_cut text (c ∷ cs) e (λ is. let holds = eq-eqb c 46 is in cc (fails, holds))

cut_by : (text rest : List ℕ) → rest_of text ≡ rest → Cut text
cut_by text [] e = plain_cut text [] e (λ is. omega (arith, is))
cut_by text (c ∷ cs) e = byte_cut (eqb c 46) text c cs e refl

pub cut_of : (text : List ℕ) → Cut text
cut_of text = cut_by text (rest_of text) refl

-- ---- What is spelled

not_lt : (a b : ℕ) → b ≤ a → ltb a b ≡ false
not_lt a b le = grind (arith, nat_tests)

lt_not : (a b : ℕ) → ltb a b ≡ false → b ≤ a
lt_not a b e = grind (arith, nat_tests)

positive_by : (n : ℕ) → eqb n 0 ≡ false → 0 < n
positive_by n e = grind (arith, nat_tests)

by_positive : (n : ℕ) → 0 < n → eqb n 0 ≡ false
by_positive n h = grind (arith, nat_tests)

-- a unit with these places, in whose parts the number is not too great
valued_ok : (most place places n : ℕ) (whole fraction : List ℕ) → length fraction ≤ places → n ≡ scaled places whole fraction → n ≤ most → valued most place (Some places) whole fraction ≡ Ok n
unfolding valued
valued_ok most place places n whole fraction fine is le =
    let P : ℕ → Type 0 = λ k. k ≤ most in
    rw (not_lt places (length fraction) fine, not_lt most (scaled places whole fraction) (subst P is le)) (ap Ok (sym is))

-- and back
pub record Valued (most n : ℕ) (known : Option ℕ) (whole fraction : List ℕ) : Type 0 where
  pub places : ℕ
  pub is : known ≡ Some places
  pub fine : length fraction ≤ places
  pub value : n ≡ scaled places whole fraction
  pub within : n ≤ most

valued_found : (most place n : ℕ) (known : Option ℕ) (whole fraction : List ℕ) → valued most place known whole fraction ≡ Ok n → Valued most n known whole fraction
unfolding valued
valued_found most place n None whole fraction e = cc
valued_found most place n (Some places) whole fraction e = by (ltb places (length fraction)) (ltb most (scaled places whole fraction)) refl refl e
  where
    by : (f g : Bool) → ltb places (length fraction) ≡ f → ltb most (scaled places whole fraction) ≡ g → cond f (Err (Fine (length whole + 1 + places))) (cond g (Err Range) (Ok (scaled places whole fraction))) ≡ Ok n → Valued most n (Some places) whole fraction
    by true g fe ge e = cc
    by false true fe ge e = cc
    by false false fe ge e =
        let is : scaled places whole fraction ≡ n = cc in
        let P : ℕ → Type 0 = λ k. k ≤ most in
        record { places = places; is = refl; fine = lt_not places (length fraction) fe; value = sym is; within = subst P is (lt_not most (scaled places whole fraction) ge) }

from_judged : (kind : Kind) (most n : ℕ) (text whole : List ℕ) (fraction : Option (List ℕ)) (unit : List ℕ) → IsCut text whole fraction unit → judged kind most whole fraction unit ≡ Ok n → IsSpelled kind text n × (n ≤ most)
from_judged kind most n text whole None unit cut e = by (eqb (length whole) 0) refl e
  where
    by : (z : Bool) → eqb (length whole) 0 ≡ z → cond z (Err (Digit 0)) (valued most (length whole) (places_of kind false unit) whole []) ≡ Ok n → IsSpelled kind text n × (n ≤ most)
    by true ze e = cc
    by false ze e =
        let v = valued_found most (length whole) n (places_of kind false unit) whole [] e in
        (record { whole = whole; fraction = None; unit = unit; places = v.places; joined = cut.joined; digits = cut.digits; some = positive_by (length whole) ze; behind = tt; known = v.is; value = v.value }, v.within)
from_judged kind most n text whole (Some fraction) unit cut e = by (eqb (length whole) 0) (eqb (length fraction) 0) refl refl e
  where
    by : (z f : Bool) → eqb (length whole) 0 ≡ z → eqb (length fraction) 0 ≡ f → cond z (Err (Digit 0)) (cond f (Err (Digit (length whole + 1))) (valued most (length whole + 1 + length fraction) (places_of kind true unit) whole fraction)) ≡ Ok n → IsSpelled kind text n × (n ≤ most)
    by true f ze fe e = cc
    by false true ze fe e = cc
    by false false ze fe e =
        let v = valued_found most (length whole + 1 + length fraction) n (places_of kind true unit) whole fraction e in
        let some = positive_by (length fraction) fe in
        (record { whole = whole; fraction = Some fraction; unit = unit; places = v.places; joined = cut.joined; digits = cut.digits; some = positive_by (length whole) ze; behind = (cut.behind, some, v.fine); known = v.is; value = v.value }, v.within)

pub found : (kind : Kind) (most n : ℕ) (text : List ℕ) → spelled kind most text ≡ Ok n → IsSpelled kind text n × (n ≤ most)
found kind most n text e =
    let c = cut_of text in
    from_judged kind most n text c.whole c.fraction c.unit c.is (sym (judged_is kind most text c.whole c.fraction c.unit c.is) ∙ e)

to_judged : (kind : Kind) (most n places : ℕ) (text whole : List ℕ) (fraction : Option (List ℕ)) (unit : List ℕ) → text ≡ whole ++ (behind_point fraction ++ unit) → AllDigits 10 whole → 0 < length whole
    → IfSome fraction (λ f. AllDigits 10 f × (0 < length f) × (length f ≤ places)) → places_of kind (is_some fraction) unit ≡ Some places → n ≡ scaled places whole (unwrap_or fraction []) → n ≤ most → spelled kind most text ≡ Ok n
to_judged kind most n places text whole None unit joined digits some behind known value le =
    let b = unit_begins kind false unit places known in
    let z = by_positive (length whole) some in
    judged_is kind most text whole None unit (record { joined = joined; digits = digits; behind = tt; no_digit = b.no_digit; no_point = b.no_point })
    ∙ rw (z, known) (valued_ok most (length whole) places n whole [] (omega arith) value le)
to_judged kind most n places text whole (Some fraction) unit joined digits some behind known value le =
    let b = unit_begins kind true unit places known in
    let z = by_positive (length whole) some in
    let f = by_positive (length fraction) behind.1 in
    judged_is kind most text whole (Some fraction) unit (record { joined = joined; digits = digits; behind = behind.0; no_digit = b.no_digit; no_point = tt })
    ∙ rw (z, f, known) (valued_ok most (length whole + 1 + length fraction) places n whole fraction behind.2 value le)

pub only : (kind : Kind) (most n : ℕ) (text : List ℕ) → IsSpelled kind text n → n ≤ most → spelled kind most text ≡ Ok n
only kind most n text s le = to_judged kind most n s.places text s.whole s.fraction s.unit s.joined s.digits s.some s.behind s.known s.value le
