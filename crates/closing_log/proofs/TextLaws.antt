-- A part of a log's text is read exactly: the last line, an open section, or the three lines of a section.
use Rattle.std.proofs.Common.{◌≡◌, ℕ, true, List, [], ◌∷◌, ◌++◌, Ok, Err, Option, Some, None, refl, sym, ap, subst, ◌∙◌, append_assoc, arith, le-leb, leb-true}
use Rattle.std.specs.Prelude.{codes, nat_le}
use Rattle.std.specs.Fmt.{decimal}
use Rattle.std.specs.List.{AllByRecursion}
use Rattle.std.proofs.lemmas.Bool.{and_parts}
use Rattle.std.proofs.lemmas.List.Elements.{All-from_recursion, recursion_from_All}
use Rattle.closing_log.specs.declared.log.Stage.{Stage}
use Rattle.closing_log.specs.declared.part.Head.{Head}
use Rattle.closing_log.specs.declared.part.Lead.{Lead}
use Rattle.closing_log.specs.declared.part.Lead.TheVariants as leads
use Rattle.closing_log.specs.declared.part.Part.{Part}
use Rattle.closing_log.specs.declared.part.Part.TheVariants.{End, Open, Closed}
use Rattle.closing_log.specs.Exact.{StopsAt, NoneGoesOn}
use Rattle.closing_log.specs.Log.{PlainSection}
use Rattle.closing_log.specs.LogText.{IsLetter, IsAnswer, HasSmallPlaces, IsClosed, IsOpen, head_text, open_text, closed_text, answer_text, stage_word}
use Rattle.closing_log.specs.Reading.{word_at, choice_at, is_letter, head_at, section_rest, section_of, open_of, lead_word, lead_at, end_of, led_at, part_at}
use Rattle.closing_log.proofs.Exactness.{Piece, Law, Then, then_law, law_as}
use Rattle.closing_log.proofs.WordLaws.{IsOneOf, choice_piece}
use Rattle.closing_log.proofs.AnswerLaws.{IsAnswerText}
use Rattle.closing_log.proofs.SectionLaws.{IsHead, head_piece}
use Rattle.closing_log.proofs.LetterLaws.{AreLetters, Rest, open_rest, closed_rest, rest_law}

-- ---- what a part begins with

abbrev InLeads : Lead → Type 0
InLeads m = Unit {0}

each_lead : (P : Lead → Type 0) → AllByRecursion P (leads.Ends ∷ leads.Begins ∷ []) → (m : Lead) → InLeads m → P m
each_lead P all leads.Ends is = all.0
each_lead P all leads.Begins is = all.1.0

lead_again : (m : Lead) (rest : List ℕ) → InLeads m → choice_at lead_word (leads.Ends ∷ leads.Begins ∷ []) (lead_word m ++ rest) (lead_word m ++ rest) ≡ Ok (m, rest)
unfolding choice_at word_at
lead_again leads.Ends rest is = refl
lead_again leads.Begins rest is = refl

lead_piece : Piece lead_at (IsOneOf lead_word InLeads)
lead_piece = choice_piece lead_word InLeads (leads.Ends ∷ leads.Begins ∷ []) (tt, (tt, tt)) each_lead lead_again (record { more = codes "end\n"; value = leads.Ends; means = (tt, refl) })

abbrev Led : Lead → List ℕ → Part × List ℕ → Type 0
Led leads.Ends bytes y = (bytes ≡ []) × (y ≡ (End, []))
Led leads.Begins bytes y = Then IsHead Rest bytes y

end_takes : (bytes : List ℕ) (y : Part × List ℕ) → end_of bytes ≡ Ok y → Led leads.Ends bytes y
end_takes [] y e = (refl, let same : (End, []) ≡ y = cc in sym same)
end_takes (b ∷ rest) y e = absurd cc

end_stops : (bytes stop : List ℕ) → end_of bytes ≡ Err stop → StopsAt (Led leads.Ends) bytes stop
end_stops [] stop e = absurd cc
end_stops (b ∷ rest) stop e =
    let is : b ∷ rest ≡ stop = cc in
    record {
      front = [];
      parts = is;
      begins = record { more = []; value = (End, []); means = (refl, refl) };
      never = subst (λ (s : List ℕ). NoneGoesOn (Led leads.Ends) [] s) is (λ begins. let h : b ∷ begins.more ≡ [] = begins.means.0 in absurd cc);
    }

end_law : (n : ℕ) → Law n end_of (Led leads.Ends)
end_law n = record {
  takes = λ bytes y le e. end_takes bytes y e;
  again = λ bytes y le m. ap end_of m.0 ∙ ap (λ (z : Part × List ℕ). Ok z) (sym m.1);
  stops = λ bytes stop le e. end_stops bytes stop e;
  some = record { more = []; value = (End, []); means = (refl, refl) };
}

led_law : (n : ℕ) (m : Lead) → Law n (led_at m) (Led m)
led_law n leads.Ends = end_law n
led_law n leads.Begins = then_law n n head_at IsHead section_rest Rest (λ text x m. omega arith) head_piece (rest_law n)

-- ---- a part of the text

-- the lines of a closed section, and what stands behind them
pub record Lines (bytes : List ℕ) (s : PlainSection) (rest : List ℕ) : Type 0 where
  pub text : List ℕ
  pub parts : bytes ≡ text ++ rest
  pub closed : IsClosed text s

abbrev pub IsPart : List ℕ → Part × List ℕ → Type 0
IsPart bytes (End, rest) = (bytes ≡ codes "end\n") × (rest ≡ [])
IsPart bytes (Open o, rest) = IsOpen bytes o × (rest ≡ [])
IsPart bytes (Closed s, rest) = Lines bytes s rest

letter_test : (b : ℕ) → is_letter b ≡ true → IsLetter b
letter_test b h = let p = and_parts (nat_le 33 b) (nat_le b 126) h in (leb-true 33 b p.0, leb-true b 126 p.1)

letter_passes : (b : ℕ) → IsLetter b → is_letter b ≡ true
letter_passes b h = let low : nat_le 33 b ≡ true = le-leb 33 b h.0 in let high : nat_le b 126 ≡ true = le-leb b 126 h.1 in rw (low, high) refl

to_letters : (letters : List ℕ) → AreLetters letters → AllByRecursion IsLetter letters
to_letters [] all = tt
to_letters (c ∷ cs) all = (letter_test c all.0, to_letters cs all.1)

from_letters : (letters : List ℕ) → AllByRecursion IsLetter letters → AreLetters letters
from_letters [] all = tt
from_letters (c ∷ cs) all = (letter_passes c all.0, from_letters cs all.1)

-- ---- the line of an answer

pub record IsLine (text : List ℕ) (a : Option (List ℕ)) : Type 0 where
  pub line : text ≡ answer_text a ++ codes "\n"
  pub some : IsAnswer a
  pub small : HasSmallPlaces a

to_line : (text : List ℕ) (a : Option (List ℕ)) → IsAnswerText text a → IsLine text a
to_line text None m = record { line = m; some = tt; small = tt }
to_line text (Some ps) m =
    subst (λ (q : List ℕ). IsLine text (Some q)) (sym m.whole) (record { line = m.text_is; some = omega arith; small = m.small })

from_line : (text : List ℕ) (a : Option (List ℕ)) → IsLine text a → IsAnswerText text a
from_line text None l = l.line
from_line text (Some []) l = absurd (omega (arith, l.some))
from_line text (Some (p ∷ ps)) l = record { first = p; more = ps; whole = refl; text_is = l.line; small = l.small }

-- ---- both ways

open_lines : (front f back : List ℕ) (digits : List ℕ) (h : Head) → front ≡ codes "section " → f ≡ decimal h.row ++ (codes " " ++ (stage_word h.stage ++ (codes " " ++ (digits ++ codes "\ntokens ")))) → front ++ (f ++ back) ≡ head_text digits h.row h.stage ++ back
open_lines front f back digits h first second =
    ap (λ t. t ++ (f ++ back)) first ∙ ap (λ t. codes "section " ++ (t ++ back)) second ∙ sym (append_assoc (codes "section ") (decimal h.row ++ (codes " " ++ (stage_word h.stage ++ (codes " " ++ (digits ++ codes "\ntokens "))))) back)

to_section : (bytes front back : List ℕ) (y : Part × List ℕ) (h : Head) (f b : List ℕ) → bytes ≡ front ++ back → front ≡ codes "section " → back ≡ f ++ b → IsHead f h → Rest h b y → IsPart bytes y
to_section bytes front back y h f b parts first second head (open_rest all is) =
    let lines : bytes ≡ open_text head.digits (open_of h b) = parts ∙ ap (λ t. front ++ t) second ∙ open_lines front f b head.digits h first head.lines in
    subst (IsPart bytes) (sym is) (
      record {
        digits = head.digits;
        lines = lines;
        digest = head.digest;
        row = head.row;
        can = record { stage = head.stage; letters = All-from_recursion IsLetter b (to_letters b all) };
      },
      refl,
    )
to_section bytes front back y h f b parts first second head (closed_rest c cs rest all feed held) =
    let m = held.means in
    let line = to_line m.means.back m.value.1 m.means.second in
    let word : held.text ≡ codes "answer " ++ (answer_text m.value.1 ++ codes "\n") = m.means.parts ∙ ap (λ t. t ++ m.means.back) m.means.first ∙ ap (λ t. codes "answer " ++ t) line.line in
    let tail : b ≡ ((c ∷ cs) ++ (codes "\nanswer " ++ (answer_text m.value.1 ++ codes "\n"))) ++ y.1 =
    feed ∙ ap (λ t. (c ∷ cs) ++ 10 ∷ t) (held.parts ∙ ap (λ t. t ++ y.1) word) ∙ sym (append_assoc (c ∷ cs) (codes "\nanswer " ++ (answer_text m.value.1 ++ codes "\n")) y.1) in
    let lines : bytes ≡ closed_text head.digits (section_of h (c ∷ cs) m.value.1) ++ y.1 =
    parts ∙ ap (λ t. front ++ t) (second ∙ ap (λ t. f ++ t) tail)
    ∙ open_lines front f (((c ∷ cs) ++ (codes "\nanswer " ++ (answer_text m.value.1 ++ codes "\n"))) ++ y.1) head.digits h first head.lines
    ∙ sym (append_assoc (head_text head.digits h.row h.stage) ((c ∷ cs) ++ (codes "\nanswer " ++ (answer_text m.value.1 ++ codes "\n"))) y.1) in
    let made : IsPart bytes (Closed (section_of h (c ∷ cs) m.value.1), y.1) = record {
      text = closed_text head.digits (section_of h (c ∷ cs) m.value.1);
      parts = lines;
      closed = record {
        digits = head.digits;
        lines = refl;
        digest = head.digest;
        row = head.row;
        can = record { stage = head.stage; letters = All-from_recursion IsLetter (c ∷ cs) (to_letters (c ∷ cs) all); some = omega arith; answer = line.some };
        places = line.small;
      };
    } in
    subst (λ (p : Part). IsPart bytes (p, y.1)) (sym m.is) made

to_part_of : (bytes : List ℕ) (y : Part × List ℕ) (m : Lead) (front back : List ℕ) → bytes ≡ front ++ back → front ≡ lead_word m → Led m back y → IsPart bytes y
to_part_of bytes y leads.Ends front back parts first others =
    subst (IsPart bytes) (sym others.1) (parts ∙ ap (λ t. t ++ back) first ∙ ap (λ t. codes "end\n" ++ t) others.0, refl)
to_part_of bytes y leads.Begins front back parts first others = to_section bytes front back y others.value others.front others.back parts first others.parts others.first others.others

to_part : (bytes : List ℕ) (y : Part × List ℕ) → Then (IsOneOf lead_word InLeads) Led bytes y → IsPart bytes y
to_part bytes y t = to_part_of bytes y t.value t.front t.back t.parts t.first.1 t.others

from_closed : (bytes rest text : List ℕ) → bytes ≡ text ++ rest → (row : ℕ) (stage : Stage) (digest letters : List ℕ) (answer : Option (List ℕ))
    → IsClosed text (record { row = row; stage = stage; digest = digest; letters = letters; answer = answer }) → Then (IsOneOf lead_word InLeads) Led bytes (Closed (record { row = row; stage = stage; digest = digest; letters = letters; answer = answer }), rest)
from_closed bytes rest text parts row stage digest [] answer i = absurd (omega (arith, i.can.some))
from_closed bytes rest text parts row stage digest (c ∷ cs) answer i =
    let whole : bytes ≡ codes "section " ++ ((decimal row ++ (codes " " ++ (stage_word stage ++ (codes " " ++ (i.digits ++ codes "\ntokens "))))) ++ ((c ∷ cs) ++ 10 ∷ ((codes "answer " ++ (answer_text answer ++ codes "\n")) ++ rest))) =
    parts ∙ ap (λ t. t ++ rest) i.lines
    ∙ append_assoc (head_text i.digits row stage) ((c ∷ cs) ++ (codes "\nanswer " ++ (answer_text answer ++ codes "\n"))) rest
    ∙ ap (λ t. head_text i.digits row stage ++ t) (append_assoc (c ∷ cs) (codes "\nanswer " ++ (answer_text answer ++ codes "\n")) rest)
    ∙ append_assoc (codes "section ") (decimal row ++ (codes " " ++ (stage_word stage ++ (codes " " ++ (i.digits ++ codes "\ntokens "))))) ((c ∷ cs) ++ ((codes "\nanswer " ++ (answer_text answer ++ codes "\n")) ++ rest)) in
    record {
      value = leads.Begins;
      front = codes "section ";
      back = (decimal row ++ (codes " " ++ (stage_word stage ++ (codes " " ++ (i.digits ++ codes "\ntokens "))))) ++ ((c ∷ cs) ++ 10 ∷ ((codes "answer " ++ (answer_text answer ++ codes "\n")) ++ rest));
      parts = whole;
      first = (tt, refl);
      others = record {
        value = record { row = row; stage = stage; digest = digest };
        front = decimal row ++ (codes " " ++ (stage_word stage ++ (codes " " ++ (i.digits ++ codes "\ntokens "))));
        back = (c ∷ cs) ++ 10 ∷ ((codes "answer " ++ (answer_text answer ++ codes "\n")) ++ rest);
        parts = refl;
        first = record { digits = i.digits; lines = refl; digest = i.digest; row = i.row; stage = i.can.stage };
        others = closed_rest c cs ((codes "answer " ++ (answer_text answer ++ codes "\n")) ++ rest) (from_letters (c ∷ cs) (recursion_from_All IsLetter (c ∷ cs) i.can.letters)) refl (record {
          text = codes "answer " ++ (answer_text answer ++ codes "\n");
          parts = refl;
          means = record {
            value = (tt, answer);
            is = refl;
            means = record {
              front = codes "answer ";
              back = answer_text answer ++ codes "\n";
              parts = refl;
              first = refl;
              second = from_line (answer_text answer ++ codes "\n") answer (record { line = refl; some = i.can.answer; small = i.places });
            };
          };
        });
      };
    }

from_part : (bytes : List ℕ) (y : Part × List ℕ) → IsPart bytes y → Then (IsOneOf lead_word InLeads) Led bytes y
from_part bytes (End, rest) p = record {
  value = leads.Ends;
  front = codes "end\n";
  back = [];
  parts = p.0;
  first = (tt, refl);
  others = (refl, ap (λ (t : List ℕ). (End, t)) p.1);
}
from_part bytes (Open o, rest) p =
    let i = p.0 in
    record {
      value = leads.Begins;
      front = codes "section ";
      back = (decimal o.row ++ (codes " " ++ (stage_word o.stage ++ (codes " " ++ (i.digits ++ codes "\ntokens "))))) ++ o.letters;
      parts = i.lines ∙ append_assoc (codes "section ") (decimal o.row ++ (codes " " ++ (stage_word o.stage ++ (codes " " ++ (i.digits ++ codes "\ntokens "))))) o.letters;
      first = (tt, refl);
      others = record {
        value = record { row = o.row; stage = o.stage; digest = o.digest };
        front = decimal o.row ++ (codes " " ++ (stage_word o.stage ++ (codes " " ++ (i.digits ++ codes "\ntokens "))));
        back = o.letters;
        parts = refl;
        first = record { digits = i.digits; lines = refl; digest = i.digest; row = i.row; stage = i.can.stage };
        others = open_rest (from_letters o.letters (recursion_from_All IsLetter o.letters i.can.letters)) (ap (λ (t : List ℕ). (Open o, t)) p.1);
      };
    }
from_part bytes (Closed s, rest) p = from_closed bytes rest p.text p.parts s.row s.stage s.digest s.letters s.answer p.closed

pub part_law : (n : ℕ) → Law n part_at IsPart
unfolding part_at
part_law n =
    law_as n part_at (Then (IsOneOf lead_word InLeads) Led) IsPart to_part from_part
    (then_law n n lead_at (IsOneOf lead_word InLeads) led_at Led (λ text x m. omega arith) lead_piece (led_law n))
