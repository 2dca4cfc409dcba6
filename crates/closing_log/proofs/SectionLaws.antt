-- A section is read exactly: its head, its letters, and the line of its answer where a line feed ends the letters.
use Rattle.std.proofs.Common.{◌≡◌, ℕ, ◌≤◌, Bool, true, false, eqb, List, [], ◌∷◌, ◌++◌, Ok, refl, sym, ap, subst, ◌∙◌, append_assoc, arith, eqb-true}
use Rattle.std.specs.Prelude.{⊤, codes}
use Rattle.std.specs.Fmt.{decimal}
use Rattle.std.specs.List.{AllByRecursion}
use Rattle.closing_log.specs.declared.log.Stage.{Stage}
use Rattle.closing_log.specs.declared.log.Stage.TheVariants.{Presets, Changeless, LeanBig, Draw, LeanSmall, Wide}
use Rattle.closing_log.specs.declared.part.Head.{Head}
use Rattle.closing_log.specs.LogText.{IsSearched, IsDigest, stage_word}
use Rattle.closing_log.specs.Reading.{word_at, choice_at, searched, stage_at, is_one_of, number_at, digest_at, head_of, head_at}
use Rattle.closing_log.proofs.Exactness.{Piece, Made}
use Rattle.closing_log.proofs.PartLaws.{Both, both_piece, made_piece, piece_as}
use Rattle.closing_log.proofs.WordLaws.{IsWord, IsOneOf, word_piece, choice_piece}
use Rattle.closing_log.proofs.NumberLaws.{IsNumber, AreEnds, number_piece}
use Rattle.closing_log.proofs.DigestLaws.{digest_piece}

-- ---- the head

each_searched : (P : Stage → Type 0) → AllByRecursion P searched → (s : Stage) → IsSearched s → P s
each_searched P all Presets is = absurd is
each_searched P all Changeless is = all.0
each_searched P all LeanBig is = all.1.0
each_searched P all Draw is = absurd is
each_searched P all LeanSmall is = all.1.1.0
each_searched P all Wide is = absurd is

stage_again : (s : Stage) (rest : List ℕ) → IsSearched s → choice_at stage_word searched (stage_word s ++ rest) (stage_word s ++ rest) ≡ Ok (s, rest)
unfolding choice_at word_at
stage_again Presets rest is = absurd is
stage_again Changeless rest is = refl
stage_again LeanBig rest is = refl
stage_again Draw rest is = absurd is
stage_again LeanSmall rest is = refl
stage_again Wide rest is = absurd is

pub stage_piece : Piece stage_at (IsOneOf stage_word IsSearched)
stage_piece = choice_piece stage_word IsSearched searched (tt, (tt, (tt, tt))) each_searched stage_again (record { more = codes "changeless"; value = Changeless; means = (tt, refl) })

abbrev pub row_ends : List ℕ
row_ends = 32 ∷ []

pub row_end : (e : ℕ) (t : Bool) → eqb 32 e ≡ t → is_one_of row_ends e ≡ true → e ≡ 32
row_end e true is h = sym (eqb-true 32 e is)
row_end e false is h = absurd (let no : is_one_of row_ends e ≡ false = rw is refl in let both : true ≡ false = sym h ∙ no in cc)

pub row_ends_are : AreEnds row_ends
row_ends_are = record { low = λ e h. let is : e ≡ 32 = row_end e (eqb 32 e) refl h in omega arith; one = 32; is_one = refl }

-- the head of a section behind its first word
pub record IsHead (text : List ℕ) (h : Head) : Type 0 where
  pub digits : List ℕ
  pub lines : text ≡ decimal h.row ++ (codes " " ++ (stage_word h.stage ++ (codes " " ++ (digits ++ codes "\ntokens "))))
  pub digest : IsDigest digits h.digest
  pub row : h.row ≤ 255
  pub stage : IsSearched h.stage

abbrev Read : List ℕ → (ℕ × ℕ) × (Stage × (⊤ × (List ℕ × ⊤))) → Type 0
Read = Both (IsNumber 255 row_ends) (λ n. Both (IsOneOf stage_word IsSearched) (λ s. Both (IsWord (codes " ")) (λ u. Both IsDigest (λ d. IsWord (codes "\ntokens ")))))

head_to : (text : List ℕ) (h : Head) → Made head_of Read text h → IsHead text h
head_to text h m =
    let a = m.means in
    let b = a.second in
    let c = b.second in
    let d = c.second in
    let blank : m.value.0.1 ≡ 32 = row_end m.value.0.1 (eqb 32 m.value.0.1) refl a.first.end in
    let row : a.front ≡ decimal m.value.0.0 ++ codes " " = a.first.text_is ∙ ap (λ e. decimal m.value.0.0 ++ e ∷ []) blank in
    let last : c.back ≡ d.front ++ codes "\ntokens " = d.parts ∙ ap (λ t. d.front ++ t) d.second in
    let third : b.back ≡ codes " " ++ (d.front ++ codes "\ntokens ") = c.parts ∙ ap (λ t. t ++ c.back) c.first ∙ ap (λ t. codes " " ++ t) last in
    let second : a.back ≡ stage_word m.value.1.0 ++ (codes " " ++ (d.front ++ codes "\ntokens ")) = b.parts ∙ ap (λ t. t ++ b.back) b.first.1 ∙ ap (λ t. stage_word m.value.1.0 ++ t) third in
    let whole : text ≡ decimal m.value.0.0 ++ (codes " " ++ (stage_word m.value.1.0 ++ (codes " " ++ (d.front ++ codes "\ntokens ")))) =
    a.parts ∙ ap (λ t. t ++ a.back) row ∙ ap (λ t. (decimal m.value.0.0 ++ codes " ") ++ t) second ∙ append_assoc (decimal m.value.0.0) (codes " ") (stage_word m.value.1.0 ++ (codes " " ++ (d.front ++ codes "\ntokens "))) in
    subst (λ (g : Head). IsHead text g) (sym m.is) (record { digits = d.front; lines = whole; digest = d.first; row = a.first.small; stage = b.first.0 })

head_from : (text : List ℕ) (h : Head) → IsHead text h → Made head_of Read text h
head_from text h i = record {
  value = ((h.row, 32), (h.stage, (tt, (h.digest, tt))));
  is = refl;
  means = record {
    front = decimal h.row ++ codes " ";
    back = stage_word h.stage ++ (codes " " ++ (i.digits ++ codes "\ntokens "));
    parts = i.lines ∙ sym (append_assoc (decimal h.row) (codes " ") (stage_word h.stage ++ (codes " " ++ (i.digits ++ codes "\ntokens "))));
    first = record { small = i.row; end = refl; text_is = refl };
    second = record {
      front = stage_word h.stage;
      back = codes " " ++ (i.digits ++ codes "\ntokens ");
      parts = refl;
      first = (i.stage, refl);
      second = record {
        front = codes " ";
        back = i.digits ++ codes "\ntokens ";
        parts = refl;
        first = refl;
        second = record { front = i.digits; back = codes "\ntokens "; parts = refl; first = i.digest; second = refl };
      };
    };
  };
}

pub head_piece : Piece head_at IsHead
head_piece =
    piece_as head_at (Made head_of Read) IsHead head_to head_from
    (made_piece head_of _ Read
    (both_piece (number_at 255 row_ends) _ (IsNumber 255 row_ends) _ (number_piece 255 row_ends (omega arith) row_ends_are)
    (λ n. both_piece stage_at _ (IsOneOf stage_word IsSearched) _ stage_piece
    (λ s. both_piece (word_at (codes " ")) _ (IsWord (codes " ")) _ (word_piece (codes " "))
    (λ u. both_piece digest_at (λ d. word_at (codes "\ntokens ")) IsDigest (λ d. IsWord (codes "\ntokens ")) digest_piece (λ d. word_piece (codes "\ntokens ")))))))
