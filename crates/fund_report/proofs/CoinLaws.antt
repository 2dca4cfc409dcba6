-- The lines of coins are read exactly.
use Rattle.std.proofs.Common.{◌≡◌, ℕ, zero, suc, ◌≤◌, ◌<◌, true, false, cond, eqb, List, [], ◌∷◌, ◌++◌, length, Result, Ok, refl, sym, ap, subst, ◌∙◌, append_assoc, arith}
use Rattle.std.specs.Prelude.{codes, reverse}
use Rattle.std.specs.Fmt.{decimal}
use Rattle.std.proofs.lemmas.List.{append-nil, append_cancel_left, length-append, nil_from_length, reverse-reverse}
use Rattle.closing_log.specs.Exact.{Begins, NoneGoesOn}
use Rattle.closing_log.specs.LogText.{IsDigest}
use Rattle.closing_log.specs.Reading.{both_at, digest_at, number_at}
use Rattle.closing_log.proofs.DigestLaws.{digest_piece}
use Rattle.closing_log.proofs.Exactness.{Held, Law, Made, Piece, Then, law_as, piece_of, then_law}
use Rattle.closing_log.proofs.LineLaws.{Behind, IsNumberLine, behind_piece, number_line_piece}
use Rattle.closing_log.proofs.NumberLaws.{IsNumber, number_piece}
use Rattle.closing_log.proofs.PartLaws.{Both, both_piece, made_piece, piece_as}
use Rattle.closing_log.proofs.PlaceLaws.{Branch, branch_law, done_law, passed, taken}
use Rattle.closing_log.proofs.SectionLaws.{row_end, row_ends, row_ends_are}
use Rattle.closing_log.proofs.WordLaws.{IsOneOf}
use Rattle.fund_report.specs.declared.parts.Next.{Next}
use Rattle.fund_report.specs.declared.parts.Next.TheVariants.{Coin, Weight}
use Rattle.fund_report.specs.declared.report.InLine.{InLine}
use Rattle.fund_report.specs.NextWord.{next_word}
use Rattle.fund_report.specs.Reading.{amounts_at, coin_at, coin_next, coin_of, coins_at, coins_from, index_at, is_last, next_at, wide_line}
use Rattle.fund_report.specs.ReportText.{AreInLines, HasAmounts, IsInLine, in_text}
use Rattle.fund_report.proofs.ChoiceLaws.{AnyNext, next_piece}

-- ---- a coin

abbrev most_index : ℕ
most_index = 4_294_967_295

abbrev most_wide : ℕ
most_wide = 18_446_744_073_709_551_615

abbrev first_of : ℕ × ℕ → ℕ
first_of v = v.0

abbrev IsIndex : List ℕ → ℕ → Type 0
IsIndex = Made first_of (IsNumber most_index row_ends)

abbrev AreAmounts : List ℕ → ℕ × ℕ → Type 0
AreAmounts = Behind (codes ":") (Both IsIndex (λ i. IsNumberLine most_wide))

abbrev IsCoinText : List ℕ → InLine → Type 0
IsCoinText = Made coin_of (Both IsDigest (λ d. AreAmounts))

amounts_piece : Piece amounts_at AreAmounts
amounts_piece =
    behind_piece (codes ":") (both_at index_at (λ i. wide_line)) (Both IsIndex (λ i. IsNumberLine most_wide))
    (both_piece index_at (λ i. wide_line) IsIndex (λ i. IsNumberLine most_wide)
    (made_piece first_of (number_at most_index row_ends) (IsNumber most_index row_ends) (number_piece most_index row_ends (omega arith) row_ends_are))
    (λ i. number_line_piece most_wide (omega arith)))

coin_text_piece : Piece coin_at IsCoinText
coin_text_piece = made_piece coin_of (both_at digest_at (λ d. amounts_at)) (Both IsDigest (λ d. AreAmounts)) (both_piece digest_at (λ d. amounts_at) IsDigest (λ d. AreAmounts) digest_piece (λ d. amounts_piece))

-- what the line of a coin says after its first word
abbrev said : List ℕ → ℕ → ℕ → List ℕ
said digits index value = digits ++ (codes ":" ++ (decimal index ++ (codes " " ++ decimal value)))

pub record IsCoin (text : List ℕ) (l : InLine) : Type 0 where
  pub digits : List ℕ
  pub is : text ≡ said digits l.coin.index l.value ++ codes "\n"
  pub txid : IsDigest digits (reverse l.coin.txid)
  pub amounts : HasAmounts l

grouped : (digits index value : List ℕ) → digits ++ (codes ":" ++ ((index ++ codes " ") ++ (value ++ codes "\n"))) ≡ (digits ++ (codes ":" ++ (index ++ (codes " " ++ value)))) ++ codes "\n"
grouped digits index value = simp append_assoc

coin_parts : (text d a back i v : List ℕ) → text ≡ d ++ a → a ≡ codes ":" ++ back → back ≡ i ++ v → text ≡ d ++ (codes ":" ++ (i ++ v))
coin_parts text d a back i v one two three = one ∙ ap (λ t. d ++ t) (two ∙ ap (λ t. codes ":" ++ t) three)

coin_to : (text : List ℕ) (l : InLine) → IsCoinText text l → IsCoin text l
coin_to text l m =
    let b = m.means in
    let d = m.value.0 in
    let index = m.value.1.0 in
    let value = m.value.1.1 in
    let a = b.second in
    let n = a.means in
    let number = n.first.means in
    let end : n.first.value.1 ≡ 32 = row_end n.first.value.1 (eqb 32 n.first.value.1) refl number.end in
    let index_is : n.front ≡ decimal index ++ codes " " = number.text_is ∙ ap (λ (k : ℕ). decimal n.first.value.0 ++ k ∷ []) end ∙ ap (λ (k : ℕ). decimal k ++ codes " ") (sym n.first.is) in
    let whole : text ≡ said b.front index value ++ codes "\n" =
    coin_parts text b.front b.back a.back (decimal index ++ codes " ") (decimal value ++ codes "\n") b.parts a.parts (n.parts ∙ ap (λ t. t ++ n.back) index_is ∙ ap (λ t. (decimal index ++ codes " ") ++ t) n.second.is)
    ∙ grouped b.front (decimal index) (decimal value) in
    let shown : IsDigest b.front (reverse (reverse d)) = subst (IsDigest b.front) (sym (reverse-reverse d)) b.first in
    subst (IsCoin text) (sym m.is)
    (record { digits = b.front; is = whole; txid = shown; amounts = record { index = omega (arith, n.first.is, number.small); value = n.second.small } })

coin_from : (text : List ℕ) (l : InLine) → IsCoin text l → IsCoinText text l
coin_from text l c = record {
  value = (reverse l.coin.txid, (l.coin.index, l.value));
  is = ap (λ (t : List ℕ). record { coin = record { txid = t; index = l.coin.index }; value = l.value }) (sym (reverse-reverse l.coin.txid));
  means = record {
    front = c.digits;
    back = codes ":" ++ ((decimal l.coin.index ++ codes " ") ++ (decimal l.value ++ codes "\n"));
    parts = c.is ∙ sym (grouped c.digits (decimal l.coin.index) (decimal l.value));
    first = c.txid;
    second = record {
      back = (decimal l.coin.index ++ codes " ") ++ (decimal l.value ++ codes "\n");
      parts = refl;
      means = record {
        front = decimal l.coin.index ++ codes " ";
        back = decimal l.value ++ codes "\n";
        parts = refl;
        first = record { value = (l.coin.index, 32); is = refl; means = record { small = c.amounts.index; end = refl; text_is = refl } };
        second = record { small = c.amounts.value; is = refl };
      };
    };
  };
}

coin_piece : Piece coin_at IsCoin
coin_piece = piece_as coin_at IsCoinText IsCoin coin_to coin_from coin_text_piece

abbrev IsCoinNext : List ℕ → InLine × Next → Type 0
IsCoinNext = Both IsCoin (λ l. IsOneOf next_word AnyNext)

coin_next_piece : Piece coin_next IsCoinNext
coin_next_piece = both_piece coin_at (λ l. next_at) IsCoin (λ l. IsOneOf next_word AnyNext) coin_piece (λ l. next_piece)

-- ---- the lines of coins

-- with the first word of the first of them before it, and that of the next line after it
pub record AreCoins (text : List ℕ) (ls : List InLine) : Type 0 where
  pub ins : List ℕ
  pub is : codes "in " ++ text ≡ ins ++ codes "weight "
  pub are : AreInLines ls ins

pub record AreMore (done : List InLine) (text : List ℕ) (ls : List InLine) : Type 0 where
  pub first : InLine
  pub more : List InLine
  pub whole : ls ≡ done ++ first ∷ more
  pub coins : AreCoins text (first ∷ more)

in_of : (text : List ℕ) (l : InLine) → IsCoin text l → IsInLine (codes "in " ++ text) l
in_of text l c = record { digits = c.digits; line = ap (λ t. codes "in " ++ t) c.is; txid = c.txid; amounts = c.amounts }

abbrev after_at : ℕ → List InLine → InLine × Next → List ℕ → Result (List InLine × List ℕ) (List ℕ)
after_at turns done p bytes = cond (is_last p.1) (Ok (done ++ p.0 ∷ [], bytes)) (coins_from turns (done ++ p.0 ∷ []) bytes)

abbrev After : List InLine → InLine × Next → List ℕ → List InLine × List ℕ → Type 0
After done p = Branch (is_last p.1) (λ bytes y. y ≡ (done ++ p.0 ∷ [], bytes)) (Held (AreMore (done ++ p.0 ∷ [])))

last_word : (n : Next) (word : List ℕ) → is_last n ≡ true → word ≡ next_word n → word ≡ codes "weight "
last_word Coin word last is = absurd cc
last_word Weight word last is = is

more_word : (n : Next) (word : List ℕ) → is_last n ≡ false → word ≡ next_word n → word ≡ codes "in "
more_word Coin word more is = is
more_word Weight word more is = absurd cc

last_coin : (l : InLine) (text front back : List ℕ) → text ≡ front ++ back → IsCoin front l → back ≡ codes "weight " → AreCoins text (l ∷ [])
last_coin l text front back parts c word = record {
  ins = codes "in " ++ front;
  is = ap (λ t. codes "in " ++ t) (parts ∙ ap (λ t. front ++ t) word) ∙ sym (append_assoc (codes "in ") front (codes "weight "));
  are = record { front = codes "in " ++ front; back = []; parts = sym (append-nil (codes "in " ++ front)); first = in_of front l c; others = refl };
}

coins_joined : (front text word ins : List ℕ) → word ≡ codes "in " → codes "in " ++ text ≡ ins ++ codes "weight " → codes "in " ++ ((front ++ word) ++ text) ≡ ((codes "in " ++ front) ++ ins) ++ codes "weight "
coins_joined front text word ins is same =
    let a : (front ++ word) ++ text ≡ front ++ (codes "in " ++ text) = append_assoc front word text ∙ ap (λ w. front ++ (w ++ text)) is in
    ap (λ t. codes "in " ++ t) (a ∙ ap (λ t. front ++ t) same) ∙ sym (append_assoc (codes "in ") front (ins ++ codes "weight ")) ∙ sym (append_assoc (codes "in " ++ front) ins (codes "weight "))

more_coins : (l m : InLine) (ms : List InLine) (row front back text : List ℕ) → row ≡ front ++ back → IsCoin front l → back ≡ codes "in " → AreCoins text (m ∷ ms) → AreCoins (row ++ text) (l ∷ m ∷ ms)
more_coins l m ms row front back text parts c word others = record {
  ins = (codes "in " ++ front) ++ others.ins;
  is = ap (λ t. codes "in " ++ (t ++ text)) parts ∙ coins_joined front text back others.ins word others.is;
  are = record { front = codes "in " ++ front; back = others.ins; parts = refl; first = in_of front l c; others = others.are };
}

to_more_of : (done : List InLine) (bytes : List ℕ) (y : List InLine × List ℕ) (p : InLine × Next) (front back : List ℕ) → bytes ≡ front ++ back → IsCoinNext front p → After done p back y → Held (AreMore done) bytes y
to_more_of done bytes y p front back parts row (taken t is) =
    let word : row.back ≡ codes "weight " = last_word p.1 row.back t row.second.1 in
    record {
      text = front;
      parts = parts ∙ ap (λ (z : List InLine × List ℕ). front ++ z.1) (sym is);
      means = record { first = p.0; more = []; whole = ap (λ (z : List InLine × List ℕ). z.0) is; coins = last_coin p.0 front row.front row.back row.parts row.first word };
    }
to_more_of done bytes y p front back parts row (passed t h) =
    let m = h.means in
    let word : row.back ≡ codes "in " = more_word p.1 row.back t row.second.1 in
    record {
      text = front ++ h.text;
      parts = parts ∙ ap (λ t. front ++ t) h.parts ∙ sym (append_assoc front h.text y.1);
      means = record {
        first = p.0;
        more = m.first ∷ m.more;
        whole = m.whole ∙ append_assoc done (p.0 ∷ []) (m.first ∷ m.more);
        coins = more_coins p.0 m.first m.more front row.front row.back h.text row.parts row.first word m.coins;
      };
    }

to_more : (done : List InLine) (bytes : List ℕ) (y : List InLine × List ℕ) → Then IsCoinNext (After done) bytes y → Held (AreMore done) bytes y
to_more done bytes y t = to_more_of done bytes y t.value t.front t.back t.parts t.first t.others

-- the line of a coin without its first word
abbrev rest_of : List ℕ → InLine → List ℕ
rest_of digits l = said digits l.coin.index l.value ++ codes "\n"

coin_in : (l : InLine) (text : List ℕ) (i : IsInLine text l) → IsCoin (rest_of i.digits l) l
coin_in l text i = record { digits = i.digits; is = refl; txid = i.txid; amounts = i.amounts }

-- what stands after the first line
without : (l : InLine) (text ins front back digits : List ℕ) → codes "in " ++ text ≡ ins ++ codes "weight " → ins ≡ front ++ back → front ≡ in_text digits l → text ≡ rest_of digits l ++ (back ++ codes "weight ")
without l text ins front back digits is parts line =
    append_cancel_left (codes "in ") text (rest_of digits l ++ (back ++ codes "weight "))
    (is ∙ ap (λ t. t ++ codes "weight ") (parts ∙ ap (λ t. t ++ back) line) ∙ append_assoc (codes "in " ++ rest_of digits l) back (codes "weight ") ∙ append_assoc (codes "in ") (rest_of digits l) (back ++ codes "weight "))

-- lines of coins begin with their word
pub record Led (ins : List ℕ) : Type 0 where
  pub back : List ℕ
  pub is : ins ≡ codes "in " ++ back

led : (m : InLine) (ms : List InLine) (ins : List ℕ) → AreInLines (m ∷ ms) ins → Led ins
led m ms ins are = record {
  back = rest_of are.first.digits m ++ are.back;
  is = are.parts ∙ ap (λ t. t ++ are.back) are.first.line ∙ append_assoc (codes "in ") (rest_of are.first.digits m) are.back;
}

pub led_some : (ls : List InLine) (ins : List ℕ) → 0 < length ls → AreInLines ls ins → Led ins
led_some [] ins some are = absurd (omega arith)
led_some (m ∷ ms) ins some are = led m ms ins are

sided : (a b y : List ℕ) → (a ++ ((codes "in " ++ b) ++ codes "weight ")) ++ y ≡ (a ++ codes "in ") ++ ((b ++ codes "weight ") ++ y)
sided a b y = simp append_assoc

from_more_of : (done : List InLine) (bytes : List ℕ) (y : List InLine × List ℕ) (text : List ℕ) → bytes ≡ text ++ y.1 → (l : InLine) (more : List InLine) → y.0 ≡ done ++ l ∷ more → AreCoins text (l ∷ more) → Then IsCoinNext (After done) bytes y
from_more_of done bytes y text parts l [] whole coins =
    let i = coins.are.first in
    let rest = rest_of i.digits l in
    let at : text ≡ rest ++ codes "weight " = without l text coins.ins coins.are.front coins.are.back i.digits coins.is coins.are.parts i.line ∙ ap (λ t. rest ++ (t ++ codes "weight ")) coins.are.others in
    record {
      value = (l, Weight);
      front = text;
      back = y.1;
      parts = parts;
      first = record { front = rest; back = codes "weight "; parts = at; first = coin_in l coins.are.front i; second = (tt, refl) };
      others = taken refl (ap (λ (z : List InLine). (z, y.1)) whole);
    }
from_more_of done bytes y text parts l (m ∷ ms) whole coins =
    let i = coins.are.first in
    let rest = rest_of i.digits l in
    let next = led m ms coins.are.back coins.are.others in
    let at : text ≡ rest ++ ((codes "in " ++ next.back) ++ codes "weight ") = without l text coins.ins coins.are.front coins.are.back i.digits coins.is coins.are.parts i.line ∙ ap (λ t. rest ++ (t ++ codes "weight ")) next.is in
    record {
      value = (l, Coin);
      front = rest ++ codes "in ";
      back = (next.back ++ codes "weight ") ++ y.1;
      parts = parts ∙ ap (λ t. t ++ y.1) at ∙ sided rest next.back y.1;
      first = record { front = rest; back = codes "in "; parts = refl; first = coin_in l coins.are.front i; second = (tt, refl) };
      others = passed refl (record {
        text = next.back ++ codes "weight ";
        parts = refl;
        means = record {
          first = m;
          more = ms;
          whole = whole ∙ sym (append_assoc done (l ∷ []) (m ∷ ms));
          coins = record {
            ins = coins.are.back;
            is = sym (append_assoc (codes "in ") next.back (codes "weight ")) ∙ ap (λ t. t ++ codes "weight ") (sym next.is);
            are = coins.are.others;
          };
        };
      });
    }

from_more : (done : List InLine) (bytes : List ℕ) (y : List InLine × List ℕ) → Held (AreMore done) bytes y → Then IsCoinNext (After done) bytes y
from_more done bytes y h = from_more_of done bytes y h.text h.parts h.means.first h.means.more h.means.whole h.means.coins

row_long : (text : List ℕ) (p : InLine × Next) → IsCoinNext text p → 1 ≤ length text
row_long text p row = omega (arith, ap length row.parts, length-append row.front row.back, ap length row.first.is, length-append (said row.first.digits p.0.coin.index p.0.value) (codes "\n"))

more_some : (done : List InLine) → Begins (Held (AreMore done)) []
more_some done =
    let s = coin_piece.some in
    let text : List ℕ = s.more ++ codes "weight " in
    record {
      more = text;
      value = (done ++ s.value ∷ [], []);
      means = record { text = text; parts = sym (append-nil text); means = record { first = s.value; more = []; whole = refl; coins = last_coin s.value text s.more (codes "weight ") refl s.means refl } };
    }

coins_law : (n : ℕ) (done : List InLine) → Law n (coins_from n done) (Held (AreMore done))
unfolding coins_from
coins_law zero done = record {
  takes = λ bytes y le e. absurd cc;
  again = λ bytes y le h.
      let t = from_more done bytes y h in
      absurd (omega (arith, le, row_long t.front t.value t.first, ap length t.parts, length-append t.front t.back));
  stops = λ bytes stop le e.
      let same : bytes ≡ stop = cc in
      let nothing : [] ≡ stop = sym (nil_from_length bytes (omega arith)) ∙ same in
      record { front = []; parts = same; begins = more_some done; never = subst (λ (s : List ℕ). NoneGoesOn (Held (AreMore done)) [] s) nothing tt };
  some = more_some done;
}
coins_law (suc n) done =
    law_as (suc n) (coins_from (suc n) done) (Then IsCoinNext (After done)) (Held (AreMore done)) (to_more done) (from_more done)
    (then_law (suc n) n coin_next IsCoinNext (after_at n done) (After done)
    (λ text x means. omega (arith, row_long text x means))
    coin_next_piece
    (λ p. branch_law n (is_last p.1) (λ bytes. Ok (done ++ p.0 ∷ [], bytes)) (coins_from n (done ++ p.0 ∷ [])) (λ bytes y. y ≡ (done ++ p.0 ∷ [], bytes)) (Held (AreMore (done ++ p.0 ∷ [])))
    (done_law n (λ bytes. (done ++ p.0 ∷ [], bytes))) (coins_law n (done ++ p.0 ∷ []))))

more_piece : Piece coins_at (AreMore [])
more_piece =
    let s = coin_piece.some in
    let text : List ℕ = s.more ++ codes "weight " in
    piece_of (λ n. coins_from n []) (AreMore []) (λ n. coins_law n []) (record { more = text; value = s.value ∷ []; means = record { first = s.value; more = []; whole = refl; coins = last_coin s.value text s.more (codes "weight ") refl s.means refl } })

-- one at least
pub record AreSome (text : List ℕ) (ls : List InLine) : Type 0 where
  pub some : 1 ≤ length ls
  pub coins : AreCoins text ls

some_to : (text : List ℕ) (ls : List InLine) → AreMore [] text ls → AreSome text ls
some_to text ls m = subst (AreSome text) (sym m.whole) (record { some = omega arith; coins = m.coins })

some_from : (text : List ℕ) (ls : List InLine) → AreSome text ls → AreMore [] text ls
some_from text [] s = absurd (omega (arith, s.some))
some_from text (l ∷ ls) s = record { first = l; more = ls; whole = refl; coins = s.coins }

pub coins_piece : Piece coins_at AreSome
coins_piece = piece_as coins_at (AreMore []) AreSome some_to some_from more_piece
