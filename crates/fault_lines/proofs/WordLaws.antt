-- Words of a line: where one ends, and that a name is told as it is where it is shown.
use Rattle.std.proofs.Common.{◌≡◌, ◌≢◌, ◌∙◌, ℕ, ◌+◌, ◌<◌, Bool, true, false, List, [], ◌∷◌, ◌++◌, length, take, drop, bytes_eq, if◌then◌else◌, refl, sym, ap, subst, arith, string_bytes, add-one}
use Rattle.std.specs.Prelude.{All, IsTrue, nat_lt, not}
use Rattle.std.specs.Char.{is_ascii_graphic}
use Rattle.std.specs.Fmt.{decimal}
use Rattle.std.specs.Int.{IsInRange, is_in_range}
use Rattle.std.specs.List.{list_all, prefix_len}
use Rattle.std.proofs.lemmas.Bool.{and_parts, le-leb, ltb-true, ne_eqb}
use Rattle.std.proofs.lemmas.List.{drop_at, take_at}
use Rattle.std.proofs.lemmas.List.Elements.{All-cons, All-head, All-nil, All-tail}
use Rattle.std.proofs.lemmas.Slice.Eq.{bytes_eq-Decides}
use Rattle.std.proofs.lemmas.Bool.Decides.{Decides-like, same_from_decides}
use Rattle.fault_laws.proofs.WordLaws.{NoBlank}
use Rattle.fund_base.specs.Cursor.{IsBytes}
use Rattle.command_end.proofs.NameLaws.{apart, plain, printable}
use Rattle.command_end.specs.Name.{shown_name, stands_plain}
use Rattle.fault_lines.specs.Word.{after_word, is_no_blank, word}

-- a byte that is printable passes the test
graphic : (b : ℕ) → IsInRange 33 126 b → is_ascii_graphic b ≡ true
graphic b h = rw (le-leb 33 b h.0, le-leb b 126 h.1) refl

-- printable bytes up to one that isn't
pub printable_front : (w rest : List ℕ) (c : ℕ) → All (IsInRange 33 126) w → is_ascii_graphic c ≡ false → prefix_len is_ascii_graphic (w ++ (c ∷ rest)) ≡ length w
printable_front [] rest c all other = rw other refl
printable_front (b ∷ w) rest c all other =
    let here = graphic b (All-head (IsInRange 33 126) b w all) in
    let later = printable_front w rest c (All-tail (IsInRange 33 126) b w all) other in
    rw (here, later) (omega arith)

pub word_is : (w rest : List ℕ) (c : ℕ) → All (IsInRange 33 126) w → is_ascii_graphic c ≡ false → word (w ++ (c ∷ rest)) ≡ w
word_is w rest c all other = rw (printable_front w rest c all other) (take_at w (c ∷ rest) (length w) refl)

-- bytes without a blank up to one
no_blank_front : (w rest : List ℕ) → NoBlank w → prefix_len is_no_blank (w ++ (32 ∷ rest)) ≡ length w
no_blank_front [] rest none = refl
no_blank_front (b ∷ w) rest none =
    let here : is_no_blank b ≡ true = ap not (ne_eqb b 32 none.0) in
    rw (here, no_blank_front w rest none.1) (omega arith)

pub after_word_is : (w rest : List ℕ) → NoBlank w → after_word (w ++ (32 ∷ rest)) ≡ rest
after_word_is w rest none =
    let front : drop (length w) (w ++ (32 ∷ rest)) ≡ 32 ∷ rest = drop_at w (32 ∷ rest) (length w) refl in
    rw (no_blank_front w rest none) (ap (drop 1) front)

-- a shown name is printable
pub shown_printable : (name : List ℕ) → IsBytes name → All (IsInRange 33 126) (shown_name name)
shown_printable name is = printable name is

-- bytes by their test
bytes_by : (w : List ℕ) → list_all (λ (b : ℕ). nat_lt b 256) w ≡ true → All (λ (b : ℕ). b < 256) w
bytes_by [] h = All-nil (λ (b : ℕ). b < 256)
bytes_by (b ∷ w) h =
    let parts = and_parts (nat_lt b 256) (list_all (λ (x : ℕ). nat_lt x 256) w) h in
    All-cons (λ (x : ℕ). x < 256) b w (ltb-true b 256 parts.0) (bytes_by w parts.1)

-- bytes that stand as they are, by their test
plain_by : (w : List ℕ) → list_all stands_plain w ≡ true → All (λ (b : ℕ). IsTrue (stands_plain b)) w
plain_by [] h = All-nil (λ (b : ℕ). IsTrue (stands_plain b))
plain_by (b ∷ w) h =
    let parts = and_parts (stands_plain b) (list_all stands_plain w) h in
    All-cons (λ (x : ℕ). IsTrue (stands_plain x)) b w parts.0 (plain_by w parts.1)

-- a shown name is a plain word exactly where the name is
pub same_name : (name : List ℕ) (w : List ℕ) → IsBytes name → list_all stands_plain w ≡ true → list_all (λ (b : ℕ). nat_lt b 256) w ≡ true → bytes_eq (shown_name name) w ≡ bytes_eq name w
same_name name w is stands bytes =
    let shown : shown_name w ≡ w = plain w (plain_by w stands) in
    let apart_by : shown_name name ≡ w → name ≡ w = λ e. apart name w is (bytes_by w bytes) (e ∙ sym shown) in
    let back : name ≡ w → shown_name name ≡ w = λ e. ap shown_name e ∙ shown in
    same_from_decides (bytes_eq (shown_name name) w) (bytes_eq name w)
    (Decides-like (bytes_eq (shown_name name) w) apart_by back (bytes_eq-Decides (shown_name name) w))
    (bytes_eq-Decides name w)
