-- The laws of numbers, CompactSize and byte strings.
use Rattle.std.proofs.Common.{◌≡◌, ℕ, ◌+◌, ◌^◌, ◌<◌, ◌≤◌, false, ltb, List, [], ◌∷◌, ◌++◌, length, get_or, take, drop, Result, Ok, Err, refl, sym, ap, subst, ◌∙◌, append_assoc, arith, inl, inr}
use Rattle.std.specs.Prelude.{slice_index, IfOk}
use Rattle.std.specs.Int.{Width, w16, w32, w64, byte_len, from_le_bytes, to_le_bytes}
use Rattle.std.proofs.lemmas.Bool.{cases_lt, cases_eq, ltb-false, lt-ltb, le-ltb, eq-eqb, ne_eqb}
use Rattle.std.proofs.lemmas.List.{take_at, drop_at, take-append-drop, length-append, length-take, length-drop, get_or_past, drop-drop}
use Rattle.std.proofs.lemmas.List.Elements.{All-take, All-drop}
use Rattle.std.proofs.lemmas.Nat.{le_bytes_2, le_bytes_4, le_bytes_8, from_le_bytes-to_le_bytes_2, from_le_bytes-to_le_bytes_4, from_le_bytes-to_le_bytes_8}
use Rattle.fund_base.specs.declared.cursor.CutFault.{CutFault}
use Rattle.fund_base.specs.CompactSize.{compact, prefixed}
use Rattle.fund_base.specs.Cursor.{At, IsBytes, after, take_at as bytes_at, number_at, wide_at, compact_at, Moves}
use Rattle.fund_base.specs.Parsing.{string_at}
use Rattle.fund_base.proofs.Laws.{bind_ok, bind_is, guard_ok, ok_is, Takes, takes_then, Again, Reads}

-- a byte at each index, 0 behind the end
pub byte_at : (bytes : List ℕ) (i : ℕ) → IsBytes bytes → get_or bytes i 0 < 256
byte_at bytes i fits =
    elim (cases_lt i (length bytes)) [
      | inl lt ↦ fits i 0 lt
      | inr le ↦ rw (get_or_past bytes i 0 le) (omega arith)
    ]

-- what is taken by its length
takes_after : (n : ℕ) (at : At) → n ≤ length at.rest → IsBytes at.rest → Takes at (take n at.rest) (after n at)
takes_after n at long fits = record { parts = sym (take-append-drop n at.rest); place_is = omega (arith, length-take n at.rest); rest_fits = All-drop (λ b. b < 256) n at.rest fits }

-- a width, and the limit of its numbers
pub record IsWide (w : Width) (limit : ℕ) : Type 0 where
  pub len : (n : ℕ) → length (to_le_bytes w n) ≡ byte_len w
  pub back : (bytes : List ℕ) → length bytes ≡ byte_len w → IsBytes bytes → to_le_bytes w (from_le_bytes w bytes) ≡ bytes
  pub again : (n : ℕ) → n < limit → from_le_bytes w (to_le_bytes w n) ≡ n
  pub below : (bytes : List ℕ) → IsBytes bytes → from_le_bytes w bytes < limit

pub wide16 : IsWide w16 (2 ^ 16)
wide16 = record {
  len = λ n. refl;
  back = λ bytes len fits. le_bytes_2 bytes _ len (λ i. byte_at bytes i fits) refl;
  again = λ n lt. from_le_bytes-to_le_bytes_2 n lt;
  below = λ bytes fits. omega (arith, byte_at bytes 0 fits, byte_at bytes 1 fits);
}

pub wide32 : IsWide w32 (2 ^ 32)
wide32 = record {
  len = λ n. refl;
  back = λ bytes len fits. le_bytes_4 bytes _ len (λ i. byte_at bytes i fits) refl;
  again = λ n lt. from_le_bytes-to_le_bytes_4 n lt;
  below = λ bytes fits. omega (arith, byte_at bytes 0 fits, byte_at bytes 1 fits, byte_at bytes 2 fits, byte_at bytes 3 fits);
}

pub wide64 : IsWide w64 (2 ^ 64)
wide64 = record {
  len = λ n. refl;
  back = λ bytes len fits. le_bytes_8 bytes _ len (λ i. byte_at bytes i fits) refl;
  again = λ n lt. from_le_bytes-to_le_bytes_8 n lt;
  below = λ bytes fits. omega (arith, byte_at bytes 0 fits, byte_at bytes 1 fits, byte_at bytes 2 fits, byte_at bytes 3 fits, byte_at bytes 4 fits, byte_at bytes 5 fits, byte_at bytes 6 fits, byte_at bytes 7 fits);
}

-- ---- numbers

number_takes : (w : Width) (limit : ℕ) → IsWide w limit → (at : At) (x : ℕ × At) → IsBytes at.rest → number_at w at ≡ Ok x → Takes at (to_le_bytes w x.0) x.1 × (x.0 < limit)
number_takes w limit wide at x fits e =
    let g = guard_ok _ _ _ _ e in
    let long : byte_len w ≤ length at.rest = ltb-false _ _ g.0 in
    let front : to_le_bytes w (from_le_bytes w (take (byte_len w) at.rest)) ≡ take (byte_len w) at.rest = wide.back (take (byte_len w) at.rest) (omega (arith, length-take (byte_len w) at.rest)) (All-take (λ b. b < 256) (byte_len w) at.rest fits) in
    let below : from_le_bytes w (take (byte_len w) at.rest) < limit = wide.below (take (byte_len w) at.rest) (All-take (λ b. b < 256) (byte_len w) at.rest fits) in
    let t : Takes at (to_le_bytes w (from_le_bytes w (take (byte_len w) at.rest))) (after (byte_len w) at) = rw front (takes_after (byte_len w) at long fits) in
    subst (λ (y : ℕ × At). Takes at (to_le_bytes w y.0) y.1 × (y.0 < limit)) (ok_is _ x _ refl g.1) (t, below)

number_again : (w : Width) (limit : ℕ) → IsWide w limit → (n : ℕ) (at : At) (rest : List ℕ) → n < limit → at.rest ≡ to_le_bytes w n ++ rest → Again (number_at w at) n rest
number_again w limit wide n at rest lt is =
    let len = wide.len n in
    let long : ltb (length at.rest) (byte_len w) ≡ false = le-ltb _ _ (rw is (omega (arith, length-append (to_le_bytes w n) rest))) in
    let front : take (byte_len w) at.rest ≡ to_le_bytes w n = rw is (take_at (to_le_bytes w n) rest (byte_len w) len) in
    record {
      next = after (byte_len w) at;
      reads = rw (long, front, wide.again n lt) refl;
      left = rw is (drop_at (to_le_bytes w n) rest (byte_len w) len);
    }

pub number_reads : (w : Width) (limit : ℕ) → IsWide w limit → Reads (number_at w) (to_le_bytes w) (λ n. n < limit)
number_reads w limit wide = record { takes = number_takes w limit wide; again = number_again w limit wide }

pub number32_reads : Reads (number_at w32) (to_le_bytes w32) (λ n. n < 2 ^ 32)
number32_reads = number_reads w32 (2 ^ 32) wide32

pub number64_reads : Reads (number_at w64) (to_le_bytes w64) (λ n. n < 2 ^ 64)
number64_reads = number_reads w64 (2 ^ 64) wide64

-- ---- bytes of a given length

bytes_takes : (n : ℕ) (at : At) (x : List ℕ × At) → IsBytes at.rest → bytes_at n at ≡ Ok x → Takes at x.0 x.1 × ((length x.0 ≡ n) × IsBytes x.0)
bytes_takes n at x fits e =
    let g = guard_ok _ _ _ _ e in
    let long : n ≤ length at.rest = ltb-false _ _ g.0 in
    let len : length (take n at.rest) ≡ n = omega (arith, length-take n at.rest) in
    subst (λ (y : List ℕ × At). Takes at y.0 y.1 × ((length y.0 ≡ n) × IsBytes y.0)) (ok_is _ x _ refl g.1) (takes_after n at long fits, (len, All-take (λ b. b < 256) n at.rest fits))

bytes_again : (n : ℕ) (x : List ℕ) (at : At) (rest : List ℕ) → (length x ≡ n) × IsBytes x → at.rest ≡ x ++ rest → Again (bytes_at n at) x rest
bytes_again n x at rest fits is =
    let len = fits.0 in
    let long : ltb (length at.rest) n ≡ false = le-ltb _ _ (rw is (omega (arith, length-append x rest))) in
    let front : take n at.rest ≡ x = rw is (take_at x rest n len) in
    record {
      next = after n at;
      reads = rw (long, front) refl;
      left = rw is (drop_at x rest n len);
    }

pub bytes_reads : (n : ℕ) → Reads (bytes_at n) (λ x. x) (λ x. (length x ≡ n) × IsBytes x)
bytes_reads n = record { takes = bytes_takes n; again = bytes_again n }

-- ---- CompactSize

-- a list from its first byte
pub opened : (bytes : List ℕ) (lead : ℕ) → 1 ≤ length bytes → slice_index bytes 0 ≡ lead → bytes ≡ lead ∷ drop 1 bytes
opened [] lead some first = absurd (omega arith)
opened (b ∷ bytes) lead some first = ap (λ (x : ℕ). x ∷ bytes) first

-- a first byte, and a number of the width behind it
wide_takes : (w : Width) (limit : ℕ) → IsWide w limit → (least lead : ℕ) (at : At) (x : ℕ × At) → IsBytes at.rest → slice_index at.rest 0 ≡ lead → wide_at w least at ≡ Ok x → Takes at (lead ∷ to_le_bytes w x.0) x.1 × (x.0 < limit) × (least ≤ x.0)
wide_takes w limit wide least lead at x fits first e =
    let g = guard_ok _ _ _ _ e in
    let h = guard_ok _ _ _ _ g.1 in
    let long : 1 + byte_len w ≤ length at.rest = ltb-false _ _ g.0 in
    let tail = drop 1 at.rest in
    let tail_fits : IsBytes tail = All-drop (λ b. b < 256) 1 at.rest fits in
    let len : length (take (byte_len w) tail) ≡ byte_len w = omega (arith, length-take (byte_len w) tail, length-drop 1 at.rest) in
    let front_fits : IsBytes (take (byte_len w) tail) = All-take (λ b. b < 256) (byte_len w) tail tail_fits in
    let front : to_le_bytes w (from_le_bytes w (take (byte_len w) tail)) ≡ take (byte_len w) tail = wide.back (take (byte_len w) tail) len front_fits in
    let below : from_le_bytes w (take (byte_len w) tail) < limit = wide.below (take (byte_len w) tail) front_fits in
    let least-is : least ≤ from_le_bytes w (take (byte_len w) tail) = ltb-false _ _ h.0 in
    let whole : at.rest ≡ lead ∷ tail = opened at.rest lead (omega arith) first in
    let behind : drop (1 + byte_len w) at.rest ≡ drop (byte_len w) tail = sym (drop-drop (byte_len w) 1 at.rest) in
    let parts : at.rest ≡ lead ∷ (to_le_bytes w (from_le_bytes w (take (byte_len w) tail)) ++ drop (1 + byte_len w) at.rest) = rw (front, behind) (whole ∙ ap (λ (t : List ℕ). lead ∷ t) (sym (take-append-drop (byte_len w) tail))) in
    let t : Takes at (lead ∷ to_le_bytes w (from_le_bytes w (take (byte_len w) tail))) (after (1 + byte_len w) at) = record { parts = parts; place_is = omega (arith, wide.len (from_le_bytes w (take (byte_len w) tail))); rest_fits = All-drop (λ b. b < 256) (1 + byte_len w) at.rest fits } in
    subst (λ (y : ℕ × At). Takes at (lead ∷ to_le_bytes w y.0) y.1 × (y.0 < limit) × (least ≤ y.0)) (ok_is _ x _ refl h.1) (t, below, least-is)

wide_again : (w : Width) (limit : ℕ) → IsWide w limit → (least lead n : ℕ) (at : At) (rest : List ℕ) → n < limit → least ≤ n → at.rest ≡ lead ∷ (to_le_bytes w n ++ rest) → Again (wide_at w least at) n rest
wide_again w limit wide least lead n at rest lt le is =
    let len = wide.len n in
    let tail : drop 1 at.rest ≡ to_le_bytes w n ++ rest = ap (λ (l : List ℕ). drop 1 l) is in
    let long : ltb (length at.rest) (1 + byte_len w) ≡ false = le-ltb _ _ (rw is (omega (arith, length-append (to_le_bytes w n) rest))) in
    let front : take (byte_len w) (drop 1 at.rest) ≡ to_le_bytes w n = rw tail (take_at (to_le_bytes w n) rest (byte_len w) len) in
    let large : ltb (from_le_bytes w (take (byte_len w) (drop 1 at.rest))) least ≡ false = rw (front, wide.again n lt) (le-ltb _ _ le) in
    record {
      next = after (1 + byte_len w) at;
      reads = rw (long, large, front, wide.again n lt) refl;
      left = rw (← drop-drop (byte_len w) 1 at.rest, tail) (drop_at (to_le_bytes w n) rest (byte_len w) len);
    }

-- the four spellings
pub compact1 : (n : ℕ) → n < 253 → compact n ≡ n ∷ []
unfolding compact
compact1 n lt = rw (lt-ltb n 253 lt) refl

pub compact3 : (n : ℕ) → 253 ≤ n → n < 65536 → compact n ≡ 253 ∷ to_le_bytes w16 n
unfolding compact
compact3 n le lt = rw (le-ltb n 253 le, lt-ltb n 65536 lt) refl

pub compact5 : (n : ℕ) → 65536 ≤ n → n < 4294967296 → compact n ≡ 254 ∷ to_le_bytes w32 n
unfolding compact
compact5 n le lt = rw (le-ltb n 253 (omega arith), le-ltb n 65536 le, lt-ltb n 4294967296 lt) refl

pub compact9 : (n : ℕ) → 4294967296 ≤ n → compact n ≡ 255 ∷ to_le_bytes w64 n
unfolding compact
compact9 n le = rw (le-ltb n 253 (omega arith), le-ltb n 65536 (omega arith), le-ltb n 4294967296 le) refl

-- the first byte tells a counted item from a marker
pub compact_lead : (n : ℕ) (rest : List ℕ) → 0 < n → 0 < slice_index (compact n ++ rest) 0
compact_lead n rest some =
    elim (cases_lt n 253) [
      | inl a ↦ rw (compact1 n a) some
      | inr a ↦ elim (cases_lt n 65536) [
        | inl b ↦ rw (compact3 n a b) (omega arith)
        | inr b ↦ elim (cases_lt n 4294967296) [
          | inl c ↦ rw (compact5 n b c) (omega arith)
          | inr c ↦ rw (compact9 n c) (omega arith)
        ]
      ]
    ]

count_takes : (at : At) (x : ℕ × At) → IsBytes at.rest → compact_at at ≡ Ok x → Takes at (compact x.0) x.1 × (x.0 < 2 ^ 64)
unfolding compact_at
count_takes at x fits e =
    let g = guard_ok _ _ _ _ e in
    let long : 1 ≤ length at.rest = ltb-false _ _ g.0 in
    let b = slice_index at.rest 0 in
    let small : b < 256 = byte_at at.rest 0 fits in
    elim (cases_eq b 253) [
      | inl is ↦
          let t = wide_takes w16 (2 ^ 16) wide16 253 253 at x fits is (rw (eq-eqb b 253 is) at g.1) in
          (rw (compact3 x.0 t.2 t.1) t.0, omega (arith, t.1))
      | inr no3 ↦ let g3 = rw (ne_eqb b 253 no3) at g.1 in elim (cases_eq b 254) [
        | inl is ↦
            let t = wide_takes w32 (2 ^ 32) wide32 65536 254 at x fits is (rw (eq-eqb b 254 is) at g3) in
            (rw (compact5 x.0 t.2 t.1) t.0, omega (arith, t.1))
        | inr no4 ↦ let g4 = rw (ne_eqb b 254 no4) at g3 in elim (cases_eq b 255) [
          | inl is ↦
              let t = wide_takes w64 (2 ^ 64) wide64 4294967296 255 at x fits is (rw (eq-eqb b 255 is) at g4) in
              (rw (compact9 x.0 t.2) t.0, t.1)
          | inr no5 ↦
              let g5 = rw (ne_eqb b 255 no5) at g4 in
              let low : b < 253 = omega arith in
              let whole : at.rest ≡ b ∷ drop 1 at.rest = opened at.rest b long refl in
              let t : Takes at (compact b) (after 1 at) = record { parts = rw (compact1 b low) whole; place_is = rw (compact1 b low) refl; rest_fits = All-drop (λ c. c < 256) 1 at.rest fits } in
              subst (λ (y : ℕ × At). Takes at (compact y.0) y.1 × (y.0 < 2 ^ 64)) (ok_is _ x _ refl g5) (t, omega arith)
        ]
      ]
    ]

count_again : (n : ℕ) (at : At) (rest : List ℕ) → n < 2 ^ 64 → at.rest ≡ compact n ++ rest → Again (compact_at at) n rest
unfolding compact_at
count_again n at rest lt is =
    elim (cases_lt n 253) [
      | inl a ↦
          let whole : at.rest ≡ n ∷ rest = is ∙ rw (compact1 n a) refl in
          let first : slice_index at.rest 0 ≡ n = ap (λ (l : List ℕ). slice_index l 0) whole in
          let long : ltb (length at.rest) 1 ≡ false = le-ltb _ _ (rw whole (omega arith)) in
          record {
            next = after 1 at;
            reads = rw (long, first, ne_eqb n 253 (λ e. omega arith), ne_eqb n 254 (λ e. omega arith), ne_eqb n 255 (λ e. omega arith)) refl;
            left = ap (λ (l : List ℕ). drop 1 l) whole;
          }
      | inr a ↦ elim (cases_lt n 65536) [
        | inl b ↦
            let whole : at.rest ≡ 253 ∷ (to_le_bytes w16 n ++ rest) = is ∙ rw (compact3 n a b) refl in
            let first : slice_index at.rest 0 ≡ 253 = ap (λ (l : List ℕ). slice_index l 0) whole in
            let long : ltb (length at.rest) 1 ≡ false = le-ltb _ _ (rw whole (omega arith)) in
            let r = wide_again w16 (2 ^ 16) wide16 253 253 n at rest b a whole in
            record { next = r.next; reads = rw (long, first) r.reads; left = r.left }
        | inr b ↦ elim (cases_lt n 4294967296) [
          | inl c ↦
              let whole : at.rest ≡ 254 ∷ (to_le_bytes w32 n ++ rest) = is ∙ rw (compact5 n b c) refl in
              let first : slice_index at.rest 0 ≡ 254 = ap (λ (l : List ℕ). slice_index l 0) whole in
              let long : ltb (length at.rest) 1 ≡ false = le-ltb _ _ (rw whole (omega arith)) in
              let r = wide_again w32 (2 ^ 32) wide32 65536 254 n at rest c b whole in
              record { next = r.next; reads = rw (long, first) r.reads; left = r.left }
          | inr c ↦
              let whole : at.rest ≡ 255 ∷ (to_le_bytes w64 n ++ rest) = is ∙ rw (compact9 n c) refl in
              let first : slice_index at.rest 0 ≡ 255 = ap (λ (l : List ℕ). slice_index l 0) whole in
              let long : ltb (length at.rest) 1 ≡ false = le-ltb _ _ (rw whole (omega arith)) in
              let r = wide_again w64 (2 ^ 64) wide64 4294967296 255 n at rest lt c whole in
              record { next = r.next; reads = rw (long, first) r.reads; left = r.left }
        ]
      ]
    ]

pub count_reads : Reads compact_at compact (λ n. n < 2 ^ 64)
count_reads = record { takes = count_takes; again = count_again }

-- ---- strings behind their length

string_takes : (at : At) (x : List ℕ × At) → IsBytes at.rest → string_at at ≡ Ok x → Takes at (prefixed x.0) x.1 × (IsBytes x.0 × (length x.0 < 2 ^ 64))
unfolding string_at
string_takes at x fits e =
    let a = bind_ok _ _ x e in
    let n = count_takes at a.0 fits a.1 in
    let s = bytes_takes a.0.0 a.0.1 x n.0.rest_fits a.2 in
    let both : Takes at (prefixed x.0) x.1 = rw (s.1.0) (takes_then at a.0.1 x.1 (compact a.0.0) x.0 n.0 s.0) in
    (both, (s.1.1, omega (arith, s.1.0, n.1)))

string_again : (x : List ℕ) (at : At) (rest : List ℕ) → IsBytes x × (length x < 2 ^ 64) → at.rest ≡ prefixed x ++ rest → Again (string_at at) x rest
unfolding string_at
string_again x at rest fits is =
    let a = count_again (length x) at (x ++ rest) fits.1 (is ∙ append_assoc (compact (length x)) x rest) in
    let b = bytes_again (length x) x a.next rest (refl, fits.0) a.left in
    record { next = b.next; reads = bind_is _ _ _ _ a.reads b.reads; left = b.left }

pub string_reads : Reads string_at prefixed (λ x. IsBytes x × (length x < 2 ^ 64))
string_reads = record { takes = string_takes; again = string_again }

-- what a call that read a CompactSize returned
pub count_found : (old new : At) (r : Result ℕ CutFault) → IsBytes old.rest → Moves (λ x. x) old new r (compact_at old) → IfOk r (λ n. old.rest ≡ compact n ++ new.rest)
count_found old new (Ok n) fits given = (count_takes old (n, new) fits given).0.parts
count_found old new (Err e) fits given = tt

pub count_only : (old new : At) (r : Result ℕ CutFault) → Moves (λ x. x) old new r (compact_at old) → (n : ℕ) (rest : List ℕ) → n < 2 ^ 64 → old.rest ≡ compact n ++ rest → (r ≡ Ok n) × (new.rest ≡ rest)
count_only old new (Ok m) given n rest lt is =
    let a = count_again n old rest lt is in
    let same : (m, new) ≡ (n, a.next) = ok_is (m, new) (n, a.next) (compact_at old) given a.reads in
    (ap (λ (p : ℕ × At). Ok p.0) same, ap (λ (p : ℕ × At). p.1.rest) same ∙ a.left)
count_only old new (Err e) given n rest lt is =
    let a = count_again n old rest lt is in
    absurd (cc (given.0, a.reads))
