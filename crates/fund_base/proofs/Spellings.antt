-- The faults of a CompactSize, told by its spellings.
use Rattle.std.proofs.Common.{◌≡◌, ◌≢◌, ℕ, ◌+◌, ◌-◌, ◌^◌, ◌<◌, ◌≤◌, false, true, ltb, List, [], ◌∷◌, ◌++◌, length, take, drop, Result, Ok, Err, refl, sym, ap, ◌∙◌, arith, inl, inr}
use Rattle.std.specs.Prelude.{slice_index, replicate, ◌⊎◌, ◌↔◌}
use Rattle.std.specs.Int.{Width, w16, w32, w64, byte_len, from_le_bytes, to_le_bytes}
use Rattle.std.proofs.lemmas.Bool.{cases_lt, cases_eq, lt-ltb, le-ltb, ne_eqb}
use Rattle.std.proofs.lemmas.List.{take_at, take-append-drop, length-append, length-take, length-drop, length-replicate}
use Rattle.std.proofs.lemmas.List.Elements.{All-append, All-drop, All-replicate, All-take}
use Rattle.fund_base.specs.declared.cursor.CutFault.{CutFault}
use Rattle.fund_base.specs.declared.cursor.CutFault.TheVariants.{Truncated, LongCompact}
use Rattle.fund_base.specs.CompactSize.{IsCut, IsLong, IsSpelling, compact}
use Rattle.fund_base.specs.Cursor.{At, IsBytes, after, wide_at, compact_at}
use Rattle.fund_base.proofs.LawsOfNumbers.{IsWide, byte_at, opened, wide16, wide32, wide64, compact1, compact3, compact5, compact9}

err_is : {A E : Type 0} (x y : E) (r : Result A E) → r ≡ Err x → r ≡ Err y → x ≡ y
err_is x y r p q = cc

-- ---- a number of a width behind its first byte

-- too few bytes are left for it
wide_short : (w : Width) (least : ℕ) (at : At) → length at.rest < 1 + byte_len w → wide_at w least at ≡ Err (Truncated at.place)
wide_short w least at short = rw (lt-ltb (length at.rest) (1 + byte_len w) short) refl

-- it is one that has a shorter spelling
wide_low : (w : Width) (limit : ℕ) → IsWide w limit → (least lead n : ℕ) (at : At) (rest : List ℕ) → n < limit → n < least → at.rest ≡ lead ∷ (to_le_bytes w n ++ rest) → wide_at w least at ≡ Err (LongCompact at.place)
wide_low w limit wide least lead n at rest lt low is =
    let len = wide.len n in
    let tail : drop 1 at.rest ≡ to_le_bytes w n ++ rest = ap (λ (l : List ℕ). drop 1 l) is in
    let long : ltb (length at.rest) (1 + byte_len w) ≡ false = le-ltb _ _ (rw is (omega (arith, length-append (to_le_bytes w n) rest))) in
    let front : take (byte_len w) (drop 1 at.rest) ≡ to_le_bytes w n = rw tail (take_at (to_le_bytes w n) rest (byte_len w) len) in
    let small : ltb (from_le_bytes w (take (byte_len w) (drop 1 at.rest))) least ≡ true = rw (front, wide.again n lt) (lt-ltb _ _ low) in
    rw (long, small) refl

record Short (w : Width) (at : At) (fault : CutFault) : Type 0 where
  is : fault ≡ Truncated at.place
  short : length at.rest < 1 + byte_len w

record Low (w : Width) (least : ℕ) (at : At) (fault : CutFault) : Type 0 where
  is : fault ≡ LongCompact at.place
  long : 1 + byte_len w ≤ length at.rest
  low : from_le_bytes w (take (byte_len w) (drop 1 at.rest)) < least

-- it is refused for one of both
wide_refused : (w : Width) (least : ℕ) (at : At) (fault : CutFault) → wide_at w least at ≡ Err fault → Short w at fault ⊎ Low w least at fault
wide_refused w least at fault e =
    elim (cases_lt (length at.rest) (1 + byte_len w)) [
      | inl short ↦ inl (record { is = err_is fault (Truncated at.place) (wide_at w least at) e (wide_short w least at short); short = short })
      | inr long ↦ elim (cases_lt (from_le_bytes w (take (byte_len w) (drop 1 at.rest))) least) [
        | inl low ↦
            let given : wide_at w least at ≡ Err (LongCompact at.place) = rw (le-ltb _ _ long, lt-ltb _ _ low) refl in
            inr (record { is = err_is fault (LongCompact at.place) (wide_at w least at) e given; long = long; low = low })
        | inr high ↦
            let given : wide_at w least at ≡ Ok (from_le_bytes w (take (byte_len w) (drop 1 at.rest)), after (1 + byte_len w) at) = rw (le-ltb _ _ long, le-ltb _ _ high) refl in
            absurd (cc (e, given))
      ]
    ]

-- what completes bytes that end within it
record Completed (w : Width) (limit lead : ℕ) (bytes : List ℕ) : Type 0 where
  number : ℕ
  more : List ℕ
  below : number < limit
  parts : bytes ++ more ≡ lead ∷ to_le_bytes w number
  some : more ≢ []

completed : (w : Width) (limit : ℕ) → IsWide w limit → (lead : ℕ) (bytes : List ℕ) → 1 ≤ length bytes → slice_index bytes 0 ≡ lead → IsBytes bytes → length bytes < 1 + byte_len w → Completed w limit lead bytes
completed w limit wide lead bytes any first fits short =
    let left = 1 + byte_len w - length bytes in
    let tail = drop 1 bytes in
    let more : List ℕ = replicate left 0 in
    let len : length (tail ++ more) ≡ byte_len w = omega (arith, length-append tail more, length-drop 1 bytes, length-replicate {A = ℕ} left 0) in
    let all_fit : IsBytes (tail ++ more) = All-append (λ b. b < 256) tail more (All-drop (λ b. b < 256) 1 bytes fits) (All-replicate (λ b. b < 256) left 0 (omega arith)) in
    record {
      number = from_le_bytes w (tail ++ more);
      more = more;
      below = wide.below (tail ++ more) all_fit;
      parts = ap (λ (l : List ℕ). l ++ more) (opened bytes lead any first) ∙ ap (λ (l : List ℕ). lead ∷ l) (sym (wide.back (tail ++ more) len all_fit));
      some = λ none. omega (arith, ap (λ (l : List ℕ). length l) none, length-replicate {A = ℕ} left 0);
    }

-- the number that bytes begin with, where enough are left
record Begun (w : Width) (limit lead : ℕ) (bytes : List ℕ) : Type 0 where
  number : ℕ
  rest : List ℕ
  is : number ≡ from_le_bytes w (take (byte_len w) (drop 1 bytes))
  below : number < limit
  parts : bytes ≡ lead ∷ (to_le_bytes w number ++ rest)

begun : (w : Width) (limit : ℕ) → IsWide w limit → (lead : ℕ) (bytes : List ℕ) → slice_index bytes 0 ≡ lead → IsBytes bytes → 1 + byte_len w ≤ length bytes → Begun w limit lead bytes
begun w limit wide lead bytes first fits long =
    let tail = drop 1 bytes in
    let front = take (byte_len w) tail in
    let front_fits : IsBytes front = All-take (λ b. b < 256) (byte_len w) tail (All-drop (λ b. b < 256) 1 bytes fits) in
    let len : length front ≡ byte_len w = omega (arith, length-take (byte_len w) tail, length-drop 1 bytes) in
    let any : 1 ≤ length bytes = omega arith in
    record {
      number = from_le_bytes w front;
      rest = drop (byte_len w) tail;
      is = refl;
      below = wide.below front front_fits;
      parts = opened bytes lead any first ∙ ap (λ (l : List ℕ). lead ∷ l) (sym (take-append-drop (byte_len w) tail) ∙ ap (λ (l : List ℕ). l ++ drop (byte_len w) tail) (sym (wide.back front len front_fits)));
    }

-- bytes that end within it are fewer
cut_short : (w : Width) (limit : ℕ) → IsWide w limit → (lead n : ℕ) (bytes more : List ℕ) → bytes ++ more ≡ lead ∷ to_le_bytes w n → more ≢ [] → length bytes < 1 + byte_len w
cut_short w limit wide lead n bytes [] parts some = absurd (some refl)
cut_short w limit wide lead n bytes (b ∷ more) parts some =
    omega (arith, ap (λ (l : List ℕ). length l) parts, length-append bytes (b ∷ more), wide.len n)

-- and begin as it does, unless there are none
cut_first : (lead : ℕ) (bytes more text : List ℕ) → bytes ++ more ≡ lead ∷ text → 1 ≤ length bytes → slice_index bytes 0 ≡ lead
cut_first lead [] more text parts any = absurd (omega arith)
cut_first lead (b ∷ bytes) more text parts any = ap (λ (l : List ℕ). slice_index l 0) parts

-- ---- by the first byte

compact_none : (at : At) → length at.rest < 1 → compact_at at ≡ Err (Truncated at.place)
unfolding compact_at
compact_none at none = rw (lt-ltb (length at.rest) 1 none) refl

compact_16 : (at : At) → 1 ≤ length at.rest → slice_index at.rest 0 ≡ 253 → compact_at at ≡ wide_at w16 253 at
unfolding compact_at
compact_16 at any first = rw (le-ltb (length at.rest) 1 any, first) refl

compact_32 : (at : At) → 1 ≤ length at.rest → slice_index at.rest 0 ≡ 254 → compact_at at ≡ wide_at w32 65536 at
unfolding compact_at
compact_32 at any first = rw (le-ltb (length at.rest) 1 any, first) refl

compact_64 : (at : At) → 1 ≤ length at.rest → slice_index at.rest 0 ≡ 255 → compact_at at ≡ wide_at w64 4294967296 at
unfolding compact_at
compact_64 at any first = rw (le-ltb (length at.rest) 1 any, first) refl

compact_8 : (at : At) → 1 ≤ length at.rest → slice_index at.rest 0 < 253 → compact_at at ≡ Ok (slice_index at.rest 0, after 1 at)
unfolding compact_at
compact_8 at any low = rw (le-ltb (length at.rest) 1 any, ne_eqb (slice_index at.rest 0) 253 (λ e. omega arith), ne_eqb (slice_index at.rest 0) 254 (λ e. omega arith), ne_eqb (slice_index at.rest 0) 255 (λ e. omega arith)) refl

-- how long the shortest spellings are
len1 : (n : ℕ) → n < 253 → length (compact n) ≡ 1
len1 n lt = rw (compact1 n lt) refl

len3 : (n : ℕ) → 253 ≤ n → n < 65536 → length (compact n) ≡ 3
len3 n le lt = rw (compact3 n le lt) refl

len5 : (n : ℕ) → 65536 ≤ n → n < 4294967296 → length (compact n) ≡ 5
len5 n le lt = rw (compact5 n le lt) refl

len9 : (n : ℕ) → 4294967296 ≤ n → length (compact n) ≡ 9
len9 n le = rw (compact9 n le) refl

most3 : (n : ℕ) → n < 65536 → length (compact n) ≤ 3
most3 n lt = elim (cases_lt n 253) [ inl low ↦ omega (arith, len1 n low) | inr high ↦ omega (arith, len3 n high lt) ]

most5 : (n : ℕ) → n < 4294967296 → length (compact n) ≤ 5
most5 n lt = elim (cases_lt n 65536) [ inl low ↦ omega (arith, most3 n low) | inr high ↦ omega (arith, len5 n high lt) ]

-- a number below these has a spelling shorter than so
below3 : (n : ℕ) → n < 65536 → length (compact n) < 3 → n < 253
below3 n lt short = elim (cases_lt n 253) [ inl low ↦ low | inr high ↦ absurd (omega (arith, len3 n high lt)) ]

below5 : (n : ℕ) → n < 4294967296 → length (compact n) < 5 → n < 65536
below5 n lt short = elim (cases_lt n 65536) [ inl low ↦ low | inr high ↦ absurd (omega (arith, len5 n high lt)) ]

below9 : (n : ℕ) → length (compact n) < 9 → n < 4294967296
below9 n short = elim (cases_lt n 4294967296) [ inl low ↦ low | inr high ↦ absurd (omega (arith, len9 n high)) ]

-- ---- what each fault means

abbrev Refused : At → CutFault → Type 0
Refused at fault = ((fault ≡ Truncated at.place) × IsCut at.rest) ⊎ ((fault ≡ LongCompact at.place) × IsLong at.rest)

refused16 : (at : At) (fault : CutFault) → IsBytes at.rest → 1 ≤ length at.rest → slice_index at.rest 0 ≡ 253 → Short w16 at fault ⊎ Low w16 253 at fault → Refused at fault
refused16 at fault fits any first (inl cut) =
    let c = completed w16 (2 ^ 16) wide16 253 at.rest any first fits cut.short in
    inl (cut.is, record { number = c.number; more = c.more; spelled = inr (inl (c.below, c.parts)); some = c.some })
refused16 at fault fits any first (inr low) =
    let b = begun w16 (2 ^ 16) wide16 253 at.rest first fits low.long in
    let small : b.number < 253 = rw b.is low.low in
    inr (low.is, record { number = b.number; text = 253 ∷ to_le_bytes w16 b.number; rest = b.rest; parts = b.parts; spelled = inr (inl (b.below, refl)); longer = omega (arith, len1 b.number small) })

refused32 : (at : At) (fault : CutFault) → IsBytes at.rest → 1 ≤ length at.rest → slice_index at.rest 0 ≡ 254 → Short w32 at fault ⊎ Low w32 65536 at fault → Refused at fault
refused32 at fault fits any first (inl cut) =
    let c = completed w32 (2 ^ 32) wide32 254 at.rest any first fits cut.short in
    inl (cut.is, record { number = c.number; more = c.more; spelled = inr (inr (inl (c.below, c.parts))); some = c.some })
refused32 at fault fits any first (inr low) =
    let b = begun w32 (2 ^ 32) wide32 254 at.rest first fits low.long in
    let small : b.number < 65536 = rw b.is low.low in
    inr (low.is, record { number = b.number; text = 254 ∷ to_le_bytes w32 b.number; rest = b.rest; parts = b.parts; spelled = inr (inr (inl (b.below, refl))); longer = omega (arith, most3 b.number small) })

refused64 : (at : At) (fault : CutFault) → IsBytes at.rest → 1 ≤ length at.rest → slice_index at.rest 0 ≡ 255 → Short w64 at fault ⊎ Low w64 4294967296 at fault → Refused at fault
refused64 at fault fits any first (inl cut) =
    let c = completed w64 (2 ^ 64) wide64 255 at.rest any first fits cut.short in
    inl (cut.is, record { number = c.number; more = c.more; spelled = inr (inr (inr (c.below, c.parts))); some = c.some })
refused64 at fault fits any first (inr low) =
    let b = begun w64 (2 ^ 64) wide64 255 at.rest first fits low.long in
    let small : b.number < 4294967296 = rw b.is low.low in
    inr (low.is, record { number = b.number; text = 255 ∷ to_le_bytes w64 b.number; rest = b.rest; parts = b.parts; spelled = inr (inr (inr (b.below, refl))); longer = omega (arith, most5 b.number small) })

no_bytes : (bytes : List ℕ) → length bytes < 1 → IsCut bytes
no_bytes [] none = record { number = 0; more = 0 ∷ []; spelled = inl (omega arith, refl); some = λ e. absurd (omega (arith, ap (λ (l : List ℕ). length l) e)) }
no_bytes (b ∷ bytes) none = absurd (omega arith)

refused : (at : At) (fault : CutFault) → IsBytes at.rest → compact_at at ≡ Err fault → Refused at fault
refused at fault fits e =
    elim (cases_lt (length at.rest) 1) [
      | inl none ↦ inl (err_is fault (Truncated at.place) (compact_at at) e (compact_none at none), no_bytes at.rest none)
      | inr any ↦ elim (cases_eq (slice_index at.rest 0) 253) [
        | inl first ↦ refused16 at fault fits any first (wide_refused w16 253 at fault (sym (compact_16 at any first) ∙ e))
        | inr no3 ↦ elim (cases_eq (slice_index at.rest 0) 254) [
          | inl first ↦ refused32 at fault fits any first (wide_refused w32 65536 at fault (sym (compact_32 at any first) ∙ e))
          | inr no4 ↦ elim (cases_eq (slice_index at.rest 0) 255) [
            | inl first ↦ refused64 at fault fits any first (wide_refused w64 4294967296 at fault (sym (compact_64 at any first) ∙ e))
            | inr no5 ↦
                let low : slice_index at.rest 0 < 253 = omega (arith, byte_at at.rest 0 fits) in
                absurd (cc (e, compact_8 at any low))
          ]
        ]
      ]
    ]

-- ---- what is refused

-- bytes that end within a number behind its first byte
cut_wide : (w : Width) (limit : ℕ) → IsWide w limit → (least lead n : ℕ) (at : At) (more : List ℕ) → (1 ≤ length at.rest → slice_index at.rest 0 ≡ lead → compact_at at ≡ wide_at w least at) → at.rest ++ more ≡ lead ∷ to_le_bytes w n → more ≢ [] → compact_at at ≡ Err (Truncated at.place)
cut_wide w limit wide least lead n at more by parts some =
    elim (cases_lt (length at.rest) 1) [
      | inl none ↦ compact_none at none
      | inr any ↦ by any (cut_first lead at.rest more (to_le_bytes w n) parts any) ∙ wide_short w least at (cut_short w limit wide lead n at.rest more parts some)
    ]

cut_none : (n : ℕ) (bytes more : List ℕ) → bytes ++ more ≡ n ∷ [] → more ≢ [] → length bytes < 1
cut_none n bytes [] parts some = absurd (some refl)
cut_none n bytes (b ∷ more) parts some = omega (arith, ap (λ (l : List ℕ). length l) parts, length-append bytes (b ∷ more))

cut_by : (at : At) (n : ℕ) (more : List ℕ) → IsSpelling n (at.rest ++ more) → more ≢ [] → compact_at at ≡ Err (Truncated at.place)
cut_by at n more (inl byte) some = compact_none at (cut_none n at.rest more byte.1 some)
cut_by at n more (inr (inl s)) some = cut_wide w16 (2 ^ 16) wide16 253 253 n at more (compact_16 at) s.1 some
cut_by at n more (inr (inr (inl s))) some = cut_wide w32 (2 ^ 32) wide32 65536 254 n at more (compact_32 at) s.1 some
cut_by at n more (inr (inr (inr s))) some = cut_wide w64 (2 ^ 64) wide64 4294967296 255 n at more (compact_64 at) s.1 some

-- bytes that begin with a long spelling
long_wide : (w : Width) (limit : ℕ) → IsWide w limit → (least lead n : ℕ) (at : At) (rest : List ℕ) → (1 ≤ length at.rest → slice_index at.rest 0 ≡ lead → compact_at at ≡ wide_at w least at) → n < limit → n < least → at.rest ≡ lead ∷ (to_le_bytes w n ++ rest) → compact_at at ≡ Err (LongCompact at.place)
long_wide w limit wide least lead n at rest by lt low is =
    by (rw is (omega arith)) (ap (λ (l : List ℕ). slice_index l 0) is) ∙ wide_low w limit wide least lead n at rest lt low is

long_by : (at : At) (n : ℕ) (text rest : List ℕ) → at.rest ≡ text ++ rest → IsSpelling n text → length (compact n) < length text → compact_at at ≡ Err (LongCompact at.place)
long_by at n text rest parts (inl byte) longer = absurd (omega (arith, len1 n byte.0, ap (λ (l : List ℕ). length l) byte.1))
long_by at n text rest parts (inr (inl s)) longer =
    let len : length text ≡ 3 = ap (λ (l : List ℕ). length l) s.1 in
    let low : n < 253 = below3 n s.0 (omega arith) in
    long_wide w16 (2 ^ 16) wide16 253 253 n at rest (compact_16 at) s.0 low (parts ∙ ap (λ (l : List ℕ). l ++ rest) s.1)
long_by at n text rest parts (inr (inr (inl s))) longer =
    let len : length text ≡ 5 = ap (λ (l : List ℕ). length l) s.1 in
    let low : n < 65536 = below5 n s.0 (omega arith) in
    long_wide w32 (2 ^ 32) wide32 65536 254 n at rest (compact_32 at) s.0 low (parts ∙ ap (λ (l : List ℕ). l ++ rest) s.1)
long_by at n text rest parts (inr (inr (inr s))) longer =
    let len : length text ≡ 9 = ap (λ (l : List ℕ). length l) s.1 in
    let low : n < 4294967296 = below9 n (omega arith) in
    long_wide w64 (2 ^ 64) wide64 4294967296 255 n at rest (compact_64 at) s.0 low (parts ∙ ap (λ (l : List ℕ). l ++ rest) s.1)

-- ---- both ways

cut_of : (at : At) → Refused at (Truncated at.place) → IsCut at.rest
cut_of at (inl cut) = cut.1
cut_of at (inr long) = absurd (cc long.0)

long_of : (at : At) → Refused at (LongCompact at.place) → IsLong at.rest
long_of at (inl cut) = absurd (cc cut.0)
long_of at (inr long) = long.1

pub truncated_where : (at : At) → IsBytes at.rest → (compact_at at ≡ Err (Truncated at.place)) ↔ IsCut at.rest
truncated_where at fits = (λ e. cut_of at (refused at (Truncated at.place) fits e), λ cut. cut_by at cut.number cut.more cut.spelled cut.some)

pub long_where : (at : At) → IsBytes at.rest → (compact_at at ≡ Err (LongCompact at.place)) ↔ IsLong at.rest
long_where at fits = (λ e. long_of at (refused at (LongCompact at.place) fits e), λ long. long_by at long.number long.text long.rest long.parts long.spelled long.longer)

one_of : (at : At) (fault : CutFault) → Refused at fault → (fault ≡ Truncated at.place) ⊎ (fault ≡ LongCompact at.place)
one_of at fault (inl cut) = inl cut.0
one_of at fault (inr long) = inr long.0

pub no_others : (at : At) (fault : CutFault) → IsBytes at.rest → compact_at at ≡ Err fault → (fault ≡ Truncated at.place) ⊎ (fault ≡ LongCompact at.place)
no_others at fault fits e = one_of at fault (refused at fault fits e)
