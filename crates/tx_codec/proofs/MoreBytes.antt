-- Reading goes on as before where more bytes stand after the text, unless it missed some.
use Rattle.std.proofs.Common.{◌≡◌, ℕ, zero, suc, ◌+◌, ◌≤◌, Bool, true, false, cond, ltb, List, [], ◌∷◌, ◌++◌, length, take, drop, Result, Ok, Err, refl, sym, ap, subst, ◌∙◌, arith, inl, inr, length-append}
use Rattle.std.specs.Prelude.{◌⊎◌, slice_index}
use Rattle.std.specs.Int.{Width, w16, w32, w64, byte_len, from_le_bytes}
use Rattle.std.proofs.lemmas.Bool.{ltb-false, le-ltb}
use Rattle.std.proofs.lemmas.List.{take-append-le, drop-append-le, length-drop}
use Rattle.fund_base.specs.declared.cursor.CutFault.{CutFault}
use Rattle.fund_base.specs.declared.cursor.CutFault.TheVariants.{Truncated, LongCompact}
use Rattle.fund_base.specs.Cursor.{At, after, take_at, number_at, wide_at, compact_at}
use Rattle.fund_base.specs.Parsing.{◌>>=◌, fault_as, string_at, many_from}
use Rattle.fund_base.proofs.Laws.{bind_is}

abbrev pub spot : List ℕ → ℕ → At
spot rest place = record { rest = rest; place = place }

-- the same place, with more bytes after those that are left
abbrev pub longer : List ℕ → At → At
longer more at = spot (at.rest ++ more) at.place

-- What was read is read again where more bytes stand after, and a fault comes again, but for those of missing bytes.
pub record Carries {X E : Type 0} (Cut : E → Type 0) (more : List ℕ) (read again : Result (X × At) E) : Type 0 where
  pub ok : (x : X × At) → read ≡ Ok x → again ≡ Ok (x.0, longer more x.1)
  pub err : (e : E) → read ≡ Err e → Cut e ⊎ (again ≡ Err e)

pub then : {A B E : Type 0} (Cut : E → Type 0) (more : List ℕ) (read again : Result (A × At) E) (f g : A × At → Result (B × At) E)
    → Carries Cut more read again → ((x : A × At) → Carries Cut more (f x) (g (x.0, longer more x.1))) → Carries Cut more (read >>= f) (again >>= g)
then Cut more (Ok x) again f g h k =
    let a = h.ok x refl in
    let b = k x in
    record {
      ok = λ y e. bind_is again g (x.0, longer more x.1) _ a (b.ok y e);
      err = λ d e. elim (b.err d e) [
        | inl cut ↦ inl cut
        | inr is ↦ inr (bind_is again g (x.0, longer more x.1) _ a is)
      ];
    }
then {A = A} {B = B} {E = E} Cut more (Err d) again f g h k = record {
  ok = λ y e. absurd cc;
  err = λ e is.
      let same : d ≡ e = cc in
      elim (h.err d refl) [
        | inl cut ↦ inl (subst (λ (z : E). Cut z) same cut)
        | inr fails ↦ inr (ap (λ (r : Result (A × At) E). r >>= g) fails ∙ ap (λ (z : E). Err z) same)
      ];
}

pub done : {X E : Type 0} (Cut : E → Type 0) (more : List ℕ) (x : X) (at : At) → Carries {X = X} {E = E} Cut more (Ok (x, at)) (Ok (x, longer more at))
done {X = X} {E = E} Cut more x at = record {
  ok = λ y e.
      let same : (x, at) ≡ y = cc in
      ap (λ (z : X × At). Ok (z.0, longer more z.1)) same;
  err = λ d e. absurd cc;
}

-- a test that the bytes after don't change
pub pick : {X E : Type 0} (Cut : E → Type 0) (more : List ℕ) (b : Bool) (r s t u : Result (X × At) E) → Carries Cut more r s → Carries Cut more t u → Carries Cut more (cond b r t) (cond b s u)
pick Cut more true r s t u h k = h
pick Cut more false r s t u h k = k

pub refused : {X E : Type 0} (Cut : E → Type 0) (more : List ℕ) (d : E) → Carries {X = X} {E = E} Cut more (Err d) (Err d)
refused Cut more d = record { ok = λ y e. absurd cc; err = λ e is. inr is }

-- ---- the fields of a cursor

pub record IsShort (fault : CutFault) : Type 0 where
  pub place : ℕ
  pub is : fault ≡ Truncated place

short_then : {X : Type 0} (more : List ℕ) (b c : Bool) (place : ℕ) (r s : Result (X × At) CutFault) → (b ≡ false → (c ≡ false) × Carries IsShort more r s)
    → Carries IsShort more (cond b (Err (Truncated place)) r) (cond c (Err (Truncated place)) s)
short_then more true c place r s h = record { ok = λ y e. absurd cc; err = λ e is. inl (record { place = place; is = cc }) }
short_then more false c place r s h =
    let p = h refl in
    rw (p.0) p.1

long_more : (n : ℕ) (xs more : List ℕ) → ltb (length xs) n ≡ false → ltb (length (xs ++ more)) n ≡ false
long_more n xs more long = le-ltb (length (xs ++ more)) n (omega (arith, ltb-false (length xs) n long, length-append xs more))

moved : (n : ℕ) (more : List ℕ) (at : At) → n ≤ length at.rest → after n (longer more at) ≡ longer more (after n at)
moved n more at le = ap (λ (l : List ℕ). spot l (at.place + n)) (drop-append-le n at.rest more le)

-- a value that was read, and the place after it
read_same : {X : Type 0} (more : List ℕ) (x y : X) (next new : At) → y ≡ x → new ≡ longer more next → Carries {X = X} {E = CutFault} IsShort more (Ok (x, next)) (Ok (y, new))
read_same more x y next new same is = rw (same, is) (done IsShort more x next)

-- the same where the fault is reported as one of another type
pub reported : {X F : Type 0} (Cut : F → Type 0) (report : CutFault → F) (more : List ℕ) (read again : Result (X × At) CutFault) → ((place : ℕ) → Cut (report (Truncated place)))
    → Carries IsShort more read again → Carries Cut more (fault_as report read) (fault_as report again)
reported {X = X} Cut report more (Ok x) again missing h = record {
  ok = λ y e.
      let same : x ≡ y = cc in
      ap (λ (r : Result (X × At) CutFault). fault_as report r) (h.ok x refl) ∙ ap (λ (z : X × At). Ok (z.0, longer more z.1)) same;
  err = λ e is. absurd cc;
}
reported {X = X} {F = F} Cut report more (Err d) again missing h = record {
  ok = λ y e. absurd cc;
  err = λ e is.
      let same : report d ≡ e = cc in
      elim (h.err d refl) [
        | inl short ↦ inl (subst (λ (z : F). Cut z) (sym (ap (λ (c : CutFault). report c) short.is) ∙ same) (missing short.place))
        | inr fails ↦ inr (ap (λ (r : Result (X × At) CutFault). fault_as report r) fails ∙ ap (λ (z : F). Err z) same)
      ];
}

pub take_longer : (n : ℕ) (more : List ℕ) (at : At) → Carries IsShort more (take_at n at) (take_at n (longer more at))
take_longer n more at =
    short_then more (ltb (length at.rest) n) (ltb (length (at.rest ++ more)) n) at.place _ _ (λ long.
    let le : n ≤ length at.rest = ltb-false (length at.rest) n long in
    (long_more n at.rest more long, read_same more _ _ _ _ (take-append-le n at.rest more le) (moved n more at le)))

pub number_longer : (w : Width) (more : List ℕ) (at : At) → Carries IsShort more (number_at w at) (number_at w (longer more at))
number_longer w more at =
    short_then more (ltb (length at.rest) (byte_len w)) (ltb (length (at.rest ++ more)) (byte_len w)) at.place _ _ (λ long.
    let le : byte_len w ≤ length at.rest = ltb-false (length at.rest) (byte_len w) long in
    (long_more (byte_len w) at.rest more long, read_same more _ _ _ _ (ap (λ (l : List ℕ). from_le_bytes w l) (take-append-le (byte_len w) at.rest more le)) (moved (byte_len w) more at le)))

abbrev behind : ℕ → List ℕ → List ℕ
behind n bytes = take n (drop 1 bytes)

behind_same : (n : ℕ) (bytes more : List ℕ) → 1 + n ≤ length bytes → behind n (bytes ++ more) ≡ behind n bytes
behind_same n bytes more le =
    ap (λ (l : List ℕ). take n l) (drop-append-le 1 bytes more (omega arith)) ∙ take-append-le n (drop 1 bytes) more (omega (arith, length-drop 1 bytes))

-- the answer of a wide number, whose value is this
abbrev wide_answer : ℕ → ℕ → ℕ → At → At → Result (ℕ × At) CutFault
wide_answer least n value next at = cond (ltb value least) (Err (LongCompact at.place)) (Ok (value, next))

wide_longer : (w : Width) (least : ℕ) (more : List ℕ) (at : At) → Carries IsShort more (wide_at w least at) (wide_at w least (longer more at))
wide_longer w least more at =
    short_then more (ltb (length at.rest) (1 + byte_len w)) (ltb (length (at.rest ++ more)) (1 + byte_len w)) at.place _ _ (λ long.
    let le : 1 + byte_len w ≤ length at.rest = ltb-false (length at.rest) (1 + byte_len w) long in
    let same = behind_same (byte_len w) at.rest more le in (
      long_more (1 + byte_len w) at.rest more long,
      rw same (pick IsShort more (ltb (from_le_bytes w (behind (byte_len w) at.rest)) least) _ _ _ _ (refused IsShort more (LongCompact at.place)) (read_same more _ _ _ _ refl (moved (1 + byte_len w) more at le))),
    ))

first_same : (bytes more : List ℕ) → 1 ≤ length bytes → slice_index (bytes ++ more) 0 ≡ slice_index bytes 0
first_same [] more some = absurd (omega arith)
first_same (b ∷ bytes) more some = refl

pub count_longer : (more : List ℕ) (at : At) → Carries IsShort more (compact_at at) (compact_at (longer more at))
unfolding compact_at
count_longer more at =
    short_then more (ltb (length at.rest) 1) (ltb (length (at.rest ++ more)) 1) at.place _ _ (λ long.
    let le : 1 ≤ length at.rest = ltb-false (length at.rest) 1 long in (
      long_more 1 at.rest more long,
      rw (first_same at.rest more le)
          (pick IsShort more _ _ _ _ _ (wide_longer w16 253 more at)
          (pick IsShort more _ _ _ _ _ (wide_longer w32 65536 more at)
          (pick IsShort more _ _ _ _ _ (wide_longer w64 4294967296 more at)
          (read_same more _ _ _ _ refl (moved 1 more at le))))),
    ))

pub string_longer : (more : List ℕ) (at : At) → Carries IsShort more (string_at at) (string_at (longer more at))
unfolding string_at
string_longer more at = then IsShort more _ _ _ _ (count_longer more at) (λ n. take_longer n.0 more n.1)

-- ---- items one after the other

pub many_longer : {X E : Type 0} (Cut : E → Type 0) (more : List ℕ) (item : List X → At → Result (X × At) E) → ((before : List X) (at : At) → Carries Cut more (item before at) (item before (longer more at)))
    → (n : ℕ) (before : List X) (at : At) → Carries Cut more (many_from item n before at) (many_from item n before (longer more at))
unfolding many_from
many_longer Cut more item each zero before at = done Cut more before at
many_longer Cut more item each (suc n) before at = then Cut more _ _ _ _ (each before at) (λ x. many_longer Cut more item each n (before ++ x.0 ∷ []) x.1)
