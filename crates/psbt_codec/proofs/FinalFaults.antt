-- A PSBT's fault doesn't depend on the bytes after those that were read, unless it says that bytes are missing.
use Rattle.std.proofs.Common.{◌≡◌, ℕ, ◌+◌, ◌-◌, ◌<◌, ◌≤◌, ltb, true, false, List, [], ◌++◌, length, take, Result, Ok, Err, refl, sym, ap, subst, ◌∙◌, arith, inl, inr, length-append}
use Rattle.std.specs.Prelude.{◌⊎◌, ◌==◌, bytes_eq}
use Rattle.std.proofs.Math.Seq.{take-append-add}
use Rattle.std.proofs.lemmas.Bool.{cases_Bool, both_ways, eqb-true, eqb-false, ne_eqb, ltb-true, ltb-false}
use Rattle.std.proofs.lemmas.List.{nil_from_length, take-append-le, drop-append-le, length-take}
use Rattle.std.proofs.lemmas.Slice.Eq.{bytes_eq-Decides}
use Rattle.tx_codec.proofs.FinalFaults.{apart, no_more}
use Rattle.fund_base.specs.Cursor.{At, after}
use Rattle.fund_base.specs.Parsing.{whole_of}
use Rattle.fund_base.proofs.Laws.{guard_met, ok_is}
use Rattle.tx_codec.proofs.MoreBytes.{spot, longer, Carries, then}
use Rattle.psbt_codec.specs.declared.fault.PsbtFault.{PsbtFault}
use Rattle.psbt_codec.specs.declared.fault.PsbtFault.TheVariants.{Magic, Trailing}
use Rattle.psbt_codec.specs.declared.psbt.Versioned.{Versioned}
use Rattle.psbt_codec.specs.Truncation.{IsTruncated, IsCut, IsPart, BeginsNone, IsCutOff}
use Rattle.psbt_codec.specs.Psbt.{magic}
use Rattle.psbt_codec.specs.Reading.{start, magic_at, psbt_at, versioned_of, read_of, unversioned}
use Rattle.psbt_codec.proofs.MoreBytes.{maps_longer}
use Rattle.psbt_codec.proofs.Readable.{read_again, versioned_again, unversioned_err, unversioned_fails}

-- ---- the magic

front : (bytes more : List ℕ) → 5 ≤ length bytes → take 5 (bytes ++ more) ≡ take 5 bytes
front bytes more le = take-append-le 5 bytes more le

-- of a first part of the magic bytes are missing
cut_front : (bytes more : List ℕ) → length bytes < 5 → take 5 (bytes ++ more) ≡ magic → bytes ++ take (5 - length bytes) more ≡ magic
cut_front bytes more few begins =
    let all : length bytes + (5 - length bytes) ≡ 5 = omega (arith, few) in
    sym (take-append-add bytes more (5 - length bytes)) ∙ ap (λ (n : ℕ). take n (bytes ++ more)) all ∙ begins

same_front : (xs : List ℕ) → bytes_eq xs magic ≡ true → xs ≡ magic
same_front xs e = (bytes_eq-Decides xs magic).0 e

begins_with : (xs : List ℕ) → xs ≡ magic → bytes_eq xs magic ≡ true
begins_with xs e = (bytes_eq-Decides xs magic).1 e

-- where the bytes don't begin with the magic, they are a first part of it, or begin with it under no others after them
no_magic : (bytes more : List ℕ) (e : PsbtFault) → bytes_eq (take 5 bytes) magic ≡ false → e ≡ Magic → IsCut bytes e ⊎ (magic_at (start (bytes ++ more)) ≡ Err e)
no_magic bytes more e other is =
    elim (cases_Bool (bytes_eq (take 5 (bytes ++ more)) magic)) [
      | inl same ↦
          let begins : take 5 (bytes ++ more) ≡ magic = same_front (take 5 (bytes ++ more)) same in
          elim (cases_Bool (ltb (length bytes) 5)) [
            | inl few ↦ inl (inr (record { is = is; more = take (5 - length bytes) more; parts = cut_front bytes more (ltb-true (length bytes) 5 few) begins }))
            | inr enough ↦ absurd (both_ways (bytes_eq (take 5 bytes) magic) other (begins_with (take 5 bytes) (sym (front bytes more (ltb-false (length bytes) 5 enough)) ∙ begins)))
          ]
      | inr differs ↦ inr (rw (differs, is) refl)
    ]

magic_length : (bytes : List ℕ) → take 5 bytes ≡ magic → 5 ≤ length bytes
magic_length bytes e = omega (arith, ap (λ (l : List ℕ). length l) e, length-take 5 bytes)

magic_longer : (bytes more : List ℕ) → Carries (IsCut bytes) more (magic_at (start bytes)) (magic_at (start (bytes ++ more)))
magic_longer bytes more =
    elim (cases_Bool (bytes_eq (take 5 bytes) magic)) [
      | inl same ↦
          let le = magic_length bytes (same_front (take 5 bytes) same) in
          let again : bytes_eq (take 5 (bytes ++ more)) magic ≡ true = rw (front bytes more le) same in
          let next : after 5 (start (bytes ++ more)) ≡ longer more (after 5 (start bytes)) = ap (λ (l : List ℕ). spot l 5) (drop-append-le 5 bytes more le) in
          record {
            ok = λ x e.
                let is : (tt, after 5 (start bytes)) ≡ x = ok_is _ _ (magic_at (start bytes)) (rw same refl) e in
                rw (again, next) (ap (λ (z : Unit {0} × At). Ok (z.0, longer more z.1)) is);
            err = λ e is. let f = rw same at is in absurd cc;
          }
      | inr other ↦ record {
        ok = λ x e. let f = rw other at e in absurd cc;
        err = λ e is. let f = rw other at is in no_magic bytes more e other cc;
      }
    ]

-- ---- the whole

weaker : {X : Type 0} (bytes more : List ℕ) (read again : Result (X × At) PsbtFault) → Carries IsTruncated more read again → Carries (IsCut bytes) more read again
weaker bytes more read again h = record {
  ok = h.ok;
  err = λ e is. elim (h.err e is) [
    | inl cut ↦ inl (inl cut)
    | inr fails ↦ inr fails
  ];
}

psbt_longer : (bytes more : List ℕ) → Carries (IsCut bytes) more (psbt_at (start bytes)) (psbt_at (start (bytes ++ more)))
unfolding psbt_at
psbt_longer bytes more = then (IsCut bytes) more _ _ _ _ (magic_longer bytes more) (λ first. weaker bytes more _ _ (maps_longer more first.1))

abbrev whole : Result (Versioned × At) PsbtFault → Result Versioned PsbtFault
whole read = whole_of Trailing read

-- bytes stand after the maps, and more after these
still_trailing : (x : Versioned × At) (more : List ℕ) (e : PsbtFault) → whole (Ok x) ≡ Err e → whole (Ok (x.0, longer more x.1)) ≡ Err e
still_trailing x more e is =
    elim (cases_Bool (length x.1.rest == 0)) [
      | inl none ↦ let f = rw none at is in absurd cc
      | inr some ↦
          let f = rw some at is in
          let longer_some : (length (x.1.rest ++ more) == 0) ≡ false = ne_eqb _ _ (λ none. eqb-false (length x.1.rest) 0 some (omega (arith, none, length-append x.1.rest more))) in
          rw longer_some f
    ]

final_at : (bytes more : List ℕ) (fault : PsbtFault) (read : Result (Versioned × At) PsbtFault) → psbt_at (start bytes) ≡ read → whole read ≡ Err fault → (IsCut bytes fault → ⊥) → versioned_of (bytes ++ more) ≡ Err fault
final_at bytes more fault (Ok x) e is uncut =
    let again = (psbt_longer bytes more).ok x e in
    ap whole again ∙ still_trailing x more fault is
final_at bytes more fault (Err d) e is uncut =
    let same : d ≡ fault = cc in
    elim ((psbt_longer bytes more).err d e) [
      | inl cut ↦ absurd (uncut (subst (λ (z : PsbtFault). IsCut bytes z) same cut))
      | inr again ↦ ap whole again ∙ ap (λ (z : PsbtFault). Err z) same
    ]

pub final : (bytes more : List ℕ) (fault : PsbtFault) → read_of bytes ≡ Err fault → (IsCut bytes fault → ⊥) → read_of (bytes ++ more) ≡ Err fault
final bytes more fault is uncut = unversioned_fails (versioned_of (bytes ++ more)) fault (final_at bytes more fault (psbt_at (start bytes)) refl (unversioned_err (versioned_of bytes) fault is) uncut)

pub begins_none : (bytes : List ℕ) (fault : PsbtFault) → read_of bytes ≡ Err fault → (IsCut bytes fault → ⊥) → BeginsNone bytes
begins_none bytes fault is uncut more p readable = apart (read_of (bytes ++ more)) p fault (read_again (bytes ++ more) p readable) (final bytes more fault is uncut)

cut_at : (bytes : List ℕ) → IsPart bytes → (read : Result (Versioned × At) PsbtFault) → psbt_at (start bytes) ≡ read → IsCutOff bytes (unversioned (whole read))
cut_at bytes part (Ok x) e =
    let again = (psbt_longer bytes part.more).ok x e in
    let v : Versioned = record { version = part.whole.version; psbt = part.psbt } in
    let all : whole (Ok (x.0, longer part.more x.1)) ≡ Ok v = ap whole (sym again) ∙ versioned_again (bytes ++ part.more) part.psbt part.whole in
    let end = guard_met _ _ _ _ all in
    let nothing : x.1.rest ++ part.more ≡ [] = nil_from_length _ (eqb-true _ _ end.0) in
    absurd (part.some (no_more x.1.rest part.more nothing))
cut_at bytes part (Err d) e =
    let v : Versioned = record { version = part.whole.version; psbt = part.psbt } in
    elim ((psbt_longer bytes part.more).err d e) [
      | inl cut ↦ record { fault = d; refused = refl; cut = cut }
      | inr again ↦ absurd (apart (versioned_of (bytes ++ part.more)) v d (versioned_again (bytes ++ part.more) part.psbt part.whole) (ap whole again))
    ]

pub cut_off : (bytes : List ℕ) → IsPart bytes → IsCutOff bytes (read_of bytes)
cut_off bytes part = cut_at bytes part (psbt_at (start bytes)) refl
