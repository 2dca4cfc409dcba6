-- What the reader of whole PSBTs promises follows from what it reads at each place.
use Rattle.std.proofs.Common.{◌≡◌, ◌≢◌, ℕ, false, List, ◌++◌, length, take, drop, Result, Ok, Err, refl, sym, ap, ◌∙◌, arith, inl, inr}
use Rattle.std.specs.Prelude.{◌⊎◌, ◌==◌, bytes_eq, IfOk, MatchResult}
use Rattle.std.proofs.lemmas.Bool.{cases_Bool, both_ways, eqb-false, ne_eqb, false_from_ne_true}
use Rattle.std.proofs.lemmas.List.{nil_from_length, length-append, take-append-drop, take_at}
use Rattle.std.proofs.lemmas.Slice.Eq.{bytes_eq-Decides}
use Rattle.fund_base.specs.Cursor.{At, IsBytes, after}
use Rattle.fund_base.specs.Parsing.{whole_of, YieldsAll}
use Rattle.fund_base.proofs.Laws.{bind_is, ok_is}
use Rattle.psbt_codec.specs.declared.fault.PsbtFault.{PsbtFault}
use Rattle.psbt_codec.specs.declared.fault.PsbtFault.TheVariants.{Magic, Truncated, LongCompact, RepeatKey, NoUnsigned, Unsigned, NotBare, Field, Version, Mixed, Lacking, RequiredLock, WrongParent, Trailing, NotBase64, Memory}
use Rattle.psbt_codec.specs.declared.psbt.Versioned.{Versioned}
use Rattle.psbt_codec.specs.PartialTransaction.{PartialTransaction}
use Rattle.psbt_codec.specs.Psbt.{magic, IsReadable, IsReadableIn, IsFollowed}
use Rattle.psbt_codec.specs.Reading.{start, psbt_at, of_version, versioned_of, read_of}
use Rattle.psbt_codec.proofs.NestedFaults.{is_outer, maps_inner}
use Rattle.psbt_codec.proofs.Readable.{psbt_takes, psbt_again, versioned_takes, versioned_in, read_takes, read_again, unversioned_err, unversioned_fails}

-- a fault is out of memory where it can't be another
pub only_memory : (e : PsbtFault) → (e ≢ Memory → ⊥) → e ≡ Memory
only_memory Magic h = absurd (h (λ e. absurd cc))
only_memory (Truncated place) h = absurd (h (λ e. absurd cc))
only_memory (LongCompact place) h = absurd (h (λ e. absurd cc))
only_memory (RepeatKey place) h = absurd (h (λ e. absurd cc))
only_memory NoUnsigned h = absurd (h (λ e. absurd cc))
only_memory (Unsigned fault) h = absurd (h (λ e. absurd cc))
only_memory NotBare h = absurd (h (λ e. absurd cc))
only_memory (Field place) h = absurd (h (λ e. absurd cc))
only_memory (Version version) h = absurd (h (λ e. absurd cc))
only_memory (Mixed place) h = absurd (h (λ e. absurd cc))
only_memory (Lacking kind) h = absurd (h (λ e. absurd cc))
only_memory (RequiredLock input) h = absurd (h (λ e. absurd cc))
only_memory (WrongParent input) h = absurd (h (λ e. absurd cc))
only_memory (Trailing place) h = absurd (h (λ e. absurd cc))
only_memory NotBase64 h = absurd (h (λ e. absurd cc))
only_memory Memory h = refl

-- ---- the faults that don't lie within the maps

-- a PSBT that is refused lacks the magic, or has a fault within its maps
psbt_faults : (at : At) (e : PsbtFault) → psbt_at at ≡ Err e → ((e ≡ Magic) × (bytes_eq (take 5 at.rest) magic ≡ false)) ⊎ (is_outer e ≡ false)
unfolding psbt_at
psbt_faults at e is =
    elim (cases_Bool (bytes_eq (take 5 at.rest) magic)) [
      | inl same ↦ inr ((maps_inner (after 5 at)).inner e (rw same at is))
      | inr other ↦ let refused = rw other at is in inl (cc, other)
    ]

-- what a refused whole ended in: a fault before its end, or bytes after it
whole_faults : (read : Result (Versioned × At) PsbtFault) (e : PsbtFault) → whole_of (λ p. Trailing p) read ≡ Err e
    → (read ≡ Err e) ⊎ ((x : Versioned × At) × (read ≡ Ok x) × (length x.1.rest ≡ 0 → ⊥) × (e ≡ Trailing x.1.place))
whole_faults (Ok x) e is =
    elim (cases_Bool (length x.1.rest == 0)) [
      | inl none ↦ let f = rw none at is in absurd cc
      | inr some ↦ let f = rw some at is in inr (x, refl, eqb-false (length x.1.rest) 0 some, cc)
    ]
whole_faults (Err d) e is = let same : d ≡ e = cc in inl (ap (λ (x : PsbtFault). Err x) same)

-- a fault that was reported, memory aside
told : {X : Type 0} (whole result : Result X PsbtFault) (e : PsbtFault) → e ≢ Memory → YieldsAll Memory (λ (x : X). x) result whole → result ≡ Err e → whole ≡ Err e
told whole (Ok x) e other given is = absurd cc
told whole (Err d) e other given is =
    let same : d ≡ e = cc in
    given (λ memory. other (sym same ∙ memory)) ∙ ap (λ (x : PsbtFault). Err x) same

-- a fault that is reported unless memory is short
tells : {X : Type 0} (whole result : Result X PsbtFault) (e : PsbtFault) → YieldsAll Memory (λ (x : X). x) result whole → whole ≡ Err e → MatchResult result (λ _. ⊥) (λ d. d ≢ Memory → d ≡ e)
tells whole (Ok x) e given is = absurd cc
tells whole (Err d) e given is = λ other. let known = given other in cc

trailing_at : (bytes : List ℕ) (place : ℕ) → IsBytes bytes → versioned_of bytes ≡ Err (Trailing place) → IsFollowed bytes place
trailing_at bytes place fits is =
    elim (whole_faults (psbt_at (start bytes)) (Trailing place) is) [
      | inl before ↦ elim (psbt_faults (start bytes) (Trailing place) before) [
        | inl no_magic ↦ let e = no_magic.0 in absurd cc
        | inr inner ↦ absurd cc
      ]
      | inr behind ↦
          let t = psbt_takes (start bytes) behind.0 fits behind.1 in
          let same : place ≡ behind.0.1.place = cc (behind.3) in
          record { psbt = behind.0.0.psbt; text = t.text; rest = behind.0.1.rest; readable = t.readable.0; parts = t.takes.parts; place_is = omega (arith, same, t.takes.place_is); some = λ none. behind.2 (ap (λ (l : List ℕ). length l) none) }
    ]

followed_at : (bytes : List ℕ) (place : ℕ) → IsBytes bytes → IsFollowed bytes place → versioned_of bytes ≡ Err (Trailing place)
followed_at bytes place fits followed =
    let a = psbt_again followed.text followed.psbt (start bytes) followed.rest followed.readable followed.parts in
    let v : Versioned = record { version = followed.readable.version; psbt = followed.psbt } in
    let t = psbt_takes (start bytes) (v, a.next) fits a.reads in
    let some : length a.next.rest ≡ 0 → ⊥ = λ none. followed.some (sym a.left ∙ nil_from_length a.next.rest none) in
    let length_is : length t.text ≡ length followed.text = omega (arith, ap (λ (l : List ℕ). length l) t.takes.parts, ap (λ (l : List ℕ). length l) followed.parts, ap (λ (l : List ℕ). length l) a.left, length-append t.text a.next.rest, length-append followed.text followed.rest) in
    let at_end : a.next.place ≡ place = omega (arith, followed.place_is, t.takes.place_is, length_is) in
    bind_is (psbt_at (start bytes)) _ (v, a.next) (Err (Trailing place)) a.reads (rw (ne_eqb (length a.next.rest) 0 some) (ap (λ (p : ℕ). Err (Trailing p)) at_end))

-- a text is not what is read
never_a_text : (bytes : List ℕ) → versioned_of bytes ≢ Err NotBase64
never_a_text bytes = λ is.
    elim (whole_faults (psbt_at (start bytes)) NotBase64 is) [
      | inl before ↦ elim (psbt_faults (start bytes) NotBase64 before) [
        | inl no_magic ↦ let e = no_magic.0 in absurd cc
        | inr inner ↦ absurd cc
      ]
      | inr behind ↦ let e = behind.3 in absurd cc
    ]

-- the magic is missing exactly where the bytes don't begin with it
magic_missing : (bytes : List ℕ) → versioned_of bytes ≡ Err Magic → bytes_eq (take 5 bytes) magic ≡ false
magic_missing bytes is =
    elim (whole_faults (psbt_at (start bytes)) Magic is) [
      | inl before ↦ elim (psbt_faults (start bytes) Magic before) [
        | inl no_magic ↦ no_magic.1
        | inr inner ↦ absurd cc
      ]
      | inr behind ↦ let e = behind.3 in absurd cc
    ]

without_magic : (bytes : List ℕ) → versioned_of bytes ≡ Err Magic → (rest : List ℕ) → bytes ≢ magic ++ rest
without_magic bytes is = λ rest begins.
    both_ways (bytes_eq (take 5 bytes) magic) (magic_missing bytes is) ((bytes_eq-Decides (take 5 bytes) magic).1 (ap (λ (l : List ℕ). take 5 l) begins ∙ take_at magic rest 5 refl))

no_magic_read : (bytes : List ℕ) → bytes_eq (take 5 bytes) magic ≡ false → versioned_of bytes ≡ Err Magic
unfolding psbt_at
no_magic_read bytes other = rw other refl

-- bytes that don't begin with it
not_begun : (bytes : List ℕ) → ((rest : List ℕ) → bytes ≢ magic ++ rest) → take 5 bytes ≡ magic → ⊥
not_begun bytes unmarked same = unmarked (drop 5 bytes) (sym (take-append-drop 5 bytes) ∙ ap (λ (l : List ℕ). l ++ drop 5 bytes) same)

unmarked_at : (bytes : List ℕ) → ((rest : List ℕ) → bytes ≢ magic ++ rest) → versioned_of bytes ≡ Err Magic
unmarked_at bytes unmarked =
    no_magic_read bytes (false_from_ne_true (bytes_eq (take 5 bytes) magic) (λ same. not_begun bytes unmarked ((bytes_eq-Decides (take 5 bytes) magic).0 same)))

-- a fault that is reported unless memory is short, where memory isn't
unmarked_is : {X : Type 0} (result : Result X PsbtFault) → MatchResult result (λ _. ⊥) (λ d. d ≢ Memory → d ≡ Magic) → (result ≡ Err Memory → ⊥) → result ≡ Err Magic
unmarked_is (Ok p) refused never = absurd refused
unmarked_is (Err d) refused never = ap (λ (x : PsbtFault). Err x) (refused (λ memory. never (ap (λ (x : PsbtFault). Err x) memory)))

-- ---- with the version

abbrev IsVersionedRead : List ℕ → Result Versioned PsbtFault → Type 0
IsVersionedRead bytes result = YieldsAll Memory (λ (v : Versioned). v) result (versioned_of bytes)

pub versioned_found : (bytes : List ℕ) → IsBytes bytes → (result : Result Versioned PsbtFault) → IsVersionedRead bytes result → IfOk result (λ v. IsReadableIn v.version bytes v.psbt)
versioned_found bytes fits (Ok v) given = versioned_takes bytes v fits given
versioned_found bytes fits (Err e) given = tt

pub versioned_only : (bytes : List ℕ) (result : Result Versioned PsbtFault) → IsVersionedRead bytes result → (version : ℕ) (p : PartialTransaction) → IsReadableIn version bytes p → MatchResult result (λ v. (v.version ≡ version) × (v.psbt ≡ p)) (λ e. e ≡ Memory)
versioned_only bytes (Ok v) given version p is =
    let same = ok_is v (of_version version p) (versioned_of bytes) given (versioned_in bytes version p is) in
    (ap (λ (w : Versioned). w.version) same, ap (λ (w : Versioned). w.psbt) same)
versioned_only bytes (Err e) given version p is =
    let again = versioned_in bytes version p is in
    only_memory e (λ other. absurd (cc (given other, again)))

pub versioned_without_magic : (bytes : List ℕ) (result : Result Versioned PsbtFault) → IsVersionedRead bytes result → result ≡ Err Magic → (rest : List ℕ) → bytes ≢ magic ++ rest
versioned_without_magic bytes result given is = without_magic bytes (told (versioned_of bytes) result Magic (λ e. absurd cc) given is)

pub versioned_unmarked : (bytes : List ℕ) (result : Result Versioned PsbtFault) → IsVersionedRead bytes result → (result ≡ Err Memory → take 5 bytes ≡ magic) → ((rest : List ℕ) → bytes ≢ magic ++ rest) → result ≡ Err Magic
versioned_unmarked bytes result given short unmarked =
    unmarked_is result (tells (versioned_of bytes) result Magic given (unmarked_at bytes unmarked)) (λ memory. not_begun bytes unmarked (short memory))

pub versioned_trailing : (bytes : List ℕ) → IsBytes bytes → (result : Result Versioned PsbtFault) → IsVersionedRead bytes result → (place : ℕ) → result ≡ Err (Trailing place) → IsFollowed bytes place
versioned_trailing bytes fits result given place is = trailing_at bytes place fits (told (versioned_of bytes) result (Trailing place) (λ e. absurd cc) given is)

pub versioned_followed : (bytes : List ℕ) → IsBytes bytes → (result : Result Versioned PsbtFault) → IsVersionedRead bytes result → (place : ℕ) → IsFollowed bytes place → MatchResult result (λ _. ⊥) (λ e. e ≢ Memory → e ≡ Trailing place)
versioned_followed bytes fits result given place followed = tells (versioned_of bytes) result (Trailing place) given (followed_at bytes place fits followed)

pub versioned_without_text : (bytes : List ℕ) (result : Result Versioned PsbtFault) → IsVersionedRead bytes result → result ≢ Err NotBase64
versioned_without_text bytes result given = λ is. never_a_text bytes (told (versioned_of bytes) result NotBase64 (λ e. absurd cc) given is)

-- ---- without it

abbrev IsRead : List ℕ → Result PartialTransaction PsbtFault → Type 0
IsRead bytes result = YieldsAll Memory (λ (p : PartialTransaction). p) result (read_of bytes)

pub all_found : (bytes : List ℕ) → IsBytes bytes → (result : Result PartialTransaction PsbtFault) → IsRead bytes result → IfOk result (λ p. IsReadable bytes p)
all_found bytes fits (Ok p) given = read_takes bytes p fits given
all_found bytes fits (Err e) given = tt

pub all_only : (bytes : List ℕ) (result : Result PartialTransaction PsbtFault) → IsRead bytes result → (p : PartialTransaction) → IsReadable bytes p → MatchResult result (λ q. q ≡ p) (λ e. e ≡ Memory)
all_only bytes (Ok q) given p is = ok_is q p (read_of bytes) given (read_again bytes p is)
all_only bytes (Err e) given p is = only_memory e (λ other. absurd (cc (given other, read_again bytes p is)))

-- a fault is the same with the version and without
told_of : (bytes : List ℕ) (result : Result PartialTransaction PsbtFault) (e : PsbtFault) → e ≢ Memory → IsRead bytes result → result ≡ Err e → versioned_of bytes ≡ Err e
told_of bytes result e other given is = unversioned_err (versioned_of bytes) e (told (read_of bytes) result e other given is)

tells_of : (bytes : List ℕ) (result : Result PartialTransaction PsbtFault) (e : PsbtFault) → IsRead bytes result → versioned_of bytes ≡ Err e → MatchResult result (λ _. ⊥) (λ d. d ≢ Memory → d ≡ e)
tells_of bytes result e given is = tells (read_of bytes) result e given (unversioned_fails (versioned_of bytes) e is)

pub all_without_magic : (bytes : List ℕ) (result : Result PartialTransaction PsbtFault) → IsRead bytes result → result ≡ Err Magic → (rest : List ℕ) → bytes ≢ magic ++ rest
all_without_magic bytes result given is = without_magic bytes (told_of bytes result Magic (λ e. absurd cc) given is)

pub all_unmarked : (bytes : List ℕ) (result : Result PartialTransaction PsbtFault) → IsRead bytes result → (result ≡ Err Memory → take 5 bytes ≡ magic) → ((rest : List ℕ) → bytes ≢ magic ++ rest) → result ≡ Err Magic
all_unmarked bytes result given short unmarked =
    unmarked_is result (tells_of bytes result Magic given (unmarked_at bytes unmarked)) (λ memory. not_begun bytes unmarked (short memory))

pub all_trailing : (bytes : List ℕ) → IsBytes bytes → (result : Result PartialTransaction PsbtFault) → IsRead bytes result → (place : ℕ) → result ≡ Err (Trailing place) → IsFollowed bytes place
all_trailing bytes fits result given place is = trailing_at bytes place fits (told_of bytes result (Trailing place) (λ e. absurd cc) given is)

pub all_followed : (bytes : List ℕ) → IsBytes bytes → (result : Result PartialTransaction PsbtFault) → IsRead bytes result → (place : ℕ) → IsFollowed bytes place → MatchResult result (λ _. ⊥) (λ e. e ≢ Memory → e ≡ Trailing place)
all_followed bytes fits result given place followed = tells_of bytes result (Trailing place) given (followed_at bytes place fits followed)

pub all_without_text : (bytes : List ℕ) (result : Result PartialTransaction PsbtFault) → IsRead bytes result → result ≢ Err NotBase64
all_without_text bytes result given = λ is. never_a_text bytes (told_of bytes result NotBase64 (λ e. absurd cc) given is)
