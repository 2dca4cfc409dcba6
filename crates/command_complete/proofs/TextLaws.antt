-- The text of a PSBT file.
use Rattle.std.proofs.Common.{◌≡◌, ◌≢◌, ◌∙◌, ◌++◌, ℕ, Bool, true, false, List, [], ◌∷◌, if◌then◌else◌, sym, ap, subst, inl, inr}
use Rattle.std.specs.List.{starts_with}
use Rattle.std.specs.Prelude.{◌⊎◌, nat_eq}
use Rattle.base64.specs.Engines.{standard}
use Rattle.base64.specs.GeneralPurpose.{encode_of}
use Rattle.coin_book.specs.History.{History}
use Rattle.fund_base.specs.Cursor.{IsBytes}
use Rattle.psbt_codec.specs.PartialTransaction.{PartialTransaction}
use Rattle.psbt_codec.specs.Psbt.{IsPsbt, IsReadable, IsReadableIn, magic, written}
use Rattle.psbt_codec.specs.Text.{psbt_text, HasPsbtFault, IsPsbtTextIn}
use Rattle.psbt_codec.specs.declared.fault.PsbtFault.{PsbtFault}
use Rattle.psbt_codec.specs.declared.fault.PsbtFault.TheVariants as psbts
use Rattle.command_complete.specs.Completed.{IsCompleted, known_of}
use Rattle.command_complete.specs.Faults.{IsFirstFault}
use Rattle.command_complete.specs.declared.fault.CompleteFault.{CompleteFault}
use Rattle.command_complete.specs.declared.fault.CompleteFault.TheVariants as inputs
use Rattle.command_complete.specs.Made.{IsCompletedText, IsSpelled, IsSpelledOtherwise, line_of, text_of}
use Rattle.command_complete.specs.Stops.{StopsAtPsbt, StopsAtText, stop_of_input, stop_of_psbt}
use Rattle.command_complete.specs.declared.stop.Refusal.TheVariants as refusals
use Rattle.command_complete.specs.declared.stop.Stop.{Stop}
use Rattle.command_complete.specs.declared.stop.Stop.TheVariants as stops

-- by the fault: out of memory, or another
pub stop_at : (text : List ℕ) (f : PsbtFault) → (f ≢ psbts.Memory → HasPsbtFault text f) → StopsAtText text (stop_of_psbt f)
stop_at text psbts.Memory has = tt
stop_at text psbts.Magic has = has (λ h. cc)
stop_at text (psbts.Truncated n) has = has (λ h. cc)
stop_at text (psbts.LongCompact n) has = has (λ h. cc)
stop_at text (psbts.RepeatKey n) has = has (λ h. cc)
stop_at text psbts.NoUnsigned has = has (λ h. cc)
stop_at text (psbts.Unsigned t) has = has (λ h. cc)
stop_at text psbts.NotBare has = has (λ h. cc)
stop_at text (psbts.Field n) has = has (λ h. cc)
stop_at text (psbts.Version n) has = has (λ h. cc)
stop_at text (psbts.WrongParent n) has = has (λ h. cc)
stop_at text (psbts.Trailing n) has = has (λ h. cc)
stop_at text psbts.NotBase64 has = has (λ h. cc)
stop_at text (psbts.Mixed n) has = has (λ h. cc)
stop_at text (psbts.Lacking n) has = has (λ h. cc)
stop_at text (psbts.RequiredLock n) has = has (λ h. cc)

-- the text is the one that is written of a PSBT in its version
pub is_spelled : (text : List ℕ) (version : ℕ) (p : PartialTransaction) → IsPsbtTextIn version text p → text ≡ psbt_text version p → IsSpelled text version p
is_spelled text version p psbt spelling = record { psbt = psbt; spelling = spelling }

-- it isn't
pub is_spelled_otherwise : (text : List ℕ) (version : ℕ) (p : PartialTransaction) → IsPsbtTextIn version text p → (text ≡ psbt_text version p → ⊥) → IsSpelledOtherwise text
is_spelled_otherwise text version p psbt other = record { version = version; is = p; psbt = psbt; other = other }

-- what is written in a version is readable in it
readable_in : (bytes : List ℕ) (version : ℕ) (p : PartialTransaction) → (version ≡ 0) ⊎ (version ≡ 2) → (version ≡ 0 → IsReadableIn 0 bytes p) → (version ≡ 2 → IsReadableIn 2 bytes p) → IsReadableIn version bytes p
readable_in bytes version p (inl e) first second = subst (λ (v : ℕ). IsReadableIn v bytes p) (sym e) (first e)
readable_in bytes version p (inr e) first second = subst (λ (v : ℕ). IsReadableIn v bytes p) (sym e) (second e)

-- the text that is written of a PSBT in a version is
pub written_spelled : (text bytes : List ℕ) (version : ℕ) (p : PartialTransaction) → IsPsbt p → (version ≡ 0) ⊎ (version ≡ 2) → IsBytes bytes → bytes ≡ written version p → (IsPsbt p → version ≡ 0 → IsReadableIn 0 bytes p) → (IsPsbt p → version ≡ 2 → IsReadableIn 2 bytes p) → text ≡ encode_of standard bytes
    → IsSpelled text version p
written_spelled text bytes version p rules known are is first second text_is =
    let readable = readable_in bytes version p known (first rules) (second rules) in
    is_spelled text version p (record { bytes = bytes; are_bytes = are; text_is = text_is; readable = readable.0 }, readable.1) (text_is ∙ ap (encode_of standard) is)

-- a PSBT of a text is one
pub spelled_psbt : (text : List ℕ) (version : ℕ) (p : PartialTransaction) → IsSpelled text version p → IsPsbt p
spelled_psbt text version p h = h.psbt.0.readable.psbt

-- in version 0 or in version 2
known_version : (version : ℕ) (bytes : List ℕ) (p : PartialTransaction) (r : IsReadable bytes p) → r.version ≡ version → (version ≡ 0) ⊎ (version ≡ 2)
known_version version bytes p r is = elim r.maps [
  | inl first ↦ inl (sym is ∙ first.0)
  | inr second ↦ inr (sym is ∙ second.0)
]

pub spelled_version : (text : List ℕ) (version : ℕ) (p : PartialTransaction) → IsSpelled text version p → (version ≡ 0) ⊎ (version ≡ 2)
spelled_version text version p h = known_version version h.psbt.0.bytes p h.psbt.0.readable h.psbt.1

-- ---- what is made of it

-- what is printed of a text is a PSBT made whole in the version of the text's
pub text_completed : (h : History) (old text line : List ℕ) (version : ℕ) (p q : PartialTransaction) → IsSpelled old version p → IsCompleted h p q → IsSpelled line version q → text ≡ line ++ 10 ∷ [] → IsCompletedText h old text
text_completed h old text line version p q spelled completed reads prints =
    record { version = version; before = p; spelled = spelled; after = q; completed = completed; line = line; reads = reads; prints = prints }

-- a stop at the text alone is one at what it holds
pub text_stops : (h : History) (text : List ℕ) (stop : Stop) → StopsAtText text stop → StopsAtPsbt h text stop
text_stops h text (stops.Chain stop) s = absurd s
text_stops h text stops.Read s = absurd s
text_stops h text stops.TooLong s = absurd s
text_stops h text (stops.Refused (refusals.Psbt fault)) s = s
text_stops h text (stops.Refused refusals.OtherPairs) s = s
text_stops h text (stops.Refused (refusals.Input fault)) s = absurd s
text_stops h text stops.Memory s = tt

-- a stop at an input of its PSBT
pub input_stops : (h : History) (text : List ℕ) (version : ℕ) (p : PartialTransaction) (fault : CompleteFault) → IsSpelled text version p → (fault ≢ inputs.Memory → IsFirstFault h (known_of p) fault) → StopsAtPsbt h text (stop_of_input fault)
input_stops h text version p (inputs.Missing index coin) spelled first = (version, p, spelled, first (λ e. cc))
input_stops h text version p (inputs.OtherOutput index coin) spelled first = (version, p, spelled, first (λ e. cc))
input_stops h text version p inputs.Memory spelled first = tt

-- ---- the file

-- the text of a file that begins as the bytes of a PSBT do, and that of another
pub text_of_bytes : (file : List ℕ) → starts_with nat_eq file magic ≡ true → text_of file ≡ encode_of standard file
text_of_bytes file is = ap (λ (b : Bool). if b then encode_of standard file else line_of file) is

pub text_of_line : (file : List ℕ) → starts_with nat_eq file magic ≡ false → text_of file ≡ line_of file
text_of_line file is = ap (λ (b : Bool). if b then encode_of standard file else line_of file) is
