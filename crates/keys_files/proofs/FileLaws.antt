-- The keys file, read behind the other files.
use Rattle.std.proofs.Common.{◌≡◌, ◌≢◌, ◌⊎◌, ◌∙◌, ℕ, List, Result, Ok, Err, inl, inr, refl, sym, ap, subst}
use Rattle.std.specs.Prelude.{◌<◌, length, IfErr, IfOk}
use Rattle.fund_shelf.proofs.Outside.{rose_earlier}
use Rattle.fund_shelf.specs.Causes.{OnlyReads, ShelfView}
use Rattle.fund_shelf.specs.declared.pieces.ReadError.{ReadError}
use Rattle.fund_shelf.specs.declared.pieces.ReadError.TheVariants as reads
use Rattle.json_fields.specs.declared.fault.FieldFault.TheVariants as fields
use Rattle.json_fields.specs.declared.fault.FieldFault.TheVariants.{Memory as NoMemory}
use Rattle.keys_text.specs.KeysText.{keys_of}
use Rattle.keys_text.specs.PlainKeys.{PlainKeys}
use Rattle.keys_text.specs.declared.fault.KeysFault.{KeysFault}
use Rattle.keys_text.specs.declared.fault.KeysFault.TheVariants as faults
use Rattle.keys_text.specs.declared.fault.KeysFault.TheVariants.{Field}
use Rattle.keys_files.specs.KeysFile.{HasKeys, HasKeysFault, IsKeysWithin, StopsAtBytes, StopsAtKeys, fault_stop_of, read_stop_of}
use Rattle.keys_files.specs.declared.stop.KeysStop.{KeysStop}
use Rattle.keys_files.specs.declared.stop.KeysStop.TheVariants as stops

-- ---- the file by itself

-- there was not enough memory, or it is another fault
told_or_short : (fault : KeysFault) → (fault_stop_of fault ≡ stops.Memory) ⊎ ((fault ≢ Field NoMemory) × (fault_stop_of fault ≡ stops.Refused fault))
told_or_short (Field NoMemory) = inl refl
told_or_short (Field fields.NotJson) = inr ((λ e. cc), refl)
told_or_short (Field (fields.Kind name)) = inr ((λ e. cc), refl)
told_or_short (Field (fields.Member name)) = inr ((λ e. cc), refl)
told_or_short (Field (fields.Missing name)) = inr ((λ e. cc), refl)
told_or_short (faults.Script n) = inr ((λ e. cc), refl)
told_or_short (faults.Redeem n) = inr ((λ e. cc), refl)
told_or_short (faults.Witness n) = inr ((λ e. cc), refl)
told_or_short (faults.Internal n) = inr ((λ e. cc), refl)
told_or_short (faults.Key n m) = inr ((λ e. cc), refl)
told_or_short (faults.RepeatKey n m) = inr ((λ e. cc), refl)
told_or_short (faults.Xpub n) = inr ((λ e. cc), refl)
told_or_short (faults.RepeatXpub n) = inr ((λ e. cc), refl)

-- the stop at a fault of the bytes
pub bytes_stop : (bytes : List ℕ) (fault : KeysFault) → (fault ≢ Field NoMemory → keys_of bytes ≡ Err fault) → StopsAtBytes bytes (fault_stop_of fault)
bytes_stop bytes fault has = elim (told_or_short fault) [
  | inl short ↦ subst (StopsAtBytes bytes) (sym short) tt
  | inr told ↦ subst (StopsAtBytes bytes) (sym told.1) (has told.0)
]

-- a stop at the bytes is one at the file
pub file_stop : (told : Type 0) (name bytes : List ℕ) (old new : ShelfView) → (told → bytes ≡ old.files name) → (told → IsKeysWithin (old.files name)) → (stop : KeysStop) → StopsAtBytes bytes stop → StopsAtKeys told name old new stop
file_stop told name bytes old new read fits stops.Read h = absurd h
file_stop told name bytes old new read fits stops.TooLong h = absurd h
file_stop told name bytes old new read fits (stops.Refused fault) h = λ t. record { fits = fits t; first = subst (λ (file : List ℕ). keys_of file ≡ Err fault) (read t) h }
file_stop told name bytes old new read fits stops.Memory h = tt

pub if_file_stop : (told : Type 0) (name bytes : List ℕ) (old new : ShelfView) {X : Type 0} (result : Result X KeysStop) → (told → bytes ≡ old.files name) → (told → IsKeysWithin (old.files name)) → IfErr result (StopsAtBytes bytes) → IfErr result (StopsAtKeys told name old new)
if_file_stop told name bytes old new (Ok x) read fits h = tt
if_file_stop told name bytes old new (Err stop) read fits h = file_stop told name bytes old new read fits stop h

pub if_held : (told : Type 0) (name bytes : List ℕ) (old : ShelfView) {E : Type 0} (result : Result PlainKeys E) → (told → bytes ≡ old.files name) → (told → IsKeysWithin (old.files name)) → IfOk result (λ k. keys_of bytes ≡ Ok k) → told → IfOk result (HasKeys (old.files name))
if_held told name bytes old (Ok k) read fits h t = record { fits = fits t; form = subst (λ (file : List ℕ). keys_of file ≡ Ok k) (read t) h }
if_held told name bytes old (Err e) read fits h t = tt

-- ---- behind others

module _ (told : Type 0) (name : List ℕ) (old middle new : ShelfView) (only : OnlyReads told old middle) where
  back : (P : List ℕ → Type 0) → told → P (middle.files name) → P (old.files name)
  back P t h = subst (λ (files : List ℕ → List ℕ). P (files name)) (only.same t) h

  pub keys_stop : (stop : KeysStop) → StopsAtKeys told name middle new stop → StopsAtKeys told name old new stop
  keys_stop stops.Read h = rose_earlier _ _ _ (only.reads name) h
  keys_stop stops.TooLong h = λ t. back (λ (file : List ℕ). 16777216 < length file) t (h t)
  keys_stop (stops.Refused fault) h = λ t. back (λ (file : List ℕ). HasKeysFault file fault) t (h t)
  keys_stop stops.Memory h = tt

  pub keys_back : (k : PlainKeys) → (told → HasKeys (middle.files name) k) → told → HasKeys (old.files name) k
  keys_back k h t = back (λ (file : List ℕ). HasKeys file k) t (h t)

-- ---- failed reads

pub same_err : {X E : Type 0} (a b : E) → ◌≡◌ {A = Result X E} (Err a) (Err b) → a ≡ b
same_err a b e = cc

pub whole_unfailed : {X Y R : Type 0} (error : ReadError) (stop : KeysStop) → stop ≡ read_stop_of error → (◌≡◌ {A = Result X KeysStop} (Err stop) (Err stops.Read) → ⊥) → ((◌≡◌ {A = Result Y ReadError} (Err error) (Err reads.Failed) → ⊥) → R) → R
whole_unfailed {X = X} {Y = Y} error stop is other by =
    let refused : KeysStop → Result X KeysStop = λ s. Err s in
    by (λ e. other (ap refused (is ∙ ap read_stop_of (same_err {X = Y} error reads.Failed e))))

pub ok_apart : {X E : Type 0} (x : X) (fault : E) → ◌≡◌ {A = Result X E} (Ok x) (Err fault) → ⊥
ok_apart x fault e = cc
