-- Why the command stops, file by file.
use Rattle.std.proofs.Common.{◌≡◌, ◌≢◌, ◌⊎◌, ◌∙◌, ℕ, List, [], ◌∷◌, Result, Ok, Err, inl, inr, refl, sym, ap, subst}
use Rattle.fund_shelf.proofs.Asking.{asks_first, asks_then}
use Rattle.fund_shelf.specs.Causes.{Asks, OnlyReads, ShelfView}
use Rattle.keys_text.specs.PlainKeys.{PlainKeys}
use Rattle.psbt_codec.specs.declared.fault.PsbtFault.TheVariants as psbts
use Rattle.psbt_keys.specs.declared.fault.KeyFault.{KeyFault}
use Rattle.psbt_keys.specs.declared.fault.KeyFault.TheVariants as faults
use Rattle.command_end.specs.Names.{Sources}
use Rattle.command_complete.specs.Asked as completing
use Rattle.command_complete.specs.Made.{line_of}
use Rattle.command_complete.specs.Statuses.{IsPrinted}
use Rattle.keys_files.proofs.FileLaws.{keys_back, keys_stop, same_err}
use Rattle.command_keys.specs.Asked.{AsksInOrder, AsksUpTo}
use Rattle.keys_files.specs.Keyed.{IsTextFault}
use Rattle.command_keys.specs.Keyed.{IsKeyedFile}
use Rattle.keys_files.specs.KeysFile.{HasKeys, StopsAtKeys}
use Rattle.command_keys.specs.Results.{IsKeyedPrint}
use Rattle.command_keys.specs.Stops.{IsUnkeyed, StopsFor, TellsRead, stop_of_key}
use Rattle.keys_files.specs.declared.stop.KeysStop.{KeysStop}
use Rattle.keys_files.specs.declared.stop.KeysStop.TheVariants as keys_stops
use Rattle.command_keys.specs.declared.stop.Stop.{Stop}
use Rattle.command_keys.specs.declared.stop.Stop.TheVariants as stops

-- ---- keys that aren't added

-- there was not enough memory, or it is another fault
pub key_stop_is : (fault : KeyFault) → (stop_of_key fault ≡ stops.Memory) ⊎ ((fault ≢ faults.Psbt psbts.Memory) × (stop_of_key fault ≡ stops.Unkeyed fault))
key_stop_is (faults.Psbt psbts.Memory) = inl refl
key_stop_is (faults.Psbt psbts.Magic) = inr ((λ e. cc), refl)
key_stop_is (faults.Psbt (psbts.Truncated n)) = inr ((λ e. cc), refl)
key_stop_is (faults.Psbt (psbts.LongCompact n)) = inr ((λ e. cc), refl)
key_stop_is (faults.Psbt (psbts.RepeatKey n)) = inr ((λ e. cc), refl)
key_stop_is (faults.Psbt psbts.NoUnsigned) = inr ((λ e. cc), refl)
key_stop_is (faults.Psbt (psbts.Unsigned t)) = inr ((λ e. cc), refl)
key_stop_is (faults.Psbt psbts.NotBare) = inr ((λ e. cc), refl)
key_stop_is (faults.Psbt (psbts.Field n)) = inr ((λ e. cc), refl)
key_stop_is (faults.Psbt (psbts.Version n)) = inr ((λ e. cc), refl)
key_stop_is (faults.Psbt (psbts.Mixed n)) = inr ((λ e. cc), refl)
key_stop_is (faults.Psbt (psbts.Lacking n)) = inr ((λ e. cc), refl)
key_stop_is (faults.Psbt (psbts.RequiredLock n)) = inr ((λ e. cc), refl)
key_stop_is (faults.Psbt (psbts.WrongParent n)) = inr ((λ e. cc), refl)
key_stop_is (faults.Psbt (psbts.Trailing n)) = inr ((λ e. cc), refl)
key_stop_is (faults.Psbt psbts.NotBase64) = inr ((λ e. cc), refl)
key_stop_is (faults.Global n) = inr ((λ e. cc), refl)
key_stop_is (faults.Input n kind) = inr ((λ e. cc), refl)
key_stop_is (faults.Output n kind) = inr ((λ e. cc), refl)

-- ---- what was asked for

pub whole_asked : (s : Sources) (name keys : List ℕ) (old new : ShelfView) → completing.AsksInOrder s name old new → AsksInOrder s name keys old new
whole_asked s name keys old new a = asks_first (s.wallet ∷ s.blocks ∷ name ∷ []) (keys ∷ []) old.asked new.asked a

pub all_asked : (s : Sources) (name keys : List ℕ) (old middle new : ShelfView) → completing.AsksInOrder s name old middle → Asks (keys ∷ []) middle.asked new.asked → AsksInOrder s name keys old new
all_asked s name keys old middle new a b = asks_then (s.wallet ∷ s.blocks ∷ name ∷ []) (keys ∷ []) old.asked middle.asked new.asked a b

pub key_up_to : (s : Sources) (name keys : List ℕ) (old new : ShelfView) (fault : KeyFault) → AsksInOrder s name keys old new → AsksUpTo s name keys old new (stop_of_key fault)
key_up_to s name keys old new fault a = elim (key_stop_is fault) [
  | inl memory ↦ subst (AsksUpTo s name keys old new) (sym memory) a
  | inr other ↦ subst (AsksUpTo s name keys old new) (sym other.1) a
]

-- ---- the stops

module _ (told : Type 0) (s : Sources) (name keys : List ℕ) (old middle new : ShelfView) (only : OnlyReads told old middle) (whole : List ℕ) (printed : IsPrinted told old.files s name whole) where
  -- at the keys file
  pub file_stops : (stop : KeysStop) → StopsAtKeys told keys middle new stop → StopsFor told s name keys old new (stops.Keys stop)
  file_stops stop h = ((whole, printed), keys_stop told keys old middle new only stop h)

  module _ (known : PlainKeys) (held : told → HasKeys (middle.files keys) known) where
    -- where the keys aren't added
    pub key_stops : (fault : KeyFault) → (fault ≢ faults.Psbt psbts.Memory → IsTextFault known (line_of whole) fault) → StopsFor told s name keys old new (stop_of_key fault)
    key_stops fault has = elim (key_stop_is fault) [
      | inl memory ↦ subst (StopsFor told s name keys old new) (sym memory) tt
      | inr other ↦ subst (StopsFor told s name keys old new) (sym other.1) (unkeyed (has other.0))
    ]
      where
        unkeyed : IsTextFault known (line_of whole) fault → IsUnkeyed told old.files s name keys fault
        unkeyed is = record { whole = whole; printed = printed; known = known; holds = keys_back told keys old middle new only known held; fault_is = is }

    pub print_is : (text : List ℕ) → IsKeyedFile known whole text → IsKeyedPrint told old.files s name keys text
    print_is text keyed = record { whole = whole; printed = printed; known = known; holds = keys_back told keys old middle new only known held; keyed = keyed }

-- ---- which stops tell of a read that failed

not_read : (stop : KeysStop) → (TellsRead (stops.Keys stop) → ⊥) → stop ≢ keys_stops.Read
not_read stop not e = not (subst (λ (x : KeysStop). TellsRead (stops.Keys x)) (sym e) tt)

pub keys_unfailed : {X R : Type 0} (stop : KeysStop) → (TellsRead (stops.Keys stop) → ⊥) → ((◌≡◌ {A = Result X KeysStop} (Err stop) (Err keys_stops.Read) → ⊥) → R) → R
keys_unfailed {X = X} stop not by = by (λ e. not_read stop not (same_err {X = X} stop keys_stops.Read e))
