-- The signed transaction, by what was found in its file.
use Rattle.std.proofs.Common.{◌≡◌, ◌∙◌, ℕ, List, Result, Ok, Err, ◌⊎◌, inl, inr, refl, sym, ap, subst}
use Rattle.std.specs.Prelude.{◌≢◌, IfErr, IfOk}
use Rattle.hex.specs.Hex.{decode_of}
use Rattle.hex.specs.declared.error.FromHexError.{FromHexError}
use Rattle.hex.specs.declared.error.FromHexError.TheVariants.{InvalidHexCharacter, InvalidStringLength, OddLength, OutOfMemory}
use Rattle.tx_codec.specs.Transaction.{Transaction}
use Rattle.command_settle.specs.Files.{NotHex, by_hex, line_of, signed_of}
use Rattle.command_settle.specs.Stops.{StopsAs}
use Rattle.command_settle.specs.declared.stop.Refusal.TheVariants as refusals
use Rattle.command_settle.specs.declared.stop.Stop.{Stop}
use Rattle.command_settle.specs.declared.stop.Stop.TheVariants as stops

module _ (file : List ℕ) where
  Refuses : Stop → Type 0
  Refuses stop = StopsAs (λ cause. signed_of file ≡ Err cause) stop

  signed_by : (bytes : List ℕ) → decode_of (line_of file) ≡ Ok bytes → signed_of file ≡ by_hex (Ok bytes)
  unfolding signed_of
  signed_by bytes e = ap by_hex e

  unhexed : (error : FromHexError) → decode_of (line_of file) ≡ Err error → signed_of file ≡ Err NotHex
  unfolding signed_of
  unhexed error e = ap by_hex e

  module _ (bytes : List ℕ) (decoded : decode_of (line_of file) ≡ Ok bytes) where
    pub if_signed : (result : Result Transaction Stop) → IfOk result (λ t. by_hex (Ok bytes) ≡ Ok t) → IfOk result (λ t. signed_of file ≡ Ok t)
    if_signed (Ok t) h = signed_by bytes decoded ∙ h
    if_signed (Err stop) h = tt

    tx_refuses : (stop : Stop) → StopsAs (λ cause. by_hex (Ok bytes) ≡ Err cause) stop → StopsAs (λ cause. signed_of file ≡ Err cause) stop
    tx_refuses (stops.Read other) h = absurd h
    tx_refuses (stops.Refused refusal) h = signed_by bytes decoded ∙ h
    tx_refuses stops.Memory h = tt

    pub if_tx_refuses : (result : Result Transaction Stop) → IfErr result (StopsAs (λ cause. by_hex (Ok bytes) ≡ Err cause)) → IfErr result (StopsAs (λ cause. signed_of file ≡ Err cause))
    if_tx_refuses (Ok t) h = tt
    if_tx_refuses (Err stop) h = tx_refuses stop h

  module _ (stop : Stop) where
    short : stop ≡ stops.Memory → Refuses stop
    unfolding Refuses
    short e = subst Refuses (sym e) tt

    other : (error : FromHexError) → stop ≡ stops.Refused refusals.NotHex → decode_of (line_of file) ≡ Err error → Refuses stop
    unfolding Refuses
    other error e d = subst Refuses (sym e) (unhexed error d)

    pub hex_refuses : (error : FromHexError) → (error ≡ OutOfMemory → stop ≡ stops.Memory) → (error ≢ OutOfMemory → stop ≡ stops.Refused refusals.NotHex) → (error ≡ OutOfMemory) ⊎ (decode_of (line_of file) ≡ Err error)
        → StopsAs (λ cause. signed_of file ≡ Err cause) stop
    unfolding Refuses
    hex_refuses error memory not (inl e) = short (memory e)
    hex_refuses (InvalidHexCharacter digit i) memory not (inr d) = other (InvalidHexCharacter digit i) (not (λ e. cc)) d
    hex_refuses OddLength memory not (inr d) = other OddLength (not (λ e. cc)) d
    hex_refuses InvalidStringLength memory not (inr d) = other InvalidStringLength (not (λ e. cc)) d
    hex_refuses OutOfMemory memory not (inr d) = short (memory refl)
