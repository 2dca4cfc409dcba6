-- Earlier transactions alone: of the rules over whole lists only that of their txids may be broken.
use Rattle.std.proofs.Common.{◌≡◌, ◌≢◌, ℕ, List, [], ◌∷◌, length, ◌⊎◌, inl, inr, Err, ap, arith, length-append}
use Rattle.std.specs.Prelude.{codes}
use Rattle.json_fields.specs.declared.fault.FieldFault.TheVariants.{Memory as NoMemory}
use Rattle.tx_codec.specs.Transaction.{Transaction}
use Rattle.wallet_text.specs.Repeats.{IsEarlierRepeat, IsRepeat}
use Rattle.wallet_text.specs.Reported.{refusal_of}
use Rattle.json_fields.specs.Repeats.{IsFirstRepeat}
use Rattle.wallet_text.specs.WalletRules.{AreDistinctEarlier, IsFirstLater}
use Rattle.wallet_text.specs.WalletText.{earlier_txids, lists_at, told_index}
use Rattle.wallet_text.specs.declared.fault.Refusal.{Refusal}
use Rattle.wallet_text.specs.declared.fault.Refusal.TheVariants.{Field, ParentLater, Repeat}
use Rattle.wallet_text.specs.declared.fault.WalletFault.{WalletFault}
use Rattle.wallet_text.specs.declared.fault.WalletFault.TheVariants as told
use Rattle.wallet_text.specs.PlainWallet.{Earlier}
use Rattle.wallet_text.proofs.ListLaws.{other}
use Rattle.wallet_text.proofs.WalletLaws.{later, repeated}

none_later : (place : ℕ) → IsFirstLater [] place → ⊥
none_later place h = absurd (omega (arith, ap (λ (ts : List Transaction). length ts) h.parts, length-append h.front (h.tx ∷ h.back)))

none_twice : (place : ℕ) → IsFirstRepeat {X = List ℕ} [] place → ⊥
none_twice place h = absurd (omega (arith, ap (λ (ts : List (List ℕ)). length ts) h.parts, length-append h.front (h.again ∷ h.back)))

-- none but these two is a fault of whole lists
refuted : (earlier : List Earlier) (fault : Refusal) → ((list : List ℕ) (told : ℕ) → fault ≢ Repeat list told) → ((told : ℕ) → fault ≢ ParentLater told) → lists_at earlier [] ≡ Err fault → ⊥
refuted earlier fault a b e = by (other earlier [] fault e)
  where
    by : ((list : List ℕ) × (told : ℕ) × (fault ≡ Repeat list told)) ⊎ ((told : ℕ) × (fault ≡ ParentLater told)) → ⊥
    by (inl r) = a r.0 r.1 r.2
    by (inr r) = b r.0 r.1

pub is_repeat : (earlier : List Earlier) (fault : WalletFault) → (refusal_of fault ≢ Field NoMemory → lists_at earlier [] ≡ Err (refusal_of fault)) → IsRepeat earlier fault
is_repeat earlier told.Memory h = tt
is_repeat earlier (told.Repeat list index) h = by (repeated earlier [] list index (h (λ e. cc e)))
  where
    by : (place : ℕ) × (index ≡ told_index place) × (((list ≡ codes "earlier") × IsFirstRepeat (earlier_txids earlier) place) ⊎ ((list ≡ codes "pending") × AreDistinctEarlier earlier × IsFirstRepeat {X = List ℕ} [] place)) → IsEarlierRepeat earlier list index
    by (place, is, inl r) = record { name = r.0; place = place; place_is = is; first = r.1 }
    by (place, is, inr r) = absurd (none_twice place r.2)
is_repeat earlier (told.ParentLater index) h = let r = later earlier [] index (h (λ e. cc e)) in absurd (none_later r.0 r.4)
is_repeat earlier told.NotJson h = refuted earlier _ (λ l t e. cc e) (λ t e. cc e) (h (λ e. cc e))
is_repeat earlier (told.Kind name) h = refuted earlier _ (λ l t e. cc e) (λ t e. cc e) (h (λ e. cc e))
is_repeat earlier (told.Member name) h = refuted earlier _ (λ l t e. cc e) (λ t e. cc e) (h (λ e. cc e))
is_repeat earlier (told.Missing name) h = refuted earlier _ (λ l t e. cc e) (λ t e. cc e) (h (λ e. cc e))
is_repeat earlier (told.Script index) h = refuted earlier _ (λ l t e. cc e) (λ t e. cc e) (h (λ e. cc e))
is_repeat earlier (told.Weight index) h = refuted earlier _ (λ l t e. cc e) (λ t e. cc e) (h (λ e. cc e))
is_repeat earlier (told.Tx list index fault) h = refuted earlier _ (λ l t e. cc e) (λ t e. cc e) (h (λ e. cc e))
