-- The words of the faults of addresses, logs, PSBTs and plans tell them apart.
use Rattle.std.proofs.Common.{◌≡◌, ◌++◌, ◌⊎◌, ℕ, codes, inl, inr, refl, ap}
use Rattle.std.specs.Fmt.{decimal}
use Rattle.fund_base.specs.declared.outpoint.OutPoint.{OutPoint}
use Rattle.fund_steps.specs.declared.fault.PlanFault.{PlanFault}
use Rattle.fund_steps.specs.declared.fault.PlanFault.TheVariants as plans
use Rattle.json_fields.specs.Fields.{IsPoint}
use Rattle.log_checker.specs.declared.fault.LogFault.{LogFault}
use Rattle.log_checker.specs.declared.fault.LogFault.TheVariants as logs
use Rattle.psbt_codec.specs.declared.fault.PsbtFault.{PsbtFault}
use Rattle.psbt_codec.specs.declared.fault.PsbtFault.TheVariants as psbts
use Rattle.segwit_addr.specs.declared.fault.AddrFault.{AddrFault}
use Rattle.segwit_addr.specs.declared.fault.AddrFault.TheVariants as addresses
use Rattle.tx_codec.specs.declared.fault.TxFault.{TxFault}
use Rattle.command_end.proofs.CoinLaws.{coins_apart}
use Rattle.command_end.specs.Coin.{IsShown, coin_text}
use Rattle.command_end.specs.Words.{address_fault_words, log_fault_words, plan_fault_words, psbt_fault_words, tx_fault_words}
use Rattle.fault_laws.specs.Numbers.{HasLogNumbers, HasPlanNumbers, HasPsbtNumbers}
use Rattle.fault_laws.proofs.TxFaults.{tx_apart}
use Rattle.fault_laws.proofs.WordLaws.{after, decimal_apart, differ}

-- ---- addresses

pub address_apart : (a b : AddrFault) → address_fault_words a ≡ address_fault_words b → a ≡ b
address_apart addresses.Case addresses.Case e = refl
address_apart addresses.Separator addresses.Separator e = refl
address_apart addresses.Letter addresses.Letter e = refl
address_apart addresses.Checksum addresses.Checksum e = refl
address_apart addresses.Network addresses.Network e = refl
address_apart addresses.Version addresses.Version e = refl
address_apart addresses.Length addresses.Length e = refl
address_apart addresses.Padding addresses.Padding e = refl
address_apart addresses.Memory addresses.Memory e = refl
address_apart a b e = absurd (differ (address_fault_words a) (address_fault_words b) refl e)

-- ---- logs

pub log_apart : (a b : LogFault) → HasLogNumbers a → HasLogNumbers b → log_fault_words a ≡ log_fault_words b → a ≡ b
unfolding log_fault_words
log_apart (logs.UnknownToken m) (logs.UnknownToken n) p q e = ap (λ (k : ℕ). logs.UnknownToken k) (decimal_apart m n p q (after (codes "UnknownToken ") (decimal m) (decimal n) e))
log_apart (logs.ReasonFalse m) (logs.ReasonFalse n) p q e = ap (λ (k : ℕ). logs.ReasonFalse k) (decimal_apart m n p q (after (codes "ReasonFalse ") (decimal m) (decimal n) e))
log_apart (logs.TooLong m) (logs.TooLong n) p q e = ap (λ (k : ℕ). logs.TooLong k) (decimal_apart m n p q (after (codes "TooLong ") (decimal m) (decimal n) e))
log_apart (logs.BetterMet m) (logs.BetterMet n) p q e = ap (λ (k : ℕ). logs.BetterMet k) (decimal_apart m n p q (after (codes "BetterMet ") (decimal m) (decimal n) e))
log_apart logs.Open logs.Open p q e = refl
log_apart logs.AnswerNotMet logs.AnswerNotMet p q e = refl
log_apart logs.AnswerNotAdmissible logs.AnswerNotAdmissible p q e = refl
log_apart logs.Memory logs.Memory p q e = refl
log_apart a b p q e = absurd (differ (log_fault_words a) (log_fault_words b) refl e)

-- ---- PSBTs

pub psbt_apart : (a b : PsbtFault) → HasPsbtNumbers a → HasPsbtNumbers b → psbt_fault_words a ≡ psbt_fault_words b → a ≡ b
unfolding psbt_fault_words
psbt_apart (psbts.Truncated m) (psbts.Truncated n) p q e = ap (λ (k : ℕ). psbts.Truncated k) (decimal_apart m n p q (after (codes "Truncated ") (decimal m) (decimal n) e))
psbt_apart (psbts.LongCompact m) (psbts.LongCompact n) p q e = ap (λ (k : ℕ). psbts.LongCompact k) (decimal_apart m n p q (after (codes "LongCompact ") (decimal m) (decimal n) e))
psbt_apart (psbts.RepeatKey m) (psbts.RepeatKey n) p q e = ap (λ (k : ℕ). psbts.RepeatKey k) (decimal_apart m n p q (after (codes "RepeatKey ") (decimal m) (decimal n) e))
psbt_apart (psbts.Unsigned f) (psbts.Unsigned g) p q e = ap (λ (k : TxFault). psbts.Unsigned k) (tx_apart f g p q (after (codes "Unsigned ") (tx_fault_words f) (tx_fault_words g) e))
psbt_apart (psbts.Field m) (psbts.Field n) p q e = ap (λ (k : ℕ). psbts.Field k) (decimal_apart m n p q (after (codes "Field ") (decimal m) (decimal n) e))
psbt_apart (psbts.Version m) (psbts.Version n) p q e = ap (λ (k : ℕ). psbts.Version k) (decimal_apart m n p q (after (codes "Version ") (decimal m) (decimal n) e))
psbt_apart (psbts.Mixed m) (psbts.Mixed n) p q e = ap (λ (k : ℕ). psbts.Mixed k) (decimal_apart m n p q (after (codes "Mixed ") (decimal m) (decimal n) e))
psbt_apart (psbts.Lacking m) (psbts.Lacking n) p q e = ap (λ (k : ℕ). psbts.Lacking k) (decimal_apart m n p q (after (codes "Lacking ") (decimal m) (decimal n) e))
psbt_apart (psbts.RequiredLock m) (psbts.RequiredLock n) p q e = ap (λ (k : ℕ). psbts.RequiredLock k) (decimal_apart m n p q (after (codes "RequiredLock ") (decimal m) (decimal n) e))
psbt_apart (psbts.WrongParent m) (psbts.WrongParent n) p q e = ap (λ (k : ℕ). psbts.WrongParent k) (decimal_apart m n p q (after (codes "WrongParent ") (decimal m) (decimal n) e))
psbt_apart (psbts.Trailing m) (psbts.Trailing n) p q e = ap (λ (k : ℕ). psbts.Trailing k) (decimal_apart m n p q (after (codes "Trailing ") (decimal m) (decimal n) e))
psbt_apart psbts.Magic psbts.Magic p q e = refl
psbt_apart psbts.NoUnsigned psbts.NoUnsigned p q e = refl
psbt_apart psbts.NotBare psbts.NotBare p q e = refl
psbt_apart psbts.NotBase64 psbts.NotBase64 p q e = refl
psbt_apart psbts.Memory psbts.Memory p q e = refl
psbt_apart a b p q e = absurd (differ (psbt_fault_words a) (psbt_fault_words b) refl e)

-- ---- plans

-- a coin that keeps its rules is shown as one
pub shown : (coin : OutPoint) → IsPoint coin → IsShown coin
shown coin is = record { bytes = is.txid.bytes; long = is.txid.len; index = is.index }

abbrev IsGroups : PlanFault → Type 0
IsGroups a = (row : ℕ) × (count : ℕ) × (a ≡ plans.TooMany row count)

abbrev Apart : PlanFault → PlanFault → Type 0
Apart a b = (a ≡ b) ⊎ ((plan_fault_words a ≡ codes "limit groups") × IsGroups a × IsGroups b)

pub plan_apart : (a b : PlanFault) → HasPlanNumbers a → HasPlanNumbers b → plan_fault_words a ≡ plan_fault_words b → Apart a b
unfolding plan_fault_words
plan_apart (plans.Total m) (plans.Total n) p q e = inl (ap (λ (k : ℕ). plans.Total k) (decimal_apart m n p q (after (codes "input plan Total ") (decimal m) (decimal n) e)))
plan_apart (plans.NotEligible c) (plans.NotEligible d) p q e = inl (ap (λ (k : OutPoint). plans.NotEligible k) (coins_apart c d (shown c p) (shown d q) (after (codes "input plan NotEligible ") (coin_text c) (coin_text d) e)))
plan_apart (plans.Total m) (plans.NotEligible d) p q e = absurd (differ (codes "Total " ++ decimal m) (codes "NotEligible " ++ coin_text d) refl (after (codes "input plan ") (codes "Total " ++ decimal m) (codes "NotEligible " ++ coin_text d) e))
plan_apart (plans.NotEligible c) (plans.Total n) p q e = absurd (differ (codes "NotEligible " ++ coin_text c) (codes "Total " ++ decimal n) refl (after (codes "input plan ") (codes "NotEligible " ++ coin_text c) (codes "Total " ++ decimal n) e))
plan_apart (plans.TooMany r c) (plans.TooMany s d) p q e = inr (refl, (r, c, refl), (s, d, refl))
plan_apart plans.Memory plans.Memory p q e = inl refl
plan_apart a b p q e = absurd (differ (plan_fault_words a) (plan_fault_words b) refl e)

pub groups_shown : (row count : ℕ) → plan_fault_words (plans.TooMany row count) ≡ codes "limit groups"
unfolding plan_fault_words
groups_shown row count = refl
