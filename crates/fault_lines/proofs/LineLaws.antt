-- The line of each fault has the fault's sentence.
use Rattle.std.proofs.Common.{◌≡◌, ◌∙◌, ℕ, List, [], ◌∷◌, ◌++◌, Some, None, Option, codes, refl, ap, string_bytes, append_assoc}
use Rattle.std.specs.Fmt.{decimal}
use Rattle.tx_codec.specs.declared.fault.TxFault.{TxFault}
use Rattle.tx_codec.specs.declared.fault.TxFault.TheVariants as txs
use Rattle.block_feed.specs.declared.fault.FeedFault.{FeedFault}
use Rattle.block_feed.specs.declared.fault.FeedFault.TheVariants as feeds
use Rattle.segwit_addr.specs.declared.fault.AddrFault.{AddrFault}
use Rattle.segwit_addr.specs.declared.fault.AddrFault.TheVariants as addresses
use Rattle.wallet_text.specs.declared.fault.WalletFault.{WalletFault}
use Rattle.wallet_text.specs.declared.fault.WalletFault.TheVariants as wallets
use Rattle.request_text.specs.declared.fault.RequestFault.{RequestFault}
use Rattle.request_text.specs.declared.fault.RequestFault.TheVariants as requests
use Rattle.fund_steps.specs.declared.fault.PlanFault.{PlanFault}
use Rattle.fund_steps.specs.declared.fault.PlanFault.TheVariants as plans
use Rattle.payment_states.specs.declared.state.State.{State}
use Rattle.payment_states.specs.declared.state.State.TheVariants as states
use Rattle.fee_bump.specs.declared.fault.BumpFault.{BumpFault}
use Rattle.fee_bump.specs.declared.fault.BumpFault.TheVariants as bumps
use Rattle.psbt_codec.specs.declared.fault.PsbtFault.{PsbtFault}
use Rattle.psbt_codec.specs.declared.fault.PsbtFault.TheVariants as psbts
use Rattle.command_end.specs.Name.{shown_name}
use Rattle.command_end.specs.Words.{address_fault_words, bump_fault_words, feed_fault_words, plan_fault_words, found_words, psbt_fault_words, request_fault_words, state_words, tx_fault_words, wallet_fault_words}
use Rattle.fault_laws.proofs.ShownLaws.{bytes_plain}
use Rattle.fund_base.specs.Cursor.{IsBytes}
use Rattle.fault_laws.proofs.WordLaws.{decimal_plain, name_bytes}
use Rattle.fault_laws.specs.Numbers.{HasRequestNumbers, HasWalletNumbers}
use Rattle.fault_lines.specs.Sentences.{address_sentence, blocks_sentence, bump_sentence, not_pending_sentence, plan_sentence, psbt_sentence, request_kind_sentence, request_member_sentence, request_sentence, signed_sentence, state_sentence, tx_sentence, wallet_kind_sentence, wallet_sentence}
use Rattle.fault_lines.specs.Lines.{address_line, blocks_line, bump_line, input_line, limit_line, plan_line, psbt_line, psbt_rest, request_line, request_rest, signed_line, state_line, tx_line, wallet_line, words_sentence}
use Rattle.fault_lines.specs.Word.{after_word, word}
use Rattle.fault_lines.proofs.KindLaws.{request_kind_shown, request_member_shown, wallet_kind_shown}
use Rattle.fault_lines.proofs.WordLaws.{after_word_is, shown_printable, word_is}

-- the end of a line
abbrev pub ended : List ℕ → List ℕ
ended words = words ++ (10 ∷ [])

pub tx_told : (f : TxFault) → tx_line (ended (tx_fault_words f)) ≡ Some (tx_sentence f)
unfolding tx_line tx_fault_words tx_sentence
tx_told (txs.Truncated place) = refl
tx_told (txs.LongCompact place) = refl
tx_told (txs.ValueRange output) = refl
tx_told txs.NoInputs = refl
tx_told txs.NoOutputs = refl
tx_told txs.BadFlag = refl
tx_told txs.EmptyWitness = refl
tx_told (txs.Trailing place) = refl
tx_told txs.Memory = refl

pub signed_told : (f : TxFault) → signed_line (ended (tx_fault_words f)) ≡ Some (signed_sentence f)
unfolding signed_line tx_fault_words signed_sentence
signed_told (txs.Truncated place) = refl
signed_told (txs.LongCompact place) = refl
signed_told (txs.ValueRange output) = refl
signed_told txs.NoInputs = refl
signed_told txs.NoOutputs = refl
signed_told txs.BadFlag = refl
signed_told txs.EmptyWitness = refl
signed_told (txs.Trailing place) = refl
signed_told txs.Memory = refl

pub address_told : (f : AddrFault) → address_line (ended (address_fault_words f)) ≡ Some (address_sentence f)
unfolding address_line address_sentence
address_told addresses.Case = refl
address_told addresses.Separator = refl
address_told addresses.Letter = refl
address_told addresses.Checksum = refl
address_told addresses.Network = refl
address_told addresses.Version = refl
address_told addresses.Length = refl
address_told addresses.Padding = refl
address_told addresses.Memory = refl

-- the first word of a shown name that ends its line
name_word : (name : List ℕ) → IsBytes name → word (ended (shown_name name)) ≡ shown_name name
name_word name is = word_is (shown_name name) [] 10 (shown_printable name is) refl

pub wallet_told : (f : WalletFault) → HasWalletNumbers f → wallet_line (ended (wallet_fault_words f)) ≡ Some (wallet_sentence f)
unfolding wallet_line wallet_fault_words wallet_sentence
wallet_told wallets.NotJson p = refl
wallet_told (wallets.Kind name) p = ap (λ (w : List ℕ). Some (wallet_kind_sentence w)) (name_word name p) ∙ ap (λ (s : List ℕ). Some s) (wallet_kind_shown name p)
wallet_told (wallets.Member name) p = refl
wallet_told (wallets.Missing name) p = refl
wallet_told (wallets.Script index) p = refl
wallet_told (wallets.Weight index) p = refl
wallet_told (wallets.Tx list index fault) p =
    let words = tx_fault_words fault in
    let first = append_assoc (shown_name list) (32 ∷ (decimal index ++ (32 ∷ words))) (10 ∷ []) in
    let second = append_assoc (decimal index) (32 ∷ words) (10 ∷ []) in
    ap (λ (l : List ℕ). tx_line (after_word (after_word l))) first
    ∙ ap (λ (l : List ℕ). tx_line (after_word l)) (after_word_is (shown_name list) ((decimal index ++ (32 ∷ words)) ++ (10 ∷ [])) (bytes_plain list p.0))
    ∙ ap (λ (l : List ℕ). tx_line (after_word l)) second
    ∙ ap tx_line (after_word_is (decimal index) (ended words) (decimal_plain index p.1))
    ∙ tx_told fault
wallet_told (wallets.Repeat list index) p = refl
wallet_told (wallets.ParentLater index) p = refl
wallet_told wallets.Memory p = refl

pub request_told : (f : RequestFault) → HasRequestNumbers f → request_line (ended (request_fault_words f)) ≡ Some (request_sentence f)
unfolding request_line request_rest request_fault_words request_sentence
request_told requests.NotJson p = refl
request_told (requests.Kind name) p = ap (λ (w : List ℕ). Some (request_kind_sentence w)) (name_word name p) ∙ ap (λ (s : List ℕ). Some s) (request_kind_shown name p)
request_told (requests.Member name) p =
    ap (λ (w : List ℕ). Some (request_member_sentence w)) (name_word (string_bytes name) (name_bytes name)) ∙ ap (λ (s : List ℕ). Some s) (request_member_shown (string_bytes name) (name_bytes name))
request_told (requests.Missing name) p = refl
request_told (requests.Address index fault) p =
    let words = address_fault_words fault in
    ap (λ (l : List ℕ). address_line (after_word l)) (append_assoc (decimal index) (32 ∷ words) (10 ∷ []))
    ∙ ap address_line (after_word_is (decimal index) (ended words) (decimal_plain index p))
    ∙ address_told fault
request_told (requests.Script index) p = refl
request_told (requests.AmountRange index) p = refl
request_told (requests.Dust index) p = refl
request_told requests.SumRange p = refl
request_told requests.NoRecipients p = refl
request_told (requests.RateRange name) p = refl
request_told requests.TriesRange p = refl
request_told (requests.Repeat index) p = refl
request_told requests.Memory p = refl

pub blocks_told : (f : FeedFault) → blocks_line (ended (feed_fault_words f)) ≡ Some (blocks_sentence f)
unfolding blocks_line feed_fault_words blocks_sentence
blocks_told (feeds.Magic place) = refl
blocks_told (feeds.Length place) = refl
blocks_told (feeds.Tx height fault) = refl
blocks_told (feeds.Merkle height) = refl
blocks_told (feeds.Mutated height) = refl
blocks_told (feeds.NotLinked kept found) = refl
blocks_told (feeds.Trailing height) = refl
blocks_told (feeds.Empty height) = refl
blocks_told feeds.Read = refl
blocks_told feeds.Limit = refl
blocks_told feeds.Memory = refl

pub psbt_told : (f : PsbtFault) → psbt_line (ended (psbt_fault_words f)) ≡ Some (psbt_sentence f)
unfolding psbt_line psbt_rest psbt_fault_words psbt_sentence
psbt_told psbts.Magic = refl
psbt_told (psbts.Truncated place) = refl
psbt_told (psbts.LongCompact place) = refl
psbt_told (psbts.RepeatKey place) = refl
psbt_told psbts.NoUnsigned = refl
psbt_told (psbts.Unsigned fault) = refl
psbt_told psbts.NotBare = refl
psbt_told (psbts.Field place) = refl
psbt_told (psbts.Version version) = refl
psbt_told (psbts.Mixed place) = refl
psbt_told (psbts.Lacking kind) = refl
psbt_told (psbts.RequiredLock input) = refl
psbt_told (psbts.WrongParent input) = refl
psbt_told (psbts.Trailing place) = refl
psbt_told psbts.NotBase64 = refl
psbt_told psbts.Memory = refl

pub plan_told : (f : PlanFault) → words_sentence (ended (plan_fault_words f)) ≡ Some (plan_sentence f)
unfolding words_sentence input_line limit_line plan_line plan_fault_words plan_sentence
plan_told (plans.Total sum) = refl
plan_told (plans.NotEligible coin) = refl
plan_told (plans.TooMany number n) = refl
plan_told plans.Memory = refl

-- by the state of the payment
found_told : (found : Option State) → state_line (ended (found_words found)) ≡ Some (not_pending_sentence found)
unfolding state_line found_words state_words not_pending_sentence state_sentence
found_told None = refl
found_told (Some (states.Confirmed height)) = refl
found_told (Some (states.Conflicted txid)) = refl
found_told (Some states.Abandoned) = refl
found_told (Some (states.Replaced txid)) = refl
found_told (Some states.Pending) = refl

pub bump_told : (f : BumpFault) → words_sentence (ended (bump_fault_words f)) ≡ Some (bump_sentence f)
unfolding words_sentence input_line bump_line bump_fault_words bump_sentence
bump_told (bumps.NotPending found) = found_told found
bump_told bumps.NotSignalling = refl
bump_told (bumps.ForeignInput coin) = refl
bump_told (bumps.TooManyEvicted n) = refl
bump_told bumps.RateBelowIncrement = refl
bump_told (bumps.RateNotHigher fee vsize) = refl
bump_told bumps.Memory = refl
