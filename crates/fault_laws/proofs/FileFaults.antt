-- The words of the faults of wallet files, request files and block files tell them apart.
use Rattle.std.proofs.Common.{◌≡◌, ◌∙◌, ◌++◌, ◌∷◌, ℕ, List, [], codes, string_bytes, refl, sym, ap}
use Rattle.std.specs.Fmt.{decimal}
use Rattle.block_feed.specs.declared.fault.FeedFault.{FeedFault}
use Rattle.block_feed.specs.declared.fault.FeedFault.TheVariants as feeds
use Rattle.json_fields.specs.declared.fault.FieldFault.TheVariants as fields
use Rattle.request_text.specs.Reported.{plain_fault}
use Rattle.request_text.specs.declared.fault.Refusal.TheVariants as asked
use Rattle.request_text.specs.declared.fault.RequestFault.{RequestFault}
use Rattle.request_text.specs.declared.fault.RequestFault.TheVariants as requests
use Rattle.segwit_addr.specs.declared.fault.AddrFault.{AddrFault}
use Rattle.tx_codec.specs.declared.fault.TxFault.{TxFault}
use Rattle.wallet_text.specs.Reported.{refusal_of}
use Rattle.wallet_text.specs.declared.fault.Refusal.TheVariants as refusals
use Rattle.wallet_text.specs.declared.fault.WalletFault.{WalletFault}
use Rattle.wallet_text.specs.declared.fault.WalletFault.TheVariants as wallets
use Rattle.command_end.specs.Coin.{shown_hash}
use Rattle.command_end.specs.Name.{shown_name}
use Rattle.command_end.specs.Words.{address_fault_words, feed_fault_words, request_fault_words, tx_fault_words, wallet_fault_words}
use Rattle.fault_laws.specs.Numbers.{HasFeedNumbers, HasRequestNumbers, HasWalletNumbers}
use Rattle.fault_laws.proofs.OtherFaults.{address_apart}
use Rattle.fault_laws.proofs.ShownLaws.{bytes_apart, bytes_plain, hash_apart, hash_long, name_apart}
use Rattle.fault_laws.proofs.TxFaults.{tx_apart}
use Rattle.fault_laws.proofs.WordLaws.{after, decimal_apart, decimal_plain, differ, peel, peel_long}

-- ---- wallet files

pub wallet_apart : (a b : WalletFault) → HasWalletNumbers a → HasWalletNumbers b → wallet_fault_words a ≡ wallet_fault_words b → refusal_of a ≡ refusal_of b
unfolding wallet_fault_words
wallet_apart (wallets.Kind a) (wallets.Kind b) p q e = ap (λ (l : List ℕ). refusals.Field (fields.Kind l)) (bytes_apart a b p q (after (codes "Kind ") (shown_name a) (shown_name b) e))
wallet_apart (wallets.Member a) (wallets.Member b) p q e = ap (λ (l : List ℕ). refusals.Field (fields.Member l)) (name_apart a b (after (codes "Member ") (shown_name (string_bytes a)) (shown_name (string_bytes b)) e))
wallet_apart (wallets.Missing a) (wallets.Missing b) p q e = ap (λ (l : List ℕ). refusals.Field (fields.Missing l)) (bytes_apart a b p q (after (codes "Missing ") (shown_name a) (shown_name b) e))
wallet_apart (wallets.Script m) (wallets.Script n) p q e = ap (λ (k : ℕ). refusals.Script k) (decimal_apart m n p q (after (codes "Script ") (decimal m) (decimal n) e))
wallet_apart (wallets.Weight m) (wallets.Weight n) p q e = ap (λ (k : ℕ). refusals.Weight k) (decimal_apart m n p q (after (codes "Weight ") (decimal m) (decimal n) e))
wallet_apart (wallets.Tx a m f) (wallets.Tx b n g) p q e =
    let rest = after (codes "Tx ") (shown_name a ++ (32 ∷ (decimal m ++ (32 ∷ tx_fault_words f)))) (shown_name b ++ (32 ∷ (decimal n ++ (32 ∷ tx_fault_words g)))) e in
    let first = peel (shown_name a) (shown_name b) (decimal m ++ (32 ∷ tx_fault_words f)) (decimal n ++ (32 ∷ tx_fault_words g)) (bytes_plain a p.0) (bytes_plain b q.0) rest in
    let second = peel (decimal m) (decimal n) (tx_fault_words f) (tx_fault_words g) (decimal_plain m p.1) (decimal_plain n q.1) first.1 in
    ap (λ (l : List ℕ). refusals.Tx l m f) (bytes_apart a b p.0 q.0 first.0) ∙ ap (λ (k : ℕ). refusals.Tx b k f) (decimal_apart m n p.1 q.1 second.0) ∙ ap (λ (h : TxFault). refusals.Tx b n h) (tx_apart f g p.2 q.2 second.1)
wallet_apart (wallets.Repeat a m) (wallets.Repeat b n) p q e =
    let rest = after (codes "Repeat ") (shown_name a ++ (32 ∷ decimal m)) (shown_name b ++ (32 ∷ decimal n)) e in
    let first = peel (shown_name a) (shown_name b) (decimal m) (decimal n) (bytes_plain a p.0) (bytes_plain b q.0) rest in
    ap (λ (l : List ℕ). refusals.Repeat l m) (bytes_apart a b p.0 q.0 first.0) ∙ ap (λ (k : ℕ). refusals.Repeat b k) (decimal_apart m n p.1 q.1 first.1)
wallet_apart (wallets.ParentLater m) (wallets.ParentLater n) p q e = ap (λ (k : ℕ). refusals.ParentLater k) (decimal_apart m n p q (after (codes "ParentLater ") (decimal m) (decimal n) e))
wallet_apart wallets.NotJson wallets.NotJson p q e = refl
wallet_apart wallets.Memory wallets.Memory p q e = refl
wallet_apart a b p q e = absurd (differ (wallet_fault_words a) (wallet_fault_words b) refl e)

-- ---- request files

pub request_apart : (a b : RequestFault) → HasRequestNumbers a → HasRequestNumbers b → request_fault_words a ≡ request_fault_words b → plain_fault a ≡ plain_fault b
unfolding request_fault_words
request_apart (requests.Kind a) (requests.Kind b) p q e = ap (λ (l : List ℕ). asked.Field (fields.Kind l)) (bytes_apart a b p q (after (codes "Kind ") (shown_name a) (shown_name b) e))
request_apart (requests.Member a) (requests.Member b) p q e = ap (λ (l : List ℕ). asked.Field (fields.Member l)) (name_apart a b (after (codes "Member ") (shown_name (string_bytes a)) (shown_name (string_bytes b)) e))
request_apart (requests.Missing a) (requests.Missing b) p q e = ap (λ (l : List ℕ). asked.Field (fields.Missing l)) (bytes_apart a b p q (after (codes "Missing ") (shown_name a) (shown_name b) e))
request_apart (requests.Address m f) (requests.Address n g) p q e =
    let rest = after (codes "Address ") (decimal m ++ (32 ∷ address_fault_words f)) (decimal n ++ (32 ∷ address_fault_words g)) e in
    let first = peel (decimal m) (decimal n) (address_fault_words f) (address_fault_words g) (decimal_plain m p) (decimal_plain n q) rest in
    ap (λ (k : ℕ). asked.Address k f) (decimal_apart m n p q first.0) ∙ ap (λ (h : AddrFault). asked.Address n h) (address_apart f g first.1)
request_apart (requests.Script m) (requests.Script n) p q e = ap (λ (k : ℕ). asked.Script k) (decimal_apart m n p q (after (codes "Script ") (decimal m) (decimal n) e))
request_apart (requests.AmountRange m) (requests.AmountRange n) p q e = ap (λ (k : ℕ). asked.AmountRange k) (decimal_apart m n p q (after (codes "AmountRange ") (decimal m) (decimal n) e))
request_apart (requests.Dust m) (requests.Dust n) p q e = ap (λ (k : ℕ). asked.Dust k) (decimal_apart m n p q (after (codes "Dust ") (decimal m) (decimal n) e))
request_apart (requests.RateRange a) (requests.RateRange b) p q e = ap (λ (l : List ℕ). asked.RateRange l) (bytes_apart a b p q (after (codes "RateRange ") (shown_name a) (shown_name b) e))
request_apart (requests.Repeat m) (requests.Repeat n) p q e = ap (λ (k : ℕ). asked.Repeat k) (decimal_apart m n p q (after (codes "Repeat ") (decimal m) (decimal n) e))
request_apart requests.NotJson requests.NotJson p q e = refl
request_apart requests.SumRange requests.SumRange p q e = refl
request_apart requests.NoRecipients requests.NoRecipients p q e = refl
request_apart requests.TriesRange requests.TriesRange p q e = refl
request_apart requests.Memory requests.Memory p q e = refl
request_apart a b p q e = absurd (differ (request_fault_words a) (request_fault_words b) refl e)

-- ---- block files

pub feed_apart : (a b : FeedFault) → HasFeedNumbers a → HasFeedNumbers b → feed_fault_words a ≡ feed_fault_words b → a ≡ b
unfolding feed_fault_words
feed_apart (feeds.Magic m) (feeds.Magic n) p q e = ap (λ (k : ℕ). feeds.Magic k) (decimal_apart m n p q (after (codes "Magic ") (decimal m) (decimal n) e))
feed_apart (feeds.Length m) (feeds.Length n) p q e = ap (λ (k : ℕ). feeds.Length k) (decimal_apart m n p q (after (codes "Length ") (decimal m) (decimal n) e))
feed_apart (feeds.Tx m f) (feeds.Tx n g) p q e =
    let rest = after (codes "Tx ") (decimal m ++ (32 ∷ tx_fault_words f)) (decimal n ++ (32 ∷ tx_fault_words g)) e in
    let first = peel (decimal m) (decimal n) (tx_fault_words f) (tx_fault_words g) (decimal_plain m p.0) (decimal_plain n q.0) rest in
    ap (λ (k : ℕ). feeds.Tx k f) (decimal_apart m n p.0 q.0 first.0) ∙ ap (λ (h : TxFault). feeds.Tx n h) (tx_apart f g p.1 q.1 first.1)
feed_apart (feeds.Merkle m) (feeds.Merkle n) p q e = ap (λ (k : ℕ). feeds.Merkle k) (decimal_apart m n p q (after (codes "Merkle ") (decimal m) (decimal n) e))
feed_apart (feeds.Mutated m) (feeds.Mutated n) p q e = ap (λ (k : ℕ). feeds.Mutated k) (decimal_apart m n p q (after (codes "Mutated ") (decimal m) (decimal n) e))
feed_apart (feeds.NotLinked a b) (feeds.NotLinked c d) p q e =
    let rest = after (codes "NotLinked ") (shown_hash a ++ (32 ∷ shown_hash b)) (shown_hash c ++ (32 ∷ shown_hash d)) e in
    let first = peel_long (shown_hash a) (shown_hash c) (32 ∷ shown_hash b) (32 ∷ shown_hash d) (hash_long a p.0 ∙ sym (hash_long c q.0)) rest in
    let second = after (32 ∷ []) (shown_hash b) (shown_hash d) first.1 in
    ap (λ (h : List ℕ). feeds.NotLinked h b) (hash_apart a c p.0 q.0 first.0) ∙ ap (λ (h : List ℕ). feeds.NotLinked c h) (hash_apart b d p.1 q.1 second)
feed_apart (feeds.Trailing m) (feeds.Trailing n) p q e = ap (λ (k : ℕ). feeds.Trailing k) (decimal_apart m n p q (after (codes "Trailing ") (decimal m) (decimal n) e))
feed_apart (feeds.Empty m) (feeds.Empty n) p q e = ap (λ (k : ℕ). feeds.Empty k) (decimal_apart m n p q (after (codes "Empty ") (decimal m) (decimal n) e))
feed_apart feeds.Read feeds.Read p q e = refl
feed_apart feeds.Limit feeds.Limit p q e = refl
feed_apart feeds.Memory feeds.Memory p q e = refl
feed_apart a b p q e = absurd (differ (feed_fault_words a) (feed_fault_words b) refl e)
