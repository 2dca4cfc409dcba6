-- Which files were asked for.
use Rattle.std.proofs.Common.{ℕ, List, [], ◌∷◌, arith}
use Rattle.request_text.specs.PlainRequest.{PlainRequest}
use Rattle.wallet_text.specs.PlainWallet.{PlainWallet}
use Rattle.fund_files.specs.Contents.{HasRequest, HasWallet}
use Rattle.fund_shelf.specs.Causes.{Asks, ShelfView}
use Rattle.fund_shelf.proofs.Asking.{asks_first, asks_then}
use Rattle.command_settle.proofs.FilesLaws.{wallet_apart}
use Rattle.command_settle.specs.Asked.{AsksFiles}
use Rattle.command_settle.specs.Files.{FitsReport, IsLongReport}
use Rattle.command_settle.specs.Names.{Names}

not_both : (file : List ℕ) → FitsReport file → IsLongReport file → ⊥
not_both file fits long = omega (arith, fits, long)

module _ (n : Names) (old : ShelfView) where
  -- the wallet alone
  pub asks_wallet : (new : ShelfView) → Asks (n.wallet ∷ []) old.asked new.asked → AsksFiles n old new
  asks_wallet new a = record {
    asked = asks_first (n.wallet ∷ []) (n.request ∷ n.report ∷ n.tx ∷ []) old.asked new.asked a;
    wallet_alone = λ c h. a;
    inputs_alone = λ none. asks_first (n.wallet ∷ []) (n.request ∷ []) old.asked new.asked a;
    report_last = λ long. asks_first (n.wallet ∷ []) (n.request ∷ n.report ∷ []) old.asked new.asked a;
  }

  module _ (w : PlainWallet) (held : HasWallet (old.files n.wallet) w) (first : ShelfView) (a : Asks (n.wallet ∷ []) old.asked first.asked) where
    both : (new : ShelfView) → Asks (n.request ∷ []) first.asked new.asked → Asks (n.wallet ∷ n.request ∷ []) old.asked new.asked
    both new b = asks_then (n.wallet ∷ []) (n.request ∷ []) old.asked first.asked new.asked a b

    -- and the request
    pub asks_request : (new : ShelfView) → Asks (n.request ∷ []) first.asked new.asked → AsksFiles n old new
    asks_request new b = record {
      asked = asks_first (n.wallet ∷ n.request ∷ []) (n.report ∷ n.tx ∷ []) old.asked new.asked (both new b);
      wallet_alone = λ c h. absurd (wallet_apart old.files n w held c h);
      inputs_alone = λ none. both new b;
      report_last = λ long. asks_first (n.wallet ∷ n.request ∷ []) (n.report ∷ []) old.asked new.asked (both new b);
    }

    module _ (r : PlainRequest) (asked : HasRequest (old.files n.request) r) (second : ShelfView) (b : Asks (n.request ∷ []) first.asked second.asked) where
      three : (new : ShelfView) → Asks (n.report ∷ []) second.asked new.asked → Asks (n.wallet ∷ n.request ∷ n.report ∷ []) old.asked new.asked
      three new c = asks_then (n.wallet ∷ n.request ∷ []) (n.report ∷ []) old.asked second.asked new.asked (both second b) c

      -- and the report
      pub asks_report : (new : ShelfView) → Asks (n.report ∷ []) second.asked new.asked → AsksFiles n old new
      asks_report new c = record {
        asked = asks_first (n.wallet ∷ n.request ∷ n.report ∷ []) (n.tx ∷ []) old.asked new.asked (three new c);
        wallet_alone = λ x h. absurd (wallet_apart old.files n w held x h);
        inputs_alone = λ none. absurd (none ((w, held), (r, asked)));
        report_last = λ long. three new c;
      }

      -- and the transaction
      pub asks_tx : (third new : ShelfView) → FitsReport (old.files n.report) → Asks (n.report ∷ []) second.asked third.asked → Asks (n.tx ∷ []) third.asked new.asked → AsksFiles n old new
      asks_tx third new fits c d = record {
        asked = asks_then (n.wallet ∷ n.request ∷ n.report ∷ []) (n.tx ∷ []) old.asked third.asked new.asked (three third c) d;
        wallet_alone = λ x h. absurd (wallet_apart old.files n w held x h);
        inputs_alone = λ none. absurd (none ((w, held), (r, asked)));
        report_last = λ long. absurd (not_both (old.files n.report) fits long);
      }
