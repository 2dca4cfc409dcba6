use Rattle.std.proofs.Common.{◌∙◌, Some, refl, ap}
use Rattle.coin_book.specs.History.{start_of}
use Rattle.wallet_text.specs.PlainWallet.{PlainWallet}
use Rattle.fund_files.specs.declared.booking.Booked.TheVariants.{Part, Broken}
use Rattle.fund_files.proofs.AloneLaws.{booked_alone, held_alone, value_alone}
use Rattle.fund_files.proofs.WatchedLaws.{each_watched}
use Rattle.fund_files.proofs.alone.chain_of_wallet.Goals as goal

pub add_waiting-requires-clause-begun : goal.add_waiting-requires-clause-begun
add_waiting-requires-clause-begun c = (start_of c.args.wallet, refl, c.in-Ok.ensures.booked)

pub add_waiting-requires-clause-watched : goal.add_waiting-requires-clause-watched
add_waiting-requires-clause-watched c = record {
  kept = Some c.everything-watched.result;
  keeps = c.in-Ok.ensures.keeps;
  each = each_watched c.everything-watched.result c.deref.result.now c.everything-watched.ensures;
}

pub unreachable-requires : goal.unreachable-requires
unreachable-requires c = rw c.in-Ok-Whole.field-0-is at (c.in-Ok-Whole.ensures.keeps (Some c.everything-watched.result) c.in-Ok.ensures.keeps)

pub settled-book-requires : goal.settled-book-requires
settled-book-requires c = (rw c.in-Ok-Part.field-0-is at (c.in-Ok-Part.ensures.keeps (Some c.everything-watched.result) c.in-Ok.ensures.keeps)) ∙ c.everything-watched.ensures

pub returns-in-Ok-Part-clause-value : goal.returns-in-Ok-Part-clause-value
returns-in-Ok-Part-clause-value c =
    let b = rw c.in-Ok-Part.field-0-is at (c.in-Ok-Part.ensures.booked (start_of c.args.wallet) refl c.in-Ok.ensures.booked) in
    let h = booked_alone (Part c.in-Ok-Part.book) c.args.wallet c.deref.result.now (c.deref.ensures.value ∙ ap (λ (x : PlainWallet). x.pending) c.wallet.view_is) b in
    value_alone c.args.wallet c.settled-book.result _ _ (c.settled-book.ensures ∙ h.0) (ap (λ (x : PlainWallet). x.height) c.wallet.view_is) (ap (λ (x : PlainWallet). x.hash) c.wallet.view_is)

pub returns-in-Ok-Part-clause-held : goal.returns-in-Ok-Part-clause-held
returns-in-Ok-Part-clause-held c =
    let b = rw c.in-Ok-Part.field-0-is at (c.in-Ok-Part.ensures.booked (start_of c.args.wallet) refl c.in-Ok.ensures.booked) in
    let h = booked_alone (Part c.in-Ok-Part.book) c.args.wallet c.deref.result.now (c.deref.ensures.value ∙ ap (λ (x : PlainWallet). x.pending) c.wallet.view_is) b in
    held_alone c.args.wallet _ c.requires (value_alone c.args.wallet c.settled-book.result _ _ (c.settled-book.ensures ∙ h.0) (ap (λ (x : PlainWallet). x.height) c.wallet.view_is) (ap (λ (x : PlainWallet). x.hash) c.wallet.view_is))

pub returns-in-Ok-Part-clause-sound : goal.returns-in-Ok-Part-clause-sound
returns-in-Ok-Part-clause-sound c =
    let b = rw c.in-Ok-Part.field-0-is at (c.in-Ok-Part.ensures.booked (start_of c.args.wallet) refl c.in-Ok.ensures.booked) in
    let h = booked_alone (Part c.in-Ok-Part.book) c.args.wallet c.deref.result.now (c.deref.ensures.value ∙ ap (λ (x : PlainWallet). x.pending) c.wallet.view_is) b in
    h.1

pub returns-in-Ok-Broken-clause-stop : goal.returns-in-Ok-Broken-clause-stop
returns-in-Ok-Broken-clause-stop c =
    let b = rw c.in-Ok-Broken.field-0-is at (c.in-Ok-Broken.ensures.booked (start_of c.args.wallet) refl c.in-Ok.ensures.booked) in
    let h = booked_alone (Broken c.in-Ok-Broken.fault) c.args.wallet c.deref.result.now (c.deref.ensures.value ∙ ap (λ (x : PlainWallet). x.pending) c.wallet.view_is) b in
    (c.in-Ok-Broken.fault, h, c.book_refusal.ensures.cause)
