use Rattle.std.proofs.Common.{◌∙◌, ◌++◌, ap, List, ℕ, map}
use Rattle.command_end.specs.LinesText.{lines_text}
use Rattle.command_coins.specs.Listing.{coin_line, listing_of, payment_line, tip_line}
use Rattle.command_coins.proofs.LinesLaws.{lines_from}
use Rattle.command_coins.proofs.text.listing.Goals as goal

pub returns : goal.returns
unfolding listing_of
returns c =
    c.in_ok-put_coins.ensures
    ∙ ap (λ (l : List ℕ). l ++ lines_text (map coin_line c.args.candidates.now))
    (c.in_ok-put_payments.ensures ∙ ap (λ (l : List ℕ). l ++ lines_text (map payment_line c.args.payments.now)) c.in_ok-text.ensures)
    ∙ lines_from (tip_line c.args.tip c.args.hash.now) (map payment_line c.args.payments.now) (map coin_line c.args.candidates.now)
