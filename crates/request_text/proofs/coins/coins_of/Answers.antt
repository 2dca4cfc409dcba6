use Rattle.std.proofs.Common.{◌≡◌, ◌∙◌, length, sym}
use Rattle.request_text.proofs.Stored.{coins_stored}
use Rattle.request_text.proofs.coins.coins_of.Goals as goal

pub returns-in_err-seen-clause-short : goal.returns-in_err-seen-clause-short
returns-in_err-seen-clause-short c m =
    let e : c.len.result ≡ length c.in_ok-coins.coins.items = c.len.ensures ∙ c.in_ok-coins.coins.ok.0 in
    rw (sym c.in-Some.ensures) (coins_stored _ c.in_ok-coins.coins.items c.in_ok-coins.ensures.gives (λ z. cc (c.in_err-seen.ensures.succeeds (e ∙ z))))
