use Rattle.std.proofs.Common.{◌≤◌, ◌∙◌, Some, ap, sym, subst, string_bytes}
use Rattle.serde_json.specs.Data.{Data, depth}
use Rattle.serde_json.specs.View.{view}
use Rattle.serde_json.specs.Written.{compact_text, has_float}
use Rattle.request_text.specs.RequestText.{request_at}
use Rattle.request_making.proofs.Depths.{request_depth, request_whole}
use Rattle.request_making.proofs.MadeRequests.{made_read, put_request, text_read}
use Rattle.request_making.specs.Written.{request_bytes}
use Rattle.request_making.proofs.writing.request_text.Goals as goal

pub returns-clause-read : goal.returns-clause-read
returns-clause-read c =
    let made = c.in_ok-value.ensures.made ∙ put_request c.args.payments.now c.args.coins.now c.args.settings.now in
    let P : Data → Type 0 = λ d. depth d ≤ 127 in
    let deep = subst P (sym made) (request_depth c.args.payments.now c.args.coins.now c.args.settings.now) in
    let utf8 = rw c.as_str-utf8.ensures.value at c.as_str-utf8.utf8 in
    (text_read (string_bytes c.in_ok-text.text) (view c.in_ok-value.value) utf8 (c.in_ok-text.ensures.reads_back deep)).0
    ∙ ap request_at made
    ∙ made_read c.args.payments.now c.args.coins.now c.args.settings.now c.in_ok-value.ensures.bytes c.in_ok-value.ensures.seed c.in_ok-value.ensures.txid

pub returns-clause-whole : goal.returns-clause-whole
returns-clause-whole c =
    let made = c.in_ok-value.ensures.made ∙ put_request c.args.payments.now c.args.coins.now c.args.settings.now in
    let P : Data → Type 0 = λ d. depth d ≤ 127 in
    let deep = subst P (sym made) (request_depth c.args.payments.now c.args.coins.now c.args.settings.now) in
    let utf8 = rw c.as_str-utf8.ensures.value at c.as_str-utf8.utf8 in
    (text_read (string_bytes c.in_ok-text.text) (view c.in_ok-value.value) utf8 (c.in_ok-text.ensures.reads_back deep)).1
    ∙ ap (λ (d : Data). Some d) made

pub returns-clause-bytes : goal.returns-clause-bytes
unfolding request_bytes
returns-clause-bytes c =
    let made = c.in_ok-value.ensures.made ∙ put_request c.args.payments.now c.args.coins.now c.args.settings.now in
    c.in_ok-text.ensures.text (ap has_float made ∙ request_whole c.args.payments.now c.args.coins.now c.args.settings.now)
    ∙ ap compact_text made
