use Rattle.std.proofs.Common.{ap, ◌∙◌, ◌++◌, ◌∷◌, [], take}
use Rattle.std.proofs.lemmas.List.{take-append-drop}
use Rattle.closing_log.specs.LogText.{text_of}
use Rattle.closing_log.proofs.writing.write_tail.Goals as goal

pub returns-clause-text : goal.returns-clause-text
returns-clause-text c = c.into_bytes.ensures ∙ (c.in_ok-write_text.ensures.feeds (c.args.from ∷ []) (c.new-out.ensures c.in_ok-with_capacity.ensures.items)).0

pub returns-clause-joined : goal.returns-clause-joined
returns-clause-joined c =
    ap (λ t. take c.args.from (text_of c.args.log.now) ++ t) (c.into_bytes.ensures ∙ (c.in_ok-write_text.ensures.feeds (c.args.from ∷ []) (c.new-out.ensures c.in_ok-with_capacity.ensures.items)).0)
    ∙ take-append-drop c.args.from (text_of c.args.log.now)
