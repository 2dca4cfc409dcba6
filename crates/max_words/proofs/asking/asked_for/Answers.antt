use Rattle.std.proofs.Common.{◌∙◌, List, String, ap, map, string_bytes, sym}
use Rattle.std.specs.declared.alloc.Global.{Global}
use Rattle.std.proofs.lemmas.Result.{err_from_is_err_and}
use Rattle.max_words.proofs.AmountLaws.{not_asked}
use Rattle.max_words.proofs.asking.asked_for.Goals as goal

pub returns-in_err-asked-clause-refused : goal.returns-in_err-asked-clause-refused
returns-in_err-asked-clause-refused c =
    let p = err_from_is_err_and c.from_residual-in_err-asked.result c.from_residual-in_err-asked.ensures.1 in
    rw (p.1, p.2) (not_asked c.args.drawn c.args.words.now c.args.place c.as_slice.result.now c.in_err-asked.field-0.0 (sym c.has_others.ensures ∙ c.if-has_others.false) (ap (λ (l : List (String Global)). map string_bytes l) c.as_slice.ensures.value ∙ c.in_ok-said.ensures)
    c.in_err-asked.ensures.value c.in_err-asked.ensures.of_words)
