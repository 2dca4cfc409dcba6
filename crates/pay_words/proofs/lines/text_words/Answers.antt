use Rattle.std.proofs.Common.{◌≡◌, ◌∙◌, ◌++◌, ◌∷◌, [], ℕ, Err, Ok, ap, sym, arith, drop, length, map, string_bytes}
use Rattle.std.specs.Str.Lines.{lines}
use Rattle.std.proofs.lemmas.Iterator.Consumers.{YieldsList-turn, YieldsList-end}
use Rattle.std.proofs.lemmas.Iterator.Splits.{YieldsList-from_lines}
use Rattle.std.proofs.lemmas.List.{length_push}
use Rattle.pay_words.specs.Lines.{with_line, words_from}
use Rattle.pay_words.specs.declared.line_fault.LineFault.TheVariants.{Memory}
use Rattle.pay_words.proofs.FirstWord.{ok_is}
use Rattle.pay_words.proofs.LineRest.{first_line, line_refused, line_taken, lines_ended}
use Rattle.pay_words.proofs.lines.text_words.Goals as goal

pub loop-line-preserved : goal.loop-line-preserved
loop-line-preserved c =
    let t = YieldsList-turn (YieldsList-from_lines c.args.text.now cc) c.loop-line.yielded _ c.loop-line.yielded_by _ _ c.in-Some.line c.in-Some.is c.next.ensures.steps in
    let n = length_push c.loop-line.yielded c.in-Some.line in
    let before = map string_bytes c.loop-line.words.items in
    let after = map string_bytes c.put_line.new.words.items in (
      ap (λ (k : ℕ). words_from after (drop k (lines c.args.text.now))) n ∙ line_taken before after (lines c.args.text.now) (length c.loop-line.yielded) c.in-Some.line.now _ t c.in-Ok.ensures.gives c.loop-line.invariant.0,
      λ later. first_line before (lines c.args.text.now) (length c.loop-line.yielded) c.in-Some.line.now t c.loop-line.invariant.1 (ok_is (with_line before c.in-Some.line.now) after c.in-Ok.ensures.gives),
    )

pub returns-in-Err-clause-gives : goal.returns-in-Err-clause-gives
returns-in-Err-clause-gives c = λ other.
    let t = YieldsList-turn (YieldsList-from_lines c.args.text.now cc) c.loop-line.yielded _ c.loop-line.yielded_by _ _ c.in-Some.line c.in-Some.is c.next.ensures.steps in
    line_refused (map string_bytes c.loop-line.words.items) (lines c.args.text.now) (length c.loop-line.yielded) c.in-Some.line.now c.in-Err.fault _ t (c.in-Err.ensures.gives other) c.loop-line.invariant.0

pub returns-in-Err-clause-short : goal.returns-in-Err-clause-short
returns-in-Err-clause-short c = λ short.
    let t = YieldsList-turn (YieldsList-from_lines c.args.text.now cc) c.loop-line.yielded _ c.loop-line.yielded_by _ _ c.in-Some.line c.in-Some.is c.next.ensures.steps in
    let is : c.in-Err.fault ≡ Memory = cc in
    first_line (map string_bytes c.loop-line.words.items) (lines c.args.text.now) (length c.loop-line.yielded) c.in-Some.line.now t c.loop-line.invariant.1 (c.in-Err.ensures.short (ap Err is))

pub returns-clause-gives : goal.returns-clause-gives
returns-clause-gives c =
    let t = YieldsList-end (YieldsList-from_lines c.args.text.now cc) c.loop-line.yielded _ c.loop-line.yielded_by _ _ c.in-None.is c.next.ensures.steps in
    sym c.loop-line.invariant.0 ∙ lines_ended (map string_bytes c.loop-line.words.items) (lines c.args.text.now) (length c.loop-line.yielded) (omega (arith, t.1))
