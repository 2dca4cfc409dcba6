use Rattle.std.proofs.Common.{◌≡◌, ◌∙◌, List, Err, None, ap, refl, sym, arith}
use Rattle.pay_words.specs.Given.{flags_from, flags_in, next_of}
use Rattle.pay_words.proofs.FirstWord.{behind_flag, never_ended, ok_is}
use Rattle.pay_words.proofs.Rest.{ended_told, word_taken, word_refused, words_ended}
use Rattle.pay_words.specs.declared.fault.WordFault.TheVariants.{Memory}
use Rattle.pay_words.specs.declared.given.Given.{Given}
use Rattle.std.specs.Prelude.{string_bytes}
use Rattle.pay_words.proofs.given.flags_in.Goals as goal

pub loop-place-init : goal.loop-place-init
loop-place-init c = (
  ap (λ (given : List Given). flags_from (given, None) 0 c.args.words.now) c.new-given.ensures.items,
  record { first = λ start. (c.new-given.ensures.items, refl); later = λ behind. absurd (omega (arith, behind)) },
)

pub returns-in-Err-clause-gives : goal.returns-in-Err-clause-gives
unfolding flags_in
returns-in-Err-clause-gives c = λ other.
    word_refused c.loop-place.given.items c.loop-place.wanted c.args.words.now c.loop-place.place c.index-words-place.result c.in-Err.fault _ c.loop-place-test.true c.index-words-place.is ((rw c.as_str.ensures.value at c.in-Err.ensures.gives) other) c.loop-place.invariant.0

pub returns-in-Err-clause-short : goal.returns-in-Err-clause-short
returns-in-Err-clause-short c = λ short.
    let is : c.in-Err.fault ≡ Memory = cc in
    behind_flag c.args.words.now c.loop-place.place c.loop-place.given.items c.loop-place.wanted c.index-words-place.result c.loop-place-test.true c.index-words-place.is c.loop-place.invariant.1 ((rw c.as_str.ensures.value at c.in-Err.ensures.short) (ap Err is))

pub loop-place-preserved : goal.loop-place-preserved
loop-place-preserved c =
    let next = rw c.as_str.ensures.value at c.in-Ok.ensures.gives in (
      word_taken c.loop-place.given.items c.loop-place.wanted c.args.words.now c.loop-place.place c.index-words-place.result c.take_word.new.given.items c.in-Ok.next _ c.loop-place-test.true c.index-words-place.is next c.loop-place.invariant.0,
      record {
        first = λ start. absurd (omega (arith, start));
        later = λ behind.
            behind_flag c.args.words.now c.loop-place.place c.loop-place.given.items c.loop-place.wanted c.index-words-place.result c.loop-place-test.true c.index-words-place.is c.loop-place.invariant.1
            (ok_is (next_of c.loop-place.given.items c.loop-place.wanted c.loop-place.place (string_bytes c.index-words-place.result)) (c.take_word.new.given.items, c.in-Ok.next) next);
      },
    )

pub returns-clause-gives : goal.returns-clause-gives
unfolding flags_in
returns-clause-gives c =
    ended_told c.loop-place.given c.loop-place.wanted c.ended.result _ c.ended.ensures
    (sym c.loop-place.invariant.0 ∙ words_ended (c.loop-place.given.items, c.loop-place.wanted) c.args.words.now c.loop-place.place c.loop-place-test.false)

pub returns-clause-short : goal.returns-clause-short
returns-clause-short c = λ short. absurd (never_ended c.loop-place.given c.loop-place.wanted c.ended.result c.ended.ensures short)
