use Rattle.tx_codec.proofs.ViewSteps.{front_len, front_viewed}
use Rattle.tx_codec.proofs.view.front_of.Goals as goal

pub overflow_sub-text : goal.overflow_sub-text
overflow_sub-text c =
    front_len c.args.cursor.now c.fork-ahead.result c.pass_text.new.cursor c.rest-text.result.now c.rest.result.now c.in_ok-segwit.segwit c.in_ok-segwit.len
    c.rest-text.ensures.bytes c.fork-ahead.ensures.same c.in_ok-segwit.ensures.gives c.rest-text.ensures.value c.rest.ensures.value

pub invariant_of-result : goal.invariant_of-result
invariant_of-result c =
    let front = front_viewed c.args.cursor.now c.fork-ahead.result c.pass_text.new.cursor c.rest-text.result.now c.rest.result.now c.split_at.result.0.now c.in_ok-segwit.segwit c.in_ok-segwit.len
    c.rest-text.ensures.bytes c.fork-ahead.ensures.same c.in_ok-segwit.ensures.gives c.rest-text.ensures.value c.rest.ensures.value c.split_at.ensures.front in
    front.viewed_is

pub returns-clause-exact : goal.returns-clause-exact
returns-clause-exact c =
    let front = front_viewed c.args.cursor.now c.fork-ahead.result c.pass_text.new.cursor c.rest-text.result.now c.rest.result.now c.split_at.result.0.now c.in_ok-segwit.segwit c.in_ok-segwit.len
    c.rest-text.ensures.bytes c.fork-ahead.ensures.same c.in_ok-segwit.ensures.gives c.rest-text.ensures.value c.rest.ensures.value c.split_at.ensures.front in
    front.exact
