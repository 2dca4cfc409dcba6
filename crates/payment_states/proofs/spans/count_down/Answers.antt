use Rattle.std.proofs.Common.{◌≡◌, ◌∙◌, ◌⊎◌, inl, inr, ℕ, ◌+◌, ◌<◌, ◌≤◌, ◌&&◌, Bool, false, length, get_or, min, sym, ap, arith}
use Rattle.std.specs.Prelude.{nat_lt}
use Rattle.std.proofs.lemmas.Bool.{cases_lt}
use Rattle.payment_states.specs.Graph.{within}
use Rattle.payment_states.specs.Words.{flag_count, has_flag}
use Rattle.payment_states.proofs.ReachSteps.{later}
use Rattle.payment_states.proofs.SpanSteps.{flag_same, flags_told, kept_number}
use Rattle.payment_states.proofs.spans.count_down.Goals as goal

pub count_flags-requires-clause-above : goal.count_flags-requires-clause-above
count_flags-requires-clause-above c = λ j k le small. by j k le small (cases_lt (c.args.first + k) c.span_end-end.result)
  where
    by : (j k : ℕ) → c.span_end-end.result ≤ j → k < 64 → (c.args.first + k < c.span_end-end.result) ⊎ (c.span_end-end.result ≤ c.args.first + k) → has_flag (get_or c.flag_kin-low.new.words j 0) k ≡ false
    by j k le small (inl b) =
        let most = c.span_end-end.ensures.most in
        c.flag_kin-low.ensures.flags j k small b ∙ later c.args.parents.now (c.args.first + k) j c.requires.order (omega arith) (omega arith)
    by j k le small (inr b) = c.flag_kin-low.ensures.others j k small b

pub returns-clause-numbers : goal.returns-clause-numbers
returns-clause-numbers c = λ j. by j (cases_lt j c.flag_kin-low.result) (cases_lt j c.span_end-end.result)
  where
    same : (j k : ℕ) → k < 64 → has_flag (get_or c.flag_kin-low.new.words j 0) k ≡ (nat_lt (c.args.first + k) (length c.args.parents.now) && within c.args.parents.now (length c.args.parents.now) (c.args.first + k) j)
    same j = flags_told c.args.parents.now c.flag_kin-low.new.words c.args.first c.span_end-end.result j c.span_end-end.ensures.most c.span_end-end.ensures.span (λ k small b. c.flag_kin-low.ensures.flags j k small b) (λ k small b. c.flag_kin-low.ensures.others j k small b)

    by : (j : ℕ) → (j < c.flag_kin-low.result) ⊎ (c.flag_kin-low.result ≤ j) → (j < c.span_end-end.result) ⊎ (c.span_end-end.result ≤ j)
        → get_or c.count_flags.new.numbers j 0 ≡ min 4294967295 (get_or c.args.numbers.now j 0 + flag_count (λ k. nat_lt (c.args.first + k) (length c.args.parents.now) && within c.args.parents.now (length c.args.parents.now) (c.args.first + k) j) c.args.counted)
    by j (inl b) other =
        kept_number (λ k. has_flag (get_or c.flag_kin-low.new.words j 0) k) (λ k. nat_lt (c.args.first + k) (length c.args.parents.now) && within c.args.parents.now (length c.args.parents.now) (c.args.first + k) j) c.args.counted
        (get_or c.args.numbers.now j 0) (get_or c.count_flags.new.numbers j 0) (same j) (λ k small. c.flag_kin-low.ensures.below j k b small) (c.requires.few j) (c.count_flags.ensures.before j b)
    by j (inr b) (inl d) =
        c.count_flags.ensures.more j b d
        ∙ ap (λ n. min 4294967295 (get_or c.args.numbers.now j 0 + n))
        (flag_same (λ k. has_flag (get_or c.flag_kin-low.new.words j 0) k) (λ k. nat_lt (c.args.first + k) (length c.args.parents.now) && within c.args.parents.now (length c.args.parents.now) (c.args.first + k) j) c.args.counted (same j))
    by j (inr b) (inr d) =
        kept_number (λ k. has_flag (get_or c.flag_kin-low.new.words j 0) k) (λ k. nat_lt (c.args.first + k) (length c.args.parents.now) && within c.args.parents.now (length c.args.parents.now) (c.args.first + k) j) c.args.counted
        (get_or c.args.numbers.now j 0) (get_or c.count_flags.new.numbers j 0) (same j) (λ k small. count_flags-above j k d small) (c.requires.few j) (c.count_flags.ensures.behind j d)
      where
        count_flags-above : (j k : ℕ) → c.span_end-end.result ≤ j → k < 64 → has_flag (get_or c.flag_kin-low.new.words j 0) k ≡ false
        count_flags-above j k le small = at (cases_lt (c.args.first + k) c.span_end-end.result)
          where
            at : (c.args.first + k < c.span_end-end.result) ⊎ (c.span_end-end.result ≤ c.args.first + k) → has_flag (get_or c.flag_kin-low.new.words j 0) k ≡ false
            at (inl b) =
                let most = c.span_end-end.ensures.most in
                c.flag_kin-low.ensures.flags j k small b ∙ later c.args.parents.now (c.args.first + k) j c.requires.order (omega arith) (omega arith)
            at (inr b) = c.flag_kin-low.ensures.others j k small b
