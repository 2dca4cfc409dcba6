-- A report's text is read exactly.
use Rattle.std.proofs.Common.{◌≡◌, ℕ, List, [], ◌∷◌, ◌++◌, Ok, Err, inl, inr, refl, sym, ap, subst, ◌∙◌, append_assoc, arith}
use Rattle.std.specs.Prelude.{codes}
use Rattle.std.specs.Fmt.{decimal}
use Rattle.std.proofs.lemmas.List.{append-nil}
use Rattle.closing_log.specs.declared.log.Stage.{Stage}
use Rattle.closing_log.specs.Exact.{NoneGoesOn, StopsAt}
use Rattle.closing_log.specs.LogText.{stage_word}
use Rattle.closing_log.proofs.Exactness.{Law, Then, law_as, then_law}
use Rattle.fund_report.specs.declared.report.Report.{Report}
use Rattle.fund_report.specs.declared.report.Report.TheVariants.{Funded, NoSelection, Unfinished}
use Rattle.fund_report.specs.PlainFunded.{PlainFunded}
use Rattle.fund_report.specs.Reading.{end_of, funded_of, lines_at, report_at}
use Rattle.fund_report.specs.ReportText.{IsFundedText, IsReportText, funded_text, line, paid_text}
use Rattle.fund_report.proofs.CoinLaws.{led_some}
use Rattle.fund_report.proofs.FundedLaws.{AreLines, IsFundedLines, IsLines, IsNoneLines, IsTries, IsUnfinishedLines, Lines, figure_words, lined, lines_piece, named, start_words}

-- ---- a payment

funded_given : (bytes : List ℕ) (v : Lines) → AreLines bytes v → IsFundedText bytes (funded_of v)
unfolding funded_text
funded_given bytes v a =
    let b = a.second in
    let c = b.second in
    let coins = b.first.means.coins in
    let figures : List ℕ = figure_words v.1.1.0 in
    let paid : List ℕ = paid_text (funded_of v) in
    let rest : b.back ≡ figures ++ paid = lined b.back c.front c.back figures paid c.parts c.first.is c.second.is in
    let more : a.back ≡ coins.ins ++ (codes "weight " ++ (figures ++ paid)) =
    lined a.back b.front b.back (coins.ins ++ codes "weight ") (figures ++ paid) b.parts (b.first.parts ∙ coins.is) rest ∙ append_assoc coins.ins (codes "weight ") (figures ++ paid) in
    record {
      coins = coins.ins;
      lines = lined bytes a.front a.back (start_words v.0) (coins.ins ++ (codes "weight " ++ (figures ++ paid))) a.parts a.first.is more;
      ins = coins.are;
      can = record { stage = a.first.stage; coins = omega (arith, b.first.means.some); text = c.second.text_is };
      figures = record {
        row = a.first.row;
        tries = a.first.tries;
        weight = c.first.weight;
        vsize = c.first.vsize;
        fee = c.first.fee;
        waste = c.first.waste;
        change = c.second.change;
      };
    }

funded_to : (bytes : List ℕ) (r : Report) → IsFundedLines bytes r → IsReportText bytes r
funded_to bytes r m = subst (IsReportText bytes) (sym m.is) (funded_given bytes m.value m.means)

-- the parts of a payment
abbrev parts_of : PlainFunded → Lines
parts_of f = (record { mark = f.mark; row = f.row; stage = f.stage; tries = f.tries }, (f.coins, (record { weight = f.weight; vsize = f.vsize; fee = f.fee; waste = f.waste }, (f.change, f.text))))

funded_from : (bytes : List ℕ) (f : PlainFunded) → IsFundedText bytes f → IsFundedLines bytes (Funded f)
unfolding funded_text
funded_from bytes f i =
    let v : Lines = parts_of f in
    let figures : List ℕ = figure_words v.1.1.0 in
    let paid : List ℕ = paid_text f in
    let l = led_some f.coins i.coins i.can.coins i.ins in
    let coins : codes "in " ++ (l.back ++ codes "weight ") ≡ i.coins ++ codes "weight " = sym (append_assoc (codes "in ") l.back (codes "weight ")) ∙ ap (λ t. t ++ codes "weight ") (sym l.is) in
    let more : i.coins ++ (codes "weight " ++ (figures ++ paid)) ≡ (codes "in " ++ (l.back ++ codes "weight ")) ++ (figures ++ paid) =
    sym (append_assoc i.coins (codes "weight ") (figures ++ paid)) ∙ ap (λ t. t ++ (figures ++ paid)) (sym coins) in
    record {
      value = v;
      is = refl;
      means = record {
        front = start_words v.0;
        back = i.coins ++ (codes "weight " ++ (figures ++ paid));
        parts = i.lines;
        first = record { is = refl; row = i.figures.row; stage = i.can.stage; tries = i.figures.tries };
        second = record {
          front = codes "in " ++ (l.back ++ codes "weight ");
          back = figures ++ paid;
          parts = more;
          first = record {
            back = l.back ++ codes "weight ";
            parts = refl;
            means = record { some = omega (arith, i.can.coins); coins = record { ins = i.coins; is = coins; are = i.ins } };
          };
          second = record {
            front = figures;
            back = paid;
            parts = refl;
            first = record { is = refl; weight = i.figures.weight; vsize = i.figures.vsize; fee = i.figures.fee; waste = i.figures.waste };
            second = record { is = refl; change = i.figures.change; text_is = i.can.text };
          };
        };
      };
    }

-- ---- reports without a payment

tries_text : (text : List ℕ) (n : ℕ) → (t : IsTries text n) → text ≡ line (codes "tries ") (decimal n)
tries_text text n t = named (codes "tries ") text t.back (decimal n) t.parts t.means.is

none_to : (bytes : List ℕ) (r : Report) → IsNoneLines bytes r → IsReportText bytes r
none_to bytes r m =
    let b = m.means in
    subst (IsReportText bytes) (sym m.is) (b.parts ∙ ap (λ t. codes "none\n" ++ t) (tries_text b.back m.value b.means), b.means.means.small)

none_from : (bytes : List ℕ) (n : ℕ) → IsReportText bytes (NoSelection n) → IsNoneLines bytes (NoSelection n)
none_from bytes n i = record {
  value = n;
  is = refl;
  means = record {
    back = line (codes "tries ") (decimal n);
    parts = i.0;
    means = record { back = decimal n ++ codes "\n"; parts = refl; means = record { small = i.1; is = refl } };
  };
}

unfinished_to : (bytes : List ℕ) (r : Report) → IsUnfinishedLines bytes r → IsReportText bytes r
unfinished_to bytes r m =
    let b = m.means in
    let v = m.value in
    let n = b.means in
    let s = n.second in
    let row = named (codes "row ") s.front s.first.back (decimal v.1.0) s.first.parts s.first.means.is in
    let stage = named (codes "stage ") s.back s.second.back (stage_word v.1.1) s.second.parts (s.second.means.parts ∙ ap (λ t. t ++ codes "\n") s.second.means.means.1) in
    let lines = lined b.back n.front n.back _ _ n.parts (tries_text n.front v.0 n.first) (lined n.back s.front s.back _ _ s.parts row stage) in
    subst (IsReportText bytes) (sym m.is) (b.parts ∙ ap (λ t. codes "unfinished\n" ++ t) lines, s.second.means.means.0, n.first.means.small, s.first.means.small)

unfinished_from : (bytes : List ℕ) (n row : ℕ) (stage : Stage) → IsReportText bytes (Unfinished n row stage) → IsUnfinishedLines bytes (Unfinished n row stage)
unfinished_from bytes n row stage i = record {
  value = (n, (row, stage));
  is = refl;
  means = record {
    back = line (codes "tries ") (decimal n) ++ (line (codes "row ") (decimal row) ++ line (codes "stage ") (stage_word stage));
    parts = i.0;
    means = record {
      front = line (codes "tries ") (decimal n);
      back = line (codes "row ") (decimal row) ++ line (codes "stage ") (stage_word stage);
      parts = refl;
      first = record { back = decimal n ++ codes "\n"; parts = refl; means = record { small = i.2; is = refl } };
      second = record {
        front = line (codes "row ") (decimal row);
        back = line (codes "stage ") (stage_word stage);
        parts = refl;
        first = record { back = decimal row ++ codes "\n"; parts = refl; means = record { small = i.3; is = refl } };
        second = record { back = stage_word stage ++ codes "\n"; parts = refl; means = record { front = stage_word stage; parts = refl; means = (i.1, refl) } };
      };
    };
  };
}

-- ---- the whole

lines_to : (bytes : List ℕ) (r : Report) → IsLines bytes r → IsReportText bytes r
lines_to bytes r (inl m) = funded_to bytes r m
lines_to bytes r (inr (inl m)) = none_to bytes r m
lines_to bytes r (inr (inr m)) = unfinished_to bytes r m

lines_from : (bytes : List ℕ) (r : Report) → IsReportText bytes r → IsLines bytes r
lines_from bytes (Funded f) i = inl (funded_from bytes f i)
lines_from bytes (NoSelection n) i = inr (inl (none_from bytes n i))
lines_from bytes (Unfinished n row stage) i = inr (inr (unfinished_from bytes n row stage i))

record AtEnd (r : Report) (bytes : List ℕ) (y : Report) : Type 0 where
  pub nothing : bytes ≡ []
  pub is : y ≡ r

end_takes : (r : Report) (bytes : List ℕ) (y : Report) → end_of r bytes ≡ Ok y → AtEnd r bytes y
end_takes r [] y e = record { nothing = refl; is = (let same : r ≡ y = cc in sym same) }
end_takes r (b ∷ rest) y e = absurd cc

end_stops : (r : Report) (bytes stop : List ℕ) → end_of r bytes ≡ Err stop → StopsAt (AtEnd r) bytes stop
end_stops r [] stop e = absurd cc
end_stops r (b ∷ rest) stop e =
    let is : b ∷ rest ≡ stop = cc in
    record {
      front = [];
      parts = is;
      begins = record { more = []; value = r; means = record { nothing = refl; is = refl } };
      never = subst (λ (t : List ℕ). NoneGoesOn (AtEnd r) [] t) is (λ begins. let h : b ∷ begins.more ≡ [] = begins.means.nothing in absurd cc);
    }

end_law : (n : ℕ) (r : Report) → Law n (end_of r) (AtEnd r)
end_law n r = record {
  takes = λ bytes y le e. end_takes r bytes y e;
  again = λ bytes y le m. ap (end_of r) m.nothing ∙ ap (λ (z : Report). Ok z) (sym m.is);
  stops = λ bytes stop le e. end_stops r bytes stop e;
  some = record { more = []; value = r; means = record { nothing = refl; is = refl } };
}

whole_to : (bytes : List ℕ) (r : Report) → Then IsLines AtEnd bytes r → IsReportText bytes r
whole_to bytes r t =
    let whole : bytes ≡ t.front = t.parts ∙ ap (λ b. t.front ++ b) t.others.nothing ∙ append-nil t.front in
    subst (IsReportText bytes) (sym t.others.is) (subst (λ (b : List ℕ). IsReportText b t.value) (sym whole) (lines_to t.front t.value t.first))

whole_from : (bytes : List ℕ) (r : Report) → IsReportText bytes r → Then IsLines AtEnd bytes r
whole_from bytes r i = record { value = r; front = bytes; back = []; parts = sym (append-nil bytes); first = lines_from bytes r i; others = record { nothing = refl; is = refl } }

pub report_law : (n : ℕ) → Law n report_at IsReportText
unfolding report_at
report_law n = law_as n report_at (Then IsLines AtEnd) IsReportText whole_to whole_from (then_law n n lines_at IsLines end_of AtEnd (λ text x m. omega arith) lines_piece (end_law n))
