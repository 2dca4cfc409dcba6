-- A report has one verdict.
use Rattle.std.specs.Prelude.{ℕ, ◌≡◌, ◌≢◌, ◌⊎◌, List}
use Rattle.std.proofs.Common.{refl, sym, ap, subst, inl, inr, ◌∙◌}
use Rattle.closing_log.proofs.FirstFaults.{one_place}
use Rattle.closing_log.proofs.LogLaws.{one_log}
use Rattle.closing_log.specs.Exact.{IsFirstFault}
use Rattle.closing_log.specs.Log.{PlainLog}
use Rattle.closing_log.specs.declared.log.Stage.{Stage}
use Rattle.fund_base.specs.declared.outpoint.OutPoint.{OutPoint}
use Rattle.fund_report.specs.declared.report.Report.{Report}
use Rattle.fund_report.specs.declared.report.Report.TheVariants.{Funded, NoSelection, Unfinished}
use Rattle.fund_steps.specs.Plan.{PlainPlan}
use Rattle.psbt_codec.specs.PartialTransaction.{PartialTransaction}
use Rattle.psbt_codec.specs.declared.fault.PsbtFault.{PsbtFault}
use Rattle.report_check.specs.Payment.{IsFirstForeign, PaysBy}
use Rattle.report_check.specs.Proved.{IsEndedText}
use Rattle.report_check.specs.Verdict.{BreaksFirst, HasNoPsbt, IsAccepted, IsBacked, IsReportRefusal, IsPaid, IsUnpaid, LogBreaks, SpendsForeign}
use Rattle.report_check.specs.declared.fault.CheckFault.{CheckFault}
use Rattle.report_check.specs.declared.fault.CheckFault.TheVariants.{Report as ReportFault, Psbt, Coin, Pays, LogForm, Section, Log, Answer, Memory}
use Rattle.report_check.proofs.OneLaws.{backed_apart, one_rule}
use Rattle.report_check.proofs.SpendLaws.{foreign_apart, one_foreign, one_psbt, one_psbt_fault, paid_spendable, psbt_apart}

-- ---- where a fault stands

record AtText (r : Report) (e : CheckFault) : Type 0 where
  fault : PsbtFault
  is : e ≡ Psbt fault
  has : HasNoPsbt r fault

record AtCoin (p : PlainPlan) (r : Report) (e : CheckFault) : Type 0 where
  point : OutPoint
  is : e ≡ Coin point
  has : SpendsForeign p r point

record AtPays (p : PlainPlan) (r : Report) (e : CheckFault) : Type 0 where
  is : e ≡ Pays
  has : IsUnpaid p r

record AtForm (p : PlainPlan) (r : Report) (bytes : List ℕ) (e : CheckFault) : Type 0 where
  place : ℕ
  is : e ≡ LogForm place
  paid : IsPaid p r
  has : IsFirstFault IsEndedText bytes place

record AtLog (p : PlainPlan) (r : Report) (bytes : List ℕ) (e : CheckFault) : Type 0 where
  paid : IsPaid p r
  has : LogBreaks p r bytes e

-- a rule of the report is broken, or it keeps them and one of the log is
abbrev Level : PlainPlan → Report → List ℕ → CheckFault → Type 0
Level p r bytes e = AtText r e ⊎ (AtCoin p r e ⊎ (AtPays p r e ⊎ (AtForm p r bytes e ⊎ AtLog p r bytes e)))

level : (p : PlainPlan) (r : Report) (bytes : List ℕ) (e : CheckFault) → e ≢ Memory → IsReportRefusal p r bytes e → Level p r bytes e
level p r bytes (Psbt x) apart h = inl (record { fault = x; is = refl; has = h })
level p r bytes (Coin point) apart h = inr (inl (record { point = point; is = refl; has = h }))
level p r bytes Pays apart h = inr (inr (inl (record { is = refl; has = h })))
level p r bytes (LogForm place) apart h = inr (inr (inr (inl (record { place = place; is = refl; paid = h.1; has = h.2 }))))
level p r bytes (Section i) apart h = inr (inr (inr (inr (record { paid = h.1; has = h.2 }))))
level p r bytes (Log i e) apart h = inr (inr (inr (inr (record { paid = h.1; has = h.2 }))))
level p r bytes (ReportFault place) apart h = inr (inr (inr (inr (record { paid = h.1; has = h.2 }))))
level p r bytes Answer apart h = inr (inr (inr (inr (record { paid = h.1; has = h.2 }))))
level p r bytes Memory apart h = absurd (apart refl)

-- ---- rules of the report

unpaid_apart : (p : PlainPlan) (r : Report) → IsPaid p r → IsUnpaid p r → ⊥
unpaid_apart p (Funded f) (t, text, paid) (u, again, spendable, unpaid) = unpaid (subst (PaysBy p f) (one_psbt f.text t u text again) paid)
unpaid_apart p (NoSelection tries) h k = k
unpaid_apart p (Unfinished tries row stage) h k = k

coin_apart : (p : PlainPlan) (r : Report) (point : OutPoint) → IsPaid p r → SpendsForeign p r point → ⊥
coin_apart p (Funded f) point (t, text, paid) (u, again, foreign) = foreign_apart p f.row u.tx.inputs point (paid_spendable p f u (subst (PaysBy p f) (one_psbt f.text t u text again) paid)) foreign
coin_apart p (NoSelection tries) point h k = k
coin_apart p (Unfinished tries row stage) point h k = k

text_apart : (p : PlainPlan) (r : Report) (x : PsbtFault) → IsPaid p r → HasNoPsbt r x → ⊥
text_apart p (Funded f) x (t, text, paid) h = psbt_apart f.text t x text h
text_apart p (NoSelection tries) x h k = k
text_apart p (Unfinished tries row stage) x h k = k

coin_unpaid : (p : PlainPlan) (r : Report) (point : OutPoint) → SpendsForeign p r point → IsUnpaid p r → ⊥
coin_unpaid p (Funded f) point (t, text, foreign) (u, again, spendable, unpaid) =
    foreign_apart p f.row u.tx.inputs point spendable (subst (λ (q : PartialTransaction). IsFirstForeign p f.row q.tx.inputs point) (one_psbt f.text t u text again) foreign)
coin_unpaid p (NoSelection tries) point h k = h
coin_unpaid p (Unfinished tries row stage) point h k = h

text_coin : (p : PlainPlan) (r : Report) (x : PsbtFault) (point : OutPoint) → HasNoPsbt r x → SpendsForeign p r point → ⊥
text_coin p (Funded f) x point h (t, text, foreign) = psbt_apart f.text t x text h
text_coin p (NoSelection tries) x point h k = h
text_coin p (Unfinished tries row stage) x point h k = h

text_unpaid : (p : PlainPlan) (r : Report) (x : PsbtFault) → HasNoPsbt r x → IsUnpaid p r → ⊥
text_unpaid p (Funded f) x h (t, text, spendable, unpaid) = psbt_apart f.text t x text h
text_unpaid p (NoSelection tries) x h k = h
text_unpaid p (Unfinished tries row stage) x h k = h

one_text : (r : Report) (x y : PsbtFault) → HasNoPsbt r x → HasNoPsbt r y → x ≡ y
one_text (Funded f) x y h k = one_psbt_fault f.text x y h k
one_text (NoSelection tries) x y h k = absurd h
one_text (Unfinished tries row stage) x y h k = absurd h

one_coin_of : (p : PlainPlan) (r : Report) (a b : OutPoint) → SpendsForeign p r a → SpendsForeign p r b → a ≡ b
one_coin_of p (Funded f) a b (t, text, foreign) (u, again, other) =
    one_foreign p f.row u.tx.inputs a b (subst (λ (q : PartialTransaction). IsFirstForeign p f.row q.tx.inputs a) (one_psbt f.text t u text again) foreign) other
one_coin_of p (NoSelection tries) a b h k = absurd h
one_coin_of p (Unfinished tries row stage) a b h k = absurd h

-- ---- rules of the log

one_ended : (bytes : List ℕ) (a b : PlainLog) → IsEndedText bytes a → IsEndedText bytes b → a ≡ b
one_ended bytes a b h k = one_log bytes a b h.0 k.0

form_apart : (p : PlainPlan) (r : Report) (bytes : List ℕ) (place : ℕ) (e : CheckFault) → IsFirstFault IsEndedText bytes place → LogBreaks p r bytes e → ⊥
form_apart p r bytes place e h (log, text, breaks) = h.whole log text

one_break : (p : PlainPlan) (r : Report) (bytes : List ℕ) (d e : CheckFault) → LogBreaks p r bytes d → LogBreaks p r bytes e → d ≡ e
one_break p r bytes d e (log, text, h) (again, same, k) =
    one_rule p r again d e (subst (λ (l : PlainLog). BreaksFirst p r l d) (one_ended bytes log again text same) h) k

-- ---- one fault

one_level : (p : PlainPlan) (r : Report) (bytes : List ℕ) (d e : CheckFault) → Level p r bytes d → Level p r bytes e → d ≡ e
one_level p r bytes d e (inl a) (inl b) = a.is ∙ (ap (λ (x : PsbtFault). Psbt x) (one_text r a.fault b.fault a.has b.has) ∙ sym b.is)
one_level p r bytes d e (inl a) (inr (inl b)) = absurd (text_coin p r a.fault b.point a.has b.has)
one_level p r bytes d e (inl a) (inr (inr (inl b))) = absurd (text_unpaid p r a.fault a.has b.has)
one_level p r bytes d e (inl a) (inr (inr (inr (inl b)))) = absurd (text_apart p r a.fault b.paid a.has)
one_level p r bytes d e (inl a) (inr (inr (inr (inr b)))) = absurd (text_apart p r a.fault b.paid a.has)
one_level p r bytes d e (inr (inl a)) (inl b) = absurd (text_coin p r b.fault a.point b.has a.has)
one_level p r bytes d e (inr (inl a)) (inr (inl b)) = a.is ∙ (ap (λ (x : OutPoint). Coin x) (one_coin_of p r a.point b.point a.has b.has) ∙ sym b.is)
one_level p r bytes d e (inr (inl a)) (inr (inr (inl b))) = absurd (coin_unpaid p r a.point a.has b.has)
one_level p r bytes d e (inr (inl a)) (inr (inr (inr (inl b)))) = absurd (coin_apart p r a.point b.paid a.has)
one_level p r bytes d e (inr (inl a)) (inr (inr (inr (inr b)))) = absurd (coin_apart p r a.point b.paid a.has)
one_level p r bytes d e (inr (inr (inl a))) (inl b) = absurd (text_unpaid p r b.fault b.has a.has)
one_level p r bytes d e (inr (inr (inl a))) (inr (inl b)) = absurd (coin_unpaid p r b.point b.has a.has)
one_level p r bytes d e (inr (inr (inl a))) (inr (inr (inl b))) = a.is ∙ sym b.is
one_level p r bytes d e (inr (inr (inl a))) (inr (inr (inr (inl b)))) = absurd (unpaid_apart p r b.paid a.has)
one_level p r bytes d e (inr (inr (inl a))) (inr (inr (inr (inr b)))) = absurd (unpaid_apart p r b.paid a.has)
one_level p r bytes d e (inr (inr (inr (inl a)))) (inl b) = absurd (text_apart p r b.fault a.paid b.has)
one_level p r bytes d e (inr (inr (inr (inl a)))) (inr (inl b)) = absurd (coin_apart p r b.point a.paid b.has)
one_level p r bytes d e (inr (inr (inr (inl a)))) (inr (inr (inl b))) = absurd (unpaid_apart p r a.paid b.has)
one_level p r bytes d e (inr (inr (inr (inl a)))) (inr (inr (inr (inl b)))) = a.is ∙ (ap (λ (n : ℕ). LogForm n) (one_place IsEndedText bytes a.place b.place a.has b.has) ∙ sym b.is)
one_level p r bytes d e (inr (inr (inr (inl a)))) (inr (inr (inr (inr b)))) = absurd (form_apart p r bytes a.place e a.has b.has)
one_level p r bytes d e (inr (inr (inr (inr a)))) (inl b) = absurd (text_apart p r b.fault a.paid b.has)
one_level p r bytes d e (inr (inr (inr (inr a)))) (inr (inl b)) = absurd (coin_apart p r b.point a.paid b.has)
one_level p r bytes d e (inr (inr (inr (inr a)))) (inr (inr (inl b))) = absurd (unpaid_apart p r a.paid b.has)
one_level p r bytes d e (inr (inr (inr (inr a)))) (inr (inr (inr (inl b)))) = absurd (form_apart p r bytes b.place d b.has a.has)
one_level p r bytes d e (inr (inr (inr (inr a)))) (inr (inr (inr (inr b)))) = one_break p r bytes d e a.has b.has

pub one_fault_of : (p : PlainPlan) (r : Report) (bytes : List ℕ) (d e : CheckFault) → d ≢ Memory → e ≢ Memory → IsReportRefusal p r bytes d → IsReportRefusal p r bytes e → d ≡ e
one_fault_of p r bytes d e apart apart_too h k = one_level p r bytes d e (level p r bytes d apart h) (level p r bytes e apart_too k)

-- ---- none where the report is accepted

backed_level : (p : PlainPlan) (r : Report) (bytes : List ℕ) (log : PlainLog) (e : CheckFault) → IsPaid p r → IsEndedText bytes log → IsBacked p r log → Level p r bytes e → ⊥
backed_level p r bytes log e paid text backed (inl a) = text_apart p r a.fault paid a.has
backed_level p r bytes log e paid text backed (inr (inl a)) = coin_apart p r a.point paid a.has
backed_level p r bytes log e paid text backed (inr (inr (inl a))) = unpaid_apart p r paid a.has
backed_level p r bytes log e paid text backed (inr (inr (inr (inl a)))) = a.has.whole log text
backed_level p r bytes log e paid text backed (inr (inr (inr (inr a)))) = by a.has
  where
    by : LogBreaks p r bytes e → ⊥
    by (again, same, breaks) = backed_apart p r log e backed (subst (λ (l : PlainLog). BreaksFirst p r l e) (one_ended bytes again log same text) breaks)

unfinished_none : (p : PlainPlan) (tries row : ℕ) (stage : Stage) (bytes : List ℕ) (e : CheckFault) → e ≢ Memory → IsReportRefusal p (Unfinished tries row stage) bytes e → ⊥
unfinished_none p tries row stage bytes (Psbt x) apart h = h
unfinished_none p tries row stage bytes (Coin point) apart h = h
unfinished_none p tries row stage bytes Pays apart h = h
unfinished_none p tries row stage bytes (LogForm place) apart h = h.0
unfinished_none p tries row stage bytes (Section i) apart h = h.0
unfinished_none p tries row stage bytes (Log i e) apart h = h.0
unfinished_none p tries row stage bytes (ReportFault place) apart h = h.0
unfinished_none p tries row stage bytes Answer apart h = h.0
unfinished_none p tries row stage bytes Memory apart h = apart refl

pub accepted_apart : (p : PlainPlan) (r : Report) (bytes : List ℕ) (e : CheckFault) → IsAccepted p r bytes → e ≢ Memory → IsReportRefusal p r bytes e → ⊥
accepted_apart p (Funded f) bytes e (paid, (log, text, backed)) apart h = backed_level p (Funded f) bytes log e paid text backed (level p (Funded f) bytes e apart h)
accepted_apart p (NoSelection tries) bytes e (log, text, backed) apart h = backed_level p (NoSelection tries) bytes log e tt text backed (level p (NoSelection tries) bytes e apart h)
accepted_apart p (Unfinished tries row stage) bytes e a apart h = unfinished_none p tries row stage bytes e apart h
