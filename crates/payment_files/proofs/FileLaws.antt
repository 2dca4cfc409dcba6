-- New files that are written one after the other, each under a name of its own.
use Rattle.std.proofs.Common.{◌≡◌, ◌≢◌, ◌∙◌, ℕ, List, Option, Some, None, refl, ap, subst, sym}
use Rattle.std.specs.Prelude.{IfErr, IsErrAnd, OnOk, Result, Ok, Err}
use Rattle.fund_shelf.specs.Causes.{ShelfView}
use Rattle.pay_words.specs.Asked.{AreApart, PlainNames}
use Rattle.pay_words.specs.declared.asked.Asked.{Asked}
use Rattle.payment_files.specs.Files.{AreWritten, HasAll, HasOwnNames, IsLost, PutStops, StopsAt, before, name_among, name_for}
use Rattle.payment_files.specs.Written.{HasFileIf}
use Rattle.payment_files.specs.declared.file.NewFile.{NewFile}
use Rattle.payment_files.specs.declared.file.NewFile.TheVariants.{Request, Log, Report, Psbt}
use Rattle.payment_files.specs.declared.file.PutFault.{PutFault}
use Rattle.payment_files.specs.declared.file.PutFault.TheVariants as puts

-- ---- names

-- names that are apart are the files' own
pub own_names : (n : PlainNames) → AreApart n → (x y : NewFile) (name : List ℕ) → name_among n x ≡ Some name → name_among n y ≡ Some name → x ≡ y
own_names n apart Request Request name x y = refl
own_names n apart Request Log name x y = absurd ((apart.request_apart name x).3 y)
own_names n apart Request Report name x y = absurd ((apart.request_apart name x).4 y)
own_names n apart Request Psbt name x y = absurd ((apart.request_apart name x).2 y)
own_names n apart Log Request name x y = absurd ((apart.request_apart name y).3 x)
own_names n apart Log Log name x y = refl
own_names n apart Log Report name x y = absurd ((apart.report_apart name y).3 x)
own_names n apart Log Psbt name x y = absurd ((apart.log_apart name x).2 y)
own_names n apart Report Request name x y = absurd ((apart.request_apart name y).4 x)
own_names n apart Report Log name x y = absurd ((apart.report_apart name x).3 y)
own_names n apart Report Report name x y = refl
own_names n apart Report Psbt name x y = absurd ((apart.report_apart name x).2 y)
own_names n apart Psbt Request name x y = absurd ((apart.request_apart name y).2 x)
own_names n apart Psbt Log name x y = absurd ((apart.log_apart name y).2 x)
own_names n apart Psbt Report name x y = absurd ((apart.report_apart name y).2 x)
own_names n apart Psbt Psbt name x y = refl

-- ---- files

-- one of another name stays as it was
kept : (told : Type 0) (o : Option (List ℕ)) (bytes name : List ℕ) (old new : ShelfView) → told → HasFileIf told o bytes old new → o ≢ Some name → new.files name ≡ old.files name
kept told None bytes name old new is_told has other = ap (λ (s : ShelfView). s.files name) has
kept told (Some n) bytes name old new is_told has other = has.others is_told name (λ same. other (ap (λ (t : List ℕ). Some t) (sym same)))

-- that of its name has its bytes
put : (told : Type 0) (o : Option (List ℕ)) (bytes name : List ℕ) (old new : ShelfView) → told → HasFileIf told o bytes old new → o ≡ Some name → new.files name ≡ bytes
put told None bytes name old new is_told has is = cc
put told (Some n) bytes name old new is_told has is =
    let same : n ≡ name = cc in
    subst (λ (t : List ℕ). new.files t ≡ bytes) same (has.bytes_are is_told)

pub has_all : (told : Type 0) (a : Asked) (bytes : NewFile → List ℕ) (old x y z new : ShelfView) → HasOwnNames a → HasFileIf told (name_for a Request) (bytes Request) old x → HasFileIf told (name_for a Log) (bytes Log) x y → HasFileIf told (name_for a Report) (bytes Report) y z
    → HasFileIf told (name_for a Psbt) (bytes Psbt) z new → HasAll told a bytes old new
has_all told a bytes old x y z new own request log report psbt = record {
  written = (x, request, (y, log, (z, report, (new, psbt, refl))));
  stand = stands;
  others = λ is_told name none. past_psbt is_told name (none Psbt) ∙ past_report is_told name (none Report) ∙ past_log is_told name (none Log) ∙ kept told (name_for a Request) (bytes Request) name old x is_told request (none Request);
}
  where
    past_psbt : told → (name : List ℕ) → name_for a Psbt ≢ Some name → new.files name ≡ z.files name
    past_psbt is_told name other = kept told (name_for a Psbt) (bytes Psbt) name z new is_told psbt other

    past_report : told → (name : List ℕ) → name_for a Report ≢ Some name → z.files name ≡ y.files name
    past_report is_told name other = kept told (name_for a Report) (bytes Report) name y z is_told report other

    past_log : told → (name : List ℕ) → name_for a Log ≢ Some name → y.files name ≡ x.files name
    past_log is_told name other = kept told (name_for a Log) (bytes Log) name x y is_told log other

    other : (f g : NewFile) (name : List ℕ) → name_for a g ≡ Some name → f ≢ g → name_for a f ≢ Some name
    other f g name is apart same = apart (own f g name same is)

    stands : told → (file : NewFile) (name : List ℕ) → name_for a file ≡ Some name → new.files name ≡ bytes file
    stands is_told Request name is = past_psbt is_told name (other Psbt Request name is (λ e. cc)) ∙ past_report is_told name (other Report Request name is (λ e. cc)) ∙ past_log is_told name (other Log Request name is (λ e. cc)) ∙ put told (name_for a Request) (bytes Request) name old x is_told request is
    stands is_told Log name is = past_psbt is_told name (other Psbt Log name is (λ e. cc)) ∙ past_report is_told name (other Report Log name is (λ e. cc)) ∙ put told (name_for a Log) (bytes Log) name x y is_told log is
    stands is_told Report name is = past_psbt is_told name (other Psbt Report name is (λ e. cc)) ∙ put told (name_for a Report) (bytes Report) name y z is_told report is
    stands is_told Psbt name is = put told (name_for a Psbt) (bytes Psbt) name z new is_told psbt is

-- one that isn't written stops the rest
pub stops : (told : Type 0) (a : Asked) (bytes : NewFile → List ℕ) (file : NewFile) (old next new : ShelfView) (e : PutFault) → AreWritten told a bytes (before file) old next → StopsAt told file (name_for a file) next new e → PutStops told a bytes old new e
stops told a bytes file old next new (puts.Unwritten other) written stop =
    let lost : IsLost told a bytes file old new = (next, written, stop.1) in
    subst (λ (f : NewFile). IsLost told a bytes f old new) (sym stop.0) lost
stops told a bytes file old next new puts.Memory written stop = (file, next, written, stop)

-- that is told as it was
pub stopped : {A : Type 0} (told : Type 0) (a : Asked) (bytes : NewFile → List ℕ) (file : NewFile) (old next new : ShelfView) (fault : PutFault) (r : Result A PutFault) → IsErrAnd r (λ e. e ≡ fault) → AreWritten told a bytes (before file) old next → StopsAt told file (name_for a file) next new fault
    → IfErr r (PutStops told a bytes old new)
stopped told a bytes file old next new fault (Ok x) out written stop = absurd out
stopped told a bytes file old next new fault (Err e) out written stop = subst (λ (d : PutFault). PutStops told a bytes old new d) (sym out) (stops told a bytes file old next new fault written stop)

-- the last is, or isn't
pub last_put : {A : Type 0} (told : Type 0) (a : Asked) (bytes : NewFile → List ℕ) (old x y z new : ShelfView) (r : Result A PutFault) → HasOwnNames a → HasFileIf told (name_for a Request) (bytes Request) old x → HasFileIf told (name_for a Log) (bytes Log) x y → HasFileIf told (name_for a Report) (bytes Report) y z
    → OnOk r (HasFileIf told (name_for a Psbt) (bytes Psbt) z new) → OnOk r (HasAll told a bytes old new)
last_put told a bytes old x y z new (Ok done) own request log report psbt = has_all told a bytes old x y z new own request log report psbt
last_put told a bytes old x y z new (Err e) own request log report psbt = tt

pub last_stopped : {A : Type 0} (told : Type 0) (a : Asked) (bytes : NewFile → List ℕ) (old next new : ShelfView) (r : Result A PutFault) → AreWritten told a bytes (before Psbt) old next → IfErr r (StopsAt told Psbt (name_for a Psbt) next new) → IfErr r (PutStops told a bytes old new)
last_stopped told a bytes old next new (Ok done) written stop = tt
last_stopped told a bytes old next new (Err e) written stop = stops told a bytes Psbt old next new e written stop
