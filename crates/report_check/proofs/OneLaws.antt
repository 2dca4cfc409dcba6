-- A log breaks one rule first at most, and one that backs its report breaks none.
use Rattle.std.specs.Prelude.{ℕ, suc, ◌≡◌, true, false, List, [], ◌∷◌, ◌++◌, length, Contains}
use Rattle.std.specs.List.{AllZip}
use Rattle.std.proofs.Common.{refl, sym, ap, subst, inl, inr, ◌∙◌}
use Rattle.std.proofs.lemmas.Bool.{both_ways}
use Rattle.std.proofs.lemmas.List.Elements.{Contains-append_left, Contains-append_right}
use Rattle.closing_log.specs.Log.{PlainLog, PlainSection}
use Rattle.closing_log.specs.declared.log.Stage.{Stage}
use Rattle.closing_log.specs.declared.mark.Mark.{Mark}
use Rattle.closing_log.specs.declared.mark.Mark.TheVariants.{Exhausted, Partial, Drawn, Given}
use Rattle.fund_base.proofs.Lists.{cons_cases, in_tail}
use Rattle.fund_report.specs.declared.report.Report.{Report}
use Rattle.fund_report.specs.declared.report.Report.TheVariants.{Funded, NoSelection, Unfinished}
use Rattle.fund_steps.specs.Plan.{PlainPlan}
use Rattle.fund_plan.specs.Steps.{steps_of}
use Rattle.log_checker.proofs.SectionLaws.{accepted_without_fault, one_fault}
use Rattle.log_checker.specs.Sections.{SectionHas}
use Rattle.log_checker.specs.declared.fault.LogFault.{LogFault}
use Rattle.output_groups.proofs.Members.{head_in, none_in}
use Rattle.search_run.specs.Answer.{AreWhole, IsColumn}
use Rattle.search_run.specs.Searched.{searches}
use Rattle.search_run.specs.Step.{PlainStep}
use Rattle.report_check.specs.DueSections.{AreFor, AreForFirst, AreRight, AreRightBy, AreUpTo, HasStepAt, IsFirstWrong, IsNamedAs, IsSectionWrong, IsUpTo, IsWrongBy, LeavesHere, PartsHere}
use Rattle.report_check.specs.Proved.{AreProved, IsFirstRefused, IsProvedFor}
use Rattle.report_check.specs.Verdict.{BreaksFirst, IsBacked}
use Rattle.report_check.specs.declared.fault.CheckFault.{CheckFault}
use Rattle.report_check.specs.declared.fault.CheckFault.TheVariants.{Report as ReportFault, Psbt, Coin, Pays, LogForm, Section, Log, Answer, Memory}

-- ---- the searches that are due

record SameColumn (c d r s : List PlainStep) : Type 0 where
  column : c ≡ d
  rest : r ≡ s

-- a list of steps begins with one column at most
one_column : (c d r s : List PlainStep) → IsColumn c → IsColumn d → c ++ r ≡ d ++ s → SameColumn c d r s
one_column [] d r s h k e = absurd h
one_column (x ∷ c) [] r s h k e = absurd k
one_column (x ∷ []) (y ∷ []) r s h k e = record { column = cc; rest = cc }
one_column (x ∷ []) (y ∷ z ∷ d) r s h k e = (let same : x ≡ y = cc in absurd (both_ways y.last k.0 (subst (λ (w : PlainStep). w.last ≡ true) same h)))
one_column (x ∷ w ∷ c) (y ∷ []) r s h k e = (let same : x ≡ y = cc in absurd (both_ways y.last (subst (λ (v : PlainStep). v.last ≡ false) same h.0) k))
one_column (x ∷ w ∷ c) (y ∷ z ∷ d) r s h k e =
    let more = one_column (w ∷ c) (z ∷ d) r s h.1 k.1 (cc) in
    let same : x ≡ y = cc in
    record { column = ap (λ (v : PlainStep). v ∷ w ∷ c) same ∙ ap (λ (v : List PlainStep). y ∷ v) more.column; rest = more.rest }

-- a column in front of the same list as whole columns is among these
column_within : (c r front s : List PlainStep) (y : PlainStep) → IsColumn c → AreWhole (y ∷ front) → c ++ r ≡ (y ∷ front) ++ s → (x : PlainStep) → Contains c x → Contains (y ∷ front) x
column_within [] r front s y h k e x there = absurd h
column_within (w ∷ []) r front s y h k e x there =
    elim (cons_cases w [] x there) [
      | inl is ↦ subst (Contains (y ∷ front)) (let same : y ≡ w = cc in same ∙ is) (head_in y front)
      | inr later ↦ absurd (none_in x later)
    ]
column_within (w ∷ v ∷ c) r [] s y h k e x there = (let same : w ≡ y = cc in absurd (both_ways y.last (subst (λ (z : PlainStep). z.last ≡ false) same h.0) k))
column_within (w ∷ v ∷ c) r (z ∷ front) s y h k e x there =
    elim (cons_cases w (v ∷ c) x there) [
      | inl is ↦ subst (Contains (y ∷ z ∷ front)) (let same : y ≡ w = cc in same ∙ is) (head_in y (z ∷ front))
      | inr later ↦ in_tail y (z ∷ front) x (column_within (v ∷ c) r front s z h.1 k (cc) x later)
    ]

whole_tail : (x : PlainStep) (xs : List PlainStep) → AreWhole (x ∷ xs) → AreWhole xs
whole_tail x [] h = tt
whole_tail x (y ∷ ys) h = h

has_later : (x : PlainStep) (xs : List PlainStep) (row : ℕ) (stage : Stage) → HasStepAt xs row stage → HasStepAt (x ∷ xs) row stage
has_later x xs row stage (y, there, at_row, at_stage) = (y, in_tail x xs y there, at_row, at_stage)

-- the first column that has a step of a row and a stage is one
same_front : (row : ℕ) (stage : Stage) (f c r g d s : List PlainStep) → f ++ (c ++ r) ≡ g ++ (d ++ s) → AreWhole f → AreWhole g → IsColumn c → IsColumn d → (HasStepAt f row stage → ⊥) → (HasStepAt g row stage → ⊥) → HasStepAt c row stage → HasStepAt d row stage → f ++ c ≡ g ++ d
same_front row stage [] c r [] d s e wf wg oc od nf ng hc hd = (one_column c d r s oc od e).column
same_front row stage [] c r (y ∷ g) d s e wf wg oc od nf ng (x, there, at_row, at_stage) hd = absurd (ng (x, column_within c r g (d ++ s) y oc wg e x there, at_row, at_stage))
same_front row stage (x ∷ f) c r [] d s e wf wg oc od nf ng hc (y, there, at_row, at_stage) = absurd (nf (y, column_within d s f (c ++ r) x od wf (sym e) y there, at_row, at_stage))
same_front row stage (x ∷ f) c r (y ∷ g) d s e wf wg oc od nf ng hc hd =
    let more = same_front row stage f c r g d s (cc) (whole_tail x f wf) (whole_tail y g wg) oc od (λ h. nf (has_later x f row stage h)) (λ h. ng (has_later y g row stage h)) hc hd in
    let same : x ≡ y = cc in
    ap (λ (z : PlainStep). z ∷ (f ++ c)) same ∙ ap (λ (zs : List PlainStep). y ∷ zs) more

pub one_up_to : (steps : List PlainStep) (row : ℕ) (stage : Stage) (u v : List PlainStep) → IsUpTo steps row stage u → IsUpTo steps row stage v → u ≡ v
one_up_to steps row stage u v a b =
    a.upto_is ∙ (same_front row stage a.front a.column a.rest b.front b.column b.rest (sym a.parts ∙ b.parts) a.whole b.whole a.one b.one a.before b.before a.has b.has ∙ sym b.upto_is)

pub up_to_has : (steps : List PlainStep) (row : ℕ) (stage : Stage) (u : List PlainStep) → IsUpTo steps row stage u → HasStepAt steps row stage
up_to_has steps row stage u a =
    let x = a.has.0 in
    (x, subst (λ (xs : List PlainStep). Contains xs x) (sym a.parts) (Contains-append_right a.front (a.column ++ a.rest) x (Contains-append_left a.column a.rest x a.has.1)), a.has.2, a.has.3)

one_due : (steps : List PlainStep) (row : ℕ) (stage : Stage) (due more : List PlainStep) → AreUpTo steps row stage due → AreUpTo steps row stage more → due ≡ more
one_due steps row stage due more h k =
    elim h [
      | inl a ↦ elim k [
        | inl b ↦ a.2 ∙ (ap searches (one_up_to steps row stage a.0 b.0 a.1 b.1) ∙ sym b.2)
        | inr b ↦ absurd (b.0 (up_to_has steps row stage a.0 a.1))
      ]
      | inr a ↦ elim k [
        | inl b ↦ absurd (a.0 (up_to_has steps row stage b.0 b.1))
        | inr b ↦ a.1 ∙ sym b.1
      ]
    ]

before_last : (xs ys : List PlainStep) (x y : PlainStep) → xs ++ x ∷ [] ≡ ys ++ y ∷ [] → xs ≡ ys
before_last [] [] x y e = refl
before_last [] (b ∷ []) x y e = absurd (cc)
before_last [] (b ∷ c ∷ ys) x y e = absurd (cc)
before_last (a ∷ []) [] x y e = absurd (cc)
before_last (a ∷ c ∷ xs) [] x y e = absurd (cc)
before_last (a ∷ xs) (b ∷ ys) x y e =
    let same : a ≡ b = cc in
    ap (λ (z : PlainStep). z ∷ xs) same ∙ ap (λ (zs : List PlainStep). b ∷ zs) (before_last xs ys x y (cc))

some_last : (xs : List PlainStep) (x : PlainStep) → xs ++ x ∷ [] ≡ [] → ⊥
some_last [] x e = cc
some_last (y ∷ xs) x e = cc

-- ---- the first section that is wrong

-- where a search stands over against a section it is another one
abbrev Differs : (List PlainStep → List PlainSection → Type 0) → Type 0
Differs Wrong = (x : PlainStep) (xs : List PlainStep) (s : PlainSection) (ss : List PlainSection) → Wrong (x ∷ xs) (s ∷ ss) → IsNamedAs x s → ⊥

wrong_at : (Wrong : List PlainStep → List PlainSection → Type 0) → Differs Wrong → (dr xs more : List PlainStep) (rest ss tail : List PlainSection) (x : PlainStep) (s : PlainSection) →
    dr ≡ (x ∷ xs) ++ more → rest ≡ (s ∷ ss) ++ tail → IsNamedAs x s → Wrong dr rest → ⊥
wrong_at Wrong differs dr xs more rest ss tail x s e d named w =
    differs x (xs ++ more) s (ss ++ tail) (subst (λ (qs : List PlainSection). Wrong (x ∷ xs ++ more) qs) d (subst (λ (ps : List PlainStep). Wrong ps rest) e w)) named

one_wrong : (Wrong : List PlainStep → List PlainSection → Type 0) → Differs Wrong → (a ar b br : List PlainStep) (f fr g gr : List PlainSection) → a ++ ar ≡ b ++ br → f ++ fr ≡ g ++ gr →
    AreFor a f → AreFor b g → Wrong ar fr → Wrong br gr → length f ≡ length g
one_wrong Wrong differs [] ar [] br [] fr [] gr e d h k v w = refl
one_wrong Wrong differs [] ar b br (s ∷ f) fr g gr e d h k v w = absurd h
one_wrong Wrong differs (x ∷ a) ar b br [] fr g gr e d h k v w = absurd h
one_wrong Wrong differs [] ar [] br [] fr (t ∷ g) gr e d h k v w = absurd k
one_wrong Wrong differs [] ar (y ∷ b) br [] fr [] gr e d h k v w = absurd k
one_wrong Wrong differs [] ar (y ∷ b) br [] fr (t ∷ g) gr e d h k v w = absurd (wrong_at Wrong differs ar b br fr g gr y t e d k.0 v)
one_wrong Wrong differs (x ∷ a) ar [] br (s ∷ f) fr [] gr e d h k v w = absurd (wrong_at Wrong differs br a ar gr f fr x s (sym e) (sym d) h.0 w)
one_wrong Wrong differs (x ∷ a) ar [] br (s ∷ f) fr (t ∷ g) gr e d h k v w = absurd k
one_wrong Wrong differs (x ∷ a) ar (y ∷ b) br (s ∷ f) fr [] gr e d h k v w = absurd k
one_wrong Wrong differs (x ∷ a) ar (y ∷ b) br (s ∷ f) fr (t ∷ g) gr e d h k v w =
    ap suc (one_wrong Wrong differs a ar b br f fr g gr (cc) (cc) h.1 k.1 v w)

one_index : (Wrong : List PlainStep → List PlainSection → Type 0) → Differs Wrong → (due more : List PlainStep) (sections : List PlainSection) (i j : ℕ) → due ≡ more → IsFirstWrong Wrong due sections i → IsFirstWrong Wrong more sections j → i ≡ j
one_index Wrong differs due more sections i j same a b =
    sym a.index
    ∙ (one_wrong Wrong differs a.due_front a.due_rest b.due_front b.due_rest a.front a.rest b.front b.rest (sym a.due_parts ∙ (same ∙ b.due_parts)) (sym a.parts ∙ b.parts) a.before b.before a.wrong b.wrong
    ∙ b.index)

parts_differ : Differs PartsHere
parts_differ x xs s ss w named = w named

leaves_differ : Differs LeavesHere
leaves_differ x xs s ss w named = w named

-- sections that are right aren't wrong at some index
right_here : (a ar : List PlainStep) (f fr : List PlainSection) → AreFor a f → AreFor (a ++ ar) (f ++ fr) → PartsHere ar fr → ⊥
right_here [] [] [] [] h k w = w
right_here [] [] [] (s ∷ fr) h k w = k
right_here [] (x ∷ ar) [] [] h k w = k
right_here [] (x ∷ ar) [] (s ∷ fr) h k w = w k.0
right_here [] ar (s ∷ f) fr h k w = h
right_here (x ∷ a) ar [] fr h k w = h
right_here (x ∷ a) ar (s ∷ f) fr h k w = right_here a ar f fr h.1 k.1 w

right_not_wrong : (due : List PlainStep) (sections : List PlainSection) (i : ℕ) → AreFor due sections → IsFirstWrong PartsHere due sections i → ⊥
right_not_wrong due sections i h a =
    right_here a.due_front a.due_rest a.front a.rest a.before (subst (λ (xs : List PlainStep). AreFor xs (a.front ++ a.rest)) a.due_parts (subst (AreFor due) a.parts h)) a.wrong

first_here : (a ar b br : List PlainStep) (f fr : List PlainSection) → a ++ ar ≡ b ++ br → AreFor a f → AreFor b (f ++ fr) → LeavesHere ar fr → ⊥
first_here [] ar b br [] [] e h k w = w
first_here [] ar [] br [] (s ∷ fr) e h k w = k
first_here [] ar (y ∷ b) br [] (s ∷ fr) e h k w = subst (λ (xs : List PlainStep). LeavesHere xs (s ∷ fr)) e w k.0
first_here [] ar b br (s ∷ f) fr e h k w = h
first_here (x ∷ a) ar b br [] fr e h k w = h
first_here (x ∷ a) ar [] br (s ∷ f) fr e h k w = k
first_here (x ∷ a) ar (y ∷ b) br (s ∷ f) fr e h k w = first_here a ar b br f fr (cc) h.1 k.1 w

first_not_wrong : (due : List PlainStep) (sections : List PlainSection) (i : ℕ) → AreForFirst due sections → IsFirstWrong LeavesHere due sections i → ⊥
first_not_wrong due sections i h a =
    first_here a.due_front a.due_rest h.front h.rest a.front a.rest (sym a.due_parts ∙ h.parts) a.before (subst (AreFor h.front) a.parts h.each) a.wrong

right_apart : (m : Mark) (steps : List PlainStep) (row : ℕ) (stage : Stage) (sections : List PlainSection) (i : ℕ) → AreRightBy m steps row stage sections → IsWrongBy m steps row stage sections i → ⊥
right_apart Exhausted steps row stage sections i h k = right_not_wrong k.0 sections i (subst (λ (xs : List PlainStep). AreFor xs sections) (one_due steps row stage h.0 k.0 h.1 k.1) h.2) k.2
right_apart Drawn steps row stage sections i h k = right_not_wrong k.0 sections i (subst (λ (xs : List PlainStep). AreFor xs sections) (one_due steps row stage h.0 k.0 h.1 k.1) h.2) k.2
right_apart Given steps row stage sections i h k = right_not_wrong [] sections i (subst (AreFor []) (sym h) tt) k
right_apart Partial steps row stage sections i h k =
    elim k [
      | inl none ↦ some_last h.0 h.1.0 (sym h.1.1 ∙ none.0)
      | inr at ↦ first_not_wrong at.0 sections i (subst (λ (xs : List PlainStep). AreForFirst xs sections) (before_last h.0 at.0 h.1.0 at.1.0 (sym h.1.1 ∙ at.1.1)) h.2) at.2
    ]

one_by : (m : Mark) (steps : List PlainStep) (row : ℕ) (stage : Stage) (sections : List PlainSection) (i j : ℕ) → IsWrongBy m steps row stage sections i → IsWrongBy m steps row stage sections j → i ≡ j
one_by Exhausted steps row stage sections i j h k = one_index PartsHere parts_differ h.0 k.0 sections i j (one_due steps row stage h.0 k.0 h.1 k.1) h.2 k.2
one_by Drawn steps row stage sections i j h k = one_index PartsHere parts_differ h.0 k.0 sections i j (one_due steps row stage h.0 k.0 h.1 k.1) h.2 k.2
one_by Given steps row stage sections i j h k = one_index PartsHere parts_differ [] [] sections i j refl h k
one_by Partial steps row stage sections i j h k =
    elim h [
      | inl a ↦ elim k [
        | inl b ↦ a.1 ∙ sym b.1
        | inr b ↦ absurd (some_last b.0 b.1.0 (sym b.1.1 ∙ a.0))
      ]
      | inr a ↦ elim k [
        | inl b ↦ absurd (some_last a.0 a.1.0 (sym a.1.1 ∙ b.0))
        | inr b ↦ one_index LeavesHere leaves_differ a.0 b.0 sections i j (before_last a.0 b.0 a.1.0 b.1.0 (sym a.1.1 ∙ b.1.1)) a.2 b.2
      ]
    ]

sections_apart : (steps : List PlainStep) (r : Report) (sections : List PlainSection) (i : ℕ) → AreRight steps r sections → IsSectionWrong steps r sections i → ⊥
sections_apart steps (Funded f) sections i h k = right_apart f.mark steps f.row f.stage sections i h k
sections_apart steps (NoSelection tries) sections i h k = right_not_wrong (searches steps) sections i h k
sections_apart steps (Unfinished tries row stage) sections i h k = k

one_section : (steps : List PlainStep) (r : Report) (sections : List PlainSection) (i j : ℕ) → IsSectionWrong steps r sections i → IsSectionWrong steps r sections j → i ≡ j
one_section steps (Funded f) sections i j h k = one_by f.mark steps f.row f.stage sections i j h k
one_section steps (NoSelection tries) sections i j h k = one_index PartsHere parts_differ (searches steps) (searches steps) sections i j refl h k
one_section steps (Unfinished tries row stage) sections i j h k = absurd h

-- ---- the first section that is refused

proved_here : (a ar b br : List PlainStep) (x : PlainStep) (f fr : List PlainSection) (s : PlainSection) → b ++ br ≡ a ++ x ∷ ar → AllZip IsProvedFor a f → AllZip IsProvedFor b (f ++ s ∷ fr) → IsProvedFor x s
proved_here [] ar [] br x [] fr s e h k = absurd k
proved_here [] ar (y ∷ b) br x [] fr s e h k = let same : y ≡ x = cc in subst (λ (z : PlainStep). IsProvedFor z s) same k.0
proved_here [] ar b br x (t ∷ f) fr s e h k = absurd h
proved_here (z ∷ a) ar b br x [] fr s e h k = absurd h
proved_here (z ∷ a) ar [] br x (t ∷ f) fr s e h k = absurd k
proved_here (z ∷ a) ar (y ∷ b) br x (t ∷ f) fr s e h k = proved_here a ar b br x f fr s (cc) h.1 k.1

refused_apart : (steps : List PlainStep) (sections : List PlainSection) (i : ℕ) (e : LogFault) → AreProved steps sections → IsFirstRefused steps sections i e → ⊥
refused_apart steps sections i e h a =
    accepted_without_fault a.search.problem a.section.answer a.section.letters e
    (proved_here a.due_front a.due_rest h.front h.rest a.search a.front a.rest a.section (sym h.parts ∙ a.due_parts) a.before (subst (AllZip IsProvedFor h.front) a.parts h.each))
    a.refused

-- two of them are one
record SameRefused (n m : ℕ) (x y : PlainStep) (s t : PlainSection) : Type 0 where
  index : n ≡ m
  search : y ≡ x
  section : t ≡ s

refused_before : (x : PlainStep) (s : PlainSection) (e : LogFault) → IsProvedFor x s → SectionHas x.problem s.answer s.letters e → ⊥
refused_before x s e h k = accepted_without_fault x.problem s.answer s.letters e h k

same_refused : (a ar b br : List PlainStep) (x y : PlainStep) (f fr g gr : List PlainSection) (s t : PlainSection) (d e : LogFault) → a ++ x ∷ ar ≡ b ++ y ∷ br → f ++ s ∷ fr ≡ g ++ t ∷ gr →
    AllZip IsProvedFor a f → AllZip IsProvedFor b g → SectionHas x.problem s.answer s.letters d → SectionHas y.problem t.answer t.letters e → SameRefused (length f) (length g) x y s t
same_refused [] ar [] br x y [] fr [] gr s t d e u v h k hd he = record { index = refl; search = cc; section = cc }
same_refused [] ar b br x y (z ∷ f) fr g gr s t d e u v h k hd he = absurd h
same_refused (w ∷ a) ar b br x y [] fr g gr s t d e u v h k hd he = absurd h
same_refused [] ar [] br x y [] fr (z ∷ g) gr s t d e u v h k hd he = absurd k
same_refused [] ar (w ∷ b) br x y [] fr [] gr s t d e u v h k hd he = absurd k
same_refused [] ar (w ∷ b) br x y [] fr (z ∷ g) gr s t d e u v h k hd he =
    let searched : w ≡ x = cc in
    let told : z ≡ s = cc in
    absurd (refused_before x s d (subst (λ (q : PlainSection). IsProvedFor x q) told (subst (λ (q : PlainStep). IsProvedFor q z) searched k.0)) hd)
same_refused (w ∷ a) ar [] br x y (z ∷ f) fr [] gr s t d e u v h k hd he =
    let searched : w ≡ y = cc in
    let told : z ≡ t = cc in
    absurd (refused_before y t e (subst (λ (q : PlainSection). IsProvedFor y q) told (subst (λ (q : PlainStep). IsProvedFor q z) searched h.0)) he)
same_refused (w ∷ a) ar [] br x y (z ∷ f) fr (q ∷ g) gr s t d e u v h k hd he = absurd k
same_refused (w ∷ a) ar (q ∷ b) br x y (z ∷ f) fr [] gr s t d e u v h k hd he = absurd k
same_refused (w ∷ a) ar (q ∷ b) br x y (z ∷ f) fr (o ∷ g) gr s t d e u v h k hd he =
    let more = same_refused a ar b br x y f fr g gr s t d e (cc) (cc) h.1 k.1 hd he in
    record { index = ap suc more.index; search = more.search; section = more.section }

same_log : (i j : ℕ) (d e : LogFault) → i ≡ j → d ≡ e → Log i d ≡ Log j e
same_log i j d e is too = ap (λ (n : ℕ). Log n d) is ∙ ap (λ (f : LogFault). Log j f) too

one_refused : (steps : List PlainStep) (sections : List PlainSection) (i j : ℕ) (d e : LogFault) → IsFirstRefused steps sections i d → IsFirstRefused steps sections j e → Log i d ≡ Log j e
one_refused steps sections i j d e a b =
    let same = same_refused a.due_front a.due_rest b.due_front b.due_rest a.search b.search a.front a.rest b.front b.rest a.section b.section d e (sym a.due_parts ∙ b.due_parts) (sym a.parts ∙ b.parts) a.before b.before a.refused b.refused in
    let there : SectionHas a.search.problem b.section.answer b.section.letters e = subst (λ (x : PlainStep). SectionHas x.problem b.section.answer b.section.letters e) same.search b.refused in
    let here : SectionHas a.search.problem a.section.answer a.section.letters e = subst (λ (s : PlainSection). SectionHas a.search.problem s.answer s.letters e) same.section there in
    same_log i j d e (sym a.index ∙ (same.index ∙ b.index)) (one_fault a.search.problem a.section.answer a.section.letters d e a.refused here)

-- ---- all rules of a log

pub backed_apart : (p : PlainPlan) (r : Report) (log : PlainLog) (e : CheckFault) → IsBacked p r log → BreaksFirst p r log e → ⊥
backed_apart p r log (Section i) h k = sections_apart (steps_of p) r log.closed i h.sections k
backed_apart p r log (Log i e) h k = refused_apart (steps_of p) log.closed i e h.proved k.1
backed_apart p r log (ReportFault place) h k = k.2 h.tries
backed_apart p r log Answer h k = k.3 h.answer
backed_apart p r log (Psbt e) h k = k
backed_apart p r log (Coin point) h k = k
backed_apart p r log Pays h k = k
backed_apart p r log (LogForm place) h k = k
backed_apart p r log Memory h k = k

pub one_rule : (p : PlainPlan) (r : Report) (log : PlainLog) (d e : CheckFault) → BreaksFirst p r log d → BreaksFirst p r log e → d ≡ e
one_rule p r log (Section i) (Section j) h k = ap (λ (n : ℕ). Section n) (one_section (steps_of p) r log.closed i j h k)
one_rule p r log (Section i) (Log j e) h k = absurd (sections_apart (steps_of p) r log.closed i k.0 h)
one_rule p r log (Section i) (ReportFault q) h k = absurd (sections_apart (steps_of p) r log.closed i k.0 h)
one_rule p r log (Section i) Answer h k = absurd (sections_apart (steps_of p) r log.closed i k.0 h)
one_rule p r log (Log i d) (Section j) h k = absurd (sections_apart (steps_of p) r log.closed j h.0 k)
one_rule p r log (Log i d) (Log j e) h k = one_refused (steps_of p) log.closed i j d e h.1 k.1
one_rule p r log (Log i d) (ReportFault q) h k = absurd (refused_apart (steps_of p) log.closed i d k.1 h.1)
one_rule p r log (Log i d) Answer h k = absurd (refused_apart (steps_of p) log.closed i d k.1 h.1)
one_rule p r log (ReportFault o) (Section j) h k = absurd (sections_apart (steps_of p) r log.closed j h.0 k)
one_rule p r log (ReportFault o) (Log j e) h k = absurd (refused_apart (steps_of p) log.closed j e h.1 k.1)
one_rule p r log (ReportFault o) (ReportFault q) h k = ap (λ (n : ℕ). ReportFault n) (h.3 ∙ sym k.3)
one_rule p r log (ReportFault o) Answer h k = absurd (h.2 k.2)
one_rule p r log Answer (Section j) h k = absurd (sections_apart (steps_of p) r log.closed j h.0 k)
one_rule p r log Answer (Log j e) h k = absurd (refused_apart (steps_of p) log.closed j e h.1 k.1)
one_rule p r log Answer (ReportFault q) h k = absurd (k.2 h.2)
one_rule p r log Answer Answer h k = refl
one_rule p r log (Psbt d) e h k = absurd h
one_rule p r log (Coin point) e h k = absurd h
one_rule p r log Pays e h k = absurd h
one_rule p r log (LogForm place) e h k = absurd h
one_rule p r log Memory e h k = absurd h
one_rule p r log (Section i) (Psbt e) h k = absurd k
one_rule p r log (Section i) (Coin point) h k = absurd k
one_rule p r log (Section i) Pays h k = absurd k
one_rule p r log (Section i) (LogForm place) h k = absurd k
one_rule p r log (Section i) Memory h k = absurd k
one_rule p r log (Log i d) (Psbt e) h k = absurd k
one_rule p r log (Log i d) (Coin point) h k = absurd k
one_rule p r log (Log i d) Pays h k = absurd k
one_rule p r log (Log i d) (LogForm place) h k = absurd k
one_rule p r log (Log i d) Memory h k = absurd k
one_rule p r log (ReportFault o) (Psbt e) h k = absurd k
one_rule p r log (ReportFault o) (Coin point) h k = absurd k
one_rule p r log (ReportFault o) Pays h k = absurd k
one_rule p r log (ReportFault o) (LogForm place) h k = absurd k
one_rule p r log (ReportFault o) Memory h k = absurd k
one_rule p r log Answer (Psbt e) h k = absurd k
one_rule p r log Answer (Coin point) h k = absurd k
one_rule p r log Answer Pays h k = absurd k
one_rule p r log Answer (LogForm place) h k = absurd k
one_rule p r log Answer Memory h k = absurd k
