-- The letters of a section and what ends them are read exactly.
use Rattle.std.proofs.Common.{◌≡◌, ℕ, suc, Bool, true, false, eqb, List, [], ◌∷◌, ◌++◌, length, take, drop, Result, Ok, Err, Option, ◌⊎◌, inl, inr, refl, sym, ap, subst, ◌∙◌, append_assoc, arith, eqb-true, one-add}
use Rattle.std.specs.Prelude.{⊤, codes}
use Rattle.std.specs.List.{AllByRecursion, prefix_len}
use Rattle.std.proofs.lemmas.Bool.{eqb-false}
use Rattle.std.proofs.lemmas.List.{append-nil, take-append-drop, take_at, drop_at}
use Rattle.fund_base.specs.Parsing.{◌>>=◌}
use Rattle.closing_log.specs.declared.part.Head.{Head}
use Rattle.closing_log.specs.declared.part.Part.{Part}
use Rattle.closing_log.specs.declared.part.Part.TheVariants.{Open, Closed}
use Rattle.closing_log.specs.Exact.{StopsAt}
use Rattle.closing_log.specs.Reading.{word_at, answer_at, both_at, is_letter, letters_end, letters_rest, section_of, open_of, closing_at, section_rest}
use Rattle.closing_log.proofs.Exactness.{Piece, Law, Held, Made, law_of, none_of, not_both, one_on}
use Rattle.closing_log.proofs.PartLaws.{Both, both_piece, made_piece}
use Rattle.closing_log.proofs.WordLaws.{IsWord, word_piece}
use Rattle.closing_log.proofs.DigestLaws.{FailsFirst, passing, passes_at}
use Rattle.closing_log.proofs.AnswerLaws.{IsAnswerText, answer_piece}

abbrev pub AreLetters : List ℕ → Type 0
AreLetters letters = AllByRecursion (λ b. is_letter b ≡ true) letters

-- ---- the line of the answer

abbrev pub closed_of : Head → List ℕ → ⊤ × Option (List ℕ) → Part
closed_of h letters a = Closed (section_of h letters a.1)

abbrev pub IsClosing : Head → List ℕ → List ℕ → Part → Type 0
IsClosing h letters = Made (closed_of h letters) (Both (IsWord (codes "answer ")) (λ u. IsAnswerText))

closing_piece : (h : Head) (letters : List ℕ) → Piece (closing_at h letters) (IsClosing h letters)
closing_piece h letters =
    made_piece (closed_of h letters) (both_at (word_at (codes "answer ")) (λ u. answer_at)) (Both (IsWord (codes "answer ")) (λ u. IsAnswerText))
    (both_piece (word_at (codes "answer ")) (λ u. answer_at) (IsWord (codes "answer ")) (λ u. IsAnswerText) (word_piece (codes "answer ")) (λ u. answer_piece))

-- ---- the letters and what ends them

pub data Rest (h : Head) (bytes : List ℕ) (y : Part × List ℕ) : Type 0 where
  open_rest : AreLetters bytes → y ≡ (Open (open_of h bytes), []) → Rest h bytes y
  closed_rest : (c : ℕ) (cs back : List ℕ) → AreLetters (c ∷ cs) → bytes ≡ (c ∷ cs) ++ 10 ∷ back → Held (IsClosing h (c ∷ cs)) back y → Rest h bytes y

-- letters before a byte that is none are those up to it
letters_same : (a : List ℕ) (x : ℕ) (u b : List ℕ) (y : ℕ) (v : List ℕ) → AreLetters a → is_letter x ≡ false → AreLetters b → is_letter y ≡ false → a ++ x ∷ u ≡ b ++ y ∷ v → (a ≡ b) × (x ≡ y) × (u ≡ v)
letters_same [] x u [] y v fa fx fb fy e = (refl, cc, cc)
letters_same [] x u (c ∷ b) y v fa fx fb fy e = absurd (let heads : x ≡ c = cc in let no : true ≡ false = sym fb.0 ∙ ap is_letter (sym heads) ∙ fx in cc)
letters_same (c ∷ a) x u [] y v fa fx fb fy e = absurd (let heads : c ≡ y = cc in let no : true ≡ false = sym fa.0 ∙ ap is_letter heads ∙ fy in cc)
letters_same (c ∷ a) x u (d ∷ b) y v fa fx fb fy e =
    let tails : a ++ x ∷ u ≡ b ++ y ∷ v = cc in
    let heads : c ≡ d = cc in
    let s = letters_same a x u b y v fa.1 fx fb.1 fy tails in
    (let q = s.0 in cc, s.1, s.2)

prefix_here : (a b : List ℕ) → AreLetters a → FailsFirst is_letter b → prefix_len is_letter (a ++ b) ≡ length a
prefix_here [] [] fa fb = refl
prefix_here [] (x ∷ b) fa fb = rw fb refl
prefix_here (c ∷ a) b fa fb = let first : is_letter c ≡ true = fa.0 in rw first (one-add (prefix_len is_letter (a ++ b)) ∙ ap suc (prefix_here a b fa.1 fb))

-- reading from letters and what stands behind them
abbrev rest_of : Head → List ℕ → List ℕ → Result (Part × List ℕ) (List ℕ)
rest_of h letters behind = letters_end letters behind >>= letters_rest h

rest_here : (h : Head) (a b : List ℕ) → AreLetters a → FailsFirst is_letter b → section_rest h (a ++ b) ≡ rest_of h a b
rest_here h a b fa fb =
    let n = prefix_here a b fa fb in
    let front : take (prefix_len is_letter (a ++ b)) (a ++ b) ≡ a = ap (λ k. take k (a ++ b)) n ∙ take_at a b (length a) refl in
    let back : drop (prefix_len is_letter (a ++ b)) (a ++ b) ≡ b = ap (λ k. drop k (a ++ b)) n ∙ drop_at a b (length a) refl in
    rw (front, back) refl

-- what reading from letters gives
end_none : (letters : List ℕ) → letters_end letters [] ≡ Ok ((letters, false), [])
unfolding letters_end
end_none [] = refl
end_none (c ∷ cs) = refl

end_feed : (c : ℕ) (cs back : List ℕ) → letters_end (c ∷ cs) (10 ∷ back) ≡ Ok ((c ∷ cs, true), back)
unfolding letters_end
end_feed c cs back = refl

abbrev IsFeedAfter : List ℕ → ℕ → Type 0
IsFeedAfter [] b = ⊥
IsFeedAfter (c ∷ cs) b = b ≡ 10

end_by : (c : ℕ) (cs : List ℕ) (b : ℕ) (back : List ℕ) (t : Bool) → eqb b 10 ≡ t → (letters_end (c ∷ cs) (b ∷ back) ≡ Err (b ∷ back)) × (b ≡ 10 → ⊥) ⊎ (b ≡ 10)
unfolding letters_end
end_by c cs b back true is = inr (eqb-true b 10 is)
end_by c cs b back false is = inl (rw is refl, eqb-false b 10 is)

end_other : (letters : List ℕ) (b : ℕ) (back : List ℕ) → (letters_end letters (b ∷ back) ≡ Err (b ∷ back)) × (IsFeedAfter letters b → ⊥) ⊎ IsFeedAfter letters b
unfolding letters_end
end_other [] b back = inl (refl, λ h. h)
end_other (c ∷ cs) b back = end_by c cs b back (eqb b 10) refl

-- ---- takes, again, stops

rest_again : (h : Head) (bytes : List ℕ) (y : Part × List ℕ) → Rest h bytes y → section_rest h bytes ≡ Ok y
rest_again h bytes y (open_rest all is) =
    let read : section_rest h (bytes ++ []) ≡ rest_of h bytes [] = rest_here h bytes [] all tt in
    ap (section_rest h) (sym (append-nil bytes)) ∙ read ∙ ap (λ r. r >>= letters_rest h) (end_none bytes) ∙ ap (λ (z : Part × List ℕ). Ok z) (sym is)
rest_again h bytes y (closed_rest c cs back all parts held) =
    let read : section_rest h ((c ∷ cs) ++ 10 ∷ back) ≡ rest_of h (c ∷ cs) (10 ∷ back) = rest_here h (c ∷ cs) (10 ∷ back) all refl in
    ap (section_rest h) parts ∙ read ∙ ap (λ r. r >>= letters_rest h) (end_feed c cs back) ∙ ap (closing_at h (c ∷ cs)) held.parts ∙ (closing_piece h (c ∷ cs)).again held.text y.1 y.0 held.means

takes_nothing : (h : Head) (a : List ℕ) (b : ℕ) (back : List ℕ) (y : Part × List ℕ) → (IsFeedAfter a b → ⊥) → (letters_end a (b ∷ back) ≡ Err (b ∷ back)) × (IsFeedAfter a b → ⊥) ⊎ IsFeedAfter a b → rest_of h a (b ∷ back) ≡ Ok y → ⊥
takes_nothing h a b back y never (inl other) e = not_both y (b ∷ back) (rest_of h a (b ∷ back)) e (ap (λ r. r >>= letters_rest h) other.0)
takes_nothing h a b back y never (inr is) e = never is

takes_feed : (h : Head) (c : ℕ) (cs : List ℕ) (b : ℕ) (back : List ℕ) (y : Part × List ℕ) → AreLetters (c ∷ cs) → (letters_end (c ∷ cs) (b ∷ back) ≡ Err (b ∷ back)) × (b ≡ 10 → ⊥) ⊎ (b ≡ 10) → rest_of h (c ∷ cs) (b ∷ back) ≡ Ok y → Rest h ((c ∷ cs) ++ b ∷ back) y
takes_feed h c cs b back y all (inl other) e = absurd (not_both y (b ∷ back) (rest_of h (c ∷ cs) (b ∷ back)) e (ap (λ r. r >>= letters_rest h) other.0))
takes_feed h c cs b back y all (inr is) e =
    let parts : (c ∷ cs) ++ b ∷ back ≡ (c ∷ cs) ++ 10 ∷ back = ap (λ k. (c ∷ cs) ++ k ∷ back) is in
    let read : closing_at h (c ∷ cs) back ≡ Ok y = sym (ap (λ k. rest_of h (c ∷ cs) (k ∷ back)) is ∙ ap (λ r. r >>= letters_rest h) (end_feed c cs back)) ∙ e in
    closed_rest c cs back all parts ((closing_piece h (c ∷ cs)).takes back y read)

takes_from : (h : Head) (a b : List ℕ) (y : Part × List ℕ) → AreLetters a → rest_of h a b ≡ Ok y → Rest h (a ++ b) y
takes_from h a [] y all e =
    let is : (Open (open_of h a), []) ≡ y = (let k = sym (ap (λ r. r >>= letters_rest h) (end_none a)) ∙ e in cc) in
    subst (λ (t : List ℕ). Rest h t y) (sym (append-nil a)) (open_rest all (sym is))
takes_from h [] (b ∷ back) y all e = absurd (takes_nothing h [] b back y (λ f. f) (end_other [] b back) e)
takes_from h (c ∷ cs) (b ∷ back) y all e = takes_feed h c cs b back y all (end_other (c ∷ cs) b back) e

never_here : (h : Head) (a : List ℕ) (b : ℕ) (more : List ℕ) (y : Part × List ℕ) → AreLetters a → is_letter b ≡ false → (IsFeedAfter a b → ⊥) → Rest h ((a ++ b ∷ []) ++ more) y → ⊥
never_here h a b more y all fails never (open_rest letters is) =
    let fits : is_letter b ≡ true = passes_at is_letter a b more letters in
    let both : true ≡ false = sym fits ∙ fails in
    absurd cc
never_here h a b more y all fails never (closed_rest c cs back letters parts held) =
    let s = letters_same a b more (c ∷ cs) 10 back all fails letters refl (sym (one_on a b more) ∙ parts) in
    never (subst (λ (l : List ℕ). IsFeedAfter l b) (sym s.0) s.1)

stops_here : (h : Head) (a : List ℕ) (b : ℕ) (back : List ℕ) → AreLetters a → is_letter b ≡ false → (IsFeedAfter a b → ⊥) → StopsAt (Rest h) (a ++ b ∷ back) (b ∷ back)
stops_here h a b back all fails never = record {
  front = a;
  parts = refl;
  begins = record { more = []; value = (Open (open_of h (a ++ [])), []); means = open_rest (subst AreLetters (sym (append-nil a)) all) refl };
  never = λ begins. never_here h a b begins.more begins.value all fails never begins.means;
}

-- what goes on behind the line feed
closing_begins : (h : Head) (c : ℕ) (cs f : List ℕ) (d : ℕ) (more : List ℕ) (y : Part × List ℕ) → AreLetters (c ∷ cs) → Rest h ((((c ∷ cs) ++ 10 ∷ f) ++ d ∷ []) ++ more) y → Held (IsClosing h (c ∷ cs)) ((f ++ d ∷ []) ++ more) y
closing_begins h c cs f d more y all (open_rest letters is) =
    let regroup : (((c ∷ cs) ++ 10 ∷ f) ++ d ∷ []) ++ more ≡ ((c ∷ cs) ++ 10 ∷ []) ++ ((f ++ d ∷ []) ++ more) = ap (λ t. t ++ more) (append_assoc (c ∷ cs) (10 ∷ f) (d ∷ [])) ∙ append_assoc (c ∷ cs) (10 ∷ (f ++ d ∷ [])) more ∙ sym (one_on (c ∷ cs) 10 ((f ++ d ∷ []) ++ more)) in
    let fits : is_letter 10 ≡ true = passes_at is_letter (c ∷ cs) 10 ((f ++ d ∷ []) ++ more) (subst AreLetters regroup letters) in
    absurd cc
closing_begins h c cs f d more y all (closed_rest e es back letters parts held) =
    let regroup : (((c ∷ cs) ++ 10 ∷ f) ++ d ∷ []) ++ more ≡ (c ∷ cs) ++ 10 ∷ ((f ++ d ∷ []) ++ more) = ap (λ t. t ++ more) (append_assoc (c ∷ cs) (10 ∷ f) (d ∷ [])) ∙ append_assoc (c ∷ cs) (10 ∷ (f ++ d ∷ [])) more in
    let s = letters_same (c ∷ cs) 10 ((f ++ d ∷ []) ++ more) (e ∷ es) 10 back all refl letters refl (sym regroup ∙ parts) in
    subst (λ (t : List ℕ). Held (IsClosing h (c ∷ cs)) t y) (sym s.2) (subst (λ (l : List ℕ). Held (IsClosing h l) back y) (sym s.0) held)

stops_closing : (h : Head) (c : ℕ) (cs back stop : List ℕ) → AreLetters (c ∷ cs) → StopsAt (Held (IsClosing h (c ∷ cs))) back stop → StopsAt (Rest h) ((c ∷ cs) ++ 10 ∷ back) stop
stops_closing h c cs back stop all s = record {
  front = (c ∷ cs) ++ 10 ∷ s.front;
  parts = ap (λ t. (c ∷ cs) ++ 10 ∷ t) s.parts ∙ sym (append_assoc (c ∷ cs) (10 ∷ s.front) stop);
  begins = record {
    more = s.begins.more;
    value = s.begins.value;
    means = closed_rest c cs (s.front ++ s.begins.more) all (append_assoc (c ∷ cs) (10 ∷ s.front) s.begins.more) s.begins.means;
  };
  never = none_of (Rest h) (Held (IsClosing h (c ∷ cs))) ((c ∷ cs) ++ 10 ∷ s.front) s.front stop
      (λ d r is begins. record { more = begins.more; value = begins.value; means = closing_begins h c cs s.front d begins.more begins.value all begins.means })
      s.never;
}

stops_feed : (h : Head) (a : List ℕ) (b : ℕ) (back stop : List ℕ) → AreLetters a → IsFeedAfter a b → rest_of h a (b ∷ back) ≡ Err stop → StopsAt (Rest h) (a ++ b ∷ back) stop
stops_feed h [] b back stop all is e = absurd is
stops_feed h (c ∷ cs) b back stop all is e =
    let read : closing_at h (c ∷ cs) back ≡ Err stop = sym (ap (λ k. rest_of h (c ∷ cs) (k ∷ back)) is ∙ ap (λ r. r >>= letters_rest h) (end_feed c cs back)) ∙ e in
    let s = (law_of (length back) (closing_at h (c ∷ cs)) (IsClosing h (c ∷ cs)) (closing_piece h (c ∷ cs))).stops back stop (omega arith) read in
    subst (λ (k : ℕ). StopsAt (Rest h) ((c ∷ cs) ++ k ∷ back) stop) (sym is) (stops_closing h c cs back stop all s)

stops_from : (h : Head) (a b stop : List ℕ) → AreLetters a → FailsFirst is_letter b → rest_of h a b ≡ Err stop → StopsAt (Rest h) (a ++ b) stop
stops_from h a [] stop all fails e = absurd (not_both (Open (open_of h a), []) stop (rest_of h a []) (ap (λ r. r >>= letters_rest h) (end_none a)) e)
stops_from h a (b ∷ back) stop all fails e =
    elim (end_other a b back) [
      | inl other ↦
          let is : b ∷ back ≡ stop = (let k = sym (ap (λ r. r >>= letters_rest h) other.0) ∙ e in cc) in
          subst (λ (s : List ℕ). StopsAt (Rest h) (a ++ b ∷ back) s) is (stops_here h a b back all fails other.1)
      | inr is ↦ stops_feed h a b back stop all is e
    ]

pub rest_law : (n : ℕ) (h : Head) → Law n (section_rest h) (Rest h)
rest_law n h = record {
  takes = λ bytes y le e.
      let p = passing is_letter bytes in
      subst (λ (t : List ℕ). Rest h t y) (take-append-drop (prefix_len is_letter bytes) bytes) (takes_from h (take (prefix_len is_letter bytes) bytes) (drop (prefix_len is_letter bytes) bytes) y p.all e);
  again = λ bytes y le r. rest_again h bytes y r;
  stops = λ bytes stop le e.
      let p = passing is_letter bytes in
      subst (λ (t : List ℕ). StopsAt (Rest h) t stop) (take-append-drop (prefix_len is_letter bytes) bytes) (stops_from h (take (prefix_len is_letter bytes) bytes) (drop (prefix_len is_letter bytes) bytes) stop p.all p.stops e);
  some = record { more = []; value = (Open (open_of h []), []); means = open_rest tt refl };
}
