-- Readers that are exact: what they read is a text of their grammar, such a text is read, and where they stop no text
-- goes on. Parts are put one behind the other.
use Rattle.std.proofs.Common.{◌≡◌, ℕ, ◌+◌, ◌≤◌, List, [], ◌∷◌, ◌++◌, length, Result, Ok, Err, ◌⊎◌, inl, inr, refl, sym, ap, subst, ◌∙◌, append_assoc, arith}
use Rattle.std.proofs.lemmas.List.{append-nil, length-append}
use Rattle.fund_base.specs.Parsing.{◌>>=◌}
use Rattle.closing_log.specs.Exact.{Begins, StopsAt, NoneGoesOn}

-- ---- lists with a common beginning

pub record Longer (a b : List ℕ) : Type 0 where
  pub more : List ℕ
  pub is : a ≡ b ++ more

pub overlap : (a b u v : List ℕ) → a ++ u ≡ b ++ v → Longer a b ⊎ Longer b a
overlap [] b u v e = inr (record { more = b; is = refl })
overlap (x ∷ a) [] u v e = inl (record { more = x ∷ a; is = refl })
overlap (x ∷ a) (y ∷ b) u v e =
    let heads : x ≡ y = cc in
    let tails : a ++ u ≡ b ++ v = cc in
    elim (overlap a b u v tails) [
      | inl l ↦ inl (record { more = l.more; is = let h = l.is in cc })
      | inr l ↦ inr (record { more = l.more; is = let h = l.is in cc })
    ]

-- a byte is moved from one side to the other
pub one_on : (a : List ℕ) (b : ℕ) (r : List ℕ) → (a ++ b ∷ []) ++ r ≡ a ++ b ∷ r
one_on a b r = append_assoc a (b ∷ []) r

-- ---- where reading stops

-- nothing goes on where what would go on leads to what doesn't
pub none_of : {X Y : Type 0} (M : List ℕ → X → Type 0) (N : List ℕ → Y → Type 0) (f g stop : List ℕ)
    → ((b : ℕ) (r : List ℕ) → stop ≡ b ∷ r → Begins M (f ++ b ∷ []) → Begins N (g ++ b ∷ [])) → NoneGoesOn N g stop → NoneGoesOn M f stop
none_of M N f g [] lead never = tt
none_of M N f g (b ∷ r) lead never = λ begins. never (lead b r refl begins)

-- ---- parts and wholes

-- a text of a value, and what stands behind it
pub record Held {X : Type 0} (Means : List ℕ → X → Type 0) (bytes : List ℕ) (x : X × List ℕ) : Type 0 where
  pub text : List ℕ
  pub parts : bytes ≡ text ++ x.1
  pub means : Means text x.0

pub record Piece {X : Type 0} (item : List ℕ → Result (X × List ℕ) (List ℕ)) (Means : List ℕ → X → Type 0) : Type 0 where
  pub takes : (bytes : List ℕ) (x : X × List ℕ) → item bytes ≡ Ok x → Held Means bytes x
  pub again : (text rest : List ℕ) (x : X) → Means text x → item (text ++ rest) ≡ Ok (x, rest)
  pub stops : (bytes stop : List ℕ) → item bytes ≡ Err stop → StopsAt Means bytes stop
  pub some : Begins Means []

-- the same of bytes as a whole, up to a length
pub record Law {Y : Type 0} (n : ℕ) (item : List ℕ → Result Y (List ℕ)) (Means : List ℕ → Y → Type 0) : Type 0 where
  pub takes : (bytes : List ℕ) (y : Y) → length bytes ≤ n → item bytes ≡ Ok y → Means bytes y
  pub again : (bytes : List ℕ) (y : Y) → length bytes ≤ n → Means bytes y → item bytes ≡ Ok y
  pub stops : (bytes stop : List ℕ) → length bytes ≤ n → item bytes ≡ Err stop → StopsAt Means bytes stop
  pub some : Begins Means []

pub ok_is : {A E : Type 0} (x y : A) (r : Result A E) → r ≡ Ok x → r ≡ Ok y → x ≡ y
ok_is x y r p q = cc

pub not_both : {A E : Type 0} (x : A) (e : E) (r : Result A E) → r ≡ Ok x → r ≡ Err e → ⊥
not_both x e r p q = cc

-- a part and anything behind it
piece_never : {X : Type 0} (item : List ℕ → Result (X × List ℕ) (List ℕ)) (Means : List ℕ → X → Type 0) → Piece item Means
    → (bytes stop : List ℕ) → item bytes ≡ Err stop → (s : StopsAt Means bytes stop) → NoneGoesOn (Held Means) s.front stop
piece_never item Means law bytes stop e s =
    none_of (Held Means) Means s.front s.front stop
    (λ b r is begins.
    let h = begins.means in
    elim (overlap h.text (s.front ++ b ∷ []) begins.value.1 begins.more (sym h.parts)) [
      | inl l ↦ record { more = l.more; value = begins.value.0; means = subst (λ t. Means t begins.value.0) l.is h.means }
      | inr l ↦
          let whole : bytes ≡ h.text ++ (l.more ++ r) = s.parts ∙ ap (λ t. s.front ++ t) is ∙ sym (one_on s.front b r) ∙ ap (λ t. t ++ r) l.is ∙ append_assoc h.text l.more r in
          absurd (not_both (begins.value.0, l.more ++ r) stop (item bytes) (ap item whole ∙ law.again h.text (l.more ++ r) begins.value.0 h.means) e)
    ])
    s.never

pub law_of : {X : Type 0} (n : ℕ) (item : List ℕ → Result (X × List ℕ) (List ℕ)) (Means : List ℕ → X → Type 0) → Piece item Means → Law n item (Held Means)
law_of {X = X} n item Means law = record {
  takes = λ bytes x le e. law.takes bytes x e;
  again = λ bytes x le h. ap item h.parts ∙ law.again h.text x.1 x.0 h.means;
  stops = λ bytes stop le e.
      let s = law.stops bytes stop e in
      record {
        front = s.front;
        parts = s.parts;
        begins = record { more = s.begins.more; value = (s.begins.value, []); means = record { text = s.front ++ s.begins.more; parts = sym (append-nil (s.front ++ s.begins.more)); means = s.begins.means } };
        never = piece_never item Means law bytes stop e s;
      };
  some = record { more = law.some.more; value = (law.some.value, []); means = record { text = law.some.more; parts = sym (append-nil law.some.more); means = law.some.means } };
}

-- a law of bytes as a whole whose value is a part and what stands behind it
pub piece_of : {X : Type 0} (item : ℕ → List ℕ → Result (X × List ℕ) (List ℕ)) (Means : List ℕ → X → Type 0) → ((n : ℕ) → Law n (item n) (Held Means)) → Begins Means [] → Piece (λ bytes. item (length bytes) bytes) Means
piece_of {X = X} item Means laws some = record {
  takes = λ bytes x e. (laws (length bytes)).takes bytes x (omega arith) e;
  again = λ text rest x means. (laws (length (text ++ rest))).again (text ++ rest) (x, rest) (omega arith) (record { text = text; parts = refl; means = means });
  stops = λ bytes stop e.
      let law = laws (length bytes) in
      let s = law.stops bytes stop (omega arith) e in
      let h = s.begins.means in
      record {
        front = s.front;
        parts = s.parts;
        begins = elim (overlap h.text s.front s.begins.value.1 s.begins.more (sym h.parts)) [
          | inl l ↦ record { more = l.more; value = s.begins.value.0; means = subst (λ t. Means t s.begins.value.0) l.is h.means }
          | inr l ↦
              let whole : bytes ≡ h.text ++ (l.more ++ stop) = s.parts ∙ ap (λ t. t ++ stop) l.is ∙ append_assoc h.text l.more stop in
              absurd (not_both (s.begins.value.0, l.more ++ stop) stop (item (length bytes) bytes) (law.again bytes (s.begins.value.0, l.more ++ stop) (omega arith) (record { text = h.text; parts = whole; means = h.means })) e)
        ];
        never = none_of Means (Held Means) s.front s.front stop
            (λ b r is begins. record { more = begins.more; value = (begins.value, []); means = record { text = (s.front ++ b ∷ []) ++ begins.more; parts = sym (append-nil ((s.front ++ b ∷ []) ++ begins.more)); means = begins.means } })
            s.never;
      };
  some = some;
}

-- ---- one behind the other

-- a part, and what stands behind it as the part says
pub record Then {X Y : Type 0} (First : List ℕ → X → Type 0) (Others : X → List ℕ → Y → Type 0) (bytes : List ℕ) (y : Y) : Type 0 where
  pub value : X
  pub front : List ℕ
  pub back : List ℕ
  pub parts : bytes ≡ front ++ back
  pub first : First front value
  pub others : Others value back y

-- the value of a step that did not fail, or its fault
pub data Bound {A B : Type 0} (r : Result A (List ℕ)) (f : A → Result B (List ℕ)) (whole : Result B (List ℕ)) : Type 0 where
  went : (x : A) → r ≡ Ok x → whole ≡ f x → Bound r f whole
  failed : (d : List ℕ) → r ≡ Err d → whole ≡ Err d → Bound r f whole

pub bound : {A B : Type 0} (r : Result A (List ℕ)) (f : A → Result B (List ℕ)) → Bound r f (r >>= f)
bound (Ok x) f = went x refl refl
bound (Err d) f = failed d refl refl

pub then_law : {X Y : Type 0} (m n : ℕ) (item : List ℕ → Result (X × List ℕ) (List ℕ)) (Means : List ℕ → X → Type 0) (others : X → List ℕ → Result Y (List ℕ)) (Others : X → List ℕ → Y → Type 0)
    → ((text : List ℕ) (x : X) → Means text x → m ≤ n + length text) → Piece item Means → ((x : X) → Law n (others x) (Others x))
    → Law m (λ bytes. item bytes >>= λ x. others x.0 x.1) (Then Means Others)
then_law {X = X} {Y = Y} m n item Means others Others long law laws = record {
  takes = λ bytes y le e. elim (bound (item bytes) (λ x. others x.0 x.1)) [
    | went x is whole ↦
        let h = law.takes bytes x is in
        let short : length x.1 ≤ n = omega (arith, long h.text x.0 h.means, ap length h.parts, length-append h.text x.1) in
        record { value = x.0; front = h.text; back = x.1; parts = h.parts; first = h.means; others = (laws x.0).takes x.1 y short (sym whole ∙ e) }
    | failed d is whole ↦ absurd (not_both y d (item bytes >>= λ x. others x.0 x.1) e whole)
  ];
  again = λ bytes y le t.
      let short : length t.back ≤ n = omega (arith, long t.front t.value t.first, ap length t.parts, length-append t.front t.back) in
      let first : item bytes ≡ Ok (t.value, t.back) = ap item t.parts ∙ law.again t.front t.back t.value t.first in
      ap (λ (r : Result (X × List ℕ) (List ℕ)). r >>= λ x. others x.0 x.1) first ∙ (laws t.value).again t.back y short t.others;
  stops = λ bytes stop le e. elim (bound (item bytes) (λ x. others x.0 x.1)) [
    | failed d is whole ↦
        let same : d ≡ stop = (let k = sym whole ∙ e in cc) in
        let failed_here : item bytes ≡ Err stop = is ∙ ap (λ (s : List ℕ). Err s) same in
        let s = law.stops bytes stop failed_here in
        let after = (laws s.begins.value).some in
        record {
          front = s.front;
          parts = s.parts;
          begins = record { more = s.begins.more ++ after.more; value = after.value; means = record { value = s.begins.value; front = s.front ++ s.begins.more; back = after.more; parts = sym (append_assoc s.front s.begins.more after.more); first = s.begins.means; others = after.means } };
          never = none_of (Then Means Others) (Held Means) s.front s.front stop
              (λ b r is begins. let t = begins.means in record { more = begins.more; value = (t.value, t.back); means = record { text = t.front; parts = t.parts; means = t.first } })
              (piece_never item Means law bytes stop failed_here s);
        }
    | went x is whole ↦
        let h = law.takes bytes x is in
        let short : length x.1 ≤ n = omega (arith, long h.text x.0 h.means, ap length h.parts, length-append h.text x.1) in
        let s = (laws x.0).stops x.1 stop short (sym whole ∙ e) in
        record {
          front = h.text ++ s.front;
          parts = h.parts ∙ ap (λ t. h.text ++ t) s.parts ∙ sym (append_assoc h.text s.front stop);
          begins = record { more = s.begins.more; value = s.begins.value; means = record { value = x.0; front = h.text; back = s.front ++ s.begins.more; parts = append_assoc h.text s.front s.begins.more; first = h.means; others = s.begins.means } };
          never = none_of (Then Means Others) (Others x.0) (h.text ++ s.front) s.front stop
              (λ b r is begins.
              let t = begins.means in
              let regroup : ((h.text ++ s.front) ++ b ∷ []) ++ begins.more ≡ h.text ++ ((s.front ++ b ∷ []) ++ begins.more) = simp append_assoc in
              let one = law.again h.text ((s.front ++ b ∷ []) ++ begins.more) x.0 h.means in
              let two = law.again t.front t.back t.value t.first in
              let same : (x.0, (s.front ++ b ∷ []) ++ begins.more) ≡ (t.value, t.back) = ok_is (x.0, (s.front ++ b ∷ []) ++ begins.more) (t.value, t.back) (item (h.text ++ ((s.front ++ b ∷ []) ++ begins.more))) one (ap item (sym regroup ∙ t.parts) ∙ two) in
              record { more = begins.more; value = begins.value; means = subst (λ (p : X × List ℕ). Others p.0 p.1 begins.value) (sym same) t.others })
              s.never;
        }
  ];
  some =
      let after = (laws law.some.value).some in
      record { more = law.some.more ++ after.more; value = after.value; means = record { value = law.some.value; front = law.some.more; back = after.more; parts = refl; first = law.some.means; others = after.means } };
}

-- ---- the same told otherwise

-- another relation that says the same
pub law_as : {Y : Type 0} (n : ℕ) (item : List ℕ → Result Y (List ℕ)) (Means Told : List ℕ → Y → Type 0)
    → ((bytes : List ℕ) (y : Y) → Means bytes y → Told bytes y) → ((bytes : List ℕ) (y : Y) → Told bytes y → Means bytes y) → Law n item Means → Law n item Told
law_as n item Means Told to from law = record {
  takes = λ bytes y le e. to bytes y (law.takes bytes y le e);
  again = λ bytes y le t. law.again bytes y le (from bytes y t);
  stops = λ bytes stop le e.
      let s = law.stops bytes stop le e in
      record {
        front = s.front;
        parts = s.parts;
        begins = record { more = s.begins.more; value = s.begins.value; means = to (s.front ++ s.begins.more) s.begins.value s.begins.means };
        never = none_of Told Means s.front s.front stop (λ b r is begins. record { more = begins.more; value = begins.value; means = from ((s.front ++ b ∷ []) ++ begins.more) begins.value begins.means }) s.never;
      };
  some = record { more = law.some.more; value = law.some.value; means = to law.some.more law.some.value law.some.means };
}

-- a value made of another
pub record Made {Y Z : Type 0} (make : Y → Z) (Means : List ℕ → Y → Type 0) (bytes : List ℕ) (z : Z) : Type 0 where
  pub value : Y
  pub is : z ≡ make value
  pub means : Means bytes value

pub made_law : {Y Z : Type 0} (n : ℕ) (make : Y → Z) (item : List ℕ → Result Y (List ℕ)) (Means : List ℕ → Y → Type 0) → Law n item Means → Law n (λ bytes. item bytes >>= λ y. Ok (make y)) (Made make Means)
made_law {Y = Y} {Z = Z} n make item Means law = record {
  takes = λ bytes z le e. elim (bound (item bytes) (λ y. Ok (make y))) [
    | went y is whole ↦ record { value = y; is = ok_is z (make y) (item bytes >>= λ y. Ok (make y)) e whole; means = law.takes bytes y le is }
    | failed d is whole ↦ absurd (not_both z d (item bytes >>= λ y. Ok (make y)) e whole)
  ];
  again = λ bytes z le m. ap (λ (r : Result Y (List ℕ)). r >>= λ y. Ok (make y)) (law.again bytes m.value le m.means) ∙ ap (λ (v : Z). Ok v) (sym m.is);
  stops = λ bytes stop le e. elim (bound (item bytes) (λ y. Ok (make y))) [
    | went y is whole ↦ absurd (not_both (make y) stop (item bytes >>= λ y. Ok (make y)) whole e)
    | failed d is whole ↦
        let same : d ≡ stop = (let k = sym whole ∙ e in cc) in
        let s = law.stops bytes stop le (is ∙ ap (λ (t : List ℕ). Err t) same) in
        record {
          front = s.front;
          parts = s.parts;
          begins = record { more = s.begins.more; value = make s.begins.value; means = record { value = s.begins.value; is = refl; means = s.begins.means } };
          never = none_of (Made make Means) Means s.front s.front stop (λ b r is begins. record { more = begins.more; value = begins.means.value; means = begins.means.means }) s.never;
        }
  ];
  some = record { more = law.some.more; value = make law.some.value; means = record { value = law.some.value; is = refl; means = law.some.means } };
}
