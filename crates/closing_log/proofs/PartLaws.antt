-- Parts that are made of parts.
use Rattle.std.proofs.Common.{◌≡◌, ℕ, List, [], ◌∷◌, ◌++◌, Result, Ok, refl, sym, ap, subst, ◌∙◌, append_assoc, arith}
use Rattle.fund_base.specs.Parsing.{◌>>=◌}
use Rattle.closing_log.specs.Reading.{both_at, made_at}
use Rattle.closing_log.proofs.Exactness.{Piece, Held, Then, Made, then_law, made_law, law_as, law_of, piece_of, none_of}

-- another relation that says the same
pub piece_as : {X : Type 0} (item : List ℕ → Result (X × List ℕ) (List ℕ)) (Means Told : List ℕ → X → Type 0)
    → ((text : List ℕ) (x : X) → Means text x → Told text x) → ((text : List ℕ) (x : X) → Told text x → Means text x) → Piece item Means → Piece item Told
piece_as item Means Told to from law = record {
  takes = λ bytes x e. let h = law.takes bytes x e in record { text = h.text; parts = h.parts; means = to h.text x.0 h.means };
  again = λ text rest x t. law.again text rest x (from text x t);
  stops = λ bytes stop e.
      let s = law.stops bytes stop e in
      record {
        front = s.front;
        parts = s.parts;
        begins = record { more = s.begins.more; value = s.begins.value; means = to (s.front ++ s.begins.more) s.begins.value s.begins.means };
        never = none_of Told Means s.front s.front stop (λ b r is begins. record { more = begins.more; value = begins.value; means = from ((s.front ++ b ∷ []) ++ begins.more) begins.value begins.means }) s.never;
      };
  some = record { more = law.some.more; value = law.some.value; means = to law.some.more law.some.value law.some.means };
}

pub record Both {X Y : Type 0} (First : List ℕ → X → Type 0) (Second : X → List ℕ → Y → Type 0) (text : List ℕ) (v : X × Y) : Type 0 where
  pub front : List ℕ
  pub back : List ℕ
  pub parts : text ≡ front ++ back
  pub first : First front v.0
  pub second : Second v.0 back v.1

abbrev paired : {X Y : Type 0} → X → Y × List ℕ → (X × Y) × List ℕ
paired x y = ((x, y.0), y.1)

both_to : {X Y : Type 0} (First : List ℕ → X → Type 0) (Second : X → List ℕ → Y → Type 0) (bytes : List ℕ) (z : (X × Y) × List ℕ)
    → Then First (λ x. Made (paired x) (Held (Second x))) bytes z → Held (Both First Second) bytes z
both_to {X = X} {Y = Y} First Second bytes z t =
    let m = t.others in
    let h = m.means in
    let made : (X × Y) × List ℕ = ((t.value, m.value.0), m.value.1) in
    subst (λ (y : (X × Y) × List ℕ). Held (Both First Second) bytes y) (sym m.is)
    (record {
      text = t.front ++ h.text;
      parts = t.parts ∙ ap (λ b. t.front ++ b) h.parts ∙ sym (append_assoc t.front h.text m.value.1);
      means = record { front = t.front; back = h.text; parts = refl; first = t.first; second = h.means };
    })

both_from : {X Y : Type 0} (First : List ℕ → X → Type 0) (Second : X → List ℕ → Y → Type 0) (bytes : List ℕ) (z : (X × Y) × List ℕ)
    → Held (Both First Second) bytes z → Then First (λ x. Made (paired x) (Held (Second x))) bytes z
both_from First Second bytes z h =
    let m = h.means in
    record {
      value = z.0.0;
      front = m.front;
      back = m.back ++ z.1;
      parts = h.parts ∙ ap (λ t. t ++ z.1) m.parts ∙ append_assoc m.front m.back z.1;
      first = m.first;
      others = record { value = (z.0.1, z.1); is = refl; means = record { text = m.back; parts = refl; means = m.second } };
    }

abbrev made_pair : {X Y : Type 0} → (X → List ℕ → Result (Y × List ℕ) (List ℕ)) → X → List ℕ → Result ((X × Y) × List ℕ) (List ℕ)
made_pair second x bytes = second x bytes >>= λ y. Ok ((x, y.0), y.1)

pub both_piece : {X Y : Type 0} (first : List ℕ → Result (X × List ℕ) (List ℕ)) (second : X → List ℕ → Result (Y × List ℕ) (List ℕ)) (First : List ℕ → X → Type 0) (Second : X → List ℕ → Y → Type 0)
    → Piece first First → ((x : X) → Piece (second x) (Second x)) → Piece (both_at first second) (Both First Second)
both_piece {X = X} {Y = Y} first second First Second one two =
    piece_of (λ n. both_at first second) (Both First Second)
    (λ n. law_as n (both_at first second) (Then First (λ x. Made (paired x) (Held (Second x)))) (Held (Both First Second)) (both_to First Second) (both_from First Second)
    (then_law n n first First (λ x bytes. made_pair second x bytes) (λ x. Made (paired x) (Held (Second x))) (λ text x m. omega arith) one
    (λ x. made_law n (paired x) (second x) (Held (Second x)) (law_of n (second x) (Second x) (two x)))))
    (let after = (two one.some.value).some in
    record { more = one.some.more ++ after.more; value = (one.some.value, after.value); means = record { front = one.some.more; back = after.more; parts = refl; first = one.some.means; second = after.means } })

pub made_piece : {X Y : Type 0} (make : X → Y) (item : List ℕ → Result (X × List ℕ) (List ℕ)) (Means : List ℕ → X → Type 0) → Piece item Means → Piece (made_at make item) (Made make Means)
made_piece {X = X} {Y = Y} make item Means law =
    piece_of (λ n. made_at make item) (Made make Means)
    (λ n. law_as n (made_at make item) (Made (λ (x : X × List ℕ). (make x.0, x.1)) (Held Means)) (Held (Made make Means))
    (λ bytes y m. subst (λ (z : Y × List ℕ). Held (Made make Means) bytes z) (sym m.is) (record { text = m.means.text; parts = m.means.parts; means = record { value = m.value.0; is = refl; means = m.means.means } }))
    (λ bytes y h. record { value = (h.means.value, y.1); is = ap (λ (v : Y). (v, y.1)) h.means.is; means = record { text = h.text; parts = h.parts; means = h.means.means } })
    (made_law n (λ (x : X × List ℕ). (make x.0, x.1)) item (Held Means) (law_of n item Means law)))
    (record { more = law.some.more; value = make law.some.value; means = record { value = law.some.value; is = refl; means = law.some.means } })
