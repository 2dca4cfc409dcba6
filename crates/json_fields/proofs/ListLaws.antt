-- Which lists of entries are read, and which fault is reported of one that isn't.
use Rattle.std.proofs.Common.{◌≡◌, ◌<◌, ℕ, zero, suc, List, [], ◌∷◌, ◌++◌, length, get_or, take, Result, Ok, Err, refl, sym, ap, subst, ◌∙◌, arith}
use Rattle.std.proofs.lemmas.List.{append_assoc, append-nil}
use Rattle.fund_base.specs.Parsing.{◌>>=◌}
use Rattle.serde_json.specs.Data.{Data}
use Rattle.serde_json.specs.View.{items_of}
use Rattle.json_fields.specs.Fields.{each_from}
use Rattle.json_fields.specs.Rules.{AreRead, IsFirstRefused}

-- read so after a front
abbrev AreBehind : {A E : Type 0} → (List A → Data → Result A E) → List A → List Data → List A → Type 0
AreBehind {A} reading front ds xs = (k : ℕ) (d : Data) (x : A) → k < length xs → reading (front ++ take k xs) (get_or ds k d) ≡ Ok (get_or xs k x)

-- one more in front
more : {A E : Type 0} (reading : List A → Data → Result A E) (front : List A) (d : Data) (ds : List Data) (x : A) (xs : List A) → reading front d ≡ Ok x → AreBehind reading (front ++ x ∷ []) ds xs → AreBehind reading front (d ∷ ds) (x ∷ xs)
more reading front d ds x xs is rest zero e y lt = rw (append-nil front) is
more reading front d ds x xs is rest (suc k) e y lt = rw (sym (append_assoc front (x ∷ []) (take k xs))) (rest k e y (omega arith))

-- one less
less : {A E : Type 0} (reading : List A → Data → Result A E) (front : List A) (d : Data) (ds : List Data) (x : A) (xs : List A) → AreBehind reading front (d ∷ ds) (x ∷ xs) → AreBehind reading (front ++ x ∷ []) ds xs
less reading front d ds x xs all k e y lt = rw (append_assoc front (x ∷ []) (take k xs)) (all (suc k) e y (omega arith))

head : {A E : Type 0} (reading : List A → Data → Result A E) (front : List A) (d : Data) (ds : List Data) (x : A) (xs : List A) → AreBehind reading front (d ∷ ds) (x ∷ xs) → reading front d ≡ Ok x
head {A} {E} reading front d ds x xs all = let here : reading (front ++ []) d ≡ Ok x = all zero d x (omega arith) in rw (append-nil front) at here

-- what is read after a front
record Reads {A E : Type 0} (reading : List A → Data → Result A E) (front : List A) (ds : List Data) (out : List A) : Type 0 where
  xs : List A
  parts : out ≡ front ++ xs
  len : length xs ≡ length ds
  each : AreBehind reading front ds xs

reads : {A E : Type 0} (reading : List A → Data → Result A E) (ds : List Data) (front out : List A) → each_from reading front (items_of ds) ≡ Ok out → Reads reading front ds out
unfolding each_from
reads reading [] front out e = let same : front ≡ out = cc e in record { xs = []; parts = sym same ∙ sym (append-nil front); len = refl; each = λ k d x lt. absurd (omega arith) }
reads {A} {E} reading (d ∷ ds) front out e = by (reading front d) refl e (λ x. reads reading ds (front ++ x ∷ []) out)
  where
    by : (r : Result A E) → reading front d ≡ r → (r >>= λ x. each_from reading (front ++ x ∷ []) (items_of ds)) ≡ Ok out
        → ((x : A) → each_from reading (front ++ x ∷ []) (items_of ds) ≡ Ok out → Reads reading (front ++ x ∷ []) ds out) → Reads reading front (d ∷ ds) out
    by (Ok x) is whole later =
        let rest = later x whole in
        record { xs = x ∷ rest.xs; parts = rest.parts ∙ append_assoc front (x ∷ []) rest.xs; len = ap suc rest.len; each = more reading front d ds x rest.xs is rest.each }
    by (Err fault) is whole later = absurd (cc whole)

pub found : {A E : Type 0} (reading : List A → Data → Result A E) (ds : List Data) (xs : List A) → each_from reading [] (items_of ds) ≡ Ok xs → (length xs ≡ length ds) × AreRead reading ds xs
found reading ds xs e =
    let all = reads reading ds [] xs e in
    (ap length all.parts ∙ all.len, subst (AreRead reading ds) (sym all.parts) all.each)

read_so : {A E : Type 0} (reading : List A → Data → Result A E) (ds : List Data) (front xs : List A) → length xs ≡ length ds → AreBehind reading front ds xs → each_from reading front (items_of ds) ≡ Ok (front ++ xs)
unfolding each_from
read_so reading [] front [] len all = ap Ok (sym (append-nil front))
read_so reading [] front (x ∷ xs) len all = absurd (omega arith)
read_so reading (d ∷ ds) front [] len all = absurd (omega arith)
read_so reading (d ∷ ds) front (x ∷ xs) len all =
    rw (head reading front d ds x xs all) (read_so reading ds (front ++ x ∷ []) xs (omega arith) (less reading front d ds x xs all) ∙ ap Ok (append_assoc front (x ∷ []) xs))

pub only : {A E : Type 0} (reading : List A → Data → Result A E) (ds : List Data) (xs : List A) → length xs ≡ length ds → AreRead reading ds xs → each_from reading [] (items_of ds) ≡ Ok xs
only reading ds xs len all = read_so reading ds [] xs len all

-- the first that is refused after a front
record Refuses {A E : Type 0} (reading : List A → Data → Result A E) (front : List A) (ds : List Data) (fault : E) : Type 0 where
  xs : List A
  within : length xs < length ds
  each : AreBehind reading front ds xs
  here : (d : Data) → reading (front ++ xs) (get_or ds (length xs) d) ≡ Err fault

refuses : {A E : Type 0} (reading : List A → Data → Result A E) (ds : List Data) (front : List A) (fault : E) → each_from reading front (items_of ds) ≡ Err fault → Refuses reading front ds fault
unfolding each_from
refuses reading [] front fault e = absurd (cc e)
refuses {A} {E} reading (d ∷ ds) front fault e = by (reading front d) refl e (λ x. refuses reading ds (front ++ x ∷ []) fault)
  where
    by : (r : Result A E) → reading front d ≡ r → (r >>= λ x. each_from reading (front ++ x ∷ []) (items_of ds)) ≡ Err fault
        → ((x : A) → each_from reading (front ++ x ∷ []) (items_of ds) ≡ Err fault → Refuses reading (front ++ x ∷ []) ds fault) → Refuses reading front (d ∷ ds) fault
    by (Ok x) is whole later =
        let rest = later x whole in
        record {
          xs = x ∷ rest.xs;
          within = let lt = rest.within in omega arith;
          each = more reading front d ds x rest.xs is rest.each;
          here = λ e. rw (sym (append_assoc front (x ∷ []) rest.xs)) (rest.here e);
        }
    by (Err other) is whole later =
        let same : other ≡ fault = cc whole in
        record { xs = []; within = omega arith; each = λ k e x lt. absurd (omega arith); here = λ e. rw (append-nil front) (is ∙ ap Err same) }

pub first : {A E : Type 0} (reading : List A → Data → Result A E) (ds : List Data) (fault : E) → each_from reading [] (items_of ds) ≡ Err fault → IsFirstRefused reading ds fault
first reading ds fault e = let it = refuses reading ds [] fault e in record { before = it.xs; within = it.within; each = it.each; here = it.here }

refused_so : {A E : Type 0} (reading : List A → Data → Result A E) (ds : List Data) (front xs : List A) (fault : E) → length xs < length ds → AreBehind reading front ds xs → ((d : Data) → reading (front ++ xs) (get_or ds (length xs) d) ≡ Err fault)
    → each_from reading front (items_of ds) ≡ Err fault
unfolding each_from
refused_so reading [] front xs fault lt all here = absurd (omega arith)
refused_so reading (d ∷ ds) front [] fault lt all here =
    let end : reading (front ++ []) d ≡ Err fault = here d in
    let now : reading front d ≡ Err fault = rw (append-nil front) at end in
    rw now refl
refused_so reading (d ∷ ds) front (x ∷ xs) fault lt all here =
    rw (head reading front d ds x xs all) (refused_so reading ds (front ++ x ∷ []) xs fault (omega arith) (less reading front d ds x xs all) (λ e. rw (append_assoc front (x ∷ []) xs) (here e)))

pub refused : {A E : Type 0} (reading : List A → Data → Result A E) (ds : List Data) (fault : E) → IsFirstRefused reading ds fault → each_from reading [] (items_of ds) ≡ Err fault
refused reading ds fault is = refused_so reading ds [] is.before fault is.within is.each is.here
