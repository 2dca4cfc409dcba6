-- Reading the entries of a list one after the other, as a loop does.
use Rattle.std.proofs.Common.{◌≡◌, ◌≢◌, ℕ, zero, suc, ◌+◌, ◌<◌, ◌≤◌, List, [], ◌∷◌, ◌++◌, length, get_or, drop, Result, Ok, Err, refl, sym, ap, subst, ◌∙◌, add-one, drop-cons, arith}
use Rattle.std.proofs.Math.ListN.{drop_of_length-le}
use Rattle.std.proofs.lemmas.List.Elements.{All-nil, All-push}
use Rattle.std.specs.Prelude.{All}
use Rattle.fund_base.specs.Parsing.{◌>>=◌}
use Rattle.serde_json.specs.Data.{Data, Items, no_items, item}
use Rattle.std.specs.declared.alloc.Global.{Global}
use Rattle.json.specs.declared.value.Value as declared
use Rattle.json_fields.specs.Fields.{each_from}
use Rattle.json_fields.specs.Memory.{StoresFirst}
use Rattle.json_fields.specs.Tree.{view, items_view}

abbrev Value : Type 0
Value = declared.Value Global

-- what is left to read from place i on
abbrev pub rest_of : List Value → ℕ → Items
rest_of values i = items_view (drop i values)

-- one entry more
pub goes_on : {A E : Type 0} (reading : List A → Data → Result A E) (front : List A) (values : List Value) (i : ℕ) (value : Value) (x : A) (total : Result (List A) E) → i < length values → value ≡ get_or values i value → reading front (view value) ≡ Ok x
    → each_from reading front (rest_of values i) ≡ total → each_from reading (front ++ x ∷ []) (rest_of values (i + 1)) ≡ total
unfolding each_from
goes_on reading front values i value x total lt is reads so_far =
    let e : drop i values ≡ value ∷ drop (suc i) values = drop-cons values i value lt ∙ ap (λ (v : Value). v ∷ drop (suc i) values) (sym is) in
    let one : each_from reading front (rest_of values i) ≡ each_from reading (front ++ x ∷ []) (rest_of values (suc i)) = rw (e, reads) refl in
    rw add-one (sym one ∙ so_far)

ends_at : {A E : Type 0} (fault : E) (reading : List A → Data → Result A E) (front : List A) (values : List Value) (i : ℕ) (value : Value) (total : Result (List A) E) → i < length values → value ≡ get_or values i value → reading front (view value) ≡ Err fault
    → each_from reading front (rest_of values i) ≡ total → total ≡ Err fault
unfolding each_from
ends_at fault reading front values i value total lt is fails so_far =
    let e : drop i values ≡ value ∷ drop (suc i) values = drop-cons values i value lt ∙ ap (λ (v : Value). v ∷ drop (suc i) values) (sym is) in
    let one : each_from reading front (rest_of values i) ≡ Err fault = rw (e, fails) refl in
    sym so_far ∙ one

-- an entry that is refused
pub ends : {A E : Type 0} (memory fault : E) (reading : List A → Data → Result A E) (front : List A) (values : List Value) (i : ℕ) (value : Value) (total : Result (List A) E) → i < length values → value ≡ get_or values i value → (fault ≢ memory → reading front (view value) ≡ Err fault)
    → each_from reading front (rest_of values i) ≡ total → fault ≢ memory → total ≡ Err fault
ends memory fault reading front values i value total lt is fails so_far other = ends_at fault reading front values i value total lt is (fails other) so_far

-- no entry more
pub is_done : {A E : Type 0} (reading : List A → Data → Result A E) (front : List A) (values : List Value) (i : ℕ) (total : Result (List A) E) → length values ≤ i → each_from reading front (rest_of values i) ≡ total → total ≡ Ok front
unfolding each_from
is_done reading front values i total le so_far =
    let e : drop i values ≡ [] = drop_of_length-le values le in
    let one : each_from reading front (rest_of values i) ≡ Ok front = rw e refl in
    sym so_far ∙ one

-- the entry at a place is the first of those that are left
left_at : (values : List Value) (i : ℕ) (value : Value) → i < length values → value ≡ get_or values i value → rest_of values i ≡ item (view value) (rest_of values (i + 1))
left_at values i value lt is = rw add-one (ap items_view (drop-cons values i value lt ∙ ap (λ (v : Value). v ∷ drop (suc i) values) (sym is)))

-- The first entry has something to store, where the one at a place has: it is that one, or it was read before.
pub stored_first : (Stores : Data → Type 0) (values : List Value) (i : ℕ) (value : Value) → i < length values → value ≡ get_or values i value → (0 < i → StoresFirst Stores (rest_of values 0)) → Stores (view value) → StoresFirst Stores (rest_of values 0)
stored_first Stores values zero value lt is before stored = rw (left_at values 0 value lt is) stored
stored_first Stores values (suc i) value lt is before stored = before (omega arith)

-- What is kept by each entry after those before it is true of the list.
pub each_keeps : {A E : Type 0} (Kept : List A → Type 0) (reading : List A → Data → Result A E) → ((front : List A) (d : Data) (x : A) → Kept front → reading front d ≡ Ok x → Kept (front ++ x ∷ []))
    → (entries : Items) (front out : List A) → Kept front → each_from reading front entries ≡ Ok out → Kept out
unfolding each_from
each_keeps Kept reading step no_items front out kept e = let same : front ≡ out = cc e in subst Kept same kept
each_keeps {A} {E} Kept reading step (item d ds) front out kept e = by (reading front d) refl e (λ x. each_keeps Kept reading step ds (front ++ x ∷ []) out)
  where
    by : (r : Result A E) → reading front d ≡ r → (r >>= λ x. each_from reading (front ++ x ∷ []) ds) ≡ Ok out → ((x : A) → Kept (front ++ x ∷ []) → each_from reading (front ++ x ∷ []) ds ≡ Ok out → Kept out) → Kept out
    by (Ok x) is reads rest = rest x (step front d x kept is) reads
    by (Err fault) is reads rest = absurd (cc reads)

-- so is what is true of each entry
pub each_is : {A E : Type 0} (P : A → Type 0) (reading : List A → Data → Result A E) → ((front : List A) (d : Data) (x : A) → reading front d ≡ Ok x → P x)
    → (entries : Items) (out : List A) → each_from reading [] entries ≡ Ok out → All P out
each_is P reading step entries out e = each_keeps (All P) reading (λ front d x kept is. All-push P front x kept (step front d x is)) entries [] out (All-nil P) e
