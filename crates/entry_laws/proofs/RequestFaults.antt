-- When a request needs a seed, and what the words of its members are read as.
use Rattle.std.proofs.Common.{◌≡◌, ◌≢◌, ◌<◌, ℕ, zero, suc, Bool, true, false, cond, List, [], ◌∷◌, length, get_or, codes, bytes_eq, Option, Some, None, option_and_then, Result, Ok, Err, Contains, refl, sym, ap, ◌∙◌, inl, inr, ◌⊎◌, true≢false, arith}
use Rattle.std.specs.Option.{ok_or, option_map_or}
use Rattle.std.specs.Prelude.{◌↔◌}
use Rattle.std.proofs.lemmas.Slice.Eq.{bytes_eq-Decides}
use Rattle.fund_base.proofs.Laws.{bind_ok}
use Rattle.fund_base.specs.Parsing.{◌>>=◌}
use Rattle.json_fields.specs.Fields.{text_at}
use Rattle.json_fields.specs.declared.fault.FieldFault.{FieldFault}
use Rattle.json_fields.specs.declared.fault.FieldFault.TheVariants.{Kind}
use Rattle.request_text.proofs.MethodLaws as methods
use Rattle.request_text.specs.PlainRequest.{draws}
use Rattle.request_text.specs.RequestText.{method_at, method_in, needs_seed, required_in, take_at, take_in}
use Rattle.request_text.specs.Rules.{word_of}
use Rattle.request_text.specs.declared.request.Method.{Method}
use Rattle.request_text.specs.declared.request.Method.TheVariants.{Auto, Changeless, Weight, Draw, Manual}
use Rattle.serde_json.specs.Data.{Data, null, boolean, number, string, array, object}
use Rattle.serde_json.specs.Find.{as_str, get}
use Rattle.entry_laws.specs.Asked.{IsDrawing}
use Rattle.entry_laws.specs.Forms.{IsWrongWhere}
use Rattle.entry_laws.proofs.ValueFaults.{text_exact, text_law, told_by, kind_alone}

-- ---- the seed

-- a method by its value
abbrev drawing : Data → Bool
drawing m = option_map_or draws (option_and_then method_in (as_str m)) false

drawing_found : (m : Data) → drawing m ≡ true → (m ≡ string (codes "auto")) ⊎ (m ≡ string (codes "draw"))
drawing_found (string w) e = by (method_in w) refl e
  where
    of : (method : Method) → w ≡ word_of method → draws method ≡ true → (string w ≡ string (codes "auto")) ⊎ (string w ≡ string (codes "draw"))
    of Auto is test = inl (ap (λ (x : List ℕ). string x) is)
    of Draw is test = inr (ap (λ (x : List ℕ). string x) is)
    of Changeless is test = absurd (true≢false (sym test))
    of Weight is test = absurd (true≢false (sym test))
    of Manual is test = absurd (true≢false (sym test))

    by : (o : Option Method) → method_in w ≡ o → option_map_or draws o false ≡ true → (string w ≡ string (codes "auto")) ⊎ (string w ≡ string (codes "draw"))
    by None is test = absurd (true≢false (sym test))
    by (Some method) is test = of method (methods.found w method is) test
drawing_found null e = absurd (true≢false (sym e))
drawing_found (boolean b) e = absurd (true≢false (sym e))
drawing_found (number n) e = absurd (true≢false (sym e))
drawing_found (array ds) e = absurd (true≢false (sym e))
drawing_found (object ms) e = absurd (true≢false (sym e))

drawing_only : (method : Method) → draws method ≡ true → drawing (string (word_of method)) ≡ true
drawing_only method test = ap (λ o. option_map_or draws o false) (methods.only method) ∙ test

seed_law : (d : Data) → (needs_seed d ≡ true) ↔ IsDrawing d
unfolding needs_seed
seed_law d = (λ e. found (get (codes "method") d) refl e, only)
  where
    found : (o : Option Data) → get (codes "method") d ≡ o → option_map_or drawing o true ≡ true → IsDrawing d
    found None is test = inl is
    found (Some m) is test = by (drawing_found m test)
      where
        by : (m ≡ string (codes "auto")) ⊎ (m ≡ string (codes "draw")) → IsDrawing d
        by (inl auto) = inr (inl (is ∙ ap (λ (x : Data). Some x) auto))
        by (inr draw) = inr (inr (is ∙ ap (λ (x : Data). Some x) draw))

    only : IsDrawing d → option_map_or drawing (get (codes "method") d) true ≡ true
    only (inl none) = ap (λ o. option_map_or drawing o true) none
    only (inr (inl auto)) = ap (λ o. option_map_or drawing o true) auto ∙ drawing_only Auto refl
    only (inr (inr draw)) = ap (λ o. option_map_or drawing o true) draw ∙ drawing_only Draw refl

-- the table, with a seed or without
abbrev table : Bool → List (List ℕ)
table b = cond b (codes "recipients" ∷ codes "rate" ∷ codes "seed" ∷ []) (codes "recipients" ∷ codes "rate" ∷ [])

abbrev Required : Data → List ℕ → Type 0
Required d name = (name ≡ codes "recipients") ⊎ ((name ≡ codes "rate") ⊎ ((name ≡ codes "seed") × IsDrawing d))

pub required_law : (d : Data) (name : List ℕ) → Contains (required_in d) name ↔ Required d name
unfolding required_in
required_law d name = (λ c. found (needs_seed d) refl c, λ is. only (needs_seed d) refl is)
  where
    found : (b : Bool) → needs_seed d ≡ b → Contains (table b) name → Required d name
    found true is c = at c.0 c.1 c.2
      where
        at : (k : ℕ) → k < length (table true) → get_or (table true) k name ≡ name → Required d name
        at zero lt e = inl (sym e)
        at (suc zero) lt e = inr (inl (sym e))
        at (suc (suc zero)) lt e = inr (inr (sym e, (seed_law d).0 is))
        at (suc (suc (suc k))) lt e = absurd (omega arith)
    found false is c = at c.0 c.1 c.2
      where
        at : (k : ℕ) → k < length (table false) → get_or (table false) k name ≡ name → Required d name
        at zero lt e = inl (sym e)
        at (suc zero) lt e = inr (inl (sym e))
        at (suc (suc k)) lt e = absurd (omega arith)

    only : (b : Bool) → needs_seed d ≡ b → Required d name → Contains (table b) name
    only true is (inl e) = (zero, omega arith, sym e)
    only true is (inr (inl e)) = (suc zero, omega arith, sym e)
    only true is (inr (inr e)) = (suc (suc zero), omega arith, sym e.0)
    only false is (inl e) = (zero, omega arith, sym e)
    only false is (inr (inl e)) = (suc zero, omega arith, sym e)
    only false is (inr (inr e)) = absurd (true≢false (sym ((seed_law d).1 e.1) ∙ is))

-- ---- words

given : {X : Type 0} (o : Option X) (x : X) (name : List ℕ) → ok_or o (Kind name) ≡ Ok x → o ≡ Some x
given None x name reads = absurd (cc reads)
given (Some y) x name reads = let same : y ≡ x = cc in ap (λ z. Some z) same

-- A value is read by its word, and anything else is of the wrong kind.
word_exact : {X : Type 0} (name : List ℕ) (read : List ℕ → Option X) (word : X → List ℕ) → ((w : List ℕ) (x : X) → read w ≡ Some x → w ≡ word x) → ((x : X) → read (word x) ≡ Some x) → (d : Data) (x : X)
    → ((text_at name d >>= λ w. ok_or (read w) (Kind name)) ≡ Ok x) ↔ (d ≡ string (word x))
word_exact {X} name read word found only d x = (
  λ e. let r = bind_ok (text_at name d) (λ w. ok_or (read w) (Kind name)) x e in
      (text_exact name d r.0).0 r.1 ∙ ap (λ (w : List ℕ). string w) (found r.0 x (given (read r.0) x name r.2)),
  λ is. ap (λ (v : Data). text_at name v >>= λ w. ok_or (read w) (Kind name)) is ∙ ap (λ o. ok_or o (Kind name)) (only x),
)

word_alone : {X : Type 0} (name : List ℕ) (read : List ℕ → Option X) (d : Data) (fault : FieldFault) → (text_at name d >>= λ w. ok_or (read w) (Kind name)) ≡ Err fault → fault ≡ Kind name
word_alone {X} name read d fault e = by (text_at name d) refl e
  where
    by : (r : Result (List ℕ) FieldFault) → text_at name d ≡ r → (r >>= λ w. ok_or (read w) (Kind name)) ≡ Err fault → fault ≡ Kind name
    by (Ok w) is reads = kind_alone (read w) name fault reads
    by (Err f) is reads = let same : f ≡ fault = cc in sym same ∙ ((text_law name d f).0 is).0

pub method_law : (d : Data) (method : Method) → (method_at d ≡ Ok method) ↔ (d ≡ string (word_of method))
unfolding method_at
method_law d method = word_exact (codes "method") method_in word_of methods.found methods.only d method

pub method_fault : (d : Data) (fault : FieldFault) → (method_at d ≡ Err fault) ↔ ((fault ≡ Kind (codes "method")) × ((method : Method) → d ≢ string (word_of method)))
unfolding method_at
method_fault d fault = told_by (method_at d) (codes "method") (λ method. d ≡ string (word_of method)) (method_law d) (λ other e. word_alone (codes "method") method_in d other e) fault

-- the words of the two
take_word : Bool → List ℕ
take_word true = codes "take"
take_word false = codes "stop"

take_found : (w : List ℕ) (b : Bool) → take_in w ≡ Some b → w ≡ take_word b
unfolding take_in take_word
take_found w b e = by (bytes_eq w (codes "take")) refl (bytes_eq w (codes "stop")) refl e
  where
    by : (x : Bool) → bytes_eq w (codes "take") ≡ x → (y : Bool) → bytes_eq w (codes "stop") ≡ y → cond x (Some true) (cond y (Some false) None) ≡ Some b → w ≡ take_word b
    by true is y other reads = let same : true ≡ b = cc in (bytes_eq-Decides w (codes "take")).0 is ∙ ap take_word same
    by false is true other reads = let same : false ≡ b = cc in (bytes_eq-Decides w (codes "stop")).0 other ∙ ap take_word same
    by false is false other reads = absurd (cc reads)

take_only : (b : Bool) → take_in (take_word b) ≡ Some b
unfolding take_in take_word
take_only true = refl
take_only false = refl

take_exact : (d : Data) (b : Bool) → (take_at d ≡ Ok b) ↔ (d ≡ string (take_word b))
unfolding take_at
take_exact d b = word_exact (codes "when_unfinished") take_in take_word take_found take_only d b

pub take_law : (d : Data) → (take_at d ≡ Ok true) ↔ (d ≡ string (codes "take"))
unfolding take_word
take_law d = take_exact d true

pub stop_law : (d : Data) → (take_at d ≡ Ok false) ↔ (d ≡ string (codes "stop"))
unfolding take_word
stop_law d = take_exact d false

take_fault : (d : Data) (fault : FieldFault) → (take_at d ≡ Err fault) ↔ ((fault ≡ Kind (codes "when_unfinished")) × ((b : Bool) → d ≢ string (take_word b)))
unfolding take_at
take_fault d fault = told_by (take_at d) (codes "when_unfinished") (λ b. d ≡ string (take_word b)) (take_exact d) (λ other e. word_alone (codes "when_unfinished") take_in d other e) fault

pub take_other : IsWrongWhere (codes "when_unfinished") take_at (λ d. (d ≢ string (codes "take")) × (d ≢ string (codes "stop")))
unfolding take_word
take_other d fault = (
  λ e. let r = (take_fault d fault).0 e in (r.0, (r.1 true, r.1 false)),
  λ is. (take_fault d fault).1 (is.0, none is.1.0 is.1.1),
)
  where
    none : d ≢ string (codes "take") → d ≢ string (codes "stop") → (b : Bool) → d ≢ string (take_word b)
    none no_take no_stop true = no_take
    none no_take no_stop false = no_stop
