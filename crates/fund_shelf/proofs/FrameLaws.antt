-- What calls that read one file leave of a shelf, one behind the other.
use Rattle.std.proofs.Common.{◌≡◌, ℕ, List, [], ◌∷◌, Result, Ok, Err, refl, sym, ◌∙◌, ap, subst, arith}
use Rattle.std.specs.Prelude.{IsErrOf}
use Rattle.std.specs.Result.{IsErrAnd}
use Rattle.fund_shelf.specs.Causes.{Asks, NeverFall, ReadsOne, Rose, ShelfView}
use Rattle.fund_shelf.specs.Pieces.{read_error_of}
use Rattle.fund_shelf.specs.declared.pieces.ReadError.{ReadError}
use Rattle.fund_shelf.specs.declared.pieces.ReadError.TheVariants as reads
use Rattle.fund_shelf.specs.declared.shelf.Fault.{Fault}
use Rattle.fund_shelf.specs.declared.shelf.Fault.TheVariants as shelf
use Rattle.fund_shelf.proofs.Asking.{asks_again, asks_none}

-- counts that are as before have not fallen
pub never_same : (before now : List ℕ → ℕ) → now ≡ before → NeverFall before now
never_same before now is name = omega (arith, ap (λ (f : List ℕ → ℕ). f name) is)

-- nor have those that have not fallen since
pub never_then : (before middle now : List ℕ → ℕ) → middle ≡ before → NeverFall middle now → NeverFall before now
never_then before middle now is never = subst (λ (f : List ℕ → ℕ). NeverFall f now) is never

-- what was done didn't fail
pub ok_not : {X E : Type 0} (x : X) (e : E) → IsErrOf (Ok x) e → ⊥
ok_not x e is = absurd cc

-- no count changed
pub frame_same : (told failed : Type 0) (name : List ℕ) (a b : ShelfView) → (failed → ⊥) → (told → b.files ≡ a.files) → b.reads ≡ a.reads → b.writes ≡ a.writes → (told → Asks (name ∷ []) a.asked b.asked) → ReadsOne told failed name a b
frame_same told failed name a b fine same reads writes asked = record {
  same = same;
  reads = never_same a.reads b.reads reads;
  writes = writes;
  cause = λ f. absurd (fine f);
  unfailed = λ _. reads;
  asked = asked;
}

-- nothing was asked for
pub frame_none : (told failed : Type 0) (name : List ℕ) (a : ShelfView) → (failed → ⊥) → ReadsOne told failed name a a
frame_none told failed name a fine = frame_same told failed name a a fine (λ _. refl) refl refl (λ _. asks_none (name ∷ []) a.asked)

-- behind one that didn't fail
pub frame_then : (told first second : Type 0) (name : List ℕ) (a b c : ShelfView) → (first → ⊥) → ReadsOne told first name a b → ReadsOne told second name b c → ReadsOne told second name a c
frame_then told first second name a b c fine before now =
    let reads = before.unfailed fine in
    record {
      same = λ t. now.same t ∙ before.same t;
      reads = never_then a.reads b.reads c.reads reads now.reads;
      writes = now.writes ∙ before.writes;
      cause = λ f. subst (λ (g : List ℕ → ℕ). Rose (g name) (c.reads name)) reads (now.cause f);
      unfailed = λ n. now.unfailed n ∙ reads;
      asked = λ t. asks_again name a.asked b.asked c.asked (before.asked t) (now.asked t);
    }

-- what failed, told otherwise
pub frame_as : (told first second : Type 0) (name : List ℕ) (a b : ShelfView) → (second → first) → (first → second) → ReadsOne told first name a b → ReadsOne told second name a b
frame_as told first second name a b back forth frame = record {
  same = frame.same;
  reads = frame.reads;
  writes = frame.writes;
  cause = λ f. frame.cause (back f);
  unfailed = λ n. frame.unfailed (λ f. n (forth f));
  asked = frame.asked;
}

-- neither failed
pub frame_fine : (told first second : Type 0) (name : List ℕ) (a b : ShelfView) → (first → ⊥) → (second → ⊥) → ReadsOne told first name a b → ReadsOne told second name a b
frame_fine told first second name a b fine good frame = frame_as told first second name a b (λ f. absurd (good f)) (λ f. absurd (fine f)) frame

abbrev pub fault_in : {X E : Type 0} → E → Result X E → E
fault_in other (Ok x) = other
fault_in other (Err e) = e

-- a fault is passed on
pub frame_passed : {X Y E : Type 0} (told : Type 0) (name : List ℕ) (a b : ShelfView) (e f : E) (r : Result Y E) → IsErrAnd r (λ d. d ≡ e) → ReadsOne told (IsErrOf {T = X} (Err e) f) name a b → ReadsOne told (r ≡ Err f) name a b
frame_passed told name a b e f (Ok y) out frame = absurd out
frame_passed {E = E} told name a b e f (Err d) out frame =
    frame_as told _ _ name a b (λ is. ap (λ (x : E). Err x) (sym out ∙ ap (fault_in e) is)) (λ is. ap (λ (x : E). Err x) (out ∙ ap (fault_in e) is)) frame

-- being out of memory is no failed read
pub memory_not : {X : Type 0} (r : Result X Fault) → IsErrAnd r (λ d. d ≡ shelf.Memory) → r ≡ Err shelf.Failed → ⊥
memory_not (Ok x) out is = absurd out
memory_not (Err d) out is =
    let memory : shelf.Memory ≡ shelf.Failed = sym out ∙ ap (fault_in d) is in
    absurd cc

-- what a shelf says of a read that gave a fault
pub frame_read : {X Y : Type 0} (told : Type 0) (name : List ℕ) (a b : ShelfView) (fault : Fault) (r : Result Y Fault) → IsErrAnd r (λ d. d ≡ fault) → (told → b.files ≡ a.files) → NeverFall a.reads b.reads → b.writes ≡ a.writes → (IsErrOf {T = X} (Err fault) shelf.Failed → Rose (a.reads name) (b.reads name)) → (IsErrOf {T = X} (Err fault) shelf.Memory → b.reads ≡ a.reads) → (told → Asks (name ∷ []) a.asked b.asked) → ReadsOne told (r ≡ Err shelf.Failed) name a b
frame_read told name a b fault (Ok y) out same reads writes cause short asked = absurd out
frame_read told name a b fault (Err d) out same reads writes cause short asked = record {
  same = same;
  reads = reads;
  writes = writes;
  cause = λ is. cause (ap (λ (x : Fault). Err x) (sym out ∙ ap (fault_in fault) is));
  unfailed = λ n. by fault short (λ failed. n (ap (λ (x : Fault). Err x) (out ∙ failed)));
  asked = asked;
}
  where
    by : {X : Type 0} (fault : Fault) → (IsErrOf {T = X} (Err fault) shelf.Memory → b.reads ≡ a.reads) → (fault ≡ shelf.Failed → ⊥) → b.reads ≡ a.reads
    by shelf.Failed short apart = absurd (apart refl)
    by shelf.Memory short apart = short refl

-- a read's fault is told as one of reading the whole file
pub frame_whole : {X Y : Type 0} (told : Type 0) (name : List ℕ) (a b : ShelfView) (fault : Fault) (r : Result Y ReadError) → IsErrAnd r (λ d. d ≡ read_error_of fault) → ReadsOne told (IsErrOf {T = X} (Err fault) shelf.Failed) name a b → ReadsOne told (r ≡ Err reads.Failed) name a b
frame_whole told name a b fault (Ok y) out frame = absurd out
frame_whole told name a b shelf.Failed (Err d) out frame = frame_as told _ _ name a b (λ _. refl) (λ _. ap (λ (x : ReadError). Err x) out) frame
frame_whole told name a b shelf.Memory (Err d) out frame =
    frame_as told _ _ name a b (λ is. absurd (memory_apart (sym out ∙ ap (fault_in reads.Memory) is))) (λ is. absurd (short_apart (ap (fault_in shelf.Memory) is))) frame
  where
    memory_apart : reads.Memory ≡ reads.Failed → ⊥
    memory_apart is = absurd cc

    short_apart : shelf.Memory ≡ shelf.Failed → ⊥
    short_apart is = absurd cc

-- a file that is too long was read
pub long_not : {X : Type 0} → IsErrOf {T = X} (Err reads.TooLong) reads.Failed → ⊥
long_not is = absurd cc

-- and being out of memory is no failed read
pub short_not : {X : Type 0} → IsErrOf {T = X} (Err shelf.Memory) shelf.Failed → ⊥
short_not is = absurd cc
