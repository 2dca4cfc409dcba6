-- What calls that read one file leave of a shelf, where a feed's fault tells why they failed.
use Rattle.std.proofs.Common.{◌≡◌, ℕ, List, [], ◌∷◌, Result, Ok, Err, refl, sym, ◌∙◌, ap}
use Rattle.std.specs.Prelude.{IsErrOf}
use Rattle.std.specs.Result.{IsErrAnd}
use Rattle.fund_shelf.specs.Causes.{Asks, NeverFall, ReadsOne, Rose, ShelfView}
use Rattle.fund_shelf.specs.declared.shelf.Fault.{Fault}
use Rattle.fund_shelf.specs.declared.shelf.Fault.TheVariants as shelf
use Rattle.fund_shelf.proofs.FrameLaws.{fault_in, frame_as}
use Rattle.block_feed.specs.Reading.{read_fault}
use Rattle.block_feed.specs.declared.fault.FeedFault.{FeedFault}
use Rattle.block_feed.specs.declared.fault.FeedFault.TheVariants.{Magic, Read, Limit, Memory}

-- one of these faults is no failed read
pub magic_not : {X : Type 0} (place : ℕ) → IsErrOf {T = X} (Err (Magic place)) Read → ⊥
magic_not place is = absurd cc

pub limit_not : {X : Type 0} → IsErrOf {T = X} (Err Limit) Read → ⊥
limit_not is = absurd cc

-- a shelf's fault is told as one of the feed
pub frame_told : {X Y : Type 0} (told : Type 0) (name : List ℕ) (a b : ShelfView) (fault : Fault) (r : Result Y FeedFault) → IsErrAnd r (λ d. d ≡ read_fault fault) → ReadsOne told (IsErrOf {T = X} (Err fault) shelf.Failed) name a b → ReadsOne told (r ≡ Err Read) name a b
frame_told told name a b fault (Ok y) out frame = absurd out
frame_told told name a b shelf.Failed (Err d) out frame = frame_as told _ _ name a b (λ _. refl) (λ _. ap (λ (x : FeedFault). Err x) out) frame
frame_told told name a b shelf.Memory (Err d) out frame =
    frame_as told _ _ name a b (λ is. absurd (memory_apart (sym out ∙ ap (fault_in Memory) is))) (λ is. absurd (short_apart (ap (fault_in shelf.Memory) is))) frame
  where
    memory_apart : Memory ≡ Read → ⊥
    memory_apart is = absurd cc

    short_apart : shelf.Memory ≡ shelf.Failed → ⊥
    short_apart is = absurd cc

-- nor is being out of memory
pub feed_memory_not : {X : Type 0} (r : Result X FeedFault) → IsErrAnd r (λ d. d ≡ Memory) → r ≡ Err Read → ⊥
feed_memory_not (Ok x) out is = absurd out
feed_memory_not (Err d) out is =
    let memory : Memory ≡ Read = sym out ∙ ap (fault_in d) is in
    absurd cc

-- a fault that was made of what a shelf said
pub frame_made : {X : Type 0} (told : Type 0) (name : List ℕ) (a b : ShelfView) (d : FeedFault) → (told → b.files ≡ a.files) → NeverFall a.reads b.reads → b.writes ≡ a.writes → (d ≡ Read → Rose (a.reads name) (b.reads name)) → ((d ≡ Read → ⊥) → b.reads ≡ a.reads) → (told → Asks (name ∷ []) a.asked b.asked) → ReadsOne told (IsErrOf {T = X} (Err d) Read) name a b
frame_made told name a b d same reads writes cause unfailed asked = record {
  same = same;
  reads = reads;
  writes = writes;
  cause = λ is. cause (ap (fault_in d) is);
  unfailed = λ n. unfailed (λ is. n (ap (λ (x : FeedFault). Err x) is));
  asked = asked;
}
