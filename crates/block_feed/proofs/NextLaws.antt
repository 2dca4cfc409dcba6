-- The next block of bytes, by the record that stands there.
use Rattle.std.proofs.Common.{◌≡◌, ◌≢◌, ◌≤◌, ℕ, ◌+◌, ◌-◌, ◌<◌, Bool, List, ◌++◌, length, take, drop, Option, Result, Ok, Err, Some, None, refl, sym, ◌∙◌, ap, subst}
use Rattle.std.specs.Prelude.{IfOk, IfSome}
use Rattle.std.specs.Result.{IsErrAnd}
use Rattle.std.proofs.lemmas.List.Elements.{All-append}
use Rattle.fund_base.specs.Cursor.{IsBytes}
use Rattle.fund_base.specs.Parsing.{YieldsAll}
use Rattle.fund_base.specs.Writer.{Feeds}
use Rattle.fund_shelf.specs.declared.shelf.Fault.{Fault}
use Rattle.fund_shelf.specs.declared.shelf.Fault.TheVariants as shelf
use Rattle.fund_base.proofs.Laws.{bind_is}
use Rattle.block_feed.specs.Block.{ChainBlock, IsLinked, height_after}
use Rattle.block_feed.specs.Digest.{HasTaken}
use Rattle.block_feed.specs.Feed.{FeedState, next_in, Finds}
use Rattle.block_feed.specs.Parts.{IsPast}
use Rattle.block_feed.specs.Reading.{record_at, block_at, read_fault}
use Rattle.block_feed.specs.declared.fault.FeedFault.{FeedFault}
use Rattle.block_feed.specs.declared.fault.FeedFault.TheVariants.{Read, Memory}
use Rattle.block_feed.proofs.BlockLaws.{start}
use Rattle.block_feed.proofs.Failing.{bind_fails}

-- a shelf's fault is one of the outside
pub outside : {X Y : Type 0} (fault : Fault) (view : X → Y) (read : Result Y FeedFault) → Finds view (Err (read_fault fault)) read
outside shelf.Failed view read = λ memory failed. absurd (failed refl)
outside shelf.Memory view read = λ memory failed. absurd (memory refl)

-- so is what is returned for it
pub outside_exit : {X Y : Type 0} (fault : Fault) (r : Result X FeedFault) (read : Result Y FeedFault) (view : X → Y) → IsErrAnd r (λ e. e ≡ read_fault fault) → Finds view r read
outside_exit fault (Ok x) read view out = absurd out
outside_exit fault (Err e) read view out = subst (λ (d : FeedFault). Finds view (Err d) read) (sym out) (outside fault view read)

-- and it is neither of these two otherwise
pub outside_else : (fault : Fault) (e other : FeedFault) → e ≡ read_fault fault → e ≢ Memory → e ≢ Read → e ≡ other
outside_else shelf.Failed e other is memory failed = absurd (failed is)
outside_else shelf.Memory e other is memory failed = absurd (memory is)

-- What a call answers with the fault of another is found, where the other's fault is that of the whole.
pub fault_exit : {X Y Z W : Type 0} (e : FeedFault) (r : Result Z FeedFault) (read : Result Y FeedFault) (whole : Result W FeedFault) (seen : X → Y) (view : Z → W) → IsErrAnd r (λ d. d ≡ e) → Finds seen (Err e) read → ((d : FeedFault) → read ≡ Err d → whole ≡ Err d) → Finds view r whole
fault_exit e (Ok x) read whole seen view out h on = absurd out
fault_exit e (Err d) read whole seen view out h on = subst (λ (c : FeedFault). Finds view (Err c) whole) (sym out) (λ memory failed. on e (h memory failed))

-- what is read of bytes alone is found
pub yields_finds : {X Y : Type 0} (r : Result X FeedFault) (read whole : Result Y FeedFault) (view : X → Y) → read ≡ whole → YieldsAll Memory view r read → Finds view r whole
yields_finds (Ok x) read whole view same h = sym same ∙ h
yields_finds (Err e) read whole view same h = λ memory failed. sym same ∙ h memory

pub next_fault : (longer : Bool) (bytes hash : List ℕ) (height place : ℕ) (d : FeedFault) → record_at longer place (drop place bytes) ≡ Err d → next_in longer bytes hash height place ≡ Err d
unfolding next_in
next_fault longer bytes hash height place d e = bind_fails (record_at longer place (drop place bytes)) _ d e

pub next_end : (longer : Bool) (bytes hash : List ℕ) (height place : ℕ) → record_at longer place (drop place bytes) ≡ Ok None → next_in longer bytes hash height place ≡ Ok None
unfolding next_in
next_end longer bytes hash height place e = bind_is _ _ _ _ e refl

pub next_given : (longer : Bool) (bytes hash : List ℕ) (height place : ℕ) (body : List ℕ) (block : ChainBlock) → record_at longer place (drop place bytes) ≡ Ok (Some body) → block_at hash (height_after height) (start body) ≡ Ok block → next_in longer bytes hash height place ≡ Ok (Some (block, place + 8 + length body))
unfolding next_in
next_given longer bytes hash height place body block e made = bind_is _ _ _ _ e (bind_is _ _ _ _ made refl)

pub next_refusal : (longer : Bool) (bytes hash : List ℕ) (height place : ℕ) (body : List ℕ) (d : FeedFault) → record_at longer place (drop place bytes) ≡ Ok (Some body) → block_at hash (height_after height) (start body) ≡ Err d → next_in longer bytes hash height place ≡ Err d
unfolding next_in
next_refusal longer bytes hash height place body d e refused = bind_is _ _ _ _ e (bind_fails (block_at hash (height_after height) (start body)) _ d refused)

-- the bytes of a record are bytes
pub record_fits : (rest head body : List ℕ) (n : ℕ) → head ++ body ≡ take (8 + length body) rest → n ≡ 8 + length body → IsBytes head → IsBytes body → IsBytes (take n rest)
record_fits rest head body n parts is first second =
    subst (λ (l : List ℕ). IsBytes l) (parts ∙ ap (λ (k : ℕ). take k rest) (sym is)) (All-append (λ b. b < 256) head body first second)

-- what is told of the bytes of a block
pub block_there : (hash : List ℕ) (told height : ℕ) (seen body : List ℕ) → told ≡ height → seen ≡ body → block_at hash told (start seen) ≡ block_at hash height (start body)
block_there hash told height seen body same bytes = ap (λ (n : ℕ). block_at hash n (start seen)) same ∙ ap (λ (l : List ℕ). block_at hash height (start l)) bytes

-- ---- what is said of a block that is given

pub past_linked : (told : Type 0) (rest : List ℕ) (old new : FeedState) (r : Result (Option ChainBlock) FeedFault) → IfOk r (λ o. IfSome o (IsPast told rest old new)) → IfOk r (λ o. IfSome o (λ block. IsLinked old.hash (height_after old.height) block))
past_linked told rest old new (Ok (Some block)) past = past.linked
past_linked told rest old new (Ok None) past = tt
past_linked told rest old new (Err e) past = tt

pub past_within : (told : Type 0) (rest : List ℕ) (old new : FeedState) (r : Result (Option ChainBlock) FeedFault) → IfOk r (λ o. IfSome o (IsPast told rest old new)) → IfOk r (λ o. IfSome o (λ _. (old.place < new.place) × (new.place ≤ 1_073_741_824)))
past_within told rest old new (Ok (Some block)) past = (past.up, past.within)
past_within told rest old new (Ok None) past = tt
past_within told rest old new (Err e) past = tt

pub past_bytes : (told : Type 0) (rest : List ℕ) (old new : FeedState) (r : Result (Option ChainBlock) FeedFault) → IfOk r (λ o. IfSome o (IsPast told rest old new)) → told → IfOk r (λ o. IfSome o (λ _. IsBytes (take (new.place - old.place) rest)))
past_bytes told rest old new (Ok (Some block)) past tells = past.bytes tells
past_bytes told rest old new (Ok None) past tells = tt
past_bytes told rest old new (Err e) past tells = tt

pub past_taken : (told : Type 0) (rest : List ℕ) (old new : FeedState) (r : Result (Option ChainBlock) FeedFault) → IfOk r (λ o. IfSome o (IsPast told rest old new)) → told → IfOk r (λ o. IfSome o (λ _. Feeds HasTaken old.hasher new.hasher (take (new.place - old.place) rest)))
past_taken told rest old new (Ok (Some block)) past tells = past.taken tells
past_taken told rest old new (Ok None) past tells = tt
past_taken told rest old new (Err e) past tells = tt
