-- How the blocks of a command end.
use Rattle.std.specs.Prelude.{ℕ, ◌≡◌, ◌≢◌, ◌≤◌, ◌<◌, List, length, take, Some, None, Result, Ok, Err, IfOk, OnErr, OnOk}
use Rattle.std.proofs.Common.{refl, sym, ap, ◌∙◌, subst, arith}
use Rattle.block_feed.specs.Block.{ChainBlock}
use Rattle.block_feed.specs.Feed.{FeedState, next_of}
use Rattle.block_feed.specs.declared.fault.FeedFault.{FeedFault}
use Rattle.block_feed.specs.declared.fault.FeedFault.TheVariants as feeds
use Rattle.coin_book.specs.Faults.{fault_of}
use Rattle.coin_book.specs.History as histories
use Rattle.coin_book.specs.declared.fault.BookFault.{BookFault}
use Rattle.coin_book.specs.declared.fault.BookFault.TheVariants as books
use Rattle.fund_shelf.specs.Causes.{Rose}
use Rattle.fund_base.specs.declared.memory.Memory.{Memory}
use Rattle.fund_files.specs.declared.chain.Chain.{Chain}
use Rattle.desk_machine.specs.Machine.{Grown, add_blocks, add_records, records_at, refused_at}
use Rattle.desk_machine.specs.Replies.{BadBlocks, BadBook, IsOfBytes, Refused, plain_reply}
use Rattle.desk_machine.specs.declared.reply.Reply as given
use Rattle.desk_machine.specs.declared.reply.Reply.TheVariants as givens
use Rattle.desk_machine.proofs.RecordLaws.{SoFar, ends_book, ends_fault, ends_tip, so_far_none, some_added}

-- the reply and the chain behind it are the machine's
pub record Ends (bytes : List ℕ) (begun now : Chain) (x : given.Reply) : Type 0 where
  pub reply : plain_reply x ≡ (add_records begun (records_at begun bytes)).reply
  pub next : now ≡ (add_records begun (records_at begun bytes)).held
  pub own : IsOfBytes (plain_reply x)

ends_so : (bytes : List ℕ) (begun now : Chain) (x : given.Reply) (g : Grown) → add_records begun (records_at begun bytes) ≡ g → plain_reply x ≡ g.reply → now ≡ g.held → IsOfBytes g.reply → Ends bytes begun now x
ends_so bytes begun now x g is reply held own = record {
  reply = reply ∙ sym (ap (λ (y : Grown). y.reply) is);
  next = held ∙ sym (ap (λ (y : Grown). y.held) is);
  own = subst IsOfBytes (sym reply) own;
}

-- no block is left
pub tip_ends : (bytes : List ℕ) (begun now : Chain) (feed : FeedState) → SoFar bytes begun now feed → next_of bytes feed ≡ Ok None → Ends bytes begun now (givens.Tip now.tip.height now.tip.hash)
tip_ends bytes begun now feed so is = ends_so bytes begun now (givens.Tip now.tip.height now.tip.hash) _ (ends_tip bytes begun now feed so is) refl refl tt

-- the bytes are refused
pub bytes_end : (bytes : List ℕ) (begun now : Chain) (feed : FeedState) (e : FeedFault) (r : Result given.Reply Memory) → SoFar bytes begun now feed → (e ≢ feeds.Memory → e ≢ feeds.Read → next_of bytes feed ≡ Err e) → e ≢ feeds.Read → e ≢ feeds.Limit
    → IfOk r (λ x. (e ≢ feeds.Memory) × (plain_reply x ≡ Refused (BadBlocks e))) → IfOk r (Ends bytes begun now)
bytes_end bytes begun now feed e (Ok x) so is read limit told = ends_so bytes begun now x (refused_at now (BadBlocks e)) (ends_fault bytes begun now feed e so (is told.0 read)) told.1 refl (read, limit, told.0)
bytes_end bytes begun now feed e (Err f) so is read limit told = tt

-- the book refuses a block
pub book_ends : (bytes : List ℕ) (begun now new : Chain) (feed : FeedState) (b : ChainBlock) (place : ℕ) (e : BookFault) (r : Result given.Reply Memory) → SoFar bytes begun now feed → new ≡ now → next_of bytes feed ≡ Ok (Some (b, place))
    → (e ≢ books.Memory → fault_of (histories.with_block now.book b) ≡ Some e) → IfOk r (λ x. (e ≢ books.Memory) × (plain_reply x ≡ Refused (BadBook e))) → IfOk r (Ends bytes begun new)
book_ends bytes begun now new feed b place e (Ok x) so kept is broken told = ends_so bytes begun new x (refused_at now (BadBook e)) (ends_book bytes begun now feed b place e so is (broken told.0)) told.1 kept tt
book_ends bytes begun now new feed b place e (Err f) so kept is broken told = tt

-- some of the blocks are added
abbrev pub Part : List ℕ → Chain → Chain → Type 0
Part bytes begun now = (n : ℕ) × (now ≡ (add_blocks begun (take n (records_at begun bytes).blocks) None).held)

pub none_added : (bytes : List ℕ) (begun : Chain) → Part bytes begun begun
none_added bytes begun = some_added bytes begun begun _ (so_far_none bytes begun (record { hash = begun.tip.hash; height = begun.tip.height; place = 0; fault = None; hasher = None; digest = None }) refl refl refl)

pub part_added : (bytes : List ℕ) (begun now new : Chain) (feed : FeedState) → SoFar bytes begun now feed → new ≡ now → Part bytes begun new
part_added bytes begun now new feed so kept = subst (Part bytes begun) (sym kept) (some_added bytes begun now feed so)

-- what holds whether memory ran out or not
pub any_err : {A E : Type 0} (r : Result A E) (P : Type 0) → P → OnErr r P
any_err (Ok a) P p = tt
any_err (Err e) P p = p

-- no read of bytes in memory fails, and there are too few for the limit
pub never_rose : Rose 0 0 → ⊥
never_rose h = omega (arith, h)

pub never_limit : (file bytes : List ℕ) → file ≡ bytes → length bytes ≤ 67_108_864 → 1_073_741_824 < length file → ⊥
never_limit file bytes same few many = let n = ap (λ (l : List ℕ). length l) same in omega (arith, n, few, many)

-- the parts of an end
pub reply_of : (bytes : List ℕ) (begun now : Chain) (r : Result given.Reply Memory) → IfOk r (Ends bytes begun now) → IfOk r (λ x. plain_reply x ≡ (add_records begun (records_at begun bytes)).reply)
reply_of bytes begun now (Ok x) ends = ends.reply
reply_of bytes begun now (Err e) ends = tt

pub own_of : (bytes : List ℕ) (begun now : Chain) (r : Result given.Reply Memory) → IfOk r (Ends bytes begun now) → IfOk r (λ x. IsOfBytes (plain_reply x))
own_of bytes begun now (Ok x) ends = ends.own
own_of bytes begun now (Err e) ends = tt

pub on_ends : (bytes : List ℕ) (begun now : Chain) (r : Result given.Reply Memory) → IfOk r (Ends bytes begun now) → OnOk r (now ≡ (add_records begun (records_at begun bytes)).held)
on_ends bytes begun now (Ok x) ends = ends.next
on_ends bytes begun now (Err e) ends = tt
