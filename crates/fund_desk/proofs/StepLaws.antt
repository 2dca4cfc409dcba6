-- What a call did is a step of the machine.
use Rattle.std.specs.Prelude.{ℕ, ◌≡◌, false, List, None, Result, Ok, Err, IfOk, OnOk, OnErr, MatchResult, length, nat_le, take}
use Rattle.std.proofs.Common.{sym, ap, ◌∙◌, subst}
use Rattle.std.proofs.lemmas.Bool.{leb-false}
use Rattle.fund_base.specs.declared.memory.Memory.{Memory}
use Rattle.fund_files.specs.declared.chain.Chain.{Chain}
use Rattle.desk_machine.specs.Commands.{Blocks, Commit, Open}
use Rattle.desk_machine.specs.Does.{Leaves, TakesMemory}
use Rattle.desk_machine.specs.Machine.{Step, add_blocks, add_records, blocks_step, records_at}
use Rattle.desk_machine.specs.Replies.{Committed, NoMemory, plain_reply}
use Rattle.desk_machine.specs.State.{PlainDesk, has_job}
use Rattle.desk_machine.specs.declared.reply.Reply as given
use Rattle.desk_machine.specs.declared.reply.Reply.TheVariants as givens

-- the reply and the next state of a step, at a desk that is the same
pub reply_at : (old d : PlainDesk) (f : PlainDesk → Step) (s : Step) → d ≡ old → f d ≡ s → s.reply ≡ (f old).reply
reply_at old d f s same is = sym (ap (λ (x : Step). x.reply) (ap f (sym same) ∙ is))

pub next_at : (old d : PlainDesk) (f : PlainDesk → Step) (s : Step) → d ≡ old → f d ≡ s → s.next ≡ (f old).next
next_at old d f s same is = sym (ap (λ (x : Step). x.next) (ap f (sym same) ∙ is))

-- a commitment that is told was replied
pub told_commit : (P : Type 0) (r : Result given.Reply Memory) (reply : given.Reply) (txid psbt : List ℕ) → MatchResult r (λ x. reply ≡ x) (λ _. reply ≡ givens.Memory) → IfOk r (λ x. plain_reply x ≡ Committed txid psbt → P) → plain_reply reply ≡ Committed txid psbt → P
told_commit P (Ok x) reply txid psbt is told e = told (sym (ap plain_reply is) ∙ e)
told_commit P (Err m) reply txid psbt is told e = let same : NoMemory ≡ Committed txid psbt = sym (ap plain_reply is) ∙ e in absurd cc

pub commit_name : (a b : List ℕ) → Commit a ≡ Commit b → a ≡ b
commit_name a b e = cc

-- an open takes memory behind the tests of the name and of the number of jobs
pub takes_to_open : (old d : PlainDesk) (name request : List ℕ) → d ≡ old → has_job d.jobs name ≡ false → nat_le 64 (length d.jobs) ≡ false → TakesMemory old (Open name request)
takes_to_open old d name request same none few = subst (λ (x : PlainDesk). TakesMemory x (Open name request)) same (none, leb-false 64 (length d.jobs) few)

-- ---- blocks

-- the same desk with this chain
abbrev pub with_held : PlainDesk → Chain → PlainDesk
with_held d k = record { held = k; committed = d.committed; jobs = d.jobs }

pub blocks_reply : (r : Result given.Reply Memory) (old d : PlainDesk) (bytes : List ℕ) → d ≡ old → IfOk r (λ x. plain_reply x ≡ (add_records d.held (records_at d.held bytes)).reply) → IfOk r (λ x. plain_reply x ≡ (blocks_step old bytes).reply)
blocks_reply r old d bytes same told = subst (λ (x : PlainDesk). IfOk r (λ y. plain_reply y ≡ (blocks_step x bytes).reply)) same told

pub blocks_next : (r : Result given.Reply Memory) (old d : PlainDesk) (bytes : List ℕ) (k : Chain) → d ≡ old → OnOk r (k ≡ (add_records d.held (records_at d.held bytes)).held) → OnOk r (with_held d k ≡ (blocks_step old bytes).next)
blocks_next (Ok a) old d bytes k same is = ap (with_held d) is ∙ ap (λ (x : PlainDesk). (blocks_step x bytes).next) same
blocks_next (Err e) old d bytes k same is = tt

pub blocks_left : (r : Result given.Reply Memory) (old d : PlainDesk) (bytes : List ℕ) (k : Chain) → d ≡ old → OnErr r ((n : ℕ) × (k ≡ (add_blocks d.held (take n (records_at d.held bytes).blocks) None).held)) → OnErr r (Leaves old (Blocks bytes) (with_held d k))
blocks_left (Ok a) old d bytes k same left = tt
blocks_left (Err e) old d bytes k same left = subst (λ (x : PlainDesk). Leaves x (Blocks bytes) (with_held d k)) same (left.0, ap (with_held d) left.1)
