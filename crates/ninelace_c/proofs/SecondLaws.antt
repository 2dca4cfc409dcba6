-- A second call with the room that was told.
use Rattle.std.proofs.Common.{◌≡◌, ◌≤◌, ◌∙◌, ℕ, List, Option, inl, inr, sym, ap, subst, arith}
use Rattle.std.specs.Prelude.{◌⊎◌, length}
use Rattle.command_end.specs.declared.status.Status.{Status}
use Rattle.fund_top.specs.Words.{Command}
use Rattle.fund_calls.proofs.CallLaws.{given_is_job}
use Rattle.fund_calls.specs.Given.{PlainGiven}
use Rattle.fund_calls.specs.Once.{AreSame, GivesTheSame}
use Rattle.ninelace_c.specs.declared.sizes.NinelaceSizes.{NinelaceSizes}
use Rattle.ninelace_c.specs.Told.{HasAnswer, IsGiven, IsNone, IsShort, Parts, Tells, memory_code, sizes_of, total}

-- parts that are the same one by one
same_parts : (a b : Status) (p q : Parts) → AreSame a b p.printed p.log p.job q.printed q.log q.job → p ≡ q
same_parts a b p q same =
    ap (λ (x : List ℕ). let it : Parts = record { printed = x; log = p.log; job = p.job } in it) same.print
    ∙ ap (λ (x : List ℕ). let it : Parts = record { printed = q.printed; log = x; job = p.job } in it) same.logs
    ∙ ap (λ (x : List ℕ). let it : Parts = record { printed = q.printed; log = q.log; job = x } in it) same.job

pub fits : (words : Option Command) (g : PlainGiven) (job : Option (List ℕ)) → GivesTheSame words g job → (it : HasAnswer words g job) (code code' : ℕ) (old new old' new' : List ℕ) (sizes sizes' : NinelaceSizes) → IsShort it.parts code old new sizes → Tells words g job code' old' new' sizes' → total sizes ≤ length old'
    → IsGiven it.status it.parts code' old' new' sizes' ⊎ IsNone memory_code code' old' new' sizes'
fits words g job once it code code' old new old' new' sizes sizes' short (inl (other, inl given)) room =
    let same = once other.status it.status other.parts.printed other.parts.log other.parts.job it.parts.printed it.parts.log it.parts.job other.call it.call in
    let parts : other.parts ≡ it.parts = same_parts other.status it.status other.parts it.parts same in
    inl (subst (λ (s : Status). IsGiven s it.parts code' old' new' sizes') same.status (subst (λ (p : Parts). IsGiven other.status p code' old' new' sizes') parts given))
fits words g job once it code code' old new old' new' sizes sizes' short (inl (other, inr again)) room =
    let same = once other.status it.status other.parts.printed other.parts.log other.parts.job it.parts.printed it.parts.log it.parts.job other.call it.call in
    let parts : other.parts ≡ it.parts = same_parts other.status it.status other.parts it.parts same in
    let needed : total (sizes_of other.parts) ≡ total sizes = ap (λ (p : Parts). total (sizes_of p)) parts ∙ ap (λ (z : NinelaceSizes). total z) (sym short.sizes_are) in
    let lacks = again.short in
    absurd (omega (arith, needed, lacks, room))
fits words g job once it code code' old new old' new' sizes sizes' short (inr (inl none)) room = inr none
fits words g job once it code code' old new old' new' sizes sizes' short (inr (inr none)) room = absurd (given_is_job job it.call.before.jobs it.call.given none.0)
