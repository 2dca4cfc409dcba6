-- What is read is a packed job, and a packed job is read as it.
use Rattle.std.proofs.Common.{◌≡◌, ◌≢◌, ◌∙◌, ℕ, Bool, true, false, List, ◌++◌, length, All, Result, Ok, Err, refl, sym, ap, subst, append_assoc, arith}
use Rattle.std.specs.Prelude.{◌==◌, ◌||◌, nat_lt, MatchResult, OnErr}
use Rattle.std.specs.List.{flat_map}
use Rattle.std.proofs.lemmas.Bool.{eqb-false, le-ltb, ltb-false, ne_eqb}
use Rattle.fund_base.specs.CompactSize.{compact, counted, prefixed}
use Rattle.fund_base.specs.Cursor.{At, IsBytes, compact_at}
use Rattle.fund_base.specs.Parsing.{string_at}
use Rattle.fund_base.proofs.Laws.{bind_ok, bind_is, guard_ok, ok_is, told_ok, told_is, Takes, takes_then, Again, Reads, reads_told, whole_again}
use Rattle.fund_base.proofs.LawsOfNumbers.{count_reads, string_reads}
use Rattle.fund_base.proofs.Repeat.{many_reads}
use Rattle.fund_outside.specs.Kept.{KeptJob}
use Rattle.packed_jobs.specs.Fault.{cut_fault}
use Rattle.packed_jobs.specs.Job.{kept_of}
use Rattle.packed_jobs.specs.Packed.{HasParts, IsPackable, IsPackedJob, IsString, item_at, job_at, packed, parts_at}
use Rattle.packed_jobs.specs.declared.fault.PackFault.{PackFault}
use Rattle.packed_jobs.specs.declared.fault.PackFault.TheVariants.{Truncated, LongCompact, Parts, Trailing, Memory}
use Rattle.packed_jobs.specs.declared.job.Job.{Job}

-- a fault is out of memory where it can't be another
pub only_memory : (e : PackFault) → (e ≢ Memory → ⊥) → e ≡ Memory
only_memory (Truncated place) h = absurd (h (λ e. absurd cc))
only_memory (LongCompact place) h = absurd (h (λ e. absurd cc))
only_memory Parts h = absurd (h (λ e. absurd cc))
only_memory (Trailing place) h = absurd (h (λ e. absurd cc))
only_memory Memory h = refl

or_false : (a b : Bool) → (a || b) ≡ false → (a ≡ false) × (b ≡ false)
or_false true b e = absurd cc
or_false false b e = (refl, e)

item_reads : Reads item_at prefixed IsString
item_reads = reads_told cut_fault string_at prefixed IsString string_reads

some_parts : (n : ℕ) → ((n == 0) || nat_lt 4_294_967_295 n) ≡ false → HasParts n
some_parts n e =
    let both = or_false (n == 0) (nat_lt 4_294_967_295 n) e in
    let other = eqb-false n 0 both.0 in
    let few = ltb-false 4_294_967_295 n both.1 in
    (omega (arith, other), few)

not_refused : (n : ℕ) → HasParts n → ((n == 0) || nat_lt 4_294_967_295 n) ≡ false
not_refused n has =
    let some : (n == 0) ≡ false = ne_eqb n 0 (omega (arith, has.0)) in
    let few : nat_lt 4_294_967_295 n ≡ false = le-ltb 4_294_967_295 n has.1 in
    rw (some, few) refl

parts_reads : Reads parts_at (counted prefixed) (λ parts. All IsString parts × HasParts (length parts))
unfolding parts_at
parts_reads = record {
  takes = λ at x fits e.
      let a = bind_ok _ _ x e in
      let g = guard_ok _ _ _ _ a.2 in
      let n = count_reads.takes at a.0 fits (told_ok cut_fault (compact_at at) a.0 a.1) in
      let m = (many_reads item_at prefixed IsString item_reads a.0.0).takes a.0.1 x n.0.rest_fits g.1 in
      let both : Takes at (counted prefixed x.0) x.1 = rw (m.1.0) (takes_then at a.0.1 x.1 (compact a.0.0) (flat_map prefixed x.0) n.0 m.0) in
      let has : HasParts (length x.0) = subst (λ (n : ℕ). HasParts n) (sym m.1.0) (some_parts a.0.0 g.0) in
      (both, (m.1.1, has));
  again = λ xs at rest fits is.
      let a = count_reads.again (length xs) at (flat_map prefixed xs ++ rest) (omega (arith, fits.1.1)) (is ∙ append_assoc (compact (length xs)) (flat_map prefixed xs) rest) in
      let b = (many_reads item_at prefixed IsString item_reads (length xs)).again xs a.next rest (refl, fits.0) a.left in
      record { next = b.next; reads = bind_is _ _ _ _ (told_is cut_fault (compact_at at) (length xs, a.next) a.reads) (rw (not_refused (length xs) fits.1) b.reads); left = b.left };
}

job_takes : (at : At) (x : KeptJob × At) → IsBytes at.rest → job_at at ≡ Ok x → Takes at (packed x.0) x.1 × IsPackable x.0
unfolding job_at
job_takes at x fits e =
    let a = bind_ok _ _ x e in
    let b = bind_ok _ _ x a.2 in
    let ta = item_reads.takes at a.0 fits a.1 in
    let tb = parts_reads.takes a.0.1 b.0 ta.0.rest_fits b.1 in
    let ab = takes_then at a.0.1 b.0.1 (prefixed a.0.0) (counted prefixed b.0.0) ta.0 tb.0 in
    let made : KeptJob × At = (record { saved = a.0.0; parts = b.0.0 }, b.0.1) in
    let whole : IsPackable made.0 = record { saved = ta.1; parts = tb.1.0; count = tb.1.1 } in
    subst (λ (y : KeptJob × At). Takes at (packed y.0) y.1 × IsPackable y.0) (ok_is made x (Ok made) refl b.2) (ab, whole)

job_again : (job : KeptJob) (at : At) (rest : List ℕ) → IsPackable job → at.rest ≡ packed job ++ rest → Again (job_at at) job rest
unfolding job_at
job_again job at rest fits is =
    let a = item_reads.again job.saved at (counted prefixed job.parts ++ rest) fits.saved (is ∙ append_assoc (prefixed job.saved) (counted prefixed job.parts) rest) in
    let b = parts_reads.again job.parts a.next rest (fits.parts, fits.count) a.left in
    record { next = b.next; reads = bind_is _ _ _ _ a.reads (bind_is _ _ _ _ b.reads refl); left = b.left }

pub job_reads : Reads job_at packed IsPackable
job_reads = record { takes = job_takes; again = job_again }

-- ---- the whole

-- a packed form has one job
pub one_job : (a b : KeptJob) → IsPackable a → IsPackable b → packed a ≡ packed b → a ≡ b
one_job a b fits_a fits_b same =
    let at : At = record { rest = packed a; place = 0 } in
    ok_is a b _ (whole_again (λ place. Trailing place) job_at packed IsPackable job_reads at a fits_a refl) (whole_again (λ place. Trailing place) job_at packed IsPackable job_reads at b fits_b same)

-- what a call refused, but not when out of memory, is no packed job
pub is_no_job : (bytes : List ℕ) (result : Result Job PackFault) → ((job : KeptJob) → IsPackable job → bytes ≡ packed job → MatchResult result (λ it. kept_of it ≡ job) (λ e. e ≡ Memory)) → OnErr result (result ≢ Err Memory → IsPackedJob bytes → ⊥)
is_no_job bytes (Ok job) only = tt
is_no_job bytes (Err e) only = λ other it.
    let is : e ≡ Memory = only it.job it.fits it.is in
    other (ap (λ (x : PackFault). let err : Result Job PackFault = Err x in err) is)
