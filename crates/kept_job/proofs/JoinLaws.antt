-- The parts of a job, joined one by one.
use Rattle.std.proofs.Common.{◌≡◌, ◌∙◌, ℕ, zero, suc, ◌+◌, ◌≤◌, ◌<◌, List, [], ◌∷◌, ◌++◌, length, take, Option, Some, None, Ok, Err, sym, ap, subst, arith, append_assoc, add-one, length-append, take_all}
use Rattle.std.specs.Prelude.{slice_get}
use Rattle.std.proofs.lemmas.List.{append-nil}
use Rattle.std.proofs.lemmas.Option.{same_Some, slice_get_within}
use Rattle.fund_outside.specs.Kept.{KeptJob, part_in, parts_in}
use Rattle.kept_job.specs.Jobs.{HasParts, joined, most_bytes}
use Rattle.kept_job.specs.Loading.{IsPut}
use Rattle.kept_job.specs.Refused.{AreTooLong, IsPartFault, LacksPart}
use Rattle.kept_job.specs.declared.fault.KeptFault.{KeptFault}
use Rattle.kept_job.specs.declared.fault.KeptFault.TheVariants.{NoJob, Form, JobElse, Spent, Part, LongLog, Parts, Section, IllFormed, Log, Failed, Memory}

-- one part more
joined_suc : (ps : List (List ℕ)) (n : ℕ) (p : List ℕ) → slice_get ps n ≡ Some p → joined (take (suc n) ps) ≡ joined (take n ps) ++ p
joined_suc [] n p e = absurd (cc)
joined_suc (q ∷ ps) zero p e = append-nil q ∙ same_Some q p e
joined_suc (q ∷ ps) (suc n) p e = ap (λ (xs : List ℕ). q ++ xs) (joined_suc ps n p e) ∙ sym (append_assoc q (joined (take n ps)) p)

-- more parts are no shorter
joined_rises : (ps : List (List ℕ)) (m n : ℕ) → m ≤ n → length (joined (take m ps)) ≤ length (joined (take n ps))
joined_rises ps zero n le = omega arith
joined_rises ps (suc m) zero le = absurd (omega (arith, le))
joined_rises [] (suc m) (suc n) le = omega arith
joined_rises (p ∷ ps) (suc m) (suc n) le =
    omega (arith, length-append p (joined (take m ps)), length-append p (joined (take n ps)), joined_rises ps m n (omega (arith, le)))

-- no part stands at a number from their count on
past_all : (ps : List (List ℕ)) (n : ℕ) → slice_get ps n ≡ None → length ps ≤ n
past_all [] n e = omega arith
past_all (p ∷ ps) zero e = absurd (cc)
past_all (p ∷ ps) (suc n) e = omega (arith, past_all ps n e)

-- so many parts are there, and joined they are these bytes
pub record IsJoined (o : Option KeptJob) (number : ℕ) (bytes : List ℕ) : Type 0 where
  pub there : number ≤ length (parts_in o)
  pub are : bytes ≡ joined (take number (parts_in o))

module _ (o : Option KeptJob) (n : ℕ) (bytes : List ℕ) (h : IsJoined o n bytes) where
  pub one_more : (part next : List ℕ) → Some part ≡ part_in o n → next ≡ bytes ++ part → IsJoined o (n + 1) next
  one_more part next e is = record {
    there = let lt : n < length (parts_in o) = slice_get_within (parts_in o) n part (sym e) in omega (arith, lt);
    are = is ∙ (ap (λ (xs : List ℕ). xs ++ part) h.are ∙ (sym (joined_suc (parts_in o) n part (sym e)) ∙ ap (λ (k : ℕ). joined (take k (parts_in o))) (sym (add-one n))));
  }

  pub too_long : (part : List ℕ) (count : ℕ) → Some part ≡ part_in o n → n < count → most_bytes < length bytes + length part → AreTooLong o count
  too_long part count e lt long =
      omega
      (arith, long, ap length h.are, ap length (joined_suc (parts_in o) n part (sym e)), length-append (joined (take n (parts_in o))) part, joined_rises (parts_in o) (suc n) count (omega (arith, lt)))

  pub lacks : (count : ℕ) → None ≡ part_in o n → n < count → length bytes ≤ most_bytes → LacksPart o count n
  lacks count e lt fits =
      let past : length (parts_in o) ≤ n = past_all (parts_in o) n (sym e) in
      record {
        counted = lt;
        all = omega (arith, past, h.there);
        fits = omega (arith, fits, ap length h.are, ap (λ (ps : List (List ℕ)). length (joined ps)) (take_all n (parts_in o) past));
      }

  pub all_joined : (count : ℕ) → n ≡ count → length bytes ≤ most_bytes → HasParts o count bytes
  all_joined count e fits = record {
    there = omega (arith, e, h.there);
    are = h.are ∙ ap (λ (k : ℕ). joined (take k (parts_in o))) e;
    fits = fits;
  }

  -- ---- one part more, or why not

  pub put_on : (t : Option (List ℕ)) (next : List ℕ) (u : Unit {0}) → t ≡ part_in o n → IsPut t n bytes next (Ok u) → IsJoined o (n + 1) next
  put_on None next u e is = absurd (cc)
  put_on (Some part) next u e is = one_more part next e is.0

  pub put_not : (t : Option (List ℕ)) (next : List ℕ) (f : KeptFault) (count : ℕ) → t ≡ part_in o n → n < count → length bytes ≤ most_bytes → IsPut t n bytes next (Err f) → IsPartFault o count f
  put_not None next f count e lt fits is =
      let same : Part n ≡ f = cc in
      subst (λ (x : KeptFault). IsPartFault o count x) same (lacks count e lt fits)
  put_not (Some part) next NoJob count e lt fits is = absurd is
  put_not (Some part) next (Form place) count e lt fits is = absurd is
  put_not (Some part) next (JobElse kept given) count e lt fits is = absurd is
  put_not (Some part) next Spent count e lt fits is = absurd is
  put_not (Some part) next (Part number) count e lt fits is = absurd is
  put_not (Some part) next LongLog count e lt fits is = too_long part count e lt is
  put_not (Some part) next (Parts kept given) count e lt fits is = absurd is
  put_not (Some part) next (Section i) count e lt fits is = absurd is
  put_not (Some part) next IllFormed count e lt fits is = absurd is
  put_not (Some part) next (Log i l) count e lt fits is = absurd is
  put_not (Some part) next Failed count e lt fits is = absurd is
  put_not (Some part) next Memory count e lt fits is = tt

pub put_fits : (t : Option (List ℕ)) (n : ℕ) (bytes next : List ℕ) (u : Unit {0}) → IsPut t n bytes next (Ok u) → length next ≤ most_bytes
put_fits None n bytes next u is = absurd (cc)
put_fits (Some part) n bytes next u is = is.1
