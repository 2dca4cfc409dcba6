use Rattle.fund_base.proofs.Laws.{yields_all_found, yields_all_only}
use Rattle.packed_jobs.specs.declared.fault.PackFault.TheVariants.{Trailing, Memory}
use Rattle.packed_jobs.specs.Job.{kept_of}
use Rattle.packed_jobs.specs.Packed.{IsPackable, job_at, packed}
use Rattle.packed_jobs.proofs.PackedLaws.{is_no_job, job_reads, only_memory}
use Rattle.packed_jobs.proofs.reading.read_job.Goals as goal

pub returns-clause-found : goal.returns-clause-found
returns-clause-found c = yields_all_found Memory kept_of (λ place. Trailing place) job_at packed IsPackable job_reads (record { rest = c.args.bytes.now; place = 0 }) c.whole_of.result c.whole_of.ensures.bytes c.whole_of.ensures.exact

pub returns-clause-only : goal.returns-clause-only
returns-clause-only c = λ job fits is. yields_all_only Memory kept_of (λ place. Trailing place) job_at packed IsPackable job_reads (record { rest = c.args.bytes.now; place = 0 }) c.whole_of.result only_memory c.whole_of.ensures.exact job fits is

pub returns-clause-refused : goal.returns-clause-refused
returns-clause-refused c = is_no_job c.args.bytes.now c.whole_of.result (returns-clause-only c)
