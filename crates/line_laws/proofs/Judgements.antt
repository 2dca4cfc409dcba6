-- The line of each fault of a kept job, and of each rule that a report breaks, has its sentence.
use Rattle.std.proofs.Common.{◌++◌, codes, refl}
use Rattle.command_check.specs.Words.{check_fault_words}
use Rattle.command_resume.specs.Words.{kept_words}
use Rattle.fault_lines.specs.Lines.{HasSentence, check_line, kept_line, limit_line, line_sentence, words_sentence}
use Rattle.fault_lines.specs.Sentences.{check_sentence, kept_sentence}
use Rattle.kept_job.specs.declared.fault.KeptFault.{KeptFault}
use Rattle.kept_job.specs.declared.fault.KeptFault.TheVariants as jobs
use Rattle.report_check.specs.declared.fault.CheckFault.{CheckFault}
use Rattle.report_check.specs.declared.fault.CheckFault.TheVariants as checks

pub kept_told : (f : KeptFault) → HasSentence (kept_words f) (kept_sentence f)
unfolding line_sentence words_sentence kept_line limit_line kept_words kept_sentence
kept_told jobs.NoJob = refl
kept_told (jobs.Form place) = refl
kept_told (jobs.JobElse kept now) = refl
kept_told jobs.Spent = refl
kept_told (jobs.Part number) = refl
kept_told jobs.LongLog = refl
kept_told (jobs.Parts kept now) = refl
kept_told (jobs.Section index) = refl
kept_told jobs.IllFormed = refl
kept_told (jobs.Log index fault) = refl
kept_told jobs.Failed = refl
kept_told jobs.Memory = refl

pub check_told : (f : CheckFault) → HasSentence (codes "check " ++ check_fault_words f) (check_sentence f)
unfolding line_sentence words_sentence check_line check_fault_words check_sentence
check_told (checks.Report place) = refl
check_told (checks.Psbt fault) = refl
check_told (checks.Coin coin) = refl
check_told checks.Pays = refl
check_told (checks.LogForm place) = refl
check_told (checks.Section index) = refl
check_told (checks.Log index fault) = refl
check_told checks.Answer = refl
check_told checks.Memory = refl
