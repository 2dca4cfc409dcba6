use Rattle.std.proofs.Common.{refl}
use Rattle.fault_lines.specs.Sentences.{kept_sentence}
use Rattle.fault_lines.specs.Lines.{kept_line, limit_line, line_sentence, words_sentence}
use Rattle.fault_lines.proofs.laws.jobs_have_their_sentence.Goals as goal

pub returns-clause-no_job : goal.returns-clause-no_job
unfolding line_sentence words_sentence kept_line limit_line kept_sentence
returns-clause-no_job c = refl

pub returns-clause-form : goal.returns-clause-form
unfolding line_sentence words_sentence kept_line limit_line kept_sentence
returns-clause-form c = λ place rest. refl

pub returns-clause-job_else : goal.returns-clause-job_else
unfolding line_sentence words_sentence kept_line limit_line kept_sentence
returns-clause-job_else c = λ kept now rest. refl

pub returns-clause-spent : goal.returns-clause-spent
unfolding line_sentence words_sentence kept_line limit_line kept_sentence
returns-clause-spent c = refl

pub returns-clause-part : goal.returns-clause-part
unfolding line_sentence words_sentence kept_line limit_line kept_sentence
returns-clause-part c = λ number rest. refl

pub returns-clause-long_log : goal.returns-clause-long_log
unfolding line_sentence words_sentence kept_line limit_line kept_sentence
returns-clause-long_log c = refl

pub returns-clause-parts : goal.returns-clause-parts
unfolding line_sentence words_sentence kept_line limit_line kept_sentence
returns-clause-parts c = λ kept now rest. refl

pub returns-clause-section : goal.returns-clause-section
unfolding line_sentence words_sentence kept_line limit_line kept_sentence
returns-clause-section c = λ index rest. refl

pub returns-clause-ill_formed : goal.returns-clause-ill_formed
unfolding line_sentence words_sentence kept_line limit_line kept_sentence
returns-clause-ill_formed c = refl

pub returns-clause-log : goal.returns-clause-log
unfolding line_sentence words_sentence kept_line limit_line kept_sentence
returns-clause-log c = λ index fault rest. refl

pub returns-clause-failed : goal.returns-clause-failed
unfolding line_sentence words_sentence kept_line limit_line kept_sentence
returns-clause-failed c = refl

pub returns-clause-memory : goal.returns-clause-memory
unfolding line_sentence words_sentence kept_line limit_line kept_sentence
returns-clause-memory c = refl
