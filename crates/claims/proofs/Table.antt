-- Every row is as the definitions say: computed from them, row by row.
-- Assumes nothing.
--     table-right       the starred rows of document 01
--     payloads-right    the least and the greatest payload of each case of request [4] of document 02
--     settings_right    files at the ends of settings
use mathlib.Core.Path.{refl}
use Rattle.language.specs.Store.{value}
use Rattle.language.specs.Modifies.{identifiers}
use Rattle.rules.specs.Words.{words, command_words}
use Rattle.rules.specs.Context.{standard, within_ranges}
use Rattle.rules.specs.Replace.{replace}
use Rattle.rules.specs.Plain.{plain}
use Rattle.rules.specs.Sets.{set_identifiers}
use Rattle.rules.specs.Implies.{truth_under, comparisons}
use Rattle.rules.specs.Tests.{every, truth_table}
use Rattle.rules.specs.Condition.{test, by_form, ◌then◌, on_one, implication}
use Rattle.rules.specs.Judge.{one_more, ◌also◌, judge_word, flow_rule, set_rule, judge}
use Rattle.layout.specs.Reading.{◌⊛◌, several, word_due, first_place}
use Rattle.layout.specs.Read.{expression, command, set}
use Rattle.layout.specs.ReadEvidence.{evidence}
use Rattle.layout.specs.For.{unsteady_at}
use Rattle.layout.specs.Bytes.{words_of}
use Rattle.layout.specs.File.{programs, parts, steady_file, calls_tested, finish, words_read, bytes_read, file_of}
use Rattle.layout.specs.Verdict.{judge_programs, verdict_of}
use Rattle.execution.specs.Evaluate.{evaluate}
use Rattle.execution.specs.Run.{turns, run}
use Rattle.execution.specs.Ran.{run_file, run_of}
use Rattle.claims.specs.Table.{AllRight, starred_rows, payload_rows, settings_rows}

pub table-right : AllRight starred_rows
unfolding starred_rows verdict_of file_of bytes_read within_ranges words_of words_read programs parts finish calls_tested steady_file unsteady_at first_place
    standard judge_programs words command_words replace plain test by_form one_more judge_word flow_rule judge ◌⊛◌ several word_due expression command set
    evidence value identifiers set_identifiers evaluate turns run run_file run_of
table-right =
    (refl, (refl, (refl, (refl, (refl, (refl, (refl, (refl, (refl, (refl, ((refl, refl, refl), ((refl, refl, refl), ((refl, refl, refl), tt)))))))))))))

pub payloads-right : AllRight payload_rows
unfolding payload_rows words_of word_due expression value
payloads-right = (refl, (refl, (refl, (refl, tt))))

pub settings_right : AllRight settings_rows
unfolding settings_rows verdict_of file_of bytes_read within_ranges words_of words_read programs parts finish calls_tested steady_file unsteady_at first_place
    judge_programs words command_words replace plain test by_form one_more judge_word flow_rule set_rule judge ◌⊛◌ several word_due expression command
    set evidence value identifiers set_identifiers ◌also◌ ◌then◌ on_one implication comparisons truth_under every truth_table
settings_right = (refl, (refl, (refl, (refl, (refl, (refl, (refl, (refl, (refl, (refl, (refl, tt)))))))))))
