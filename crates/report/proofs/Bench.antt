-- The text of the bench case, by computing.
-- Assumes nothing.
use mathlib.Core.Path.{◌≡◌, refl}
use mathlib.Core.Bool.{true}
use mathlib.Core.List.{[], ◌∷◌}
use Rattle.coding.specs.Number.{number_at}
use Rattle.coding.specs.Code.{code_at}
use Rattle.requirement.specs.Reading.{atom_of, tree_of, parsed}
use Rattle.requirement.specs.Requirement.{nodes_of, depth_of}
use Rattle.requirement.specs.Limits.{tag_in}
use Rattle.requirement.specs.Tags.{tag_of}
use Rattle.requirement.specs.declared.Kind.TheVariants.{Untranslated}
use Rattle.judge.specs.Judging.{go, checks_of}
use Rattle.lasso.specs.Bytes.{mark_b}
use Rattle.lasso.specs.Checking.{length_ok, may_follow, steps_from, output_from, check_by}
use Rattle.bits.specs.Bits.{count_b}
use Rattle.marked.specs.Marked.{bench_bytes, answered}
use Rattle.marked.proofs.Cases.{shown, verdict_shown}
use Rattle.endless.specs.Bench.{bench_table, bench_inputs}
use Rattle.endless.proofs.Bench.{bench_run}
use Rattle.report.specs.Framing.{framing_of, between, blocks_from}
use Rattle.coding.specs.Block.{block_at}
use Rattle.report.specs.Lines.{digits, at_line, positions_line, count_line, at_lines, answer_lines}
use Rattle.report.specs.Reporting.{Reports, work_room, list_room}
use Rattle.report.specs.Bench.{bench_requirement, bench_input, bench_text}

framed : framing_of bench_input ≡ blocks_from 1 21 22 27 28 35
unfolding framing_of block_at number_at
framed = refl

table_block : between 1 21 bench_input ≡ bench_table
unfolding between
table_block = refl

inputs_block : between 22 27 bench_input ≡ bench_inputs
unfolding between
inputs_block = refl

requirement_block : between 28 35 bench_input ≡ bench_requirement
unfolding between
requirement_block = refl

text_is : bench_text ≡ answer_lines 12 4 true (5 ∷ [])
unfolding digits at_line positions_line count_line at_lines answer_lines
text_is = refl

judged : checks_of Untranslated bench_requirement bench_bytes 4 work_room list_room ≡ go answered
unfolding checks_of parsed tree_of atom_of tag_in tag_of nodes_of depth_of check_by length_ok may_follow steps_from output_from mark_b count_b code_at number_at
judged = refl

-- "it prints exactly": the four lines are the text for the bench case, and by `one_text` there is no other.
pub bench_text_lem : Reports bench_input (framing_of bench_input) bench_text
bench_text_lem =
    rw (framed, table_block, inputs_block, requirement_block, bench_run.0, bench_run.1, judged)
    (record { holds = true; verdict = (λ _. verdict_shown, λ _. refl); found = 5 ∷ []; findings = shown.0; lines = text_is })
